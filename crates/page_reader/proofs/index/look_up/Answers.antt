-- `page_reader::index::look_up` meets its contract: the record that the room holds. Assumes nothing.
use mathlib.Core.Path.{◌≡◌, ap}
use native.Mathlib.Omega.{arith}
use lib.ListN.{replicate}
use Rattle.std.specs.Prelude.{Result, Ok}
use Rattle.errors.specs.declared.ParseError.{ParseError}
use Rattle.party.specs.declared.Party.{Party}
use Rattle.record_bytes.specs.RecordBytes.{record_size}
use Rattle.page_reader.specs.declared.index.FieldRead.{FieldRead}
use Rattle.page_reader.proofs.ByValue.{held_body, look_value}
use Rattle.page_reader.proofs.index.look_up.Goals as goal

pub returns : goal.returns
returns c =
    let a = c.args in
    let room = c.look_up_into.new.record in
    let f = c.in_ok-outcome.field-0 in
    let q : c.map-outcome.result ≡ held_body room f.outcome = grind arith in
    let h = c.in_ok-outcome.ensures in
    let t = look_value (replicate record_size 0) room (omega arith) a.page.now a.index.now a.k (Ok f) (Ok (record { outcome = c.map-outcome.result; at = f.at; next = f.next })) (h.result_value, h.bytes)
    (ap {B = Result (FieldRead Party) ParseError} (λ (o : Result Party ParseError). Ok (record { outcome = o; at = f.at; next = f.next })) q) in
    record { outcome_value = t.0; beside = t.1 }
