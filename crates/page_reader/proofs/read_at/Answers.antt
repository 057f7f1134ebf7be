-- `page_reader::read_at` meets its contract: the record that the room holds. Assumes nothing.
use mathlib.Core.Path.{◌≡◌}
use native.Mathlib.Omega.{arith}
use lib.ListN.{replicate}
use Rattle.record_bytes.specs.RecordBytes.{record_size}
use Rattle.page_reader.proofs.ByValue.{held, read_value}
use Rattle.page_reader.proofs.read_at.Goals as goal

pub returns : goal.returns
returns c =
    let a = c.args in
    let room = c.read_at_into-outcome.new.record in
    let r = c.read_at_into-outcome.result in
    let q : c.map-outcome.result ≡ held room r.outcome = grind arith in
    let t = read_value (replicate record_size 0) room (omega arith) a.page.now a.at r c.map-outcome.result (c.read_at_into-outcome.ensures.result_value, c.read_at_into-outcome.ensures.bytes) q in
    record { result_value = t.0; beside = t.1 }
