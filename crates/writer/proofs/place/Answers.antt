-- `writer::place` meets its contract: a record's bytes are placed as the record. Assumes nothing.
use mathlib.Core.Path.{◌∙◌, ap}
use mathlib.Core.List.{List}
use Prim.Native.Nat.{ℕ}
use Rattle.party.specs.Party.{content}
use Rattle.party.proofs.Values.{is_party}
use Rattle.record_bytes.specs.RecordBytes.{decoded}
use Rattle.writer.specs.Placing.{place as place_in}
use Rattle.writer.proofs.Capped.{place_encoded}
use Rattle.writer.proofs.place.Goals as goal

pub returns : goal.returns
returns c =
    let p = c.args.p in
    let buffer = c.args.buf.now in
    c.place_record.ensures
    ∙ ap (λ (s : List ℕ). place_in (content (decoded s)) buffer) c.encoded.ensures
    ∙ place_encoded p (is_party p _ c.well_formed.0) buffer
