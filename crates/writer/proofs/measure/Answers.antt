-- `writer::measure` meets its contract: a record's bytes measure as the record. Assumes nothing.
use mathlib.Core.Path.{◌∙◌, ap}
use mathlib.Core.List.{List}
use Prim.Native.Nat.{ℕ}
use Rattle.party.specs.Party.{content}
use Rattle.party.proofs.Values.{is_party}
use Rattle.record_bytes.specs.RecordBytes.{decoded}
use Rattle.writer.specs.Placing.{measure as measure_of}
use Rattle.writer.proofs.Capped.{measure_encoded}
use Rattle.writer.proofs.measure.Goals as goal

pub returns : goal.returns
returns c =
    let p = c.args.p in
    c.measure_record.ensures
    ∙ ap (λ (s : List ℕ). measure_of (content (decoded s))) c.encoded.ensures
    ∙ measure_encoded p (is_party p _ c.well_formed.0)
