-- `record_bytes::slot` meets its contract: a text's bytes are the first of those from its place on. Assumes nothing.
use Prim.Native.Nat.{◌+◌, ◌*◌, ◌-◌}
use mathlib.Core.Path.{◌∙◌}
use native.Mathlib.Omega.{arith}
use lib.ListN.{drop}
use lib.Seq.{take-take}
use Rattle.std.proofs.lemmas.Option.{MatchOption-at_some}
use Rattle.record_bytes.specs.RecordBytes.{text_size, record_size}
use Rattle.record_bytes.proofs.slot.Goals as goal

pub returns : goal.returns
returns c =
    let at = 3 + text_size * c.args.n in
    (MatchOption-at_some _ _ _ c.unwrap.ensures c.first_chunk.ensures.cases).same ∙ take-take text_size (record_size - at) (drop at c.args.record.now) (omega arith)
