-- `record_bytes::put_text` meets its contract: the length, then the bytes. Assumes nothing.
use Prim.Native.Nat.{ℕ, ◌+◌}
use mathlib.Core.Path.{◌∙◌, ap}
use mathlib.Core.List.{◌∷◌}
use native.Mathlib.Omega.{arith}
use lib.ListN.{set}
use lib.Seq.{paste}
use Rattle.std.proofs.lemmas.Slice.{put_mid-paste}
use Rattle.party.specs.Text.{text_most}
use Rattle.party.proofs.Values.{is_text_lem}
use Rattle.record_bytes.specs.RecordBytes.{text_size}
use Rattle.record_bytes.proofs.Laws.{text_put}
use Rattle.record_bytes.proofs.put_text.Goals as goal

pub returns : goal.returns
returns c =
    let a = c.args in
    let size = (is_text_lem a.text _ c.well_formed.0).size in
    put_mid-paste (a.at + 1) _ (set a.record.now a.at c.byte_of.result) _ a.text.bytes text_most c.copy_from_slice.ensures.after (omega arith) (omega (arith, size))
    ∙ text_put a.record.now a.text.bytes a.at c.byte_of.result (omega arith)
    ∙ ap (λ (b : ℕ). paste a.record.now a.at (b ∷ a.text.bytes) text_size) c.byte_of.ensures
