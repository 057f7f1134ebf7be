-- `record_bytes::put_part` meets its contract: the length, and over zeros the bytes. Assumes nothing.
use Prim.Native.Nat.{◌+◌}
use mathlib.Core.Path.{◌≡◌, ◌∙◌}
use native.Mathlib.Omega.{arith}
use lib.ListN.{length, take, length-take, set}
use lib.Seq.{length-take-le}
use Rattle.std.proofs.lemmas.Slice.{put_mid-paste}
use Rattle.party.specs.Text.{text_most}
use Rattle.record_bytes.proofs.Parts.{over_zeros}
use Rattle.record_bytes.proofs.put_part.Goals as goal

pub returns : goal.returns
returns c =
    let a = c.args in
    let s = a.s.now in
    let n = c.min-n.result in
    let few : n ≡ length (take text_most s) = omega (arith, length-take text_most s) in
    let size : length (take n s) ≡ n = length-take-le n s (omega arith) in
    put_mid-paste (a.at + 1) _ (set a.record.now a.at n) _ (take n s) (length (take n s)) c.put_bytes.ensures (omega (arith, size)) (omega arith)
    ∙ over_zeros a.record.now a.at s n (omega arith) c.requires.1 few
