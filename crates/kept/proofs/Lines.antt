-- The lines of a text, joined again: the text, or less where it has a CR before an LF or a last LF. Assumes nothing.
use mathlib.Core.Path.{◌≡◌, refl, sym, ◌∙◌, ap}
use mathlib.Core.Bool.{true, false, ◌&&◌, and-false, false≢true, true≢false}
use mathlib.Core.List.{List, [], ◌∷◌}
use Prim.Native.Nat.{ℕ, suc, ◌≤◌, ◌<◌}
use native.Mathlib.Omega.{arith}
use lib.Dec.{eqb}
use lib.ListN.{length}
use borrow.Author.Tests.{ne_eqb}
use Rattle.field_utils.specs.Lines.{onto, starts, lines}
use Rattle.field_utils.proofs.Tests.{either_left, either_right}
use Rattle.reader.proofs.LineCounts.{lines_some}
use Rattle.writer.specs.Writing.{joined}
use Rattle.writer.proofs.Relined.{weight}
use Rattle.writer.proofs.Weights.{onto_weight, joined_onto, empty_joined, First, lf, cr, byte, first, lines_weight}
use Rattle.kept.specs.Kept.{has_cr_lf, ends_lf}

-- their weight is less than the text's, where a CR stands before an LF ..
pub crlf_weight : (x : List ℕ) → has_cr_lf x ≡ true → weight (lines x) ≤ length x
unfolding has_cr_lf
crlf_weight [] c = absurd (false≢true c)
crlf_weight (b ∷ l) c = go (first b l) (crlf_weight l)
  where
    later : (eqb b 13 && starts 10 l) ≡ false → has_cr_lf l ≡ true
    later e = rw e at c

    some : has_cr_lf l ≡ true → 0 < length l
    some d = go l d
      where
        go : (m : List ℕ) → has_cr_lf m ≡ true → 0 < length m
        go [] d = absurd (false≢true d)
        go (a ∷ m) d = omega arith

    go : First b l → (has_cr_lf l ≡ true → weight (lines l) ≤ length l) → weight (lines (b ∷ l)) ≤ suc (length l)
    go (lf e q) ih =
        let n : eqb b 13 ≡ false = ne_eqb b 13 (λ f. omega (arith, e, f)) in
        omega (arith, ap weight q, ih (later (rw n)))
    go (cr e q) ih = omega (arith, ap weight q, lines_weight l)
    go (byte e q) ih = omega (arith, ap weight q, onto_weight b (lines l) (lines_some l (some (later e))), ih (later e))

-- .. or there is a last LF
pub lf_weight : (x : List ℕ) → ends_lf x ≡ true → weight (lines x) ≤ length x
unfolding ends_lf lines
lf_weight [] c = absurd (false≢true c)
lf_weight (b ∷ []) c = rw (c, lines) (omega arith)
lf_weight (b ∷ a ∷ l) c = go (first b (a ∷ l)) (lf_weight (a ∷ l) c)
  where
    go : First b (a ∷ l) → weight (lines (a ∷ l)) ≤ length (a ∷ l) → weight (lines (b ∷ a ∷ l)) ≤ suc (length (a ∷ l))
    go (lf e q) h = omega (arith, ap weight q, h)
    go (cr e q) h = omega (arith, ap weight q, h)
    go (byte e q) h = omega (arith, ap weight q, onto_weight b (lines (a ∷ l)) (lines_some (a ∷ l) (omega arith)), h)

-- joined, they are the text where neither is so
pub lines_same : (x : List ℕ) → has_cr_lf x ≡ false → ends_lf x ≡ false → joined (lines x) ≡ x
unfolding has_cr_lf ends_lf lines joined onto starts
lines_same [] c d = refl
lines_same (b ∷ []) c d = rw (d, lines) (rw (and-false (eqb b 13)))
lines_same (b ∷ a ∷ l) c d =
    go (first b (a ∷ l)) (lines_same (a ∷ l) (either_right (eqb b 13 && starts 10 (a ∷ l)) (has_cr_lf (a ∷ l)) c) d) (lines_some (a ∷ l) (omega arith))
  where
    go : First b (a ∷ l) → joined (lines (a ∷ l)) ≡ a ∷ l → 0 < length (lines (a ∷ l)) → joined (lines (b ∷ a ∷ l)) ≡ b ∷ a ∷ l
    go (lf e q) h n = ap joined q ∙ empty_joined (lines (a ∷ l)) n ∙ ap (◌∷◌ 10) h ∙ ap (λ (y : ℕ). y ∷ a ∷ l) (sym e)
    go (cr e q) h n = absurd (true≢false (sym e ∙ either_left (eqb b 13 && starts 10 (a ∷ l)) (has_cr_lf (a ∷ l)) c))
    go (byte e q) h n = ap joined q ∙ joined_onto b (lines (a ∷ l)) n ∙ ap (◌∷◌ b) h
