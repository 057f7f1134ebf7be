-- The lines of a text and their weight: its bytes, and one a line. Assumes nothing.
use mathlib.Core.Path.{◌≡◌, refl, ◌∙◌, ap}
use mathlib.Core.Bool.{Bool, true, false, ◌&&◌}
use mathlib.Core.List.{List, [], ◌∷◌}
use Prim.Native.Nat.{ℕ, suc, ◌≤◌, ◌<◌}
use native.Mathlib.Omega.{arith}
use lib.Dec.{eqb}
use lib.ListN.{length}
use borrow.Author.Tests.{eqb-true}
use Rattle.field_utils.specs.Lines.{onto, starts, lines}
use Rattle.reader.proofs.LineCounts.{lines_some}
use Rattle.writer.specs.Writing.{joined}
use Rattle.writer.proofs.Relined.{weight}

-- ---- a byte in front of lines
pub onto_weight : (b : ℕ) (ls : List (List ℕ)) → 0 < length ls → weight (onto b ls) ≡ suc (weight ls)
unfolding onto
onto_weight b [] h = absurd (omega arith)
onto_weight b (l ∷ ls) h = omega arith

pub joined_onto : (b : ℕ) (ls : List (List ℕ)) → 0 < length ls → joined (onto b ls) ≡ b ∷ joined ls
unfolding onto joined
joined_onto b [] h = absurd (omega arith)
joined_onto b (l ∷ []) h = refl
joined_onto b (l ∷ m ∷ ls) h = refl

pub empty_joined : (ls : List (List ℕ)) → 0 < length ls → joined ([] ∷ ls) ≡ 10 ∷ joined ls
unfolding joined
empty_joined [] h = absurd (omega arith)
empty_joined (l ∷ ls) h = refl

-- ---- the first byte of a text: an LF, a CR before one, or neither
module _ (b : ℕ) (l : List ℕ) where
  abbrev pub is_cr_lf : Bool
  is_cr_lf = eqb b 13 && starts 10 l

  pub data First : Type 0 where
    lf : b ≡ 10 → lines (b ∷ l) ≡ [] ∷ lines l → First
    cr : is_cr_lf ≡ true → lines (b ∷ l) ≡ lines l → First
    byte : is_cr_lf ≡ false → lines (b ∷ l) ≡ onto b (lines l) → First

  pub first : First
  unfolding lines
  first = go (eqb b 10) is_cr_lf refl refl
    where
      go : (t u : Bool) → eqb b 10 ≡ t → is_cr_lf ≡ u → First
      go true u e f = lf (eqb-true b 10 e) (rw (e, lines))
      go false true e f = cr f (rw (e, lines) (rw f))
      go false false e f = byte f (rw (e, lines) (rw f))

-- ---- their weight
pub lines_weight : (x : List ℕ) → weight (lines x) ≤ suc (length x)
unfolding lines onto
lines_weight [] = omega arith
lines_weight (b ∷ l) = go (first b l) l refl (lines_weight l)
  where
    go : First b l → (m : List ℕ) → l ≡ m → weight (lines l) ≤ suc (length l) → weight (lines (b ∷ l)) ≤ suc (length (b ∷ l))
    go (lf e q) m n h = omega (arith, ap weight q, h)
    go (cr e q) m n h = omega (arith, ap weight q, h)
    go (byte e q) [] n h = let z : weight (lines (b ∷ l)) ≡ 2 = ap weight (q ∙ ap (λ (y : List ℕ). onto b (lines y)) n) in omega (arith, z)
    go (byte e q) (a ∷ m) n h = omega (arith, ap weight q, onto_weight b (lines l) (lines_some l (omega (arith, ap length n))), h)
