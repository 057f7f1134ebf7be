-- The causes in a text, as the code meets them. Assumes nothing.
use mathlib.Core.Path.{◌≡◌, refl, sym, ◌∙◌, ap, subst}
use mathlib.Core.Bool.{Bool, false, ◌&&◌, and-false}
use mathlib.Core.List.{List, [], ◌∷◌}
use Prim.Native.Nat.{ℕ, suc, ◌-◌, ◌≤◌, ◌<◌}
use native.Mathlib.Omega.{arith}
use lib.Dec.{ltb, eqb}
use lib.ListN.{length, take, drop, get_or}
use borrow.Author.Tests.{lt-ltb, le-ltb}
use Rattle.std.specs.List.{list_any}
use Rattle.std.specs.Slice.Iter.{windows_rest, windows_size, windows_steps}
use Rattle.std.specs.declared.slice.Windows.{Windows}
use Rattle.std.proofs.lemmas.Iterator.{YieldsList}
use Rattle.std.proofs.lemmas.Iterator.Splits.{YieldsList-from_shown_while}
use Rattle.party.specs.declared.PartyOption.{PartyOption}
use Rattle.party.specs.Limits.{limits_of}
use Rattle.field_utils.specs.Lines.{starts, lines}
use Rattle.kept.specs.Kept.{has_cr_lf, ends_lf, bic_line, is_after_bic}

-- ---- a CR before an LF, among the pairs of neighbours
pub pairs : List ℕ → List (List ℕ)
pairs [] = []
pairs (b ∷ []) = []
pairs (b ∷ a ∷ l) = (b ∷ a ∷ []) ∷ pairs (a ∷ l)

pairs_none : (l : List ℕ) → length l < 2 → length (pairs l) ≡ 0
unfolding pairs
pairs_none [] h = refl
pairs_none (b ∷ []) h = refl
pairs_none (b ∷ a ∷ l) h = absurd (omega arith)

pairs_more : (l : List ℕ) → 2 ≤ length l → pairs l ≡ take 2 l ∷ pairs (drop 1 l)
unfolding pairs
pairs_more [] h = absurd (omega arith)
pairs_more (b ∷ []) h = absurd (omega arith)
pairs_more (b ∷ a ∷ l) h = refl

pub yields_pairs : {s : Windows ℕ} (l : List ℕ) → windows_rest s ≡ l → windows_size s ≡ 2 → YieldsList windows_steps (λ x. x.now) s (pairs l)
yields_pairs {s} l r h =
    subst (λ (m : List ℕ). YieldsList windows_steps (λ x. x.now) s (pairs m)) r
    (YieldsList-from_shown_while windows_steps (λ x. x.now) (λ w. pairs (windows_rest w)) (λ w. windows_size w ≡ 2)
    (λ w v p q. pairs_none (windows_rest w) (omega (arith, q.1.0, p)))
    (λ w x v p q. (q.0 ∙ p, pairs_more (windows_rest w) (omega (arith, q.1.0, p)) ∙ sym (λ i. (q.1.1 ∙ ap (λ (n : ℕ). take n (windows_rest w)) p) i ∷ pairs (q.1.2 i))))
    s h)

-- a pair is CR and LF
abbrev pub is_cr_lf : List ℕ → Bool
is_cr_lf l = eqb (length l) 2 && eqb (get_or l 0 0) 13 && eqb (get_or l 1 0) 10

pub crlf_pairs : (l : List ℕ) → list_any is_cr_lf (pairs l) ≡ has_cr_lf l
unfolding pairs has_cr_lf starts
crlf_pairs [] = refl
crlf_pairs (b ∷ []) = rw (and-false (eqb b 13))
crlf_pairs (b ∷ a ∷ l) = rw (crlf_pairs (a ∷ l))

-- ---- the last byte
pub ends_none : (s : List ℕ) → length s ≡ 0 → ends_lf s ≡ false
unfolding ends_lf
ends_none [] e = refl
ends_none (b ∷ s) e = absurd (omega arith)

pub ends_by : (s : List ℕ) → (length s ≡ 0 → ⊥) → ends_lf s ≡ eqb (get_or s (length s - 1) 0) 10
unfolding ends_lf
ends_by [] h = absurd (h refl)
ends_by (b ∷ []) h = refl
ends_by (b ∷ a ∷ s) h =
    let n : suc (suc (length s)) - 1 ≡ suc (length s) = omega arith in
    let m : suc (length s) - 1 ≡ length s = omega arith in
    ends_by (a ∷ s) (λ e. omega arith) ∙ ap (λ (x : ℕ). eqb (get_or (a ∷ s) x 0) 10) m ∙ ap (λ (x : ℕ). eqb (get_or (b ∷ a ∷ s) x 0) 10) (sym n)

-- ---- lines after the BIC's
module _ (o : PartyOption) (present : Bool) (text : List ℕ) where
  pub after_none : (limits_of o).bic_count ≡ 0 → is_after_bic o present text ≡ false
  after_none e = rw (le-ltb 0 (limits_of o).bic_count (omega (arith, e)))

  pub after_by : ((limits_of o).bic_count ≡ 0 → ⊥) → is_after_bic o present text ≡ ltb (bic_line present) (length (lines text))
  after_by h = rw (lt-ltb 0 (limits_of o).bic_count (omega (arith, h)))
