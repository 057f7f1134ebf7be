-- A text by its first LF, and how far a field runs. Assumes nothing.
use mathlib.Core.Path.{◌≡◌, refl, ap, subst, sym, ◌∙◌}
use mathlib.Core.List.{List, ◌∷◌, ◌++◌, []}
use Prim.Native.Nat.{ℕ, suc, ◌≤◌, ◌<◌, ◌+◌}
use native.Mathlib.Omega.{arith}
use lib.Dec.{eqb}
use lib.ListN.{length, take, drop}
use lib.Seq.{take_all, length-take-le, take_at}
use Rattle.field_utils.specs.Lines.{upto, is_empty}
use Rattle.field_utils.proofs.Places.{Upto, none, here, past, by_upto, upto_length}
use Rattle.field_utils.proofs.Tests.{none_more, Line, first_not, rest_not, both_left, both_right}
use Rattle.page_reader.specs.Pages.{line_at, has_lf, is_boundary, runs}
use mathlib.Core.Bool.{Bool, true, false, ◌&&◌, ◌||◌, or-true}
use borrow.Author.Tests.{eqb-true}
use native.Mathlib.Nat.{zero-add}

-- ---- up to the first LF
pub record FirstLine (s : List ℕ) : Type 0 where
  pub line : Line (line_at s)
  pub splits : upto 10 s < length s → s ≡ line_at s ++ 10 ∷ drop (suc (upto 10 s)) s

split : {s : List ℕ} {n : ℕ} → Upto 10 s n → Line (take n s) × (n < length s → s ≡ take n s ++ 10 ∷ drop (suc n) s)
split none = (refl, λ h. absurd (omega arith))
split here = (refl, λ h. refl)
split (past {a} {l} {n} e r) = (none_more a (take n l) e (split r).0, λ h. ap (◌∷◌ a) ((split r).1 (omega arith)))

pub first_line_lem : (s : List ℕ) → FirstLine s
unfolding line_at
first_line_lem s = let f = split (by_upto 10 s) in record { line = f.0; splits = f.1 }

line_length : (s : List ℕ) → length (line_at s) ≡ upto 10 s
unfolding line_at
line_length s = length-take-le (upto 10 s) s (upto_length 10 s)

-- without one, the text is the line
module _ (s : List ℕ) (h : length s ≤ upto 10 s) where
  pub line_all : line_at s ≡ s
  unfolding line_at
  line_all = take_all (upto 10 s) s h

  pub no_lf : Line s
  no_lf = subst Line line_all (first_line_lem s).line

-- ---- the first line of a text
upto_at : (l s : List ℕ) → Line l → upto 10 (l ++ 10 ∷ s) ≡ length l
unfolding upto
upto_at [] s h = refl
upto_at (b ∷ l) s h = rw (first_not b l h, upto) (ap suc (upto_at l s (rest_not b l h)))

pub line_at_lem : (l s : List ℕ) → Line l → line_at (l ++ 10 ∷ s) ≡ l
unfolding line_at
line_at_lem l s h = take_at l (10 ∷ s) (upto 10 (l ++ 10 ∷ s)) (sym (upto_at l s h))

-- of one without LF
pub line_whole : (l : List ℕ) → Line l → line_at l ≡ l
unfolding line_at upto
line_whole [] h = refl
line_whole (b ∷ l) h = rw (first_not b l h, upto) (ap (◌∷◌ b) (line_whole l (rest_not b l h)))

pub lf_at : (l s : List ℕ) → has_lf (l ++ 10 ∷ s) ≡ true
lf_at [] s = refl
lf_at (b ∷ l) s = rw (lf_at l s) (or-true (eqb 10 b))

-- ---- a field of one line and what follows it
abbrev pub followed : List ℕ → Bool
followed s = is_empty s || is_boundary (has_lf s) (line_at s)

pub followed_is : (s : List ℕ) {t : Bool} → is_empty s ≡ false → is_boundary (has_lf s) (line_at s) ≡ t → followed s ≡ t
followed_is s e q = rw e q

pub runs_stop : (l s : List ℕ) → Line l → followed s ≡ true → runs (l ++ 10 ∷ s) ≡ length l
unfolding runs
runs_stop [] s h e = rw (e, runs)
runs_stop (b ∷ l) s h e = rw (first_not b l h, runs) (ap suc (runs_stop l s (rest_not b l h) e))

pub runs_on : (l s : List ℕ) → Line l → followed s ≡ false → runs (l ++ 10 ∷ s) ≡ length l + suc (runs s)
unfolding runs
runs_on [] s h e = rw (e, runs) (sym (zero-add (suc (runs s))))
runs_on (b ∷ l) s h e = rw (first_not b l h, runs) (let k = runs_on l s (rest_not b l h) e in omega arith)

runs_line : (l : List ℕ) → Line l → runs l ≡ length l
unfolding runs
runs_line [] h = refl
runs_line (b ∷ l) h = rw (first_not b l h, runs) (ap suc (runs_line l (rest_not b l h)))

-- ---- how far a text runs, by its first LF
module _ (s : List ℕ) where
  pub runs_end : length s ≤ upto 10 s → runs s ≡ length s
  runs_end h = runs_line s (no_lf s h)

  pub runs_lf : upto 10 s < length s → followed (drop (suc (upto 10 s)) s) ≡ true → runs s ≡ upto 10 s
  runs_lf h e = ap runs ((first_line_lem s).splits h) ∙ runs_stop (line_at s) _ (first_line_lem s).line e ∙ line_length s

  pub runs_more : upto 10 s < length s → followed (drop (suc (upto 10 s)) s) ≡ false → runs s ≡ upto 10 s + suc (runs (drop (suc (upto 10 s)) s))
  runs_more h e = ap runs ((first_line_lem s).splits h) ∙ runs_on (line_at s) _ (first_line_lem s).line e ∙ rw (line_length s)

-- ---- a field that an LF closes: what is before it, and that what follows it ends the field
pub record Closed (s : List ℕ) (n : ℕ) : Type 0 where
  pub splits : s ≡ take n s ++ 10 ∷ drop (suc n) s
  pub follows : followed (drop (suc n) s) ≡ true

pub runs_closed : (s : List ℕ) → runs s < length s → Closed s (runs s)
unfolding runs
runs_closed [] h = absurd (omega arith)
runs_closed (b ∷ s) h = go (eqb b 10 && followed s) refl (runs_closed s)
  where
    go : (t : Bool) → (eqb b 10 && followed s) ≡ t → (runs s < length s → Closed s (runs s)) → Closed (b ∷ s) (runs (b ∷ s))
    go true e ih =
        let z : runs (b ∷ s) ≡ 0 = rw (e, runs) in
        subst (Closed (b ∷ s)) (sym z) (record { splits = ap (λ (c : ℕ). c ∷ s) (eqb-true b 10 (both_left (eqb b 10) (followed s) e)); follows = both_right (eqb b 10) (followed s) e })
    go false e ih =
        let z : runs (b ∷ s) ≡ suc (runs s) = rw (e, runs) in
        let c = ih (omega (arith, h, z)) in
        subst (Closed (b ∷ s)) (sym z) (record { splits = ap (◌∷◌ b) c.splits; follows = c.follows })
