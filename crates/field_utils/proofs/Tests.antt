-- Laws of tests. Assumes nothing.
use Rattle.std.proofs.Common.{◌≡◌, ℕ, Bool, true, false, not, ◌&&◌, ◌||◌, eqb, List, ◌∷◌, sym, refl, ◌∙◌, true≢false, ne_eqb}
use mathlib.Core.Bool.{false≢true}
use borrow.Author.Tests.{eqb-false}
use Rattle.swift_utils.specs.Bytes.{among}

pub both_left : (p q : Bool) → (p && q) ≡ true → p ≡ true
both_left true q e = refl
both_left false q e = absurd (false≢true e)

pub both_right : (p q : Bool) → (p && q) ≡ true → q ≡ true
both_right true q e = e
both_right false q e = absurd (false≢true e)

pub both : (p q : Bool) → p ≡ true → q ≡ true → (p && q) ≡ true
both p q e f = rw (e, f)

pub not_both : (p q : Bool) → (p && q) ≡ false → q ≡ true → p ≡ false
not_both true q e h = absurd (true≢false (sym h ∙ e))
not_both false q e h = refl

pub either_left : (p q : Bool) → (p || q) ≡ false → p ≡ false
either_left true q e = absurd (true≢false e)
either_left false q e = refl

pub either_right : (p q : Bool) → (p || q) ≡ false → q ≡ false
either_right true q e = absurd (true≢false e)
either_right false q e = e

pub neither : (p q : Bool) → p ≡ false → q ≡ false → (p || q) ≡ false
neither p q e f = rw (e, f)

pub is_not : (p : Bool) → p ≡ false → not p ≡ true
is_not p e = rw e

-- no LF
abbrev pub Line : List ℕ → Type 0
Line l = among l 10 ≡ false

-- a line has no LF: nor has its first byte, nor the rest
pub first_not : (a : ℕ) (l : List ℕ) → among (a ∷ l) 10 ≡ false → eqb a 10 ≡ false
first_not a l e = ne_eqb a 10 (λ f. eqb-false 10 a (either_left (eqb 10 a) (among l 10) e) (sym f))

pub rest_not : (a : ℕ) (l : List ℕ) → among (a ∷ l) 10 ≡ false → among l 10 ≡ false
rest_not a l e = either_right (eqb 10 a) (among l 10) e

pub none_more : (a : ℕ) (l : List ℕ) → eqb a 10 ≡ false → among l 10 ≡ false → among (a ∷ l) 10 ≡ false
none_more a l e f = neither (eqb 10 a) (among l 10) (ne_eqb 10 a (λ g. eqb-false a 10 e (sym g))) f
