-- The cases of parse_swift_chars, parse_length, parse_account and parse_bic, and what the lengths of a BIC are. Assumes nothing.
use mathlib.Core.Path.{◌≡◌, refl, sym, ◌∙◌, ap}
use mathlib.Core.Bool.{Bool, true, false, ◌||◌, and-false, false≢true}
use mathlib.Core.List.{List}
use Prim.Native.Nat.{ℕ, ◌≤◌, ◌<◌}
use native.Mathlib.Omega.{arith}
use lib.Dec.{leb, eqb}
use lib.ListN.{length, take, drop}
use borrow.Author.Tests.{eqb-true, ne_eqb, le-leb, lt-leb}
use Rattle.errors.specs.Refusals.{Reply, accepted, refused, must, ◌then◌}
use Rattle.swift_utils.specs.Bytes.{all, letter, alphanumeric, legal}
use Rattle.swift_utils.specs.Checks.{parse_swift_chars, parse_length, parse_account, bic_short, bic_long, bic_length, parse_bic}

pub bic_length_least : (n : ℕ) → bic_length n ≡ true → bic_short ≤ n
unfolding bic_length
bic_length_least n = go (eqb n bic_short) (eqb n bic_long) refl refl
  where
    go : (p q : Bool) → eqb n bic_short ≡ p → eqb n bic_long ≡ q → (p || q) ≡ true → bic_short ≤ n
    go true q e f t = let h = eqb-true n bic_short e in omega arith
    go false true e f t = let h = eqb-true n bic_long f in omega arith
    go false false e f t = absurd (false≢true t)

pub bic_length_other : (n : ℕ) → bic_length n ≡ true → (n ≡ bic_short → ⊥) → n ≡ bic_long
unfolding bic_length
bic_length_other n t h = eqb-true n bic_long (sym (ap (λ (p : Bool). p || eqb n bic_long) (ne_eqb n bic_short h)) ∙ t)

module _ (n : ℕ) (l : List ℕ) where
  pub chars : {t : Bool} → all legal l ≡ t → parse_swift_chars n l ≡ must t 3 n
  unfolding parse_swift_chars
  chars e = rw e

  module _ (shortest longest : ℕ) where
    pub length_short : length l < shortest → parse_length shortest longest n l ≡ refused 2 n
    length_short h = rw (lt-leb _ _ h)

    pub length_long : longest < length l → parse_length shortest longest n l ≡ refused 2 n
    length_long h = rw (lt-leb _ _ h, and-false (leb shortest (length l)))

    pub length_fits : shortest ≤ length l → length l ≤ longest → parse_length shortest longest n l ≡ accepted
    length_fits h k = rw (le-leb _ _ h, le-leb _ _ k)

    pub account_length_lem : {r : Reply} → parse_length shortest longest n l ≡ r → parse_account shortest longest n l ≡ (r then parse_swift_chars n l)
    unfolding parse_account
    account_length_lem e = ap (λ (r : Reply). r then parse_swift_chars n l) e

  pub bic_length_lem : bic_length (length l) ≡ false → parse_bic n l ≡ refused 9 n
  unfolding parse_bic
  bic_length_lem e = rw e

  module _ (h : bic_length (length l) ≡ true) where
    pub bic_bank : all letter (take 6 l) ≡ false → parse_bic n l ≡ refused 10 n
    unfolding parse_bic
    bic_bank e = rw (h, e)

    pub bic_rest : {t : Bool} → all letter (take 6 l) ≡ true → all alphanumeric (drop 6 l) ≡ t → parse_bic n l ≡ must t 10 n
    unfolding parse_bic
    bic_rest e f = rw (h, e, f)
