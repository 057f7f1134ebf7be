-- Tests of all bytes: of a word, of a part, and of a list of which the first ones were passed. Assumes nothing.
use Rattle.std.proofs.Common.{◌≡◌, ℕ, zero, suc, ◌+◌, ◌-◌, ◌*◌, ◌/◌, ◌%◌, ◌≤◌, Bool, true, false, ◌&&◌, eqb, leb, List, [], ◌∷◌, get_or, take, drop, sym, refl, ap, ◌∙◌, div-add-mod', arith, drop-drop, eq-eqb, ne_eqb, eqb-true, leb-false, leb-true, le-leb}
use Rattle.std.specs.Bool.{MatchBool}
use Rattle.std.specs.Str.{IsAscii, IsNotAscii}
use mathlib.Core.Bool.{and_assoc, and-false}
use lib.Bits.{bit_and, and_block, and_high, and_zero_r}
use borrow.Author.Tests.{lt-leb, eqb-false}
use Rattle.swift_utils.specs.Bytes.{all}
use Rattle.field_utils.specs.Words.{low_bytes, every}
use Rattle.field_utils.proofs.Tests.{both_left, both_right}

-- a byte of at most 127
abbrev pub low : ℕ → Bool
low b = leb b 127

-- they are all low where no byte is above 127, and not where one is
all_low : (l : List ℕ) → IsAscii l → all low l ≡ true
all_low [] h = refl
all_low (b ∷ l) h = rw (le-leb b 127 (omega (arith, h 0)), all_low l (λ i. h (suc i)))

one_high : (l : List ℕ) (i : ℕ) → 128 ≤ get_or l i 0 → all low l ≡ false
one_high [] i h = absurd (omega (arith, h))
one_high (b ∷ l) zero h = rw (lt-leb b 127 (omega (arith, h)))
one_high (b ∷ l) (suc i) h = rw (one_high l i h, and-false (low b))

pub ascii_low : (l : List ℕ) (r : Bool) → MatchBool r (IsAscii l) (IsNotAscii l) → r ≡ all low l
ascii_low l true h = sym (all_low l h)
ascii_low l false h = sym (one_high l h.0 h.1)

-- a number of 256 times another is zero where that is
scaled : (x y : ℕ) → y ≡ 0 → eqb (x * 256 + y) 0 ≡ eqb x 0
scaled x y z = go (eqb x 0) refl
  where
    go : (t : Bool) → eqb x 0 ≡ t → eqb (x * 256 + y) 0 ≡ t
    go true e = eq-eqb (x * 256 + y) 0 (omega (arith, eqb-true x 0 e, z))
    go false e = ne_eqb (x * 256 + y) 0 (λ g. eqb-false x 0 e (omega (arith, g)))

-- a number of k bytes has none of their highest bits where each byte is low
pub low_word : (k w : ℕ) → eqb (bit_and w (every 128 k)) 0 ≡ all low (low_bytes k w)
unfolding low_bytes
low_word zero w = eq-eqb (bit_and w 0) 0 (and_zero_r w)
low_word (suc k) w =
    ap (λ (n : ℕ). eqb n 0) (ap (λ (n : ℕ). bit_and n (every 128 (suc k))) (sym (div-add-mod' w 256)) ∙ and_block 8 (w / 256) (every 128 k) (w % 256) 128 (omega arith) (omega arith))
    ∙ go (low (w % 256)) refl (low_word k (w / 256))
  where
    high : bit_and (w % 256) 128 ≡ w % 256 / 128 * 128
    high = and_high (w % 256) 1 7 ∙ omega arith

    go : (t : Bool) → low (w % 256) ≡ t → eqb (bit_and (w / 256) (every 128 k)) 0 ≡ all low (low_bytes k (w / 256)) → eqb (bit_and (w / 256) (every 128 k) * 256 + bit_and (w % 256) 128) 0 ≡ (t && all low (low_bytes k (w / 256)))
    go true e more = scaled (bit_and (w / 256) (every 128 k)) (bit_and (w % 256) 128) (omega (arith, high, leb-true (w % 256) 127 e)) ∙ more
    go false e more = ne_eqb (bit_and (w / 256) (every 128 k) * 256 + bit_and (w % 256) 128) 0 (λ z. omega (arith, z, high, leb-false (w % 256) 127 e))

module _ (f : ℕ → Bool) where
  -- a list by its first bytes and the others
  split : (k : ℕ) (l : List ℕ) → all f l ≡ (all f (take k l) && all f (drop k l))
  split zero l = refl
  split (suc k) [] = refl
  split (suc k) (b ∷ l) = ap (λ (t : Bool). f b && t) (split k l) ∙ sym (and_assoc (f b) (all f (take k l)) (all f (drop k l)))

  pub all_first : {t : Bool} (k : ℕ) (l : List ℕ) → all f (take k l) ≡ t → all f l ≡ (t && all f (drop k l))
  all_first k l e = split k l ∙ ap (λ (t : Bool). t && all f (drop k l)) e

  -- a part of what is left from a place on
  pub all_part : (s : List ℕ) (a b n : ℕ) → a ≤ b → all f (drop a s) ≡ true → all f (take n (drop b s)) ≡ true
  all_part s a b n h e =
      let there : a + (b - a) ≡ b = omega (arith, h) in
      let left = both_right (all f (take (b - a) (drop a s))) _ (sym (split (b - a) (drop a s)) ∙ e) in
      let here : all f (drop b s) ≡ true = sym (ap (all f) (drop-drop (b - a) a s ∙ ap (λ (m : ℕ). drop m s) there)) ∙ left in
      both_left (all f (take n (drop b s))) (all f (drop n (drop b s))) (sym (split n (drop b s)) ∙ here)

  fewer : (k m : ℕ) (l : List ℕ) → k ≤ m → all f (take m l) ≡ true → all f (take k l) ≡ true
  fewer zero m l h e = refl
  fewer (suc k) zero l h e = absurd (omega (arith, h))
  fewer (suc k) (suc m) [] h e = refl
  fewer (suc k) (suc m) (b ∷ l) h e = rw (both_left (f b) (all f (take m l)) e) (fewer k m l (omega (arith, h)) (both_right (f b) (all f (take m l)) e))

  -- what is left from a place on, or from an earlier one, says what all say
  abbrev pub Says : List ℕ → ℕ → Type 0
  Says s i = (n : ℕ) → n ≤ i → all f s ≡ all f (drop n s)

  pub says_none : (s : List ℕ) → Says s 0
  says_none s zero h = refl
  says_none s (suc n) h = absurd (omega (arith, h))

  -- k more were passed
  pub says_more : {s : List ℕ} {i : ℕ} (k : ℕ) → Says s i → all f (take k (drop i s)) ≡ true → Says s (i + k)
  says_more {s} {i} k so_far e n h = go (leb n i) refl
    where
      go : (t : Bool) → leb n i ≡ t → all f s ≡ all f (drop n s)
      go true g = so_far n (leb-true n i g)
      go false g =
          let past = leb-false n i g in
          let there : i + (n - i) ≡ n = omega (arith, past) in
          so_far i (omega arith) ∙ all_first (n - i) (drop i s) (fewer (n - i) k (drop i s) (omega (arith, h, past)) e)
          ∙ ap (all f) (drop-drop (n - i) i s ∙ ap (λ (m : ℕ). drop m s) there)
