-- Words: the lowest set bit of the mask names the first LF, whatever the bytes above it are. Assumes nothing.
use Rattle.std.proofs.Common.{◌≡◌, ℕ, zero, suc, ◌+◌, ◌-◌, ◌*◌, ◌/◌, ◌%◌, ◌^◌, ◌<◌, ◌≤◌, Bool, true, false, eqb, leb, List, [], ◌∷◌, length, get_or, drop, sym, refl, ap, ◌∙◌, ap₂, le_trans, mod-lt, suc-add, pow-suc, div-add-mod', zero-add, mul-one, arith, drop_of_length-le, drop-cons, eqb-true, leb-false, leb-true}
use native.Mathlib.Nat.{le-min, min-le_left, min-le_right}
use lib.Arith.{bin_ind, lt-one, digits_div, digits_mod, mod-mul}
use lib.Bits.{bit_and, bit_or, bit_xor, and_step, and_block, and_shr, and_mod, and_high, and_le_l, and_le_r, and_zero_r, or_shr, or_mod, or_add_and, xor_block, xor_add_and, xor_lt, shifted_even, shifted_half}
use lib.Count.{count_trailing_zeros, trailing_of_zero, trailing_le, under}
use borrow.Author.Tests.{eqb-false}
use Rattle.field_utils.specs.Lines.{upto}
use Rattle.field_utils.specs.Words.{eight, low_bytes, every, flipped, less_ones, lf_mask}

-- how many numbers of k bytes there are
abbrev room : ℕ → ℕ
room zero = 1
room (suc k) = room k * 256

room_pos : (k : ℕ) → 0 < room k
room_pos zero = omega arith
room_pos (suc k) = omega (arith, room_pos k)

-- the mask of a word of k bytes: y is the word, LF flipped to zero, less a one in every byte
abbrev mask : ℕ → ℕ → ℕ → ℕ
mask k w y = bit_and (bit_and y (room k - 1 - bit_xor w (every 10 k))) (every 128 k)

-- the low zeros of a number that is moved up by j bits
low_zeros : (j k n : ℕ) → count_trailing_zeros (j + k) (n * 2 ^ j) ≡ j + count_trailing_zeros k n
unfolding count_trailing_zeros
low_zeros zero k n = ap₂ count_trailing_zeros (zero-add k) (mul-one n) ∙ sym (zero-add (count_trailing_zeros k n))
low_zeros (suc j) k n =
    ap (λ (m : ℕ). count_trailing_zeros m (n * 2 ^ suc j)) (suc-add j k)
    ∙ ap₂ (λ (d m : ℕ). under d (count_trailing_zeros (j + k) m)) (shifted_even n j) (shifted_half n j)
    ∙ ap suc (low_zeros j k n) ∙ sym (suc-add j (count_trailing_zeros k n))

-- only zero has none but zeros
all_zeros : (k n : ℕ) → n < 2 ^ k → count_trailing_zeros k n ≡ k → n ≡ 0
unfolding count_trailing_zeros
all_zeros zero n h e = lt-one h
all_zeros (suc k) n h e = go (n % 2) refl e (all_zeros k (n / 2))
  where
    go : (d : ℕ) → n % 2 ≡ d → under d (count_trailing_zeros k (n / 2)) ≡ suc k → (n / 2 < 2 ^ k → count_trailing_zeros k (n / 2) ≡ k → n / 2 ≡ 0) → n ≡ 0
    go zero f g rest = omega (arith, rest (omega (arith, h, pow-suc 2 k)) (omega (arith, g)), f)
    go (suc d) f g rest = absurd (omega (arith, g))

-- the low byte of a mask: nothing where the flipped byte is not zero
low_clear : (a : ℕ) → 0 < a → a < 256 → bit_and (bit_and (a - 1) (255 - a)) 128 ≡ 0
low_clear a p h = and_high (bit_and (a - 1) (255 - a)) 1 7 ∙ ap (λ (n : ℕ). n % 2 * 128) (and_shr (a - 1) (255 - a) 7 ∙ go (leb a 128) refl)
  where
    go : (t : Bool) → leb a 128 ≡ t → bit_and ((a - 1) / 128) ((255 - a) / 128) ≡ 0
    go true e = let k = leb-true a 128 e in let z : (a - 1) / 128 ≡ 0 = omega arith in ap (λ (n : ℕ). bit_and n ((255 - a) / 128)) z
    go false e =
        let k = leb-false a 128 e in
        let z : (255 - a) / 128 ≡ 0 = omega arith in
        ap (bit_and ((a - 1) / 128)) z ∙ and_zero_r ((a - 1) / 128)

-- only LF flips to zero
flip_zero : (b : ℕ) → bit_xor b 10 ≡ 0 → b ≡ 10
flip_zero b e = omega (arith, e, xor_add_and b 10, and_le_l b 10, and_le_r b 10)

-- a word by its lowest byte b, and what the subtraction left by its lowest byte c
module _ (k w b y c : ℕ) (hb : b < 256) (hc : c < 256)
    (h : (y * 256 + c + every 1 (suc k)) % room (suc k) ≡ bit_xor (w * 256 + b) (every 10 (suc k))) where
  flip : bit_xor (w * 256 + b) (every 10 (suc k)) ≡ bit_xor w (every 10 k) * 256 + bit_xor b 10
  flip = xor_block 8 w (every 10 k) b 10 hb (omega arith)

  flip_lt : bit_xor b 10 < 256
  flip_lt = xor_lt 8 b 10 hb (omega arith)

  digits : (y * 256 + c + every 1 (suc k)) / 256 % room k * 256 + (y * 256 + c + every 1 (suc k)) % 256 ≡ bit_xor w (every 10 k) * 256 + bit_xor b 10
  digits = sym (mod-mul (y * 256 + c + every 1 (suc k)) (room_pos k) (omega arith)) ∙ h ∙ flip

  -- the flipped byte is the one left, and one
  low : (c + 1) % 256 ≡ bit_xor b 10
  low = omega (arith, digits, flip_lt)

  -- where it is not zero nothing is borrowed, and the rest is a word in the same way
  rest : (bit_xor b 10 ≡ 0 → ⊥) → (y + every 1 k) % room k ≡ bit_xor w (every 10 k)
  rest n =
      let e : (y * 256 + c + every 1 (suc k)) / 256 ≡ y + every 1 k = omega (arith, low, n) in
      sym (ap (λ (m : ℕ). m % room k) e) ∙ omega (arith, digits, flip_lt)

  above_lt : bit_xor w (every 10 k) < room k
  above_lt = omega (arith, digits, flip_lt, mod-lt ((y * 256 + c + every 1 (suc k)) / 256) (room_pos k))

  -- the mask, by its lowest byte
  mask_step : mask (suc k) (w * 256 + b) (y * 256 + c) ≡ mask k w y * 256 + bit_and (bit_and c (255 - bit_xor b 10)) 128
  mask_step =
      let m = room k - 1 - bit_xor w (every 10 k) in
      let other : room (suc k) - 1 - (bit_xor w (every 10 k) * 256 + bit_xor b 10) ≡ m * 256 + (255 - bit_xor b 10) = omega (arith, above_lt, flip_lt) in
      ap (λ (x : ℕ). bit_and (bit_and (y * 256 + c) (room (suc k) - 1 - x)) (every 128 (suc k))) flip
      ∙ ap (λ (x : ℕ). bit_and (bit_and (y * 256 + c) x) (every 128 (suc k))) other
      ∙ ap (λ (x : ℕ). bit_and x (every 128 (suc k))) (and_block 8 y m c (255 - bit_xor b 10) hc (omega arith))
      ∙ and_block 8 (bit_and y m) (every 128 k) (bit_and c (255 - bit_xor b 10)) 128 (omega (arith, and_le_l c (255 - bit_xor b 10))) (omega arith)

  -- a byte that is no LF adds eight zeros, and an LF ends them
  mask_next : eqb b 10 ≡ false → count_trailing_zeros (suc k * 8) (mask (suc k) (w * 256 + b) (y * 256 + c)) ≡ 8 + count_trailing_zeros (k * 8) (mask k w y)
  mask_next e =
      let n : bit_xor b 10 ≡ 0 → ⊥ = λ z. eqb-false b 10 e (flip_zero b z) in
      let left : c ≡ bit_xor b 10 - 1 = omega (arith, low, n) in
      let none : bit_and (bit_and c (255 - bit_xor b 10)) 128 ≡ 0
      = ap (λ (x : ℕ). bit_and (bit_and x (255 - bit_xor b 10)) 128) left ∙ low_clear (bit_xor b 10) (omega (arith, n)) flip_lt in
      ap₂ count_trailing_zeros (omega arith) (mask_step ∙ omega (arith, none)) ∙ low_zeros 8 (k * 8) (mask k w y)

  mask_here : eqb b 10 ≡ true → count_trailing_zeros (suc k * 8) (mask (suc k) (w * 256 + b) (y * 256 + c)) ≡ 7
  unfolding count_trailing_zeros
  mask_here e =
      let zeroed : bit_xor b 10 ≡ 0 = ap (λ (x : ℕ). bit_xor x 10) (eqb-true b 10 e) in
      let left : c ≡ 255 = omega (arith, low, zeroed) in
      let set : bit_and (bit_and c (255 - bit_xor b 10)) 128 ≡ 128 = ap₂ (λ (x z : ℕ). bit_and (bit_and x (255 - z)) 128) left zeroed in
      let odd : (mask k w y * 2 + 1) % 2 ≡ 1 = omega arith in
      let long : suc k * 8 ≡ 7 + suc (k * 8) = omega arith in
      let moved : mask (suc k) (w * 256 + b) (y * 256 + c) ≡ (mask k w y * 2 + 1) * 2 ^ 7 = omega (arith, mask_step, set) in
      ap₂ count_trailing_zeros long moved ∙ low_zeros 7 (suc (k * 8)) (mask k w y * 2 + 1)
      ∙ ap (λ (d : ℕ). 7 + under d (count_trailing_zeros (k * 8) ((mask k w y * 2 + 1) / 2))) odd

-- of any width: the low zero bits of the mask, by eight, are the bytes before the first LF, or all
lowest : (k w y : ℕ) → (y + every 1 k) % room k ≡ bit_xor w (every 10 k) → count_trailing_zeros (k * 8) (mask k w y) / 8 ≡ upto 10 (low_bytes k w)
unfolding count_trailing_zeros upto low_bytes
lowest zero w y h = refl
lowest (suc k) w y h =
    ap (λ (n : ℕ). n / 8) (sym (ap₂ (λ (m n : ℕ). count_trailing_zeros (suc k * 8) (mask (suc k) m n)) (div-add-mod' w 256) (div-add-mod' y 256)))
    ∙ go (eqb (w % 256) 10) refl (lowest k (w / 256) (y / 256))
  where
    hb : w % 256 < 256
    hb = omega arith

    hc : y % 256 < 256
    hc = omega arith

    bytes : (y / 256 * 256 + y % 256 + every 1 (suc k)) % room (suc k) ≡ bit_xor (w / 256 * 256 + w % 256) (every 10 (suc k))
    bytes = ap (λ (n : ℕ). (n + every 1 (suc k)) % room (suc k)) (div-add-mod' y 256) ∙ h ∙ sym (ap (λ (n : ℕ). bit_xor n (every 10 (suc k))) (div-add-mod' w 256))

    go : (t : Bool) → eqb (w % 256) 10 ≡ t
        → ((y / 256 + every 1 k) % room k ≡ bit_xor (w / 256) (every 10 k) → count_trailing_zeros (k * 8) (mask k (w / 256) (y / 256)) / 8 ≡ upto 10 (low_bytes k (w / 256)))
        → count_trailing_zeros (suc k * 8) (mask (suc k) (w / 256 * 256 + w % 256) (y / 256 * 256 + y % 256)) / 8 ≡ upto 10 (low_bytes (suc k) w)
    go true e more = rw (e, upto) (ap (λ (n : ℕ). n / 8) (mask_here k (w / 256) (w % 256) (y / 256) (y % 256) hb hc bytes e))
    go false e more =
        let inner = more (rest k (w / 256) (w % 256) (y / 256) (y % 256) hb hc bytes (λ z. eqb-false (w % 256) 10 e (flip_zero (w % 256) z))) in
        rw (e, upto) (omega (arith, inner, mask_next k (w / 256) (w % 256) (y / 256) (y % 256) hb hc bytes e))

-- The theorem of words: the low zero bits of a word's mask, by eight, are how many bytes stand before its first LF, or eight. Bytes above
-- that one may be marked though they are no LF.
pub first_lf : (w : ℕ) → w < 2 ^ 64 → count_trailing_zeros 64 (lf_mask w) / 8 ≡ upto 10 (low_bytes 8 w)
first_lf w h = lowest 8 w (less_ones w) (omega (arith, xor_lt 64 w (every 10 8) h (omega arith)))

-- bytes as one number, the first lowest
abbrev number : List ℕ → ℕ
number [] = 0
number (b ∷ l) = number l * 256 + b

low_number : (l : List ℕ) → ((i : ℕ) → i < length l → get_or l i 0 < 256) → low_bytes (length l) (number l) ≡ l
unfolding low_bytes
low_number [] h = refl
low_number (b ∷ l) h =
    let k : b < 256 = h 0 (omega arith) in
    ap₂ (λ (d n : ℕ). d ∷ low_bytes (length l) n) (digits_mod (number l) k) (digits_div (number l) k)
    ∙ ap (◌∷◌ b) (low_number l (λ i g. h (suc i) (omega (arith, g))))

number_at : (l : List ℕ) (j : ℕ) → j < length l → number (drop j l) ≡ number (drop (suc j) l) * 256 + get_or l j 0
number_at l j h = ap number (drop-cons l j 0 h)

-- the low bytes of eight bytes as one number are these
pub low_eight : (l : List ℕ) → length l ≡ 8 → ((i : ℕ) → i < 8 → get_or l i 0 < 256) → low_bytes 8 (eight l) ≡ l
low_eight l e h = ap₂ low_bytes (sym e) same ∙ low_number l (λ i k. h i (omega (arith, k, e)))
  where
    at : (j : ℕ) → j < 8 → number (drop j l) ≡ number (drop (suc j) l) * 256 + get_or l j 0
    at j k = number_at l j (omega (arith, k, e))

    same : eight l ≡ number l
    same =
        omega (
          arith,
          at 0 (omega arith),
          at 1 (omega arith),
          at 2 (omega arith),
          at 3 (omega arith),
          at 4 (omega arith),
          at 5 (omega arith),
          at 6 (omega arith),
          at 7 (omega arith),
          ap number (drop_of_length-le l {i = 8} (omega (arith, e))),
        )

-- a mask that is zero tells of no LF, and one that is not tells of one
pub none_told : (m n : ℕ) → m ≡ 0 → count_trailing_zeros 64 m / 8 ≡ n → n ≡ 8
none_told m n z e = sym e ∙ ap (λ (x : ℕ). count_trailing_zeros 64 x / 8) z ∙ ap (λ (t : ℕ). t / 8) (trailing_of_zero 64)

pub one_told : (m : ℕ) → m < 2 ^ 64 → (m ≡ 0 → ⊥) → count_trailing_zeros 64 m / 8 < 8
one_told m h n =
    let some : count_trailing_zeros 64 m ≡ 64 → ⊥ = λ e. n (all_zeros 64 m h e) in
    omega (arith, trailing_le 64 m, some)

-- Where v has no set bit in common with h, nor has u, whose bits are set only where v's are: by the lowest bit and the others, and so of
-- an `and`, and of what an `or` is made of.
clear_step : (u v h : ℕ) → u % 2 ≤ v % 2 → (bit_and (v / 2) (h / 2) ≡ 0 → bit_and (u / 2) (h / 2) ≡ 0) → bit_and v h ≡ 0 → bit_and u h ≡ 0
clear_step u v h low above e =
    let least = le-min (le_trans (min-le_left (u % 2) (h % 2)) low) (min-le_right (u % 2) (h % 2)) in
    omega (arith, and_step u h, least, above (omega (arith, and_step v h, e)), and_step v h, e)

clear_and : (y x h : ℕ) → bit_and y h ≡ 0 → bit_and (bit_and y x) h ≡ 0
clear_and =
    bin_ind (λ (y : ℕ). (x h : ℕ) → bit_and y h ≡ 0 → bit_and (bit_and y x) h ≡ 0) (λ x h e. refl) (λ n more x h.
    clear_step (bit_and n x) n h (omega (arith, and_mod n x 1, and_le_l (n % 2) (x % 2)))
    (λ e. ap (λ (z : ℕ). bit_and z (h / 2)) (and_shr n x 1) ∙ more (x / 2) (h / 2) e))

pub clear_or : (a b h : ℕ) → bit_and (bit_or a b) h ≡ 0 → bit_and a h ≡ 0
clear_or =
    bin_ind (λ (a : ℕ). (b h : ℕ) → bit_and (bit_or a b) h ≡ 0 → bit_and a h ≡ 0) (λ b h e. refl) (λ n more b h.
    clear_step n (bit_or n b) h (omega (arith, or_mod n b 1, or_add_and (n % 2) (b % 2), and_le_r (n % 2) (b % 2)))
    (λ e. more (b / 2) (h / 2) (sym (ap (λ (z : ℕ). bit_and z (h / 2)) (or_shr n b 1)) ∙ e)))

-- a word of which no byte, flipped and less a one, has its highest bit has no LF
pub clear_word : (w : ℕ) → w < 2 ^ 64 → bit_and (less_ones w) (every 128 8) ≡ 0 → upto 10 (low_bytes 8 w) ≡ 8
clear_word w h e = none_told (lf_mask w) _ (clear_and (less_ones w) (2 ^ 64 - 1 - flipped w) (every 128 8) e) (first_lf w h)
