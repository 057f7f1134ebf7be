-- The bits of a mask in a number: in an `and` of two, and in a number that tests make. Assumes nothing.
use Prim.Native.Nat.{ℕ, zero, suc, ◌+◌, ◌*◌, ◌/◌, ◌%◌, ◌^◌, ◌≤◌, ◌<◌}
use mathlib.Core.Path.{◌≡◌, refl, sym, ◌∙◌, ap}
use mathlib.Core.Bool.{Bool, true, false, ◌&&◌, false≢true}
use mathlib.Core.List.{List, [], ◌∷◌}
use native.Mathlib.Nat.{add-zero, pow-suc}
use native.Mathlib.Omega.{arith}
use lib.Arith.{bin_ind}
use lib.Bits.{bit_and, and_step, and_shr, and_mod, and_block, and_mask, and_le_l, and_comm, and_zero_l, and_zero_r, or_lt, or_add_and}
use lib.Dec.{eqb}
use lib.ListN.{get_or}
use lib.Pow.{pow_pos}
use borrow.Author.Tests.{eqb-true, eqb-false, eq-eqb, ne_eqb}
use Rattle.swift_utils.specs.Classes.{bits_of, has_bits}

-- a number has a mask's bits: its half has those of the mask's half, and its lowest that of the mask
record Has (x m : ℕ) : Type 0 where
  half : bit_and (x / 2) (m / 2) ≡ m / 2
  low : m % 2 ≤ x % 2

opened : (x m : ℕ) → bit_and x m ≡ m → Has x m
opened x m e = record { half = omega (arith, and_step x m, e); low = omega (arith, and_step x m, e) }

closed : (x m : ℕ) → Has x m → bit_and x m ≡ m
closed x m h = omega (arith, and_step x m, h.half, h.low)

-- an `and` has them where both have
both : (m a b : ℕ) → bit_and a m ≡ m → bit_and b m ≡ m → bit_and (bit_and a b) m ≡ m
both =
    bin_ind (λ (m : ℕ). (a b : ℕ) → bit_and a m ≡ m → bit_and b m ≡ m → bit_and (bit_and a b) m ≡ m) (λ a b e f. and_zero_r (bit_and a b)) (λ m more a b e f.
    let h = opened a m e in
    let k = opened b m f in
    closed (bit_and a b) m
    (record {
      half = ap (λ (z : ℕ). bit_and z (m / 2)) (and_shr a b 1) ∙ more (a / 2) (b / 2) h.half k.half;
      low = omega (arith, and_mod a b 1, h.low, k.low, or_add_and (a % 2) (b % 2), or_lt 1 (a % 2) (b % 2) (omega arith) (omega arith));
    }))

-- and nowhere else
one : (m a b : ℕ) → bit_and (bit_and a b) m ≡ m → bit_and a m ≡ m
one =
    bin_ind (λ (m : ℕ). (a b : ℕ) → bit_and (bit_and a b) m ≡ m → bit_and a m ≡ m) (λ a b e. and_zero_r a) (λ m more a b e.
    let h = opened (bit_and a b) m e in
    closed a m
    (record {
      half = more (a / 2) (b / 2) (sym (ap (λ (z : ℕ). bit_and z (m / 2)) (and_shr a b 1)) ∙ h.half);
      low = omega (arith, and_mod a b 1, h.low, and_le_l (a % 2) (b % 2));
    }))

pub has_and : (m a b : ℕ) → has_bits m (bit_and a b) ≡ (has_bits m a && has_bits m b)
has_and m a b = go (has_bits m a) (has_bits m b) refl refl
  where
    go : (p q : Bool) → has_bits m a ≡ p → has_bits m b ≡ q → has_bits m (bit_and a b) ≡ (p && q)
    go true true e f = eq-eqb _ _ (both m a b (eqb-true _ _ e) (eqb-true _ _ f))
    go true false e f = ne_eqb _ _ (λ g. false≢true (sym f ∙ eq-eqb _ _ (one m b a (ap (λ (z : ℕ). bit_and z m) (and_comm b a) ∙ g))))
    go false q e f = ne_eqb _ _ (λ g. false≢true (sym e ∙ eq-eqb _ _ (one m a b g)))

-- 255 has those of every mask of a byte
pub has_all : (m : ℕ) → m < 256 → has_bits m 255 ≡ true
has_all m h = eq-eqb _ _ (and_comm 255 m ∙ and_mask m 8 ∙ omega arith)

-- the bit with a number is the test with that number
double : (m n : ℕ) → eqb (n * 2) (m * 2) ≡ eqb n m
double m n = go (eqb n m) refl
  where
    go : (t : Bool) → eqb n m ≡ t → eqb (n * 2) (m * 2) ≡ t
    go true e = eq-eqb _ _ (ap (λ (k : ℕ). k * 2) (eqb-true n m e))
    go false e = ne_eqb (n * 2) (m * 2) (λ g. eqb-false n m e (omega arith))

-- one bit up, both number and mask
has_double : (m n r : ℕ) → r < 2 → has_bits (m * 2) (n * 2 + r) ≡ has_bits m n
has_double m n r h =
    let up : bit_and (n * 2 + r) (m * 2) ≡ bit_and n m * 2 =
    ap (bit_and (n * 2 + r)) (sym (add-zero (m * 2))) ∙ and_block 1 n m r 0 h (omega arith) ∙ ap (◌+◌ (bit_and n m * 2)) (and_zero_r r) ∙ add-zero (bit_and n m * 2) in
    ap (λ (x : ℕ). eqb x (m * 2)) up ∙ double m (bit_and n m)

pub has_bit : (ts : List Bool) (k : ℕ) → has_bits (2 ^ k) (bits_of ts) ≡ get_or ts k false
unfolding bits_of
has_bit [] k = rw (and_zero_l (2 ^ k)) (ne_eqb 0 (2 ^ k) (λ e. omega (arith, e, pow_pos k)))
has_bit (true ∷ ts) zero = eq-eqb _ _ (and_mask (bits_of ts * 2 + 1) 1 ∙ omega arith)
has_bit (false ∷ ts) zero = ne_eqb _ _ (λ e. omega (arith, sym e ∙ and_mask (bits_of ts * 2 + 0) 1))
has_bit (true ∷ ts) (suc k) = ap (λ (m : ℕ). has_bits m (bits_of ts * 2 + 1)) (pow-suc 2 k) ∙ has_double (2 ^ k) (bits_of ts) 1 (omega arith) ∙ has_bit ts k
has_bit (false ∷ ts) (suc k) = ap (λ (m : ℕ). has_bits m (bits_of ts * 2 + 0)) (pow-suc 2 k) ∙ has_double (2 ^ k) (bits_of ts) 0 (omega arith) ∙ has_bit ts k
