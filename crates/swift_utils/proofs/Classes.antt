-- What the classes of a byte say: whether it is legal, a letter, a digit. Assumes nothing.
use mathlib.Core.Path.{◌≡◌, refl}
use mathlib.Core.Bool.{Bool, true, false}
use mathlib.Core.List.{List, [], ◌∷◌}
use Prim.Native.Nat.{ℕ, ◌+◌, ◌^◌, ◌≤◌, ◌<◌}
use lib.ListN.{length, get_or}
use Rattle.swift_utils.specs.Bytes.{all, letter, small, digit, legal, alphanumeric, narrow}
use Rattle.swift_utils.specs.Classes.{plain, classes_of, in_classes}
use Rattle.swift_utils.proofs.Bits.{has_bit}
use Rattle.swift_utils.proofs.Parts.{part, part_cons, part_none}

-- the classes of a byte, a bit each
module _ (b : ℕ) where
  abbrev tests : List Bool
  tests = legal b ∷ plain b ∷ narrow b ∷ alphanumeric b ∷ letter b ∷ digit b ∷ small b ∷ []

  class_bit : (k : ℕ) → in_classes (2 ^ k) b ≡ get_or tests k false
  unfolding classes_of
  class_bit k = has_bit tests k

  pub class_legal : in_classes 1 b ≡ legal b
  class_legal = class_bit 0

  pub class_plain : in_classes 2 b ≡ plain b
  class_plain = class_bit 1

  pub class_narrow : in_classes 4 b ≡ narrow b
  class_narrow = class_bit 2

  pub class_alphanumeric : in_classes 8 b ≡ alphanumeric b
  class_alphanumeric = class_bit 3

  pub class_letter : in_classes 16 b ≡ letter b
  class_letter = class_bit 4

  pub class_digit : in_classes 32 b ≡ digit b
  class_digit = class_bit 5

  pub class_small : in_classes 64 b ≡ small b
  class_small = class_bit 6

-- two tests that agree at every byte pass at the same lists
pub all_agree : (f g : ℕ → Bool) → ((b : ℕ) → f b ≡ g b) → (l : List ℕ) → all f l ≡ all g l
all_agree f g e [] = refl
all_agree f g e (b ∷ l) = rw (e b, all_agree f g e l)

-- a test of all bytes of a part: the first fails, it passes, there is none
module _ (f : ℕ → Bool) (s : List ℕ) (a e : ℕ) where
  pub all_fails : a < e → e ≤ length s → f (get_or s a 0) ≡ false → all f (part a e s) ≡ false
  all_fails h k t = rw (part_cons a e s h k, t)

  pub all_passes : a < e → e ≤ length s → f (get_or s a 0) ≡ true → all f (part a e s) ≡ all f (part (a + 1) e s)
  all_passes h k t = rw (part_cons a e s h k, t)

  pub all_done : e ≤ a → all f (part a e s) ≡ true
  all_done h = rw (part_none a e s h)
