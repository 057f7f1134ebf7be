-- The classes of a byte, as the one table of 256 entries holds them (document 01, swift_utils.rs).
use Rattle.std.specs.Prelude.{ℕ, zero, suc, ◌+◌, ◌*◌, Bool, true, false, not, ◌&&◌, List, [], ◌∷◌, eqb, get_or}
use Rattle.std.specs.Int.Bits.{bit_and}
use Rattle.swift_utils.specs.Bytes.{letter, small, digit, alphanumeric, legal, narrow}

-- a legal byte that is no LF: what a line can hold
abbrev pub plain : ℕ → Bool
plain b = legal b && not (eqb 10 b)

-- tests as the bits of a number, the first lowest
unfoldable pub bits_of : List Bool → ℕ
bits_of [] = 0
bits_of (t ∷ ts) = bits_of ts * 2 + elim t [ true ↦ 1 | false ↦ 0 ]

-- the classes of a byte, a bit each, from 1 to 64
unfoldable pub classes_of : ℕ → ℕ
classes_of b = bits_of (legal b ∷ plain b ∷ narrow b ∷ alphanumeric b ∷ letter b ∷ digit b ∷ small b ∷ [])

-- a number has all bits of a mask
abbrev pub has_bits : ℕ → ℕ → Bool
has_bits mask n = eqb (bit_and n mask) mask

-- a byte is in all classes of a mask
abbrev pub in_classes : ℕ → ℕ → Bool
in_classes mask b = has_bits mask (classes_of b)

-- f from i on, n entries
abbrev pub table : (ℕ → ℕ) → ℕ → ℕ → List ℕ
table f i zero = []
table f i (suc n) = f i ∷ table f (suc i) n

-- the classes of all bytes, in order
unfoldable pub class_table : List ℕ
class_table = table classes_of 0 256

-- the entry of a byte in a table has all bits of a mask
abbrev pub entry_in : List ℕ → ℕ → ℕ → Bool
entry_in classes mask b = has_bits mask (get_or classes b 0)
