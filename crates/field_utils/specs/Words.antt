-- The finder of LFs by words (document 02, Four), as working forms: no rule stands here.
use Rattle.std.specs.Prelude.{◌≡◌, ℕ, zero, suc, ◌+◌, ◌-◌, ◌*◌, ◌/◌, ◌%◌, ◌^◌, ◌≤◌, List, [], ◌∷◌, length, drop, bit_and, bit_xor, slice_index}
use Rattle.field_utils.specs.Lines.{upto}

-- eight bytes as one number, the first byte lowest
abbrev pub eight : List ℕ → ℕ
eight l =
    slice_index l 0 + slice_index l 1 * 256 + slice_index l 2 * 65536 + slice_index l 3 * 16777216 + slice_index l 4 * 4294967296 + slice_index l 5 * 1099511627776
    + slice_index l 6 * 281474976710656 + slice_index l 7 * 72057594037927936

-- the k low bytes of a number, the lowest first
unfoldable pub low_bytes : ℕ → ℕ → List ℕ
low_bytes zero n = []
low_bytes (suc k) n = n % 256 ∷ low_bytes k (n / 256)

-- a number of k bytes that are all b
abbrev pub every : ℕ → ℕ → ℕ
every b zero = 0
every b (suc k) = every b k * 256 + b

-- a word with LF flipped to zero
abbrev pub flipped : ℕ → ℕ
flipped w = bit_xor w (every 10 8)

-- and less a one in every byte, the borrow running off the top
abbrev pub less_ones : ℕ → ℕ
less_ones w = (flipped w + (2 ^ 64 - every 1 8)) % 2 ^ 64

-- the mask: the highest bit of each byte that the subtraction set and the flipped word has not
abbrev pub lf_mask : ℕ → ℕ
lf_mask w = bit_and (bit_and (less_ones w) (2 ^ 64 - 1 - flipped w)) (every 128 8)

-- no LF stands from a place up to a later one, so that both find the same
pub record Passed (s : List ℕ) (from to : ℕ) : Type 0 where
  pub forward : from ≤ to
  pub within : to ≤ length s
  pub same : from + upto 10 (drop from s) ≡ to + upto 10 (drop to s)
