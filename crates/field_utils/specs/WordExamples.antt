-- Words at the edges, and wrong finders of LFs that they rule out (document 02, Four), each by computation.
use Rattle.std.specs.Prelude.{◌≡◌, ℕ, ◌+◌, ◌-◌, ◌*◌, ◌/◌, List, [], ◌∷◌, ◌++◌, drop, replicate, bit_and, refl}
use Rattle.std.specs.Int.Count.{count_leading_zeros, count_trailing_zeros}
use Rattle.field_utils.specs.Lines.{upto}
use Rattle.field_utils.specs.Words.{eight, low_bytes, every, less_ones, lf_mask}

-- an LF, a byte one above it, and six letters
abbrev pub borrowing : List ℕ
borrowing = 10 ∷ 11 ∷ replicate 6 65

-- how many bytes of eight stand before the lowest mark of their mask
abbrev told : List ℕ → ℕ
told l = count_trailing_zeros 64 (lf_mask (eight l)) / 8

pub record WordExamples : Type 0 where
  -- the first byte is the lowest
  pub bytes : low_bytes 8 (eight (1 ∷ 2 ∷ 3 ∷ 4 ∷ 5 ∷ 6 ∷ 7 ∷ 8 ∷ [])) ≡ 1 ∷ 2 ∷ 3 ∷ 4 ∷ 5 ∷ 6 ∷ 7 ∷ 8 ∷ []
  -- an LF in the first byte, in the last, and in none
  pub first : told borrowing ≡ 0
  pub last : told (replicate 7 65 ++ (10 ∷ [])) ≡ 7
  pub none : told (replicate 8 65) ≡ 8
  -- the borrow marks the byte above the LF too
  pub two_marks : lf_mask (eight borrowing) ≡ 128 + 128 * 256
  -- a mask read from the top gives that byte
  pub from_the_top : (63 - count_leading_zeros 64 (lf_mask (eight borrowing))) / 8 ≡ 1
  -- and so does one that is read on after its lowest mark, though no LF follows
  pub read_on : count_trailing_zeros 64 (lf_mask (eight borrowing) - 128) / 8 ≡ 1
  pub no_other : 1 + upto 10 (drop 1 borrowing) ≡ 8
  -- a byte above 127 is marked by the subtraction alone, and not by the mask
  pub subtracted : bit_and (less_ones (eight (200 ∷ replicate 7 65))) (every 128 8) ≡ 128
  pub high : lf_mask (eight (200 ∷ replicate 7 65)) ≡ 0
  -- where the tail is skipped, an LF after the last whole word is not found
  pub tail : upto 10 (replicate 8 65 ++ (10 ∷ [])) ≡ 8

pub word_examples : WordExamples
unfolding upto low_bytes count_trailing_zeros count_leading_zeros
word_examples =
    record {
      bytes = refl;
      first = refl;
      last = refl;
      none = refl;
      two_marks = refl;
      from_the_top = refl;
      read_on = refl;
      no_other = refl;
      subtracted = refl;
      high = refl;
      tail = refl;
    }
