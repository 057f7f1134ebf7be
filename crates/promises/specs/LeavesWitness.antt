-- The theorems of the leaves, used: words of eight bytes, letters, and outcomes, each at an instance that a weaker one does not reach.
use Rattle.std.specs.Prelude.{◌≡◌, true, false, List, [], ◌∷◌, ℕ, ◌/◌, eqb, replicate, Result, Ok, Err}
use Rattle.std.proofs.Common.{arith}
use Rattle.std.specs.Int.Bits.{bit_and}
use Rattle.std.specs.Int.Count.{count_trailing_zeros}
use Rattle.errors.specs.declared.ParseError.{ParseError}
use Rattle.errors.specs.declared.ParseError.TheVariants.{BicLength, NotCarried, OutsideProfile}
use Rattle.errors.specs.Refusals.{accepted, refused, told}
use Rattle.errors.proofs.Cases.{told_one}
use Rattle.field_utils.specs.Lines.{upto}
use Rattle.field_utils.specs.Words.{eight, low_bytes, every, lf_mask}
use Rattle.field_utils.proofs.FirstLf.{first_lf}
use Rattle.field_utils.proofs.AllBytes.{low_word}
use Rattle.reader.specs.declared.choices.Choice.TheVariants.{Field50InstructingParty, Field59, Field59Debtor}
use Rattle.reader.specs.Choices.{refusing, parse_with_variant}
use Rattle.reader.proofs.Letters.{not_a_letter, byte_48}

-- ---- words
-- the first LF is the third byte; the one after it is 11, which the borrow marks too, and a later one is an LF again
abbrev borrowed : List ℕ
borrowed = 65 ∷ 200 ∷ 10 ∷ 11 ∷ 128 ∷ 10 ∷ 0 ∷ 255 ∷ []

-- the only LF is the last byte, after one of 138, which is LF and 128
abbrev last : List ℕ
last = 11 ∷ 9 ∷ 0 ∷ 13 ∷ 127 ∷ 255 ∷ 138 ∷ 10 ∷ []

-- a byte of 128 at the last place, and eight of 127
abbrev high : List ℕ
high = 127 ∷ 0 ∷ 10 ∷ 65 ∷ 1 ∷ 2 ∷ 3 ∷ 128 ∷ []

pub record WordWitness : Type 0 where
  pub first : count_trailing_zeros 64 (lf_mask (eight borrowed)) / 8 ≡ 2
  pub last_byte : count_trailing_zeros 64 (lf_mask (eight last)) / 8 ≡ 7
  -- none, in the greatest word, and at zero
  pub none : count_trailing_zeros 64 (lf_mask (eight (replicate 8 255))) / 8 ≡ 8
  pub zero : count_trailing_zeros 64 (lf_mask 0) / 8 ≡ 8
  -- highest bits, of eight bytes and of three
  pub high_last : eqb (bit_and (eight high) (every 128 8)) 0 ≡ false
  pub low_all : eqb (bit_and (eight (replicate 8 127)) (every 128 8)) 0 ≡ true
  pub low_three : eqb (bit_and (eight (127 ∷ 127 ∷ 127 ∷ 128 ∷ [])) (every 128 3)) 0 ≡ true

pub word_witness : WordWitness
unfolding upto low_bytes
word_witness = record {
  first = first_lf (eight borrowed) (omega arith);
  last_byte = first_lf (eight last) (omega arith);
  none = first_lf (eight (replicate 8 255)) (omega arith);
  zero = first_lf 0 (omega arith);
  high_last = low_word 8 (eight high);
  low_all = low_word 8 (eight (replicate 8 127));
  low_three = low_word 3 (eight (127 ∷ 127 ∷ 127 ∷ 128 ∷ []));
}

-- ---- letters
-- a body that is 12 and 13
abbrev body : List ℕ
body = replicate 2049 200

pub record LetterWitness : Type 0 where
  -- the bytes beside A and Z, a small letter, and the number 1: 14 before 12 and 13
  pub before_A : parse_with_variant Field59 body 64 ≡ refusing 14 0
  pub after_Z : parse_with_variant Field59Debtor body 91 ≡ refusing 14 0
  pub small : parse_with_variant Field50InstructingParty body 108 ≡ refusing 14 0
  pub one : parse_with_variant Field50InstructingParty [] 1 ≡ refusing 14 0
  pub zero_digit : parse_with_variant Field59 body 48 ≡ refusing 14 0

pub letter_witness : LetterWitness
letter_witness = record {
  before_A = not_a_letter Field59 body 64 (λ e. omega (arith, e)) (λ h k. omega (arith, h));
  after_Z = not_a_letter Field59Debtor body 91 (λ e. omega (arith, e)) (λ h k. omega (arith, k));
  small = not_a_letter Field50InstructingParty body 108 (λ e. omega (arith, e)) (λ h k. omega (arith, k));
  one = not_a_letter Field50InstructingParty [] 1 (λ e. omega (arith, e)) (λ h k. omega (arith, h));
  zero_digit = byte_48 Field59 body;
}

-- ---- answers without a value
pub record OutcomeWitness : Type 0 where
  -- what says that it is accepted is, and what says a number and a line is that refusal with that line
  pub accepts : (o : Result (Unit {0}) ParseError) → told o ≡ accepted → o ≡ Ok tt
  pub bic : (o : Result (Unit {0}) ParseError) → told o ≡ refused 9 2 → o ≡ Err (BicLength 2)
  pub outside : (o : Result (Unit {0}) ParseError) → told o ≡ refused 32 4 → o ≡ Err (OutsideProfile 4)
  pub uncarried : (o : Result (Unit {0}) ParseError) → told o ≡ refused 23 0 → o ≡ Err NotCarried

pub outcome_witness : OutcomeWitness
outcome_witness = record {
  accepts = λ o e. told_one o _ e;
  bic = λ o e. told_one o _ e;
  outside = λ o e. told_one o _ e;
  uncarried = λ o e. told_one o _ e;
}
