-- What placing a field promises of every buffer, and records at the edge of 22 (document 01, 'From the state'; document 02, Two).
use Rattle.std.specs.Prelude.{◌≡◌, refl, Bool, true, false, List, [], ◌∷◌, ℕ, ◌+◌, ◌≤◌, ◌<◌, eqb, length, take, drop, replicate}
use Rattle.std.proofs.Common.{sym, ◌∙◌, ap, true≢false, zero-add, arith, take_at, drop_at, le-leb}
use Rattle.std.proofs.Math.Seq.{take-length}
use Rattle.std.proofs.lemmas.Bool.{lt-leb}
use Rattle.errors.specs.Refusals.{Reply, accepted, refused, must, ◌then◌}
use Rattle.party.specs.declared.PartyOption.{PartyOption}
use Rattle.party.specs.declared.PartyOption.TheVariants.{Field50NoOption, Field50K, Field50C, Field50H, Field59NoOption}
use Rattle.party.specs.declared.Party.{Party}
use Rattle.party.specs.declared.Text.{Text}
use Rattle.party.specs.Limits.{place_of}
use Rattle.party.specs.Text.{padded, text_of, Used}
use Rattle.party.specs.Party.{Content, content, Same}
use Rattle.swift_utils.specs.Bytes.{bytes, letter, digit, alphanumeric, signs, legal}
use Rattle.swift_utils.specs.Checks.{parse_swift_chars, parse_account, bic_length, parse_bic}
use Rattle.field_utils.specs.Lines.{starts}
use Rattle.field_utils.specs.Names.{parse_line, parse_lines, parse_name_and_address}
use Rattle.writer.specs.Writing.{name_lines, written_field, put, fits}
use Rattle.writer.specs.Given.{is_line, are_names, is_given}
use Rattle.writer.specs.Placing.{length_is, refused_with, placing, place}

-- placing what s says in a buffer
pub record Writes (s : Content) (buffer : List ℕ) : Type 0 where
  -- 22, whatever the space; then 24 exactly where the field passes the buffer: exactly enough space is enough
  pub none : is_given s ≡ false → (place s buffer).answer ≡ refused_with 22 0
  pub enough : is_given s ≡ true → length (written_field s) ≤ length buffer → (place s buffer).answer ≡ length_is (length (written_field s))
  pub short : is_given s ≡ true → length buffer < length (written_field s) → (place s buffer).answer ≡ refused_with 24 0
  -- a refusal changes no byte
  pub kept : {k l : ℕ} → (place s buffer).answer ≡ refused_with k l → (place s buffer).buffer ≡ buffer
  -- an accepted field stands at the start, with its length, and no byte after it changes
  pub start : {n : ℕ} → (place s buffer).answer ≡ length_is n → take (length (written_field s)) (place s buffer).buffer ≡ written_field s
  pub rest : {n : ℕ} → (place s buffer).answer ≡ length_is n → drop (length (written_field s)) (place s buffer).buffer ≡ drop (length (written_field s)) buffer
  pub told : {n : ℕ} → (place s buffer).answer ≡ length_is n → n ≡ length (written_field s)

length≢refusal : {n k l : ℕ} → length_is n ≡ refused_with k l → ⊥
length≢refusal e = let z : ◌≡◌ {A = ℕ} 0 1 = cc in omega arith

-- a text put at the start stands there, and what follows it stays
module _ (text buffer : List ℕ) where
  start_is : take (length text) (put buffer 0 text) ≡ text
  start_is = take_at (take (length text) text) (drop (0 + length text) buffer) (length text) (ap length (take-length text)) ∙ take-length text

  rest_is : drop (length text) (put buffer 0 text) ≡ drop (length text) buffer
  rest_is =
      drop_at (take (length text) text) (drop (0 + length text) buffer) (length text) (ap length (take-length text)) ∙ ap (λ (k : ℕ). drop k buffer) (zero-add (length text))

  -- by what the checks say
  kept_is : (r : Reply) {k l : ℕ} → (placing r text buffer).answer ≡ refused_with k l → (placing r text buffer).buffer ≡ buffer
  kept_is accepted e = absurd (length≢refusal e)
  kept_is (refused k l) e = refl

  put_is : (r : Reply) {n : ℕ} → (placing r text buffer).answer ≡ length_is n → ((placing r text buffer).buffer ≡ put buffer 0 text) × (n ≡ length text)
  put_is accepted e = (refl, cc)
  put_is (refused k l) e = absurd (length≢refusal (sym e))

pub writes : (s : Content) (buffer : List ℕ) → Writes s buffer
unfolding place
writes s buffer =
    let text = written_field s in
    let r = must (is_given s) 22 0 then must (fits buffer 0 text) 24 0 in
    record {
      none = λ e. rw e;
      enough = λ e h. rw (e, le-leb (0 + length text) (length buffer) (omega arith));
      short = λ e h. rw (e, lt-leb (0 + length text) (length buffer) (omega arith));
      kept = kept_is text buffer r;
      start = λ e. ap (take (length text)) (put_is text buffer r e).0 ∙ start_is text buffer;
      rest = λ e. ap (drop (length text)) (put_is text buffer r e).0 ∙ rest_is text buffer;
      told = λ e. (put_is text buffer r e).1;
    }

-- ---- records at the edge of 22
-- a record of an option, a presence, an account, a BIC, a count, and a first and a fourth name
abbrev held : PartyOption → Bool → List ℕ → List ℕ → ℕ → Text → Text → Party
held o present account bic count first fourth = record {
  option = o;
  present = present;
  account = text_of account;
  bic = text_of bic;
  count = count;
  name_and_address = first ∷ text_of [] ∷ text_of [] ∷ fourth ∷ [];
  digits = 0 ∷ 0 ∷ 0 ∷ 0 ∷ [];
}

-- a 50K of one name
abbrev named : Text → Text → Party
named first fourth = held Field50K false [] [] 1 first fourth

-- a record whose first name is A, with an account and a count
abbrev counted : PartyOption → Bool → List ℕ → ℕ → Party
counted o present account count = held o present account [] count (text_of (bytes "A")) (text_of [])

-- a 50C of a count
abbrev bic_of : ℕ → Party
bic_of count = held Field50C false [] (bytes "ABCDEFGH") count (text_of []) (text_of [])

pub record Edges : Type 0 where
  -- a test by the legal class alone would let an LF through
  pub lf : is_given (content (named (text_of (bytes "A\nB")) (text_of []))) ≡ false
  -- a stale text that the count leaves out does not count, its length neither
  pub stale : is_given (content (named (text_of (bytes "A")) (record { bytes = replicate 38 255; len = 99 }))) ≡ true
  -- a used text longer than 38 does
  pub long : is_given (content (named (record { bytes = replicate 38 65; len = 99 }) (text_of []))) ≡ false
  -- a first name that would be read as an account
  pub slash : is_given (content (named (text_of (bytes "/A")) (text_of []))) ≡ false
  -- an account that is not there is empty; there is none in 50, and always one in 50H
  pub absent_is_empty : is_given (content (counted Field50K false (bytes "1") 1)) ≡ false
  pub none_in_50 : is_given (content (counted Field50NoOption true [] 1)) ≡ false
  pub one_in_50H : is_given (content (counted Field50H true (bytes "1") 1)) ≡ true
  pub always_in_50H : is_given (content (counted Field50H false [] 1)) ≡ false
  -- one to four names, and none in 50C
  pub no_name : is_given (content (counted Field50K false [] 0)) ≡ false
  pub four_names : is_given (content (counted Field50K false [] 4)) ≡ true
  pub five_names : is_given (content (counted Field50K false [] 5)) ≡ false
  pub none_in_50C : is_given (content (bic_of 0)) ≡ true
  pub one_in_50C : is_given (content (bic_of 1)) ≡ false

pub edges : Edges
unfolding padded text_of content letter digit alphanumeric signs legal parse_swift_chars parse_account bic_length parse_bic starts parse_line parse_lines parse_name_and_address name_lines is_line are_names is_given
edges = record {
  lf = refl;
  stale = refl;
  long = refl;
  slash = refl;
  absent_is_empty = refl;
  none_in_50 = refl;
  one_in_50H = refl;
  always_in_50H = refl;
  no_name = refl;
  four_names = refl;
  five_names = refl;
  none_in_50C = refl;
  one_in_50C = refl;
}

-- the length of an account, if there is one
abbrev account_length : List Used → ℕ
account_length [] = 0
account_length (u ∷ us) = u.len

-- when two records are the same: option, presence, counts and used bytes agree
pub record Sameness : Type 0 where
  -- records of which all but one of these agree are not
  pub option_counts : Same (counted Field50K false [] 1) (counted Field59NoOption false [] 1) → ⊥
  pub presence_counts : Same (counted Field50K true [] 1) (counted Field50K false [] 1) → ⊥
  pub count_counts : Same (bic_of 0) (bic_of 1) → ⊥
  pub absent_account_counts : Same (counted Field50K false (bytes "1") 1) (counted Field50K false [] 1) → ⊥
  -- a text that the option or the count leaves out does not count, nor do the bytes after a text's length
  pub left_out_by_option : Same (counted Field50NoOption false (bytes "1") 1) (counted Field50NoOption false [] 1)
  pub left_out_by_count : Same (named (text_of (bytes "A")) (text_of (bytes "B"))) (named (text_of (bytes "A")) (text_of []))
  pub after_the_length : Same (named (record { bytes = 65 ∷ replicate 37 66; len = 1 }) (text_of [])) (named (text_of (bytes "A")) (text_of []))

pub sameness : Sameness
unfolding padded text_of content
sameness = record {
  option_counts = λ e. true≢false (ap (λ (s : Content). eqb (place_of s.option) 3) e);
  presence_counts = λ e. true≢false (ap (λ (s : Content). s.present) e);
  count_counts = λ e. true≢false (ap (λ (s : Content). eqb s.count 0) e);
  absent_account_counts = λ e. true≢false (ap (λ (s : Content). eqb (account_length s.account) 1) e);
  left_out_by_option = refl;
  left_out_by_count = refl;
  after_the_length = refl;
}
