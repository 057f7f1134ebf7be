-- The writer's theorems, used: each at an instance that a weaker one does not reach, down to what reading and placing give.
use Rattle.std.specs.Prelude.{◌≡◌, refl, true, false, List, [], ◌∷◌, ◌++◌, ℕ, ◌≤◌, length, replicate}
use Rattle.std.proofs.Common.{◌∙◌, ap, arith}
use Rattle.errors.specs.Refusals.{accepted}
use Rattle.party.specs.declared.PartyOption.TheVariants.{Field50A, Field50F, Field50H, Field50K, Field50L}
use Rattle.party.specs.declared.Party.{Party}
use Rattle.party.specs.Text.{padded, text_of, four}
use Rattle.party.specs.Party.{content, Same}
use Rattle.swift_utils.specs.Bytes.{bytes, letter, digit, alphanumeric, signs, legal}
use Rattle.swift_utils.specs.Checks.{parse_swift_chars, parse_account, bic_length, parse_bic}
use Rattle.field_utils.specs.Lines.{upto, onto, starts, lines}
use Rattle.field_utils.specs.Identifier.{is_numbered, second_slash, identifier_reply, parse_party_identifier}
use Rattle.field_utils.specs.Names.{parse_line, parse_lines, parse_name_and_address}
use Rattle.field_utils.specs.Tags.{tag_of}
use Rattle.reader.specs.Reading.{party_of}
use Rattle.reader.specs.Options.{account_head, after_head, read}
use Rattle.writer.specs.Writing.{name_lines, written_lines, joined, written_body, written_field, identified59_f, pieces}
use Rattle.writer.specs.Given.{is_line, are_names, is_given}
use Rattle.writer.specs.Placing.{length_is, refused_with, measure, place}
use Rattle.writer.specs.ReadBack.{ends_cr, last_empty, earlier_cr, is_read_back}
use Rattle.writer.specs.Longest.{longest}
use Rattle.writer.specs.Sender.{content_of}
use Rattle.writer.proofs.Theorems.{given_exact, reading_back, written_most, written_less, measure_and_place}
use Rattle.writer.proofs.Longest.{longest_field}
use Rattle.writer.proofs.Sender.{sender_lines, keeps_50F}
use Rattle.promises.specs.Starred.{gives}
use Rattle.promises.specs.Filing.{of}

-- the definitions compute where this is unfolded
computes : Unit {0}
unfolding padded text_of content letter digit alphanumeric signs legal parse_swift_chars parse_account starts parse_line parse_lines parse_name_and_address four party_of name_lines is_line are_names is_given upto is_numbered second_slash identifier_reply written_lines joined written_body written_field measure tag_of onto lines account_head after_head read pieces ends_cr last_empty earlier_cr is_read_back bic_length parse_bic parse_party_identifier
computes = tt

-- a 50K with an account and two names: its field has 20 bytes
abbrev whole : Party
whole = (gives Field50K true (bytes "12") [] (bytes "ACME" ∷ bytes "BERLIN" ∷ [])).party

abbrev field : List ℕ
field = bytes ":50K:/12\nACME\nBERLIN"

-- records that are 22: an LF in the second name; an account of 50H with a byte of 128
abbrev broken : Party
broken = (gives Field50K true (bytes "12") [] (bytes "ACME" ∷ bytes "BER\nLIN" ∷ [])).party

abbrev above : Party
above = (gives Field50H true (128 ∷ []) [] (bytes "ACME" ∷ [])).party

-- records that are not read back: the last name is empty, or the first ends in CR
abbrev empty_last : Party
empty_last = of (bytes "A" ∷ [] ∷ [])

abbrev cr_first : Party
cr_first = of (bytes "A\r" ∷ bytes "B" ∷ [])

-- a body is read as a record
abbrev ReadAs : List ℕ → Party → Type 0
ReadAs body p = ((read p.option body).reply ≡ accepted) × Same (read p.option body).party p

-- ---- 22
pub record GivenWitness : Type 0 where
  -- a record that passes is what a body is read as, and one that does not is what none is
  pub yes : (body : List ℕ) × ReadAs body whole
  pub no : (body : List ℕ) → ReadAs body broken → ⊥
  pub no_above : (body : List ℕ) → ReadAs body above → ⊥

pub given_witness : GivenWitness
unfolding computes
given_witness =
    let g = (given_exact whole).yes refl in
    record {
      yes = (g.body, (g.accepts, g.same));
      no = λ body r. (given_exact broken).no refl (record { body = body; accepts = r.0; same = r.1 });
      no_above = λ body r. (given_exact above).no refl (record { body = body; accepts = r.0; same = r.1 });
    }

-- ---- measuring and placing
pub record PairWitness : Type 0 where
  pub exact : 20 ≡ length (written_field (content whole))
  -- a buffer with just enough, with more, and one byte short
  pub enough : place (content whole) (replicate 20 7) ≡ record { answer = length_is 20; buffer = field }
  pub more : place (content whole) (replicate 23 7) ≡ record { answer = length_is 20; buffer = field ++ 7 ∷ 7 ∷ 7 ∷ [] }
  pub short : place (content whole) (replicate 19 7) ≡ record { answer = refused_with 24 0; buffer = replicate 19 7 }
  -- 22 before 24, and where there is space; a refusal to measure is no other number
  pub unmeasured : place (content broken) (7 ∷ []) ≡ record { answer = refused_with 22 0; buffer = 7 ∷ [] }
  pub unplaced : place (content broken) (replicate 40 7) ≡ record { answer = refused_with 22 0; buffer = replicate 40 7 }
  pub only_22 : (p : Party) {k l : ℕ} → measure (content p) ≡ refused_with k l → (k ≡ 22) × (l ≡ 0)
  -- 187 bytes are enough for the longest field
  pub agrees : (place (content longest) (replicate 187 7)).answer ≡ length_is 187
  pub agrees_22 : (place (content broken) (replicate 187 7)).answer ≡ refused_with 22 0

pub pair_witness : PairWitness
unfolding computes
pair_witness = record {
  exact = ((measure_and_place whole []).measured refl).exact;
  enough = ((measure_and_place whole (replicate 20 7)).measured refl).enough (omega arith);
  more = ((measure_and_place whole (replicate 23 7)).measured refl).enough (omega arith);
  short = ((measure_and_place whole (replicate 19 7)).measured refl).short (omega arith);
  unmeasured = ((measure_and_place broken (7 ∷ [])).unmeasured refl).2;
  unplaced = ((measure_and_place broken (replicate 40 7)).unmeasured refl).2;
  only_22 = λ p e. let u = (measure_and_place p []).unmeasured e in (u.0, u.1);
  agrees = (measure_and_place longest (replicate 187 7)).agrees (omega arith);
  agrees_22 = (measure_and_place broken (replicate 187 7)).agrees (omega arith);
}

-- ---- a written body, read
pub record BackWitness : Type 0 where
  pub accepts : (read Field50K (bytes "/12\nACME\nBERLIN")).reply ≡ accepted
  pub same : Same (read Field50K (bytes "/12\nACME\nBERLIN")).party whole
  pub empty_last_lem : Same (read Field50K (bytes "A\n")).party empty_last → ⊥
  pub cr_first_lem : Same (read Field50K (bytes "A\r\nB")).party cr_first → ⊥

pub back_witness : BackWitness
unfolding computes
back_witness =
    let w = (reading_back whole ((given_exact whole).yes refl)).yes refl in
    record {
      accepts = w.accepts;
      same = w.same;
      empty_last_lem = λ s. (reading_back empty_last ((given_exact empty_last).yes refl)).no refl (record { accepts = refl; same = s });
      cr_first_lem = λ s. (reading_back cr_first ((given_exact cr_first).yes refl)).no refl (record { accepts = refl; same = s });
    }

-- ---- lengths: of every record that a body is read as
pub record LengthWitness : Type 0 where
  pub most : (p : Party) (body : List ℕ) → ReadAs body p → length (written_field (content p)) ≤ 187
  pub less : (p : Party) (body : List ℕ) → ReadAs body p → identified59_f (content p) ≡ false → length (written_field (content p)) ≤ 184
  -- one of 187 is shown, and is what a body is read as; none is longer
  pub shown : (p : Party) × (body : List ℕ) × ReadAs body p × (length (written_field (content p)) ≡ 187)
  pub longest_most : (p : Party) (body : List ℕ) → ReadAs body p → length (written_field (content p)) ≤ 187

pub length_witness : LengthWitness
length_witness =
    let g = longest_field.given in
    record {
      most = λ p body r. written_most p (record { body = body; accepts = r.0; same = r.1 });
      less = λ p body r. written_less p (record { body = body; accepts = r.0; same = r.1 });
      shown = (longest_field.shown, g.body, (g.accepts, g.same), longest_field.reached);
      longest_most = λ p body r. longest_field.most p (record { body = body; accepts = r.0; same = r.1 });
    }

-- ---- the sender's lines
abbrev cr_lf : List ℕ
cr_lf = bytes "/12\r\nACME\r\nBERLIN"

abbrev after_bic : List ℕ
after_bic = bytes "/12\nABCDEFGH\nX\n\nY"

abbrev sevens : List ℕ
sevens = bytes "X\r\n7/A\r\n7/B"

pub record SenderWitness : Type 0 where
  -- all lines are written where the option has names; after a BIC others may follow, and these alone are not; a text is one line, its CR too
  pub names : bytes "/12" ∷ bytes "ACME" ∷ bytes "BERLIN" ∷ [] ≡ written_lines (content_of Field50K cr_lf)
  pub bic : (rest : List (List ℕ)) × (bytes "/12" ∷ bytes "ABCDEFGH" ∷ bytes "X" ∷ [] ∷ bytes "Y" ∷ [] ≡ written_lines (content_of Field50A after_bic) ++ rest)
  pub text : (rest : List (List ℕ)) × (bytes " A\r" ∷ [] ≡ written_lines (content_of Field50L (bytes " A\r")) ++ rest)
  -- 50F with the digit 7 twice and CR LF
  pub lines_50F : written_lines (content_of Field50F sevens) ≡ bytes "X" ∷ bytes "7/A" ∷ bytes "7/B" ∷ []
  pub digits : (content_of Field50F sevens).digits ≡ bytes "77"
  pub again : read Field50F (bytes "X\n7/A\n7/B") ≡ read Field50F sevens

pub sender_witness : SenderWitness
unfolding computes
sender_witness =
    let s = sender_lines Field50K cr_lf refl in
    let b = sender_lines Field50A after_bic refl in
    let t = sender_lines Field50L (bytes " A\r") refl in
    let k = keeps_50F sevens refl in
    record {
      names = s.are ∙ ap (◌++◌ (written_lines (content_of Field50K cr_lf))) (s.all (λ z. omega arith));
      bic = (b.rest, b.are);
      text = (t.rest, t.are);
      lines_50F = k.lines;
      digits = k.digits;
      again = k.again refl;
    }
