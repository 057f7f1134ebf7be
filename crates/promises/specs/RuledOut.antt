-- Wrong programs that the definitions rule out (document 01, 'For the auditor's form' and 'Traps for a porter').
use Rattle.std.specs.Prelude.{◌≡◌, refl, false, List, [], ◌∷◌, ◌++◌, ℕ, get_or, replicate}
use Rattle.std.proofs.Common.{sym, ◌∙◌, ap, arith}
use Rattle.errors.specs.Refusals.{accepted, refused}
use Rattle.party.specs.declared.PartyOption.{PartyOption}
use Rattle.party.specs.declared.PartyOption.TheVariants.{Field50NoOption, Field50A, Field50F, Field50K, Field50C, Field50L, Field50G, Field50H, Field59NoOption, Field59A, Field59F}
use Rattle.party.specs.Text.{padded, text_of, four, Used}
use Rattle.party.specs.Party.{Content, content, Same}
use Rattle.swift_utils.specs.Bytes.{bytes, letter, digit, alphanumeric, signs, legal}
use Rattle.swift_utils.specs.Checks.{parse_swift_chars, parse_account, bic_length, parse_bic}
use Rattle.field_utils.specs.Lines.{upto, onto, starts, lines}
use Rattle.field_utils.specs.Trim.{white, trimmed_start, keep, trimmed_end, trimmed}
use Rattle.field_utils.specs.Identifier.{is_numbered, second_slash, identifier_reply, parse_party_identifier}
use Rattle.field_utils.specs.Names.{parse_line, parse_lines, parse_name_and_address}
use Rattle.reader.specs.Reading.{Reading, party_of}
use Rattle.reader.specs.Options.{account_head, short_account_head, after_head, read}
use Rattle.reader.specs.declared.choices.Choice.TheVariants.{Field50InstructingParty, Field50OrderingCustomerFGH, Field50OrderingCustomerAFK, Field50OrderingCustomerNCF, Field50Creditor, Field59, Field59Debtor}
use Rattle.reader.specs.Detection.{any_numbered, first_line, last_line, bic_like, test_line}
use Rattle.reader.specs.Choices.{refusing, first_that, parse, pick_of, parse_with_variant}
use Rattle.promises.specs.Starred.{gives}

-- two bodies that an option accepts, one letter apart
abbrev pub body_of : PartyOption → List ℕ → List ℕ
body_of Field50NoOption x = x
body_of Field50A x = x ++ bytes "BCDEFGH"
body_of Field50F x = x ++ bytes "\n1/N"
body_of Field50K x = x
body_of Field50C x = x ++ bytes "BCDEFGH"
body_of Field50L x = x
body_of Field50G x = bytes "/" ++ x ++ bytes "\nABCDEFGH"
body_of Field50H x = bytes "/" ++ x ++ bytes "\nN"
body_of Field59NoOption x = x
body_of Field59A x = x ++ bytes "BCDEFGH"
body_of Field59F x = bytes "1/" ++ x

-- the bytes that a record says, one text after the other
abbrev joined : List Used → List ℕ
joined [] = []
joined (u ∷ us) = u.bytes ++ joined us

abbrev content_bytes : Content → List ℕ
content_bytes s = joined s.account ++ joined s.bic ++ joined s.names

-- a reader that turns away each body; one that sees the same party in all
pub record Reads (o : PartyOption) : Type 0 where
  pub first : (read o (body_of o (bytes "A"))).reply ≡ accepted
  pub second : (read o (body_of o (bytes "B"))).reply ≡ accepted
  pub apart : Same (read o (body_of o (bytes "A"))).party (read o (body_of o (bytes "B"))).party → ⊥

-- what shows it: the byte of the text at a place
shown : (o : PartyOption) (i : ℕ) → (read o (body_of o (bytes "A"))).reply ≡ accepted → (read o (body_of o (bytes "B"))).reply ≡ accepted
    → get_or (content_bytes (content (read o (body_of o (bytes "A"))).party)) i 0 ≡ 65 → get_or (content_bytes (content (read o (body_of o (bytes "B"))).party)) i 0 ≡ 66
    → Reads o
shown o i a b x y = record {
  first = a;
  second = b;
  apart = λ e. let z : ◌≡◌ {A = ℕ} 65 66 = sym x ∙ ap (λ (s : Content). get_or (content_bytes s) i 0) e ∙ y in omega arith;
}

pub reads : (o : PartyOption) → Reads o
unfolding padded text_of content letter digit alphanumeric signs legal parse_swift_chars parse_account bic_length parse_bic upto onto starts lines white trimmed_start keep trimmed_end trimmed is_numbered second_slash identifier_reply parse_party_identifier parse_line parse_lines parse_name_and_address four party_of account_head short_account_head after_head read
reads Field50NoOption = shown Field50NoOption 0 refl refl refl refl
reads Field50A = shown Field50A 0 refl refl refl refl
reads Field50F = shown Field50F 0 refl refl refl refl
reads Field50K = shown Field50K 0 refl refl refl refl
reads Field50C = shown Field50C 0 refl refl refl refl
reads Field50L = shown Field50L 0 refl refl refl refl
reads Field50G = shown Field50G 0 refl refl refl refl
reads Field50H = shown Field50H 0 refl refl refl refl
reads Field59NoOption = shown Field59NoOption 0 refl refl refl refl
reads Field59A = shown Field59A 0 refl refl refl refl
reads Field59F = shown Field59F 2 refl refl refl refl

-- a reading accepted as an option
abbrev pub As : Reading → PartyOption → Type 0
As r o = (r.reply ≡ accepted) × (r.party.option ≡ o)

pub record RuledOut : Type 0 where
  -- names counted before they are tested: the fifth name of 50K is too long, and that is said first
  pub names_tested_before_counted : (read Field50K (bytes "A\nB\nC\nD\n" ++ replicate 36 65)).reply ≡ refused 4 5
  -- every trailing CR dropped: one CR before the LF is, the other stays
  pub one_cr_is_dropped : read Field50NoOption (bytes "A\r\r\n") ≡ gives Field50NoOption false [] [] (bytes "A\r" ∷ [])
  -- detection in another order: each body here is one that a later option would take too
  pub c_before_l : As (parse Field50InstructingParty (bytes "ABCDEFGH")) Field50C
  pub f_before_h : As (parse Field50OrderingCustomerFGH (bytes "/X\n1/A")) Field50F
  pub g_before_h : As (parse Field50OrderingCustomerFGH (bytes "/X\nABCDEFGH")) Field50G
  pub f_before_k : As (parse Field50OrderingCustomerAFK (bytes "X\n1/A")) Field50F
  pub a_before_k : As (parse Field50OrderingCustomerAFK (bytes "ABCDEFGH")) Field50A
  pub f_before_50 : As (parse Field50OrderingCustomerNCF (bytes "X\n1/A")) Field50F
  pub creditor_a_before_k : As (parse Field50Creditor (bytes "ABCDEFGH")) Field50A
  pub a_before_59 : As (parse Field59 (bytes "ABCDEFGH")) Field59A
  pub f_before_59 : As (parse Field59 (bytes "1/A")) Field59F
  pub debtor_a_before_59 : As (parse Field59Debtor (bytes "ABCDEFGH")) Field59A
  -- detecting when `Field59` gets no letter: it does not
  pub no_letter_picks : As (parse_with_variant Field59 (bytes "ABCDEFGH") 0) Field59NoOption

pub ruled_out : RuledOut
unfolding padded text_of content letter digit alphanumeric signs legal parse_swift_chars parse_account bic_length parse_bic upto onto starts lines white trimmed_start keep trimmed_end trimmed is_numbered second_slash identifier_reply parse_party_identifier parse_line parse_lines parse_name_and_address four party_of account_head short_account_head after_head read any_numbered first_line last_line bic_like first_that pick_of test_line parse parse_with_variant
ruled_out = record {
  names_tested_before_counted = refl;
  one_cr_is_dropped = refl;
  c_before_l = (refl, refl);
  f_before_h = (refl, refl);
  g_before_h = (refl, refl);
  f_before_k = (refl, refl);
  a_before_k = (refl, refl);
  f_before_50 = (refl, refl);
  creditor_a_before_k = (refl, refl);
  a_before_59 = (refl, refl);
  f_before_59 = (refl, refl);
  debtor_a_before_59 = (refl, refl);
  no_letter_picks = (refl, refl);
}

-- the order of what a body is refused for: 12, 13, what the option says, 11; `not_a_letter` has that 14 comes first
pub record BodyOrder : Type 0 where
  -- an option, which has another refusal of each of these bodies
  pub length_before_bytes : (read Field50C (replicate 2049 128)).reply ≡ refused 12 0
  pub length_before_own : (read Field50C (replicate 2049 65)).reply ≡ refused 12 0
  pub bytes_before_own : (read Field50C (128 ∷ [])).reply ≡ refused 13 0
  -- a choice, and one by a letter that picks
  pub length_before_none : parse Field50Creditor (replicate 2049 128) ≡ refusing 12 0
  pub bytes_before_none : parse Field50Creditor (128 ∷ []) ≡ refusing 13 0
  pub length_before_picked : parse_with_variant Field50Creditor (replicate 2049 128) 65 ≡ refusing 12 0
  pub bytes_before_picked : parse_with_variant Field50Creditor (128 ∷ []) 65 ≡ refusing 13 0
  -- 2,048 bytes are read, by an option and by a choice, which counts them as they came
  pub read_of_2048 : As (read Field50A (bytes "ABCDEFGH\n" ++ replicate 2039 65)) Field50A
  pub parsed_of_2048 : As (parse Field50InstructingParty (65 ∷ replicate 2047 32)) Field50L

pub body_order : BodyOrder
unfolding padded text_of letter digit alphanumeric signs legal parse_swift_chars parse_account bic_length parse_bic upto onto starts lines white trimmed_start keep trimmed_end trimmed parse_party_identifier four party_of after_head read first_that pick_of parse parse_with_variant
body_order = record {
  length_before_bytes = refl;
  length_before_own = refl;
  bytes_before_own = refl;
  length_before_none = refl;
  bytes_before_none = refl;
  length_before_picked = refl;
  bytes_before_picked = refl;
  read_of_2048 = (refl, refl);
  parsed_of_2048 = (refl, refl);
}
