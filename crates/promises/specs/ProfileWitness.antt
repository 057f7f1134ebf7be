-- The theorems of the network profile, used: each at an instance that a weaker one does not reach, down to single readings, adds and calls.
use Rattle.std.specs.Prelude.{◌≡◌, refl, true, false, List, [], ◌∷◌, ◌++◌, ℕ, ltb, replicate}
use Rattle.errors.specs.Refusals.{accepted, refused}
use Rattle.party.specs.declared.PartyOption.TheVariants.{Field50A, Field50K}
use Rattle.party.specs.Limits.{limits_of, option_at}
use Rattle.party.specs.Text.{padded, text_of, four}
use Rattle.party.specs.Party.{content}
use Rattle.swift_utils.specs.Bytes.{bytes, letter, small, digit, alphanumeric, signs, legal, narrow_signs, narrow}
use Rattle.swift_utils.specs.Checks.{parse_swift_chars, parse_account, bic_length, parse_bic}
use Rattle.field_utils.specs.Lines.{upto, onto, starts, lines}
use Rattle.field_utils.specs.Trim.{white, trimmed_start, keep, trimmed_end, trimmed}
use Rattle.field_utils.specs.Identifier.{is_numbered, second_slash, identifier_reply, parse_party_identifier}
use Rattle.field_utils.specs.Names.{parse_line, parse_lines, parse_name_and_address}
use Rattle.field_utils.specs.Tags.{tag_of}
use Rattle.record_bytes.specs.RecordBytes.{decoded}
use Rattle.reader.specs.Reading.{party_of}
use Rattle.reader.specs.Options.{account_head, after_head, read}
use Rattle.reader.specs.declared.choices.Choice.TheVariants.{Field50InstructingParty, Field50OrderingCustomerAFK, Field50Creditor}
use Rattle.reader.specs.Detection.{any_numbered, last_line, bic_like}
use Rattle.reader.specs.Choices.{refusing, first_that, parse, pick_of, parse_with_variant}
use Rattle.profile.specs.Profile.{is_same, holds_bic, is_inside, lines_reply, profile_reply, profiled, read_profiled, parse_profiled, parse_with_variant_profiled}
use Rattle.writer.specs.Writing.{name_lines, written_lines, joined, written_body, written_field}
use Rattle.page_reader.specs.Index.{entries_in, entries_of}
use Rattle.page_writer.specs.Adding.{writable, position_after, add}
use Rattle.yewdome.specs.Interface.{profile_read, profile_parse, profile_parse_with_variant, page_add}
use Rattle.yewdome.specs.Profile.{any_holds}
use Rattle.yewdome.proofs.Profile.{profile}
use Rattle.yewdome.proofs.ProfileCalls.{exported_profile}
use Rattle.promises.specs.PageWitness.{empty}

-- the definitions compute where this is unfolded
computes : Unit {0}
unfolding padded text_of content letter small digit alphanumeric signs legal narrow_signs narrow parse_swift_chars parse_account bic_length parse_bic upto onto starts lines white trimmed_start keep trimmed_end trimmed second_slash identifier_reply parse_party_identifier parse_line parse_lines parse_name_and_address four party_of account_head after_head read is_same holds_bic is_inside lines_reply profile_reply profiled name_lines written_lines joined written_body written_field entries_in entries_of writable tag_of is_numbered any_numbered last_line bic_like first_that parse pick_of parse_with_variant any_holds option_at
computes = tt

-- a 50A with an account, which passes; bodies whose second line is outside the profile, and outside the ordinary reading
abbrev good : List ℕ
good = bytes "/12\nDEUTDEFF"

abbrev outside : List ℕ
outside = bytes "A\nB&"

abbrev illegal : List ℕ
illegal = bytes "A&\nB~"

-- what AFK detects as a 50A with a line after its BIC, and reads by K as two names
abbrev twice : List ℕ
twice = bytes "JOHNDOES\nSTREETAB"

-- a page that has a field already, with space for a field of 17 bytes and no more
abbrev page : List ℕ
page = bytes ":50K:A\n" ++ replicate 20 7

pub record OptionWitness : Type 0 where
  pub same : read Field50A good ≡ read_profiled Field50A good
  pub stands : read_profiled Field50K illegal ≡ refusing 3 2
  pub number : (k n : ℕ) → (read_profiled Field50K outside).reply ≡ refused k n → k ≡ 32
  pub accepts : (add page 7 empty (content (read Field50A good).party)).answer ≡ position_after 25
  pub held : (body : List ℕ) → (read Field50A body).reply ≡ accepted → ltb 0 (limits_of (read Field50A body).party.option).bic_count ≡ true
      → any_holds (read Field50A body).party (lines body) ≡ true

pub option_witness : OptionWitness
unfolding computes
option_witness = record {
  same = ((profile good).by_option Field50A).refuses.same refl;
  stands = ((profile illegal).by_option Field50K).refuses.stands refl;
  number = λ k n e. ((profile outside).by_option Field50K).refuses.number refl e;
  accepts = (((profile good).by_option Field50A).accepts refl).adds page 7 empty refl refl refl;
  held = λ body e h. ((profile body).by_option Field50A).held e h;
}

-- ---- by a choice
-- what `Field50InstructingParty` trims: the BIC is in the second line
abbrev blanks : List ℕ
blanks = bytes " \n DEUTDEFF"

pub record ChoiceWitness : Type 0 where
  -- detected
  pub same : parse Field50OrderingCustomerAFK good ≡ parse_profiled Field50OrderingCustomerAFK good
  pub stands : parse_profiled Field50Creditor [] ≡ refusing 11 0
  pub number : (k n : ℕ) → (parse_profiled Field50OrderingCustomerAFK twice).reply ≡ refused k n → k ≡ 32
  pub accepts : (add page 7 empty (content (parse Field50InstructingParty blanks).party)).answer ≡ position_after 21
  pub held : (body : List ℕ) → (parse Field50InstructingParty body).reply ≡ accepted → ltb 0 (limits_of (parse Field50InstructingParty body).party.option).bic_count ≡ true
      → any_holds (parse Field50InstructingParty body).party (lines body) ≡ true
  -- by a letter
  pub letter_same : parse_with_variant Field50OrderingCustomerAFK twice 75 ≡ parse_with_variant_profiled Field50OrderingCustomerAFK twice 75
  pub letter_stands : parse_with_variant_profiled Field50OrderingCustomerAFK outside 107 ≡ refusing 14 0
  pub letter_number : (k n : ℕ) → (parse_with_variant_profiled Field50OrderingCustomerAFK outside 75).reply ≡ refused k n → k ≡ 32
  pub letter_accepts : (add page 7 empty (content (parse_with_variant Field50OrderingCustomerAFK good 75).party)).answer ≡ position_after 25
  pub letter_held : (body : List ℕ) (letter : ℕ) → let r = parse_with_variant Field50OrderingCustomerAFK body letter in
      r.reply ≡ accepted → ltb 0 (limits_of r.party.option).bic_count ≡ true → any_holds r.party (lines body) ≡ true
  -- a line that is not the BIC's holds none
  pub not_held : any_holds (read Field50A good).party (bytes "/12" ∷ bytes "X" ∷ []) ≡ false

pub choice_witness : ChoiceWitness
unfolding computes
choice_witness = record {
  same = ((profile good).detected Field50OrderingCustomerAFK).refuses.same refl;
  stands = ((profile []).detected Field50Creditor).refuses.stands refl;
  number = λ k n e. ((profile twice).detected Field50OrderingCustomerAFK).refuses.number refl e;
  accepts = (((profile blanks).detected Field50InstructingParty).accepts refl).adds page 7 empty refl refl refl;
  held = λ body e h. ((profile body).detected Field50InstructingParty).held e h;
  letter_same = ((profile twice).by_letter Field50OrderingCustomerAFK 75).refuses.same refl;
  letter_stands = ((profile outside).by_letter Field50OrderingCustomerAFK 107).refuses.stands refl;
  letter_number = λ k n e. ((profile outside).by_letter Field50OrderingCustomerAFK 75).refuses.number refl e;
  letter_accepts = (((profile good).by_letter Field50OrderingCustomerAFK 75).accepts refl).adds page 7 empty refl refl refl;
  letter_held = λ body letter e h. ((profile body).by_letter Field50OrderingCustomerAFK letter).held e h;
  not_held = refl;
}

-- ---- through the C interface, in a lent record with a byte more
abbrev lent : List ℕ
lent = replicate 242 9

pub record CallWitness : Type 0 where
  pub loads : decoded (profile_read 1 good lent).bytes ≡ (read Field50A good).party
  pub adds : (page_add (profile_read 1 good lent).bytes page 7 empty).code ≡ 25
  pub parse_loads : decoded (profile_parse 0 blanks lent).bytes ≡ (parse Field50InstructingParty blanks).party
  pub parse_adds : (page_add (profile_parse 0 blanks lent).bytes page 7 empty).code ≡ 21
  pub letter_loads : decoded (profile_parse_with_variant 2 twice 75 lent).bytes ≡ (parse_with_variant Field50OrderingCustomerAFK twice 75).party
  pub letter_adds : (page_add (profile_parse_with_variant 2 good 75 lent).bytes page 7 empty).code ≡ 25

pub call_witness : CallWitness
unfolding computes
call_witness = record {
  loads = ((exported_profile good lent).by_option 1).loads refl;
  adds = ((exported_profile good lent).by_option 1).adds refl page 7 empty refl refl refl;
  parse_loads = ((exported_profile blanks lent).detected 0).loads refl;
  parse_adds = ((exported_profile blanks lent).detected 0).adds refl page 7 empty refl refl refl;
  letter_loads = ((exported_profile twice lent).by_letter 2 75).loads refl;
  letter_adds = ((exported_profile good lent).by_letter 2 75).adds refl page 7 empty refl refl refl;
}
