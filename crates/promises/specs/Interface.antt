-- The numbers of the C interface and the bytes of a record, which document 01 leaves to us, each by computation: places, bounds, what is
-- tested first, and how a number is put together.
use Rattle.std.specs.Prelude.{◌≡◌, refl, true, false, List, [], ◌∷◌, map, ℕ, ◌+◌, ◌*◌, length, get_or, replicate}
use Rattle.party.specs.declared.PartyOption.{PartyOption}
use Rattle.party.specs.declared.PartyOption.TheVariants.{Field50NoOption, Field50A, Field50F, Field50K, Field50C, Field50L, Field50G, Field50H, Field59NoOption, Field59A, Field59F}
use Rattle.party.specs.declared.Text.{Text}
use Rattle.party.specs.declared.Party.{Party}
use Rattle.party.specs.Limits.{place_of, option_at}
use Rattle.party.specs.Text.{padded, text_of, four}
use Rattle.party.specs.Party.{blank, content}
use Rattle.swift_utils.specs.Bytes.{bytes, letter, small, digit, alphanumeric, signs, legal, narrow_signs, narrow}
use Rattle.swift_utils.specs.Checks.{parse_swift_chars, parse_account, bic_length, parse_bic}
use Rattle.field_utils.specs.Lines.{upto, onto, starts, lines, without_cr}
use Rattle.field_utils.specs.Trim.{white, trimmed_start, keep, trimmed_end, trimmed}
use Rattle.field_utils.specs.Identifier.{is_numbered, parse_party_identifier}
use Rattle.field_utils.specs.Names.{parse_line, parse_lines, parse_name_and_address}
use Rattle.field_utils.specs.Tags.{tag_of}
use Rattle.reader.specs.Reading.{party_of}
use Rattle.reader.specs.Options.{account_head, short_account_head, after_head, read}
use Rattle.reader.specs.declared.choices.Choice.{Choice}
use Rattle.reader.specs.declared.choices.Choice.TheVariants.{Field50InstructingParty, Field50OrderingCustomerFGH, Field50OrderingCustomerAFK, Field50OrderingCustomerNCF, Field50Creditor, Field59, Field59Debtor}
use Rattle.reader.specs.Choices.{first_that, parse, pick_of, parse_with_variant, is_picked}
use Rattle.profile.specs.Profile.{is_same, holds_bic, is_inside, lines_reply, profile_reply, profiled}
use Rattle.writer.specs.Writing.{name_lines, written_lines, joined, written_body, written_field}
use Rattle.writer.specs.Given.{is_line, are_names, is_given}
use Rattle.writer.specs.Placing.{measure}
use Rattle.page_reader.specs.Pages.{line_at, is_end, ends_page, runs, begins, tag_in, read_field, read_case, read_at, body_place}
use Rattle.page_reader.specs.Reads.{reads_from}
use Rattle.page_reader.specs.Index.{entries_in, entries_of, field_at, look_up}
use Rattle.page_writer.specs.IndexState.{no_index}
use Rattle.page_writer.specs.Adding.{writable, close}
use Rattle.page_writer.specs.Fold.{run}
use Rattle.kept.specs.Kept.{has_cr_lf, ends_lf, causes_of, kept_of}
use Rattle.record_bytes.specs.RecordBytes.{encoded_texts, encoded, stored, text_at, holds_record, party_from, decoded}
use Rattle.yewdome.specs.Interface.{choice_at, party_read, party_parse, party_parse_with_variant, profile_read, profile_parse, profile_parse_with_variant, party_measure, page_read, page_look_up, page_body, page_add, kept_read_code, kept_parse_code, kept_variant_code, page_kept, page_answers, page_file}
use Rattle.promises.specs.Starred.{gives}
use Rattle.promises.specs.Pages.{long_page}
use Rattle.promises.specs.OperationsReaders.{lent}

-- the options and the choices, in the order of document 01
abbrev eleven : List PartyOption
eleven =
    Field50NoOption ∷ Field50A ∷ Field50F ∷ Field50K ∷ Field50C ∷ Field50L ∷ Field50G ∷ Field50H ∷ Field59NoOption ∷ Field59A ∷
    Field59F ∷ []

abbrev seven : List Choice
seven =
    Field50InstructingParty ∷ Field50OrderingCustomerFGH ∷ Field50OrderingCustomerAFK ∷ Field50OrderingCustomerNCF ∷ Field50Creditor ∷ Field59 ∷ Field59Debtor ∷ []

-- the places, and the bounds of those that there are, else 41
pub record InterfacePlaces : Type 0 where
  pub place_of_each_option : map place_of eleven ≡ 0 ∷ 1 ∷ 2 ∷ 3 ∷ 4 ∷ 5 ∷ 6 ∷ 7 ∷ 8 ∷ 9 ∷ 10 ∷ []
  pub option_at_each_place : map option_at (0 ∷ 1 ∷ 2 ∷ 3 ∷ 4 ∷ 5 ∷ 6 ∷ 7 ∷ 8 ∷ 9 ∷ 10 ∷ []) ≡ eleven
  pub choice_at_each_place : map choice_at (0 ∷ 1 ∷ 2 ∷ 3 ∷ 4 ∷ 5 ∷ 6 ∷ []) ≡ seven
  -- 10 is an option, 11 is none
  pub read_has_10 : (party_read 10 (bytes "1/A") lent).code ≡ 0
  pub profile_read_has_10 : (profile_read 10 (bytes "1/A") lent).code ≡ 0
  pub profile_read_has_no_11 : (profile_read 11 (bytes "1/A") lent).code ≡ 41 * 65536
  pub kept_read_has_10 : kept_read_code 10 (bytes "1/A") ≡ 0
  pub measure_has_10 : party_measure (encoded (gives Field59F false [] [] (bytes "1/A" ∷ [])).party) ≡ 8
  -- 6 is a choice, 7 is none
  pub parse_has_6 : (party_parse 6 (bytes "A") lent).code ≡ 0
  pub parse_has_no_7 : (party_parse 7 (bytes "A") lent).code ≡ 41 * 65536
  pub variant_has_6 : (party_parse_with_variant 6 (bytes "A") 0 lent).code ≡ 0
  pub variant_has_no_7 : (party_parse_with_variant 7 (bytes "A") 0 lent).code ≡ 41 * 65536
  pub profile_parse_has_6 : (profile_parse 6 (bytes "A") lent).code ≡ 0
  pub profile_parse_has_no_7 : (profile_parse 7 (bytes "A") lent).code ≡ 41 * 65536
  pub profile_variant_has_6 : (profile_parse_with_variant 6 (bytes "A") 0 lent).code ≡ 0
  pub profile_variant_has_no_7 : (profile_parse_with_variant 7 (bytes "A") 0 lent).code ≡ 41 * 65536
  pub kept_parse_has_6 : kept_parse_code 6 (bytes "A") ≡ 0
  pub kept_parse_has_no_7 : kept_parse_code 7 (bytes "A") ≡ 41 * 65536
  pub kept_variant_has_6 : kept_variant_code 6 (bytes "A") 0 ≡ 0

pub interface_places : InterfacePlaces
unfolding padded text_of content letter small digit alphanumeric signs legal narrow_signs narrow parse_swift_chars parse_account bic_length parse_bic upto onto starts lines white trimmed_start keep trimmed_end trimmed is_numbered parse_party_identifier parse_line parse_lines parse_name_and_address four party_of account_head short_account_head after_head read first_that parse pick_of parse_with_variant is_picked is_same holds_bic is_inside lines_reply profile_reply profiled name_lines written_lines joined written_body written_field is_line are_names is_given measure tag_of has_cr_lf ends_lf causes_of kept_of encoded_texts encoded stored option_at text_at holds_record party_from decoded
interface_places = record {
  place_of_each_option = refl;
  option_at_each_place = refl;
  choice_at_each_place = refl;
  read_has_10 = refl;
  profile_read_has_10 = refl;
  profile_read_has_no_11 = refl;
  kept_read_has_10 = refl;
  measure_has_10 = refl;
  parse_has_6 = refl;
  parse_has_no_7 = refl;
  variant_has_6 = refl;
  variant_has_no_7 = refl;
  profile_parse_has_6 = refl;
  profile_parse_has_no_7 = refl;
  profile_variant_has_6 = refl;
  profile_variant_has_no_7 = refl;
  kept_parse_has_6 = refl;
  kept_parse_has_no_7 = refl;
  kept_variant_has_6 = refl;
}

-- a page of a field that is refused with 3, line 2
abbrev illegal : List ℕ
illegal = bytes ":50K:A\n~\n-\n"

-- the interface's own refusals come first, 42 before 41; and how a number has a refusal, its line and a count
pub record InterfaceNumbers : Type 0 where
  -- 240 bytes are too few for a record, and no byte of them changes
  pub read_in_240 : party_read 3 (bytes "A") (replicate 240 7) ≡ record { code = 42 * 65536; bytes = replicate 240 7 }
  pub page_read_in_240 : page_read (bytes ":50K:A\n-\n") 0 (replicate 240 7) ≡ record { code = 42 * 65536 * 4294967296; bytes = replicate 240 7 }
  -- 42 before 41, and either before a page's 21, a letter's 14 and a body's 12
  pub record_before_option : (party_read 11 (bytes "A") []).code ≡ 42 * 65536
  pub record_before_position : (page_add [] (bytes "ab") 1 no_index).code ≡ 42 * 65536
  pub record_before_read : (page_read (bytes "X") 5 []).code ≡ 42 * 65536 * 4294967296
  pub option_before_position : (page_add (11 ∷ replicate 240 0) (bytes "ab") 1 no_index).code ≡ 41 * 65536
  pub choice_before_letter : (party_parse_with_variant 7 (bytes "A") 97 lent).code ≡ 41 * 65536
  pub option_before_body : (party_read 11 (replicate 2049 65) lent).code ≡ 41 * 65536
  -- 43 before a page's 18
  pub answers_before_page : (page_answers (replicate 32769 0) []).code ≡ 43 * 65536
  -- a page's refusal with its line, and how far it moved
  pub read_tells_line_and_move : (page_read illegal 0 lent).code ≡ (3 * 65536 + 2) * 4294967296 + 9
  pub look_up_tells_line_and_move : (page_look_up illegal (1 ∷ 3 ∷ 0 ∷ 8 ∷ replicate 765 0) 1 lent).code ≡ (3 * 65536 + 2) * 4294967296 + 9
  pub kept_tells_line_and_move : page_kept illegal 0 ≡ (3 * 65536 + 2) * 4294967296 + 9
  -- the number of answers stands beside a refusal to close
  pub file_tells_the_closing : (page_file (bytes "-\n") (bytes "a") (replicate 3 7)).code ≡ 1 * 4294967296 + 24 * 65536
  -- no body: a stray line, within it, the end line, the length, past it; a page that is too long
  pub no_body_is_0 : map (page_body (bytes "X\n-\n")) (0 ∷ 1 ∷ 2 ∷ 4 ∷ 5 ∷ []) ≡ replicate 5 0
  pub no_body_of_32769 : map (page_body (long_page 32760)) (0 ∷ 7 ∷ []) ≡ replicate 2 0

pub interface_numbers : InterfaceNumbers
unfolding padded text_of letter digit alphanumeric signs legal parse_swift_chars parse_account upto onto starts lines without_cr parse_line parse_lines parse_name_and_address four party_of account_head after_head read tag_of line_at is_end ends_page runs begins tag_in read_field read_case read_at body_place reads_from entries_in entries_of field_at look_up writable close run option_at
interface_numbers = record {
  read_in_240 = refl;
  page_read_in_240 = refl;
  record_before_option = refl;
  record_before_position = refl;
  record_before_read = refl;
  option_before_position = refl;
  choice_before_letter = refl;
  option_before_body = refl;
  answers_before_page = refl;
  read_tells_line_and_move = refl;
  look_up_tells_line_and_move = refl;
  kept_tells_line_and_move = refl;
  file_tells_the_closing = refl;
  no_body_is_0 = refl;
  no_body_of_32769 = refl;
}

-- a record whose texts have 1 to 6 bytes
abbrev six_texts : Party
six_texts = record {
  option = Field50A;
  present = true;
  account = text_of (bytes "A");
  bic = text_of (bytes "BB");
  count = 4;
  name_and_address = text_of (bytes "CCC") ∷ text_of (bytes "DDDD") ∷ text_of (bytes "EEEEE") ∷ text_of (bytes "FFFFFF") ∷ [];
  digits = bytes "1234";
}

-- one whose count and account have a number that no byte holds
abbrev too_many : Party
too_many =
    let none = text_of [] in
    let long : Text = record { bytes = replicate 38 0; len = 256 } in
    record {
      option = Field50NoOption;
      present = false;
      account = long;
      bic = none;
      count = 256;
      name_and_address = none ∷ none ∷ none ∷ none ∷ [];
      digits = replicate 4 0;
    }

-- the bytes of a record
pub record RecordBytes : Type 0 where
  pub has_241 : length (encoded six_texts) ≡ 241
  -- option, presence, count; account, BIC and four names, each a length and its bytes; digits
  pub in_their_order : map (λ (i : ℕ). get_or (encoded six_texts) i 0) (0 ∷ 1 ∷ 2 ∷ 3 ∷ 4 ∷ 42 ∷ 43 ∷ 81 ∷ 82 ∷ 120 ∷ 121 ∷ 159 ∷ 160 ∷ 198 ∷ 199 ∷ 237 ∷ 240 ∷ [])
      ≡ 1 ∷ 1 ∷ 4 ∷ 1 ∷ 65 ∷ 2 ∷ 66 ∷ 3 ∷ 67 ∷ 4 ∷ 68 ∷ 5 ∷ 69 ∷ 6 ∷ 70 ∷ 49 ∷ 52 ∷ []
  -- a number above 255 is 255
  pub above_255_is_255 : map (λ (i : ℕ). get_or (encoded too_many) i 0) (2 ∷ 3 ∷ []) ≡ 255 ∷ 255 ∷ []
  -- the blank record is zeros
  pub blank_is_zeros : encoded blank ≡ replicate 241 0
  -- place 10 and presence 1 are bytes of a record; place 11 is not, nor are 240 bytes, in which none is stored
  pub has_place_10 : holds_record (10 ∷ 1 ∷ replicate 239 0) ≡ true
  pub has_no_place_11 : holds_record (11 ∷ replicate 240 0) ≡ false
  pub has_no_less_than_241 : holds_record (replicate 240 0) ≡ false
  pub stores_in_no_less : stored six_texts (replicate 240 7) ≡ replicate 240 7

pub record_bytes_lem : RecordBytes
unfolding padded text_of encoded_texts encoded stored holds_record
record_bytes_lem = record {
  has_241 = refl;
  in_their_order = refl;
  above_255_is_255 = refl;
  blank_is_zeros = refl;
  has_place_10 = refl;
  has_no_place_11 = refl;
  has_no_less_than_241 = refl;
  stores_in_no_less = refl;
}
