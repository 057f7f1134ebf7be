-- The network profile by computation (document 02, Five): each rule at the first line where it can be broken and at a later one, and wrong
-- programs that the definitions rule out: there a field is named after the fact, and its comment says what a wrong program would do.
use Rattle.std.specs.Prelude.{◌≡◌, refl, true, false, List, [], ◌∷◌, ℕ, ◌+◌, ◌*◌, get_or, replicate}
use Rattle.errors.specs.Refusals.{Reply, accepted, refused}
use Rattle.party.specs.declared.PartyOption.TheVariants.{Field50NoOption, Field50A, Field50F, Field50K, Field50C, Field50G, Field59A, Field59F}
use Rattle.party.specs.Limits.{place_of, option_at}
use Rattle.party.specs.Text.{padded, text_of, four}
use Rattle.party.specs.Party.{content}
use Rattle.swift_utils.specs.Bytes.{bytes, all, letter, small, digit, alphanumeric, signs, legal, narrow_signs, narrow}
use Rattle.swift_utils.specs.Checks.{parse_swift_chars, parse_account, bic_length, parse_bic}
use Rattle.field_utils.specs.Lines.{upto, onto, starts, lines, without_cr}
use Rattle.field_utils.specs.Trim.{white, trimmed_start, keep, trimmed_end, trimmed}
use Rattle.field_utils.specs.Identifier.{is_numbered, second_slash, identifier_reply, parse_party_identifier}
use Rattle.field_utils.specs.Names.{parse_line, parse_lines, parse_name_and_address}
use Rattle.field_utils.specs.Tags.{tag_of}
use Rattle.reader.specs.Reading.{Reading, party_of}
use Rattle.reader.specs.Options.{account_head, short_account_head, after_head, read}
use Rattle.reader.specs.declared.choices.Choice.TheVariants.{Field50InstructingParty, Field50OrderingCustomerAFK, Field50Creditor}
use Rattle.reader.specs.Detection.{any_numbered, first_line, last_line, bic_like, test_line}
use Rattle.reader.specs.Choices.{first_that, parse, pick_of, parse_with_variant}
use Rattle.profile.specs.Profile.{is_same, holds_bic, is_inside, lines_reply, profile_reply, profiled, read_profiled, parse_profiled, parse_with_variant_profiled}
use Rattle.writer.specs.Writing.{name_lines, written_lines, joined, written_body, written_field, pieces}
use Rattle.writer.specs.Given.{is_line, are_names, is_given}
use Rattle.writer.specs.ReadBack.{ends_cr, last_empty}
use Rattle.page_reader.specs.Pages.{is_end, ends_page}
use Rattle.page_writer.specs.Adding.{any_line, later_boundary, is_carried, asked, record_reply}
use Rattle.record_bytes.specs.RecordBytes.{record_size, encoded_texts, encoded, stored}
use Rattle.yewdome.specs.Interface.{profile_read, profile_parse, profile_parse_with_variant}
use Rattle.promises.specs.Starred.{gives, at_position}
use Rattle.promises.specs.RuledOut.{As}

-- each rule, where it is broken at its first line and at a later one
pub record ProfileRules : Type 0 where
  -- only letters, digits, space and `/-?:().,'+`; all of these pass, and `narrow_73` counts no others
  pub set_first : (read_profiled Field50K (bytes "A&B")).reply ≡ refused 32 1
  pub set_later : (read_profiled Field50K (bytes "A\nB\nC&")).reply ≡ refused 32 3
  pub set_all : (read_profiled Field50K (bytes "Az09 /-?:().,'+")).reply ≡ accepted
  pub set_whole : all narrow (bytes "ABCDEFGHIJKLMNOPQRSTUVWXYZabcdefghijklmnopqrstuvwxyz0123456789 /-?:().,'+") ≡ true
  -- a CR that stays in a line is outside, one just before an LF is not
  pub cr_first_lem : (read_profiled Field50K (bytes "A\rB")).reply ≡ refused 32 1
  pub cr_later : (read_profiled Field50K (bytes "A\nB\r")).reply ≡ refused 32 2
  pub cr_lf_lem : (read_profiled Field50K (bytes "A\r\nB")).reply ≡ accepted
  -- BIC letters are capitals
  pub capitals_first : (read_profiled Field50C (bytes "DEUTDEFf")).reply ≡ refused 32 1
  pub capitals_later : (read_profiled Field50G (bytes "/1\ndEUTDEFF")).reply ≡ refused 32 2
  -- small letters are those from a to z, and no others
  pub capitals_a : (read_profiled Field50C (bytes "DEUTDEFa")).reply ≡ refused 32 1
  pub capitals_z : (read_profiled Field50C (bytes "DEUTDEFz")).reply ≡ refused 32 1
  pub capitals_all : (read_profiled Field50C (bytes "AZAZAZ09")).reply ≡ accepted
  -- no line after the BIC: it can be broken from line 2 on
  pub after_first : (read_profiled Field50A (bytes "DEUTDEFF\nA")).reply ≡ refused 32 2
  pub after_later : (read_profiled Field59A (bytes "/1\nDEUTDEFF\nA")).reply ≡ refused 32 3
  -- no empty line
  pub empty_first : (read_profiled Field50K (bytes "\nA")).reply ≡ refused 32 1
  pub empty_later : (read_profiled Field50K (bytes "A\n\nB")).reply ≡ refused 32 2
  pub empty_last_lem : (read_profiled Field50K (bytes "A\nB\n\n")).reply ≡ refused 32 3
  -- no line after the first starts with `:` or `-`: it can be broken from line 2 on
  pub colon_first : (read_profiled Field50K (bytes "A\n:B")).reply ≡ refused 32 2
  pub colon_later : (read_profiled Field50K (bytes "A\nB\n:")).reply ≡ refused 32 3
  pub hyphen_first : (read_profiled Field50K (bytes "A\n-B")).reply ≡ refused 32 2
  pub hyphen_later : (read_profiled Field50K (bytes "A\nB\n-")).reply ≡ refused 32 3
  -- two rules broken at once, in both orders: the first line wins
  pub two_rules : (read_profiled Field50K (bytes "A\n\nB&")).reply ≡ refused 32 2
  pub two_lines : (read_profiled Field50K (bytes "A&\n:B")).reply ≡ refused 32 1
  -- a body that the ordinary reading refuses: that refusal stands
  pub stands_3 : (read_profiled Field50K (bytes "A&\nB~")).reply ≡ refused 3 2
  pub stands_11 : (parse_profiled Field50Creditor []).reply ≡ refused 11 0
  pub stands_12 : (parse_profiled Field50Creditor (replicate 2049 10)).reply ≡ refused 12 0
  pub stands_13 : (read_profiled Field50K (200 ∷ [])).reply ≡ refused 13 0
  pub stands_14 : (parse_with_variant_profiled Field50OrderingCustomerAFK (bytes "A&") 107).reply ≡ refused 14 0
  -- what passes is the record that the ordinary reading gives
  pub passes : read_profiled Field50A (bytes "/1\nDEUTDEFF") ≡ gives Field50A true (bytes "1") (bytes "DEUTDEFF") []

pub profile_rules : ProfileRules
unfolding padded text_of letter small digit alphanumeric signs legal narrow_signs narrow parse_swift_chars parse_account bic_length parse_bic upto onto starts lines white trimmed_start keep trimmed_end trimmed is_numbered second_slash identifier_reply parse_party_identifier parse_line parse_lines parse_name_and_address four party_of account_head short_account_head after_head read any_numbered first_line last_line bic_like first_that pick_of test_line parse parse_with_variant is_same holds_bic is_inside lines_reply profile_reply profiled
profile_rules = record {
  set_first = refl;
  set_later = refl;
  set_all = refl;
  set_whole = refl;
  cr_first_lem = refl;
  cr_later = refl;
  cr_lf_lem = refl;
  capitals_first = refl;
  capitals_later = refl;
  capitals_a = refl;
  capitals_z = refl;
  capitals_all = refl;
  after_first = refl;
  after_later = refl;
  empty_first = refl;
  empty_later = refl;
  empty_last_lem = refl;
  colon_first = refl;
  colon_later = refl;
  hyphen_first = refl;
  hyphen_later = refl;
  two_rules = refl;
  two_lines = refl;
  stands_3 = refl;
  stands_11 = refl;
  stands_12 = refl;
  stands_13 = refl;
  stands_14 = refl;
  passes = refl;
}

-- a body that `Field50InstructingParty` trims, and where its BIC stands as it came
pub record ProfileTrimmed : Type 0 where
  -- a blank line of spaces before the BIC's line passes, one after it is a line after the BIC
  pub before : As (parse_profiled Field50InstructingParty (bytes " \n  \n DEUTDEFF")) Field50C
  pub after : (parse_profiled Field50InstructingParty (bytes " \nDEUTDEFF \n ")).reply ≡ refused 32 3
  -- what else is trimmed is outside the set, or an empty line
  pub tab : (parse_profiled Field50InstructingParty (bytes "\tDEUTDEFF")).reply ≡ refused 32 1
  pub cr : (parse_profiled Field50InstructingParty (bytes " \nDEUTDEFF\r")).reply ≡ refused 32 2
  pub empty : (parse_profiled Field50InstructingParty (bytes "\nDEUTDEFF")).reply ≡ refused 32 1
  pub last : As (parse_profiled Field50InstructingParty (bytes "DEUTDEFF\n")) Field50C
  pub capitals : (parse_profiled Field50InstructingParty (bytes " \n DEUTDEFf")).reply ≡ refused 32 2

-- wrong programs
pub record ProfileRuledOut : Type 0 where
  -- tests the trimmed body: there no line follows the BIC
  pub tests_the_untrimmed : (parse_profiled Field50InstructingParty (bytes "DEUTDEFF\n ")).reply ≡ refused 32 2
  pub trimmed_passes : (profiled (parse Field50InstructingParty (bytes "DEUTDEFF\n ")) (trimmed (bytes "DEUTDEFF\n "))).reply ≡ accepted
  -- tests before the reading: then 32, line 1, would come before 3, line 2
  pub reading_comes_first : (read_profiled Field50NoOption (bytes "A&\nB~")).reply ≡ refused 3 2
  -- names the last line at fault
  pub first_line_is_told : (read_profiled Field50NoOption (bytes "A&\nB&")).reply ≡ refused 32 1
  -- refuses `-` or `:` at the first line's start
  pub first_hyphen_passes : (read_profiled Field50K (bytes "-A\nB")).reply ≡ accepted
  pub first_colon_passes : (read_profiled Field50K (bytes ":A\nB")).reply ≡ accepted
  -- refuses small letters outside the BIC
  pub small_name_passes : (read_profiled Field50F (bytes "a\n1/b")).reply ≡ accepted
  pub small_account_passes : (read_profiled Field50A (bytes "/a\nDEUTDEFF")).reply ≡ accepted
  -- filters the options that are tried, and so reads the body as another: K would pass, but A is what is detected
  pub tries_no_other : (parse_profiled Field50OrderingCustomerAFK (bytes "JOHNDOES\nSTREETAB")).reply ≡ refused 32 2
  -- detects though a letter picks
  pub letter_picks : As (parse_with_variant_profiled Field50OrderingCustomerAFK (bytes "JOHNDOES\nSTREETAB") 75) Field50K
  -- takes a text for a BIC by its form: JOHNDOES is a name here, and a line may follow it
  pub name_like_a_bic_passes : As (read_profiled Field50K (bytes "johndoes\nSTREETAB")) Field50K

pub profile_trimmed : ProfileTrimmed
unfolding padded text_of letter small digit alphanumeric signs legal narrow_signs narrow parse_swift_chars parse_account bic_length parse_bic upto onto starts lines white trimmed_start keep trimmed_end trimmed is_numbered parse_line parse_lines parse_name_and_address four party_of read any_numbered first_line last_line bic_like first_that pick_of test_line parse parse_with_variant is_same holds_bic is_inside lines_reply profile_reply profiled
profile_trimmed = record { before = (refl, refl); after = refl; tab = refl; cr = refl; empty = refl; last = (refl, refl); capitals = refl }

pub profile_ruled_out : ProfileRuledOut
unfolding padded text_of letter small digit alphanumeric signs legal narrow_signs narrow parse_swift_chars parse_account bic_length parse_bic upto onto starts lines white trimmed_start keep trimmed_end trimmed is_numbered second_slash identifier_reply parse_party_identifier parse_line parse_lines parse_name_and_address four party_of account_head short_account_head after_head read any_numbered first_line last_line bic_like first_that pick_of test_line parse parse_with_variant is_same holds_bic is_inside lines_reply profile_reply profiled
profile_ruled_out = record {
  tests_the_untrimmed = refl;
  trimmed_passes = refl;
  reading_comes_first = refl;
  first_line_is_told = refl;
  first_hyphen_passes = refl;
  first_colon_passes = refl;
  small_name_passes = refl;
  small_account_passes = refl;
  tries_no_other = refl;
  letter_picks = (refl, refl);
  name_like_a_bic_passes = (refl, refl);
}

-- ---- what the promise of pages needs
-- what a page of 40 bytes says of a reading's record
abbrev filed : Reading → Reply
filed r = record_reply 40 false (at_position 0) (content r.party)

pub record ProfileNeeded : Type 0 where
  -- no exception: 59F with an identifier is taken under the profile, and a page carries it as it does one without
  pub taken_59F : As (read_profiled Field59F (bytes "/1\n1/A")) Field59F
  pub filed_59F : filed (read_profiled Field59F (bytes "/1\n1/A")) ≡ accepted
  pub bare_59F : filed (read_profiled Field59F (bytes "1/A")) ≡ accepted
  -- what the ordinary reading accepts and no page carries: each breaks one rule of the profile
  pub cr : filed (read Field50K (bytes "A\r")) ≡ refused 23 0
  pub empty : filed (read Field50K (bytes "A\n\n")) ≡ refused 23 0
  pub colon : filed (read Field50K (bytes "A\n:B")) ≡ refused 23 0
  pub hyphen : filed (read Field50K (bytes "A\n-")) ≡ refused 23 0

pub profile_needed : ProfileNeeded
unfolding padded text_of content letter small digit alphanumeric signs legal narrow_signs narrow parse_swift_chars parse_account upto onto starts lines without_cr is_numbered second_slash identifier_reply parse_party_identifier parse_line parse_lines parse_name_and_address four party_of account_head after_head read holds_bic is_inside lines_reply profile_reply profiled name_lines written_lines joined written_body written_field pieces is_line are_names is_given ends_cr last_empty is_end ends_page any_line later_boundary is_carried asked record_reply tag_of
profile_needed = record { taken_59F = (refl, refl); filed_59F = refl; bare_59F = refl; cr = refl; empty = refl; colon = refl; hyphen = refl }

-- ---- for C
-- a lent record
abbrev lent : List ℕ
lent = replicate record_size 7

pub record ProfileCalls : Type 0 where
  -- gives 32 without its line
  pub read_tells_the_line : (profile_read (place_of Field50K) (bytes "A\nB&") lent).code ≡ 32 * 65536 + 2
  -- stores the record that it refuses with 32
  pub read_leaves_bytes_at_a_refusal : (profile_read (place_of Field50K) (bytes "A\nB&") lent).bytes ≡ lent
  -- leaves the profile out
  pub parse_tells_32 : (profile_parse 2 (bytes "JOHNDOES\nSTREETAB") lent).code ≡ 32 * 65536 + 2
  -- tests 32 before 41 and 42
  pub parse_tests_42_first : (profile_parse 7 (bytes "&") []).code ≡ 42 * 65536
  -- tests 32 before 14
  pub variant_tests_14_first : (profile_parse_with_variant 2 (bytes "&") 107 lent).code ≡ 14 * 65536
  -- detects though a letter picks, and so refuses
  pub variant_by_k_picks : get_or (profile_parse_with_variant 2 (bytes "JOHNDOES\nSTREETAB") 75 lent).bytes 0 0 ≡ place_of Field50K

pub profile_calls : ProfileCalls
unfolding padded text_of letter small digit alphanumeric signs legal narrow_signs narrow parse_swift_chars parse_account bic_length parse_bic upto onto starts lines white trimmed_start keep trimmed_end trimmed is_numbered second_slash identifier_reply parse_party_identifier parse_line parse_lines parse_name_and_address four party_of account_head short_account_head after_head read any_numbered first_line last_line bic_like first_that pick_of test_line parse parse_with_variant is_same holds_bic is_inside lines_reply profile_reply profiled option_at encoded_texts encoded stored
profile_calls = record {
  read_tells_the_line = refl;
  read_leaves_bytes_at_a_refusal = refl;
  parse_tells_32 = refl;
  parse_tests_42_first = refl;
  variant_tests_14_first = refl;
  variant_by_k_picks = refl;
}
