-- The smallest input of each cause by which a field is filed as other bytes than came, and wrong programs that are ruled out, each by
-- computation.
use Rattle.std.specs.Prelude.{◌≡◌, refl, true, false, List, [], ◌∷◌, ◌++◌, ℕ, ◌+◌, ◌*◌, replicate}
use Rattle.errors.specs.Refusals.{accepted, refused}
use Rattle.party.specs.declared.PartyOption.TheVariants.{Field50NoOption, Field50A, Field50K, Field50L, Field59A, Field59F}
use Rattle.party.specs.Limits.{option_at}
use Rattle.party.specs.Text.{padded, text_of, four}
use Rattle.party.specs.Party.{content}
use Rattle.swift_utils.specs.Bytes.{bytes, letter, digit, alphanumeric, signs, legal}
use Rattle.swift_utils.specs.Checks.{parse_swift_chars, parse_account, bic_length, parse_bic}
use Rattle.field_utils.specs.Lines.{onto, upto, starts, lines, without_cr}
use Rattle.field_utils.specs.Trim.{white, trimmed_start, keep, trimmed_end, trimmed}
use Rattle.field_utils.specs.Identifier.{is_numbered, second_slash, identifier_reply, parse_party_identifier}
use Rattle.field_utils.specs.Names.{parse_line, parse_lines, parse_name_and_address}
use Rattle.field_utils.specs.Tags.{tag_of}
use Rattle.reader.specs.Reading.{party_of}
use Rattle.reader.specs.Options.{account_head, short_account_head, after_head, read}
use Rattle.reader.specs.declared.choices.Choice.TheVariants.{Field50InstructingParty, Field50OrderingCustomerAFK}
use Rattle.reader.specs.Detection.{any_numbered, first_line, last_line, bic_like, test_line}
use Rattle.reader.specs.Choices.{tried_text, first_that, parse, pick_of, parse_with_variant, is_picked, read_text}
use Rattle.writer.specs.Writing.{name_lines, written_lines, joined, written_body, written_field, pieces}
use Rattle.writer.specs.Given.{is_line, are_names, is_given}
use Rattle.writer.specs.ReadBack.{ends_cr, last_empty}
use Rattle.page_reader.specs.Pages.{line_at, is_end, ends_page, runs, begins, tag_in, read_field, read_case, read_at, body_place}
use Rattle.page_reader.specs.Reads.{reads_from, reads}
use Rattle.page_writer.specs.Adding.{any_line, later_boundary, is_carried, writable, asked, record_reply, add_reply, add, add_index, close}
use Rattle.page_writer.specs.Fold.{run}
use Rattle.kept.specs.declared.Causes.{Causes}
use Rattle.kept.specs.Kept.{has_cr_lf, ends_lf, causes_of, no_causes, Kept, kept_of, kept_read, kept_parse, kept_parse_with_variant, is_kept}
use Rattle.kept.specs.Fields.{came_at, field_causes}
use Rattle.yewdome.specs.Interface.{kept_read_code, kept_parse_code, kept_variant_code, page_kept, file_numbers, page_file}
use Rattle.yewdome.specs.KeptPage.{are_kept, from_opening, last_at, party_lines, are_plain, answers_from}

-- what is told of a body that is accepted
abbrev told : Causes → Kept
told c = record { reply = accepted; causes = c }

-- one cause alone
abbrev inner_cr : Causes
inner_cr = record { inner_cr = true; last_lf = false; after_bic = false; blanks = false; closing_cr = false }

abbrev last_lf : Causes
last_lf = record { inner_cr = false; last_lf = true; after_bic = false; blanks = false; closing_cr = false }

abbrev after_bic : Causes
after_bic = record { inner_cr = false; last_lf = false; after_bic = true; blanks = false; closing_cr = false }

abbrev blanks_alone : Causes
blanks_alone = record { inner_cr = false; last_lf = false; after_bic = false; blanks = true; closing_cr = false }

abbrev closing_cr : Causes
closing_cr = record { inner_cr = false; last_lf = false; after_bic = false; blanks = false; closing_cr = true }

-- the smallest input at which each cause stands alone, and what is written of it
pub record KeptSmallest : Type 0 where
  pub inner_cr_lem : kept_read Field50NoOption (bytes "\r\nA") ≡ told inner_cr
  pub inner_cr_written : written_body (content (read Field50NoOption (bytes "\r\nA")).party) ≡ bytes "\nA"
  pub last_lf_lem : kept_read Field50NoOption (bytes "\n") ≡ told last_lf
  pub last_lf_written : written_body (content (read Field50NoOption (bytes "\n")).party) ≡ []
  pub after_bic_lem : kept_read Field50A (bytes "ABCDEFGH\nX") ≡ told after_bic
  pub after_bic_written : written_body (content (read Field50A (bytes "ABCDEFGH\nX")).party) ≡ bytes "ABCDEFGH"
  pub blanks : kept_parse Field50InstructingParty (bytes " A") ≡ told blanks_alone
  pub blanks_written : written_body (content (parse Field50InstructingParty (bytes " A")).party) ≡ bytes "A"
  pub closing_cr_lem : page_kept (bytes ":50:A\r\n") 0 ≡ 16 * 131072 + 7
  pub closing_cr_came : came_at (bytes ":50:A\r\n") 0 ≡ bytes ":50:A\r"
  -- all that can stand together
  pub together : kept_read Field59A (bytes "/\r\nABCDEFGH\nX\n") ≡ told (record { inner_cr = true; last_lf = true; after_bic = true; blanks = false; closing_cr = false })
  -- as numbers, on a page
  pub told_apart : page_kept (bytes ":50:A\r\nB\n") 0 ≡ 1 * 131072 + 9
  pub told_apart_2 : page_kept (bytes ":50:A\n\n-\n") 0 ≡ 2 * 131072 + 7
  -- and none; a body with one is not kept, and neither is one that is refused
  pub none : is_kept Field50K (bytes "/12\nACME\nBERLIN") ≡ true
  pub one : is_kept Field50K (bytes "ACME\n") ≡ false
  pub refused_body : is_kept Field59A (bytes "A") ≡ false

pub kept_smallest : KeptSmallest
unfolding padded text_of content letter digit alphanumeric signs legal parse_swift_chars parse_account bic_length parse_bic upto onto starts lines white trimmed_start keep trimmed_end trimmed is_numbered second_slash identifier_reply parse_party_identifier parse_line parse_lines parse_name_and_address four party_of account_head short_account_head after_head read any_numbered first_line last_line bic_like first_that test_line name_lines written_lines joined written_body without_cr line_at is_end ends_page runs begins tag_in read_field read_case read_at body_place parse tag_of has_cr_lf ends_lf causes_of kept_of
kept_smallest = record {
  inner_cr_lem = refl;
  inner_cr_written = refl;
  last_lf_lem = refl;
  last_lf_written = refl;
  after_bic_lem = refl;
  after_bic_written = refl;
  blanks = refl;
  blanks_written = refl;
  closing_cr_lem = refl;
  closing_cr_came = refl;
  together = refl;
  told_apart = refl;
  told_apart_2 = refl;
  none = refl;
  one = refl;
  refused_body = refl;
}

-- wrong programs: a field is named after its operation and the fact, and its comment says what a wrong program would do
pub record KeptRuledOut : Type 0 where
  -- what is tried: trims in every choice, or at the start alone
  pub tried_text_of_afk_keeps_spaces : tried_text Field50OrderingCustomerAFK (bytes " A ") ≡ bytes " A "
  pub tried_text_trims_both_ends : tried_text Field50InstructingParty (bytes "\t A \n") ≡ bytes "A"
  -- by a letter: trims though the letter picks, or does not where it detects
  pub read_text_by_l_keeps_spaces : read_text Field50InstructingParty (bytes " A") 76 ≡ bytes " A"
  pub read_text_by_k_trims : read_text Field50InstructingParty (bytes " A") 75 ≡ bytes "A"
  -- an option's: takes any CR for one that is dropped, any LF for a last one, or any second line for one after a BIC
  pub read_of_other_crs_has_no_cause : kept_read Field50L (bytes "A\rB\r") ≡ told no_causes
  pub read_of_an_inner_lf_has_no_cause : kept_read Field50K (bytes "A\nB") ≡ told no_causes
  pub read_of_a_last_bic_has_no_cause : kept_read Field50A (bytes "/1\nABCDEFGH") ≡ told no_causes
  -- or tells causes of a body that is refused
  pub read_of_a_refusal_has_no_cause : kept_read Field59F (bytes "2/A\n") ≡ record { reply = refused 6 1; causes = no_causes }
  -- a choice's: tells blanks where nothing is trimmed, or looks for them in what is left
  pub parse_of_afk_has_no_blanks : kept_parse Field50OrderingCustomerAFK (bytes " A") ≡ told no_causes
  pub parse_of_an_inner_blank_has_no_cause : kept_parse Field50InstructingParty (bytes "A B") ≡ told no_causes
  -- by a letter: tells blanks though the letter picks, or none though it detects
  pub variant_by_l_has_no_blanks : kept_parse_with_variant Field50InstructingParty (bytes " A") 76 ≡ told no_causes
  pub variant_by_k_has_blanks : kept_parse_with_variant Field50InstructingParty (bytes " A") 75 ≡ told blanks_alone
  -- a page's field: takes a CR that no LF follows for one, or leaves the CR of CR LF out
  pub field_of_an_open_cr_has_no_cause : field_causes Field50L true (bytes ":50L:A\r") 0 ≡ no_causes
  pub field_of_cr_lf_has_closing_cr : field_causes Field50K false (bytes ":50K:A\r\n-\n") 0 ≡ closing_cr
  -- or tells one where no field is, or none with a known tag
  pub field_of_a_stray_line_has_no_cause : field_causes Field50K false (bytes "\r") 0 ≡ no_causes
  pub field_of_an_unknown_tag_has_no_cause : field_causes Field50K false (bytes "\r\n:5:A\r\n-\n") 2 ≡ no_causes
  -- for C, an option's: reads by the first option where there is none, or tells causes for a refusal
  pub kept_read_of_11_is_41 : kept_read_code 11 (bytes "A") ≡ 41 * 65536
  pub kept_read_tells_6 : kept_read_code 10 (bytes "2/A\n") ≡ 6 * 65536 + 1
  -- a choice's: counts the choices from 1, or gives 0 where no option accepts
  pub kept_parse_counts_from_0 : kept_parse_code 0 (bytes " A") ≡ 8
  pub kept_parse_tells_11 : kept_parse_code 4 [] ≡ 11 * 65536
  -- by a letter: tests 14 before 41, or detects though the letter picks
  pub kept_variant_tests_41_first : kept_variant_code 7 (bytes "A") 48 ≡ 41 * 65536
  pub kept_variant_by_l_picks : kept_variant_code 0 (bytes " A") 76 ≡ 0
  -- a page's field: gives the causes and not how far the read moved, or tells a CR of the end line
  pub page_kept_tells_causes_and_move : page_kept (bytes ":50A:ABCDEFGH\nX\r\n-\n") 0 ≡ (4 + 16) * 131072 + 17
  pub page_kept_of_the_end_has_no_cause : page_kept (bytes "-\r\n") 0 ≡ 65536 + 3
  -- a filer that drops a line and does not say so
  pub page_file_tells_a_dropped_line : page_file (bytes ":50A:ABCDEFGH\nX\n-\n") (replicate 19 0) (replicate 19 7)
      ≡ record { code = 2 * 4294967296 + 16; bytes = bytes ":50A:ABCDEFGH\n-\n" ++ replicate 3 0; answers = (4 * 131072 + 16) ∷ (65536 + 2) ∷ replicate 17 7 }
  -- one that compares lengths alone: as many bytes are written as the read moved past, since no LF closes the field
  pub page_file_tells_an_inner_cr : (page_file (bytes ":50K:A\r\nB") (replicate 20 0) (replicate 10 7)).answers ≡ (1 * 131072 + 9) ∷ (17 * 65536 * 4294967296) ∷ replicate 8 7
  -- one that tells causes of a record that it does not file
  pub page_file_of_a_refusal_has_no_cause : (page_file (bytes ":50:A\r\n-\n") (replicate 7 0) (replicate 10 7)).answers ≡ (24 * 65536 * 4294967296 + 7) ∷ (65536 + 2) ∷ replicate 8 7

pub kept_ruled_out : KeptRuledOut
unfolding padded text_of content letter digit alphanumeric signs legal parse_swift_chars parse_account bic_length parse_bic upto onto starts lines white trimmed_start keep trimmed_end trimmed is_numbered second_slash identifier_reply parse_party_identifier parse_line parse_lines parse_name_and_address four party_of account_head short_account_head after_head read any_numbered first_line last_line bic_like first_that pick_of test_line name_lines written_lines joined written_body written_field pieces is_line are_names is_given ends_cr last_empty without_cr line_at is_end ends_page runs begins tag_in read_field read_case read_at body_place is_carried writable asked record_reply add_reply add add_index close parse parse_with_variant is_picked any_line later_boundary tag_of run reads_from option_at has_cr_lf ends_lf causes_of kept_of
kept_ruled_out = record {
  tried_text_of_afk_keeps_spaces = refl;
  tried_text_trims_both_ends = refl;
  read_text_by_l_keeps_spaces = refl;
  read_text_by_k_trims = refl;
  read_of_other_crs_has_no_cause = refl;
  read_of_an_inner_lf_has_no_cause = refl;
  read_of_a_last_bic_has_no_cause = refl;
  read_of_a_refusal_has_no_cause = refl;
  parse_of_afk_has_no_blanks = refl;
  parse_of_an_inner_blank_has_no_cause = refl;
  variant_by_l_has_no_blanks = refl;
  variant_by_k_has_blanks = refl;
  field_of_an_open_cr_has_no_cause = refl;
  field_of_cr_lf_has_closing_cr = refl;
  field_of_a_stray_line_has_no_cause = refl;
  field_of_an_unknown_tag_has_no_cause = refl;
  kept_read_of_11_is_41 = refl;
  kept_read_tells_6 = refl;
  kept_parse_counts_from_0 = refl;
  kept_parse_tells_11 = refl;
  kept_variant_tests_41_first = refl;
  kept_variant_by_l_picks = refl;
  page_kept_tells_causes_and_move = refl;
  page_kept_of_the_end_has_no_cause = refl;
  page_file_tells_a_dropped_line = refl;
  page_file_tells_an_inner_cr = refl;
  page_file_of_a_refusal_has_no_cause = refl;
}

-- a page whose fields are kept, with a line before its first opening, the end line `-}` and more after it
abbrev delivered : List ℕ
delivered = bytes "{4:\n:50K:A\nB\n:50L: C\n-}\nrest\n"

-- pages of a field that is kept, after a line that is stray and after one whose tag is unknown
abbrev stray_first : List ℕ
stray_first = bytes "X\n:50:A\n-\n"

abbrev unknown_first : List ℕ
unknown_first = bytes ":52A:X\n:50:A\n-\n"

-- `kept_page` speaks of pages that there are, needs space, and does not speak of a page of which a field is not kept
pub record KeptPages : Type 0 where
  pub kept : are_kept delivered (from_opening (reads delivered)) ≡ true
  pub lines : party_lines delivered ≡ bytes ":50K:A\nB\n:50L: C\n"
  pub filed : (page_file delivered (replicate 22 0) (replicate 31 7)).bytes ≡ bytes ":50K:A\nB\n:50L: C\n-\n" ++ replicate 3 0
  -- space: where the end line has no LF, a buffer as long as the page may be too short
  pub no_last_lf : are_kept (bytes ":50:A\n-") (from_opening (reads (bytes ":50:A\n-"))) ≡ true
  pub too_short : (page_file (bytes ":50:A\n-") (replicate 7 0) (replicate 8 7)).answers ≡ (24 * 65536 * 4294967296 + 6) ∷ (65536 + 1) ∷ replicate 6 7
  -- of a page without a field it does
  pub no_field : are_kept (bytes "-\n") (from_opening (reads (bytes "-\n"))) ≡ true
  -- every field: one with a cause among others, one that is refused, also before all others, and one that no end line follows
  pub one_cause : are_kept (bytes ":50:A\n:50:B\r\n-\n") (from_opening (reads (bytes ":50:A\n:50:B\r\n-\n"))) ≡ false
  pub one_refused : are_kept (bytes ":50:A\n:50C:B\n-\n") (from_opening (reads (bytes ":50:A\n:50C:B\n-\n"))) ≡ false
  pub first_refused : are_kept (bytes ":50C:B\n:50:A\n-\n") (from_opening (reads (bytes ":50C:B\n:50:A\n-\n"))) ≡ false
  pub no_end : are_kept (bytes ":50:A\n") (from_opening (reads (bytes ":50:A\n"))) ≡ false
  -- `told_page` speaks of answers that there are, and of none that tell a cause, a refusal or no end
  pub told : are_plain (answers_from delivered (file_numbers delivered (replicate 22 0)).answers) ≡ true
  pub told_cause : are_plain (answers_from (bytes ":50:A\r\n-\n") (file_numbers (bytes ":50:A\r\n-\n") (replicate 22 0)).answers) ≡ false
  pub told_refusal : are_plain (answers_from (bytes ":50C:B\n-\n") (file_numbers (bytes ":50C:B\n-\n") (replicate 22 0)).answers) ≡ false
  pub told_no_end : are_plain (answers_from (bytes ":50:A\n") (file_numbers (bytes ":50:A\n") (replicate 22 0)).answers) ≡ false
  -- a stray line before the first opening, 16, is no field; one whose tag is unknown, 15, is, and is not filed
  pub stray_is_no_field : are_kept stray_first (from_opening (reads stray_first)) ≡ true
  pub stray_is_left_out : party_lines stray_first ≡ bytes ":50:A\n"
  pub unknown_is_a_field : are_kept unknown_first (from_opening (reads unknown_first)) ≡ false
  pub told_stray_is_no_field : are_plain (answers_from stray_first (file_numbers stray_first (replicate 22 0)).answers) ≡ true
  pub told_unknown_is_a_field : are_plain (answers_from unknown_first (file_numbers unknown_first (replicate 22 0)).answers) ≡ false

pub kept_pages : KeptPages
unfolding padded text_of content letter digit alphanumeric signs legal parse_swift_chars parse_account bic_length parse_bic upto onto starts lines is_numbered parse_line parse_lines parse_name_and_address four party_of account_head after_head read name_lines written_lines joined written_body written_field pieces is_line are_names is_given ends_cr last_empty without_cr line_at is_end ends_page runs begins tag_in read_field read_case read_at body_place is_carried writable asked record_reply add_reply add add_index close any_line later_boundary tag_of run reads_from has_cr_lf ends_lf causes_of are_kept last_at are_plain
kept_pages = record {
  kept = refl;
  lines = refl;
  filed = refl;
  no_last_lf = refl;
  too_short = refl;
  one_cause = refl;
  no_field = refl;
  one_refused = refl;
  first_refused = refl;
  no_end = refl;
  told = refl;
  told_cause = refl;
  told_refusal = refl;
  told_no_end = refl;
  stray_is_no_field = refl;
  stray_is_left_out = refl;
  unknown_is_a_field = refl;
  told_stray_is_no_field = refl;
  told_unknown_is_a_field = refl;
}
