-- Wrong programs that the contracts of `writer`, `page_reader`, `page_writer`, `record_bytes` and `yewdome` rule out (document 01, 'For the auditor's form'),
-- each by computation. A field is named after its operation and the fact, and its comment says what a wrong program would do.
use Rattle.std.specs.Prelude.{◌≡◌, refl, true, false, List, [], ◌∷◌, ◌++◌, ℕ, ◌+◌, ◌*◌, leb, length, get_or, take, drop, replicate}
use Rattle.std.proofs.Math.Seq.{paste}
use Rattle.party.specs.declared.Part.{Part}
use Rattle.party.specs.declared.Parts.{Parts}
use Rattle.party.specs.declared.PartyOption.TheVariants.{Field50NoOption, Field50A, Field50K, Field50C, Field59NoOption, Field59A, Field59F}
use Rattle.party.specs.Limits.{place_of, option_at}
use Rattle.party.specs.Text.{padded, text_of, used, four}
use Rattle.party.specs.Party.{blank, party_in, content}
use Rattle.swift_utils.specs.Bytes.{bytes, letter, digit, alphanumeric, signs, legal}
use Rattle.swift_utils.specs.Checks.{parse_swift_chars, parse_account, bic_length, parse_bic}
use Rattle.field_utils.specs.Lines.{upto, onto, starts, lines, without_cr}
use Rattle.field_utils.specs.Trim.{white, trimmed_start, keep, trimmed_end, trimmed}
use Rattle.field_utils.specs.Identifier.{is_numbered, second_slash, identifier_reply, parse_party_identifier}
use Rattle.field_utils.specs.Names.{parse_line, parse_lines, parse_name_and_address}
use Rattle.field_utils.specs.Tags.{tag_of}
use Rattle.reader.specs.Reading.{party_of}
use Rattle.reader.specs.Options.{account_head, short_account_head, after_head, read}
use Rattle.reader.specs.Detection.{any_numbered, first_line, last_line, bic_like, test_line}
use Rattle.reader.specs.Choices.{first_that, parse, pick_of, parse_with_variant}
use Rattle.writer.specs.Writing.{name_lines, written_lines, joined, written_body, written_field, field_most, fits, placed, pieces}
use Rattle.writer.specs.Given.{is_line, are_names, is_given}
use Rattle.writer.specs.Placing.{length_is, refused_with, measure, place}
use Rattle.writer.specs.ReadBack.{ends_cr, last_empty}
use Rattle.writer.specs.Longest.{longest}
use Rattle.page_reader.specs.Pages.{line_at, opens, is_end, ends_page, ends_at, runs, begins, tag_in, a_refusal, bodiless, read_field, read_case, read_at, body_place, read_lent, read_bytes}
use Rattle.page_reader.specs.Reads.{reads_from}
use Rattle.page_reader.specs.Index.{entries_in, entries_of, field_at, not_found, look_up, look_lent, look_bytes}
use Rattle.page_writer.specs.IndexState.{no_index, an_index, noted}
use Rattle.page_writer.specs.Adding.{any_line, later_boundary, is_carried, writable, refusal, asked, record_reply, add_reply, add, add_index, close}
use Rattle.page_writer.specs.Fold.{run}
use Rattle.kept.specs.Kept.{has_cr_lf, ends_lf, causes_of}
use Rattle.record_bytes.specs.RecordBytes.{record_size, nth_text, encoded_texts, encoded, stored, text_at, has_option, holds_record, party_from, decoded, laid_out}
use Rattle.yewdome.specs.Interface.{party_read, party_parse, party_parse_with_variant, party_measure, party_place, page_read, page_look_up, page_body, page_add, page_add_index, page_close, page_answers, page_file}
use Rattle.promises.specs.Starred.{gives, gives50_f}
use Rattle.promises.specs.Filing.{of}
use Rattle.promises.specs.OperationsReaders.{lent, short}

-- the 50K of one name, A, as bytes
abbrev encoded_a : List ℕ
encoded_a = encoded (of (bytes "A" ∷ []))

-- with a length of 39, which passes its text, and 39 letters after it
abbrev encoded_long : List ℕ
encoded_long = take 81 encoded_a ++ 39 ∷ replicate 39 65 ++ drop 121 encoded_a

-- with a presence of 2, which makes it no record
abbrev no_record : List ℕ
no_record = 3 ∷ 2 ∷ drop 2 encoded_a

-- a page of two fields
abbrev page : List ℕ
page = bytes ":50K:A\n:50:B\n-\n"

-- its index
abbrev made : List ℕ
made = 2 ∷ 3 ∷ 0 ∷ 6 ∷ 0 ∷ 7 ∷ 5 ∷ replicate 762 0

pub record WriterOperations : Type 0 where
  -- counts a letter in every tag
  pub tag_length_of_50_is_4 : length (tag_of Field50NoOption) ≡ 4
  -- leaves the closing colon out
  pub tag_length_of_59A_is_5 : length (tag_of Field59A) ≡ 5
  -- is one byte short, or one long
  pub measure_of_50K_A_is_6 : measure (content (of (bytes "A" ∷ []))) ≡ length_is 6
  -- counts an empty line after 59F's identifier
  pub measure_counts_no_empty_line : measure (content (gives Field59F true (bytes "1") [] (bytes "1/A" ∷ [])).party) ≡ length_is (length (bytes ":59F:/1\n1/A"))
  -- leaves out the numbers of 50F
  pub measure_counts_numbers : measure (content (gives50_f (bytes "X") (bytes "A" ∷ []) (bytes "1")).party) ≡ length_is (length (bytes ":50F:X\n1/A"))
  -- refuses with 24 the longest field that there is
  pub measure_takes_the_longest : measure (content longest) ≡ length_is field_most
  -- gives a length for a record that no reader gives
  pub measure_without_a_name_is_22 : measure (content (of [])) ≡ refused_with 22 0
  -- believes that the field is as long as the buffer: tells 8, or changes a byte after the field
  pub place_leaves_the_rest : place (content (of (bytes "A" ∷ []))) (bytes "abcdefgh") ≡ record { answer = length_is 6; buffer = bytes ":50K:Agh" }
  -- believes that it takes the most that a field can, or one byte more than it does: 24 with bytes free
  pub place_takes_an_exact_buffer : place (content (of (bytes "A" ∷ []))) (bytes "abcdef") ≡ record { answer = length_is 6; buffer = bytes ":50K:A" }
  -- believes that it takes one byte less, and puts what there is space for
  pub place_refuses_one_byte_less : place (content (of (bytes "A" ∷ []))) (bytes "abcde") ≡ record { answer = refused_with 24 0; buffer = bytes "abcde" }
  -- refuses a lent record of over 241 bytes
  pub measure_record_takes_242 : measure (content (decoded (encoded_a ++ 7 ∷ []))) ≡ length_is 6
  -- measures bytes that are no record
  pub measure_record_refuses_presence_2 : measure (content (decoded no_record)) ≡ refused_with 22 0
  -- believes a length that passes its text, and places the byte after the text too
  pub place_record_refuses_39 : place (content (decoded encoded_long)) (replicate 50 7) ≡ record { answer = refused_with 22 0; buffer = replicate 50 7 }
  -- puts what there is space for, and then refuses with 24
  pub place_record_puts_all_or_nothing : place (content (decoded encoded_a)) (bytes "abcde") ≡ record { answer = refused_with 24 0; buffer = bytes "abcde" }
  -- has no space for a text that fills the buffer to its end
  pub put_text_fits_to_the_end : fits (bytes "abc") 1 (bytes "AB") ≡ true
  -- changes the byte after the text
  pub put_text_leaves_the_rest : placed (bytes "abcd") 1 (bytes "AB") ≡ bytes "aABd"

pub writer_operations : WriterOperations
unfolding padded text_of content letter digit alphanumeric signs legal parse_swift_chars parse_account upto starts is_numbered second_slash identifier_reply parse_line parse_lines parse_name_and_address four party_of name_lines written_lines joined written_body written_field is_line are_names is_given measure place tag_of encoded_texts encoded option_at text_at holds_record party_from decoded
writer_operations = record {
  tag_length_of_50_is_4 = refl;
  tag_length_of_59A_is_5 = refl;
  measure_of_50K_A_is_6 = refl;
  measure_counts_no_empty_line = refl;
  measure_counts_numbers = refl;
  measure_takes_the_longest = refl;
  measure_without_a_name_is_22 = refl;
  place_leaves_the_rest = refl;
  place_takes_an_exact_buffer = refl;
  place_refuses_one_byte_less = refl;
  measure_record_takes_242 = refl;
  measure_record_refuses_presence_2 = refl;
  place_record_refuses_39 = refl;
  place_record_puts_all_or_nothing = refl;
  put_text_fits_to_the_end = refl;
  put_text_leaves_the_rest = refl;
}

pub record PagesOperations : Type 0 where
  -- takes a colon anywhere in the line
  pub opens_at_a_later_colon_is_no : opens (line_at (bytes "A:\n")) ≡ false
  -- takes the line after an empty one
  pub opens_at_an_empty_line_is_no : opens (line_at (bytes "\n:50K:A\n")) ≡ false
  -- takes a line that only starts with a hyphen
  pub ends_at_hyphen_A_is_no : ends_at (bytes "-A\n") ≡ false
  -- asks for an LF after the hyphen
  pub ends_at_hyphen_without_lf_is_yes : ends_at (bytes "-") ≡ true
  -- gives the place in the field, and not in the page
  pub body_place_counts_from_the_page_start : body_place (bytes ":50K:A\n:50:BC\n-\n") 7 ≡ record { start = 11; len = 2 }
  -- counts the LF that closes the field
  pub body_place_leaves_the_lf_out : body_place (bytes ":50K:A\n-\n") 0 ≡ record { start = 5; len = 1 }
  -- stores the first field's record, wherever it reads
  pub read_at_into_at_7_stores_50 : get_or (read_bytes (read_lent page 7 lent).outcome lent) 0 7 ≡ place_of Field50NoOption
  -- stores the blank record at the end
  pub read_at_into_stores_nothing_at_the_end : read_bytes (read_lent page 13 lent).outcome lent ≡ lent
  -- tells a record where 240 bytes are lent, and stores none
  pub read_at_into_refuses_240 : read_lent page 7 short ≡ bodiless (a_refusal 42 0) 7
  -- counts the fields from 0, and stores the second one's record for the first
  pub look_up_into_counts_from_1 : get_or (look_bytes (look_lent page made 1 lent) lent) 0 7 ≡ place_of Field50K
  -- trusts an entry of another length, and stores the record that is there
  pub look_up_into_tests_the_entry : look_bytes (look_lent page (1 ∷ 3 ∷ 0 ∷ 7 ∷ replicate 765 0) 1 lent) lent ≡ lent
  -- tests 31 before 42
  pub look_up_into_tests_42_first : look_lent page made 3 short ≡ not_found 42 0
  -- files a record for bytes that are none
  pub add_record_refuses_presence_2 : add (replicate 9 0) 0 no_index (content (decoded no_record)) ≡ record { answer = refusal 22 0; buffer = replicate 9 0 }
  -- tests whether the bytes are a record before 21
  pub add_record_tests_21_first : (add (bytes "ab") 1 no_index (content (decoded no_record))).answer ≡ refusal 21 0
  -- notes an entry for bytes that are no record
  pub add_indexed_record_notes_no_refusal : add_index (replicate 9 0) 0 (an_index (replicate 769 0)) (content (decoded no_record)) ≡ an_index (replicate 769 0)
  -- notes every record as of the first option
  pub add_indexed_record_notes_the_option : add_index (replicate 9 0) 0 (an_index (replicate 769 0)) (content (decoded encoded_a)) ≡ an_index (1 ∷ 3 ∷ 0 ∷ 6 ∷ replicate 765 0)
  -- tests 24 before 21
  pub close_tests_21_first : (close (bytes "ab") 1).answer ≡ refusal 21 0

pub pages_operations : PagesOperations
unfolding padded text_of content letter digit alphanumeric signs legal parse_swift_chars parse_account upto onto starts lines without_cr parse_line parse_lines parse_name_and_address four party_of account_head after_head read name_lines written_lines joined written_body written_field pieces is_line are_names is_given ends_cr last_empty line_at is_end ends_page runs begins tag_in read_field read_case read_at body_place entries_in entries_of field_at look_up any_line later_boundary is_carried writable asked record_reply add_reply add noted add_index close tag_of encoded_texts encoded stored option_at text_at holds_record party_from decoded
pages_operations = record {
  opens_at_a_later_colon_is_no = refl;
  opens_at_an_empty_line_is_no = refl;
  ends_at_hyphen_A_is_no = refl;
  ends_at_hyphen_without_lf_is_yes = refl;
  body_place_counts_from_the_page_start = refl;
  body_place_leaves_the_lf_out = refl;
  read_at_into_at_7_stores_50 = refl;
  read_at_into_stores_nothing_at_the_end = refl;
  read_at_into_refuses_240 = refl;
  look_up_into_counts_from_1 = refl;
  look_up_into_tests_the_entry = refl;
  look_up_into_tests_42_first = refl;
  add_record_refuses_presence_2 = refl;
  add_record_tests_21_first = refl;
  add_indexed_record_notes_no_refusal = refl;
  add_indexed_record_notes_the_option = refl;
  close_tests_21_first = refl;
}

-- the parts of a body that is an account, all of it
abbrev account : ℕ → Parts
account n = let none : Part = record { start = 0; len = 0 } in record {
  account = record { start = 0; len = n };
  bic = none;
  name_and_address = none ∷ none ∷ none ∷ none ∷ [];
  count = 0;
  digits = 0 ∷ 0 ∷ 0 ∷ 0 ∷ [];
  option = Field50A;
  present = true;
}

-- what `copy` leaves, as its contract has it
abbrev copied : List ℕ → List ℕ → ℕ → List ℕ
copied s buffer at = elim (leb (at + length s) (length buffer)) [ true ↦ paste buffer at s (length s) | false ↦ buffer ]

pub record RecordBytesOperations : Type 0 where
  -- copies by eight, and leaves the ninth byte out or changes bytes after it
  pub copy_takes_all_nine : copied (bytes "ABCDEFGHI") (replicate 18 7) 1 ≡ 7 ∷ bytes "ABCDEFGHI" ++ replicate 8 7
  -- copies as many bytes as there is space for
  pub copy_puts_all_or_nothing : copied (bytes "AB") (bytes "abc") 2 ≡ bytes "abc"
  -- starts the BIC at 41 for 42, where its length stands
  pub store_has_the_bic_length_at_42 : get_or (stored (gives Field50C false [] (bytes "ABCDEFGH") []).party (replicate record_size 0)) 42 0 ≡ 8
  -- stores as much of a record as there is space for
  pub store_puts_all_or_nothing : stored blank (bytes "abc") ≡ bytes "abc"
  -- leaves the lent bytes after a text's last as they came
  pub store_parts_pads_with_zeros : get_or (stored (party_in (bytes "A") (account 1)) lent) 5 7 ≡ 0
  -- gives the length of the part, though only 38 bytes are kept
  pub store_parts_of_40_has_length_38 : get_or (stored (party_in (replicate 40 65) (account 40)) lent) 3 7 ≡ 38
  -- asks for the presence too
  pub has_option_takes_presence_2 : has_option no_record ≡ true
  -- takes a place that no option has
  pub has_option_refuses_11 : has_option (11 ∷ drop 1 encoded_a) ≡ false
  -- leaves out the last option, 59F
  pub has_option_takes_10 : has_option (10 ∷ drop 1 encoded_a) ≡ true
  -- believes the first byte of bytes that are fewer than a record's
  pub has_option_of_240_bytes_is_no : has_option (take 240 encoded_a) ≡ false
  -- takes 241 bytes and no more
  pub holds_record_takes_242 : holds_record (encoded_a ++ 7 ∷ []) ≡ true
  -- takes a presence of 2 for a yes
  pub holds_record_refuses_presence_2 : holds_record no_record ≡ false
  -- counts the options from 1
  pub option_of_place_3_is_50K : (decoded encoded_a).option ≡ Field50K
  -- believes the first byte of bytes that are no record
  pub option_of_no_record_is_50 : (decoded no_record).option ≡ Field50NoOption
  -- tells no of every record
  pub present_of_an_account_is_yes : (decoded (encoded (party_in (bytes "A") (account 1)))).present ≡ true
  -- believes the presence of bytes that are no record
  pub present_of_place_11_is_no : (decoded (11 ∷ 1 ∷ drop 2 encoded_a)).present ≡ false
  -- counts the names that there is space for
  pub count_of_one_name_is_1 : (decoded encoded_a).count ≡ 1
  -- believes the count of bytes that are no record
  pub count_of_no_record_is_0 : (decoded no_record).count ≡ 0
  -- tells 38 of a length that passes its text
  pub text_length_tells_39 : (nth_text 2 (laid_out encoded_long)).len ≡ 39
  -- looks at bytes that are fewer than a record's
  pub text_length_of_240_bytes_is_0 : (nth_text 2 (laid_out (take 240 encoded_a))).len ≡ 0
  -- takes the first digit for the length of a seventh text
  pub text_length_of_a_seventh_is_0 : (nth_text 6 (laid_out (replicate record_size 7))).len ≡ 0
  -- gives the byte after a text whose length passes it
  pub used_text_of_39_is_all_38 : (used (nth_text 2 (laid_out encoded_long))).bytes ≡ replicate 38 65
  -- counts the names without the account and the BIC, or asks for the presence
  pub used_text_2_is_the_first_name : (used (nth_text 2 (laid_out no_record))).bytes ≡ bytes "A"
  -- counts the digits from 1
  pub digit_of_0_is_the_first : get_or (laid_out (encoded (gives50_f (bytes "X") (bytes "A" ∷ bytes "B" ∷ []) (bytes "78")).party)).digits 0 0 ≡ 55
  -- gives the byte after the record for a fifth
  pub digit_of_4_is_0 : get_or (laid_out (encoded_a ++ 7 ∷ [])).digits 4 0 ≡ 0
  -- takes 241 bytes and no more
  pub load_takes_242 : decoded (encoded_a ++ 7 ∷ []) ≡ of (bytes "A" ∷ [])
  -- takes a place that no option has
  pub load_of_place_11_is_blank : decoded (11 ∷ replicate record_size 0) ≡ blank

pub record_bytes_operations : RecordBytesOperations
unfolding padded text_of party_in four party_of encoded_texts encoded stored option_at text_at holds_record party_from decoded laid_out
record_bytes_operations = record {
  copy_takes_all_nine = refl;
  copy_puts_all_or_nothing = refl;
  store_has_the_bic_length_at_42 = refl;
  store_puts_all_or_nothing = refl;
  store_parts_pads_with_zeros = refl;
  store_parts_of_40_has_length_38 = refl;
  has_option_takes_presence_2 = refl;
  has_option_refuses_11 = refl;
  has_option_takes_10 = refl;
  has_option_of_240_bytes_is_no = refl;
  holds_record_takes_242 = refl;
  holds_record_refuses_presence_2 = refl;
  option_of_place_3_is_50K = refl;
  option_of_no_record_is_50 = refl;
  present_of_an_account_is_yes = refl;
  present_of_place_11_is_no = refl;
  count_of_one_name_is_1 = refl;
  count_of_no_record_is_0 = refl;
  text_length_tells_39 = refl;
  text_length_of_240_bytes_is_0 = refl;
  text_length_of_a_seventh_is_0 = refl;
  used_text_of_39_is_all_38 = refl;
  used_text_2_is_the_first_name = refl;
  digit_of_0_is_the_first = refl;
  digit_of_4_is_0 = refl;
  load_takes_242 = refl;
  load_of_place_11_is_blank = refl;
}

pub record YewdomeOperations : Type 0 where
  -- gives the number alone, without the line: an empty 50C is 9, line 1
  pub party_read_tells_the_line : (party_read (place_of Field50C) [] lent).code ≡ 9 * 65536 + 1
  -- reads by the first option where there is none
  pub party_read_of_11_is_41 : (party_read 11 (bytes "A") lent).code ≡ 41 * 65536
  -- counts the choices from 1: 2 is AFK, and the record a 50A
  pub party_parse_counts_from_0 : get_or (party_parse 2 (bytes "ABCDEFGH") lent).bytes 0 0 ≡ place_of Field50A
  -- tests 41 before 42
  pub party_parse_tests_42_first : (party_parse 7 (bytes "A") []).code ≡ 42 * 65536
  -- stores the blank record beside a refusal
  pub party_parse_with_variant_leaves_bytes_at_a_refusal : (party_parse_with_variant 2 (bytes "A") 97 lent).bytes ≡ lent
  -- detects without a letter, and stores a 59A
  pub party_parse_with_variant_by_none_picks : get_or (party_parse_with_variant 5 (bytes "ABCDEFGH") 0 lent).bytes 0 0 ≡ place_of Field59NoOption
  -- gives what a record takes on a page, with its LF and the end
  pub party_measure_of_50K_A_is_6 : party_measure encoded_a ≡ 6
  -- gives a length for a record that no reader gives
  pub party_measure_of_zeros_is_22 : party_measure (replicate record_size 0) ≡ 22 * 65536
  -- refuses a lent record of over 241 bytes
  pub party_measure_takes_242 : party_measure (encoded_a ++ 7 ∷ []) ≡ 6
  -- tests 41 before 42
  pub party_measure_tests_42_first : party_measure (11 ∷ []) ≡ 42 * 65536
  -- measures by the first option where there is none
  pub party_measure_of_11_is_41 : party_measure (11 ∷ replicate record_size 0) ≡ 41 * 65536
  -- tests 24 before 22
  pub party_place_tests_22_first : (party_place (replicate record_size 0) []).code ≡ 22 * 65536
  -- refuses a lent record of over 241 bytes
  pub party_place_takes_242 : (party_place (encoded_a ++ 7 ∷ []) (replicate 6 0)).code ≡ 6
  -- tests 41 before 42
  pub party_place_tests_42_first : (party_place (11 ∷ []) []).code ≡ 42 * 65536
  -- writes by the first option where there is none
  pub party_place_of_11_is_41 : (party_place (11 ∷ replicate record_size 0) []).code ≡ 41 * 65536
  -- gives 0 where it accepts
  pub party_place_gives_the_length : party_place encoded_a (replicate 6 0) ≡ record { code = 6; bytes = bytes ":50K:A" }
  -- does not tell the end from a record
  pub page_read_tells_the_end : (page_read (bytes "-\n") 0 lent).code ≡ 65536 + 2
  -- gives the next position, and not how far it is
  pub page_read_gives_the_move : (page_read (bytes ":50K:A\n-\n") 7 lent).code ≡ 65536 + 2
  -- gives no place for an empty body of a known tag
  pub page_body_tells_an_empty_body : page_body (bytes ":50K:\n-\n") 0 ≡ 5 * 4294967296
  -- gives the place in the field, and not in the page
  pub page_body_counts_from_the_page_start : page_body (bytes ":50K:A\n:50:BC\n-\n") 7 ≡ 11 * 4294967296 + 2
  -- gives the text after a tag that is none of the eleven
  pub page_body_of_51A_is_0 : page_body (bytes ":51A:A\n-\n") 0 ≡ 0
  -- files a record for bytes that are none
  pub page_add_of_no_bytes_is_42 : (page_add [] (replicate 9 0) 0 no_index).code ≡ 42 * 65536
  -- takes a presence of 2 for a yes
  pub page_add_refuses_presence_2 : (page_add (3 ∷ 2 ∷ drop 2 encoded_a) (replicate 9 0) 0 no_index).code ≡ 22 * 65536
  -- gives the length written, and not the position after
  pub page_add_gives_the_position : (page_add encoded_a (bytes "X\n" ++ replicate 9 0) 2 no_index).code ≡ 9
  -- notes what is refused: a lent record that is none
  pub page_add_indexed_notes_no_refusal : page_add_index [] (replicate 9 0) 0 (an_index (0 ∷ replicate 768 0)) ≡ an_index (0 ∷ replicate 768 0)
  -- leaves the index as it came
  pub page_add_indexed_notes_the_entry : page_add_index encoded_a (bytes "X\n" ++ replicate 9 0) 2 (an_index (0 ∷ replicate 768 0)) ≡ an_index (1 ∷ 3 ∷ 2 ∷ 6 ∷ replicate 765 0)
  -- gives the next position, and not how far it is
  pub page_look_up_gives_the_move : (page_look_up (bytes "X\n:50K:A\n-\n") (1 ∷ 3 ∷ 2 ∷ 6 ∷ replicate 765 0) 1 lent).code ≡ 7
  -- tells 31 as the page's end
  pub page_look_up_tells_31 : page_look_up (bytes ":50K:A\n-\n") (1 ∷ 3 ∷ 0 ∷ 6 ∷ replicate 765 0) 2 lent ≡ record { code = 31 * 65536 * 4294967296; bytes = lent }
  -- tests 31 before 42
  pub page_look_up_tests_42_first : (page_look_up (bytes "-\n") (replicate 769 0) 0 []).code ≡ 42 * 65536 * 4294967296
  -- gives 2, which it wrote, and not the page's length
  pub page_close_gives_the_page_length : (page_close (bytes "X\nab") 2).code ≡ 4
  -- writes the hyphen before it tests the space
  pub page_close_leaves_bytes_at_a_refusal : (page_close (bytes "X\na") 2).bytes ≡ bytes "X\na"
  -- stops at the first refusal, leaves the end out, or changes a number after the last
  pub page_answers_goes_on_to_the_end : page_answers (bytes "x\n-\n") (replicate 5 7) ≡ record { code = 2; answers = (16 * 65536 * 4294967296 + 2) ∷ (65536 + 2) ∷ replicate 3 7 }
  -- goes on after the end
  pub page_answers_stops_at_the_end : (page_answers (bytes "-\n-\n") (replicate 5 7)).code ≡ 1
  -- stores as many answers as there are numbers for
  pub page_answers_stores_all_or_nothing : page_answers (bytes "x\n") (replicate 2 7) ≡ record { code = 43 * 65536; answers = replicate 2 7 }
  -- leaves the new page open, or gives its length alone
  pub page_file_closes_the_page : page_file (bytes ":50K:A\n-\n") (replicate 10 0) (replicate 10 7)
      ≡ record { code = 2 * 4294967296 + 9; bytes = bytes ":50K:A\n-\n" ++ 0 ∷ []; answers = 7 ∷ (65536 + 2) ∷ replicate 8 7 }
  -- adds every record at the start, or the first over and over
  pub page_file_files_each_in_turn : (page_file (bytes ":50:A\n:50:B\n-\n") (replicate 14 0) (replicate 15 7)).bytes ≡ bytes ":50:A\n:50:B\n-\n"
  -- tells what the read says where the add refuses
  pub page_file_tells_the_add : (page_file (bytes ":50K:A\n-\n") (replicate 8 0) (replicate 10 7)).answers ≡ (24 * 65536 * 4294967296 + 7) ∷ (65536 + 2) ∷ replicate 8 7
  -- closes the new page without a test of the numbers
  pub page_file_tests_43_first : page_file (bytes "-\n") (bytes "ab") [] ≡ record { code = 43 * 65536; bytes = bytes "ab"; answers = [] }

pub yewdome_operations : YewdomeOperations
unfolding padded text_of content letter digit alphanumeric signs legal parse_swift_chars parse_account bic_length parse_bic upto onto starts lines white trimmed_start keep trimmed_end trimmed is_numbered second_slash identifier_reply parse_party_identifier parse_line parse_lines parse_name_and_address four party_of account_head short_account_head after_head read any_numbered first_line last_line bic_like first_that pick_of test_line name_lines written_lines joined written_body written_field pieces is_line are_names is_given measure place ends_cr last_empty without_cr line_at is_end ends_page runs begins tag_in read_field read_at is_carried writable asked record_reply add_reply add noted add_index close encoded_texts encoded stored option_at text_at holds_record party_from decoded entries_in entries_of field_at look_up parse parse_with_variant read_case any_line later_boundary body_place tag_of run reads_from has_cr_lf ends_lf causes_of
yewdome_operations = record {
  party_read_tells_the_line = refl;
  party_read_of_11_is_41 = refl;
  party_parse_counts_from_0 = refl;
  party_parse_tests_42_first = refl;
  party_parse_with_variant_leaves_bytes_at_a_refusal = refl;
  party_parse_with_variant_by_none_picks = refl;
  party_measure_of_50K_A_is_6 = refl;
  party_measure_of_zeros_is_22 = refl;
  party_measure_takes_242 = refl;
  party_measure_tests_42_first = refl;
  party_measure_of_11_is_41 = refl;
  party_place_tests_22_first = refl;
  party_place_takes_242 = refl;
  party_place_tests_42_first = refl;
  party_place_of_11_is_41 = refl;
  party_place_gives_the_length = refl;
  page_read_tells_the_end = refl;
  page_read_gives_the_move = refl;
  page_body_tells_an_empty_body = refl;
  page_body_counts_from_the_page_start = refl;
  page_body_of_51A_is_0 = refl;
  page_add_of_no_bytes_is_42 = refl;
  page_add_refuses_presence_2 = refl;
  page_add_gives_the_position = refl;
  page_add_indexed_notes_no_refusal = refl;
  page_add_indexed_notes_the_entry = refl;
  page_look_up_gives_the_move = refl;
  page_look_up_tells_31 = refl;
  page_look_up_tests_42_first = refl;
  page_close_gives_the_page_length = refl;
  page_close_leaves_bytes_at_a_refusal = refl;
  page_answers_goes_on_to_the_end = refl;
  page_answers_stops_at_the_end = refl;
  page_answers_stores_all_or_nothing = refl;
  page_file_closes_the_page = refl;
  page_file_files_each_in_turn = refl;
  page_file_tells_the_add = refl;
  page_file_tests_43_first = refl;
}
