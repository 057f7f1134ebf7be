-- Wrong programs that the contracts of `errors`, `party`, `swift_utils` and `field_utils` rule out (document 01, 'For the auditor's form'),
-- each by computation. A field is named after its operation and the fact, and its comment says what a wrong program would do.
use Rattle.std.specs.Prelude.{◌≡◌, refl, true, false, List, [], ◌∷◌, ℕ, ◌+◌, drop, get_or, replicate, Some, None}
use Rattle.errors.specs.declared.ParseError.TheVariants.{BicByte, Position}
use Rattle.errors.specs.Refusals.{accepted, refused, refusal_at, refusal_of}
use Rattle.party.specs.declared.PartyOption.TheVariants.{Field50NoOption, Field50A, Field50F, Field50K, Field59NoOption, Field59F}
use Rattle.party.specs.declared.Party.{Party}
use Rattle.party.specs.declared.Part.{Part}
use Rattle.party.specs.declared.Parts.{Parts}
use Rattle.party.specs.Limits.{limits_of, place_of, option_at}
use Rattle.party.specs.Text.{padded, text_of, part_in, four}
use Rattle.party.specs.Party.{blank, party_in, content, Same}
use Rattle.party.specs.declared.Numbering.TheVariants.{Unnumbered, Numbered, InTurn}
use Rattle.swift_utils.specs.Bytes.{bytes, all, letter, small, digit, alphanumeric, signs, legal, narrow_signs, narrow}
use Rattle.swift_utils.specs.Classes.{bits_of, classes_of, class_table, entry_in}
use Rattle.swift_utils.specs.Checks.{parse_swift_chars, parse_length, parse_account, bic_length}
use Rattle.field_utils.specs.Lines.{upto, starts, without_cr}
use Rattle.field_utils.specs.Cursor.{line_of, next_line, places_of, line_places, no_place, name_places}
use Rattle.field_utils.specs.Trim.{white, trimmed_start, keep, trimmed_end, trimmed}
use Rattle.field_utils.specs.Identifier.{is_numbered, second_slash, identifier_reply}
use Rattle.field_utils.specs.Names.{skip_of, dropped_prefix, parse_line, parse_lines, parse_count, parse_name_and_address}

pub record ErrorsOperations : Type 0 where
  -- numbers the cases one after the other, so that a position is 19
  pub refusal_of_a_position_is_21 : refusal_of Position ≡ refusal_at 21 0
  -- tells a wrong byte of a BIC as 9, its length
  pub refusal_of_a_bic_byte_is_10 : refusal_of (BicByte 2) ≡ refusal_at 10 2

pub errors_operations : ErrorsOperations
errors_operations = record { refusal_of_a_position_is_21 = refl; refusal_of_a_bic_byte_is_10 = refl }

-- a 50K with a BIC text, which the option leaves out
abbrev with_bic : List ℕ → Party
with_bic bic = record {
  option = Field50K;
  present = false;
  account = text_of [];
  bic = text_of bic;
  count = 0;
  name_and_address = text_of [] ∷ text_of [] ∷ text_of [] ∷ text_of [] ∷ [];
  digits = 0 ∷ 0 ∷ 0 ∷ 0 ∷ [];
}

-- a part of one byte
abbrev byte_at : ℕ → Part
byte_at start = record { start = start; len = 1 }

-- the parts of a body of four bytes: an account, a BIC and two names
abbrev parts : Parts
parts = record {
  account = byte_at 0;
  bic = byte_at 1;
  name_and_address = byte_at 2 ∷ byte_at 3 ∷ record { start = 0; len = 0 } ∷ record { start = 0; len = 0 } ∷ [];
  count = 2;
  digits = 49 ∷ 56 ∷ 0 ∷ 0 ∷ [];
  option = Field50F;
  present = true;
}

pub record PartyOperations : Type 0 where
  -- orders the options by their letters: A, C, F
  pub index_of_50F_is_2 : place_of Field50F ≡ 2
  -- counts the options of 59 from 0
  pub index_of_59_is_8 : place_of Field59NoOption ≡ 8
  -- lets an identifier of 50A have 35 bytes
  pub limits_of_50A_account_is_34 : (limits_of Field50A).account_max ≡ 34
  -- lets a text of 50F have 35 bytes, as a name of 50K has
  pub limits_of_50F_name_is_33 : (limits_of Field50F).name_max ≡ 33
  -- counts from 1
  pub option_at_1_is_50A : option_at 1 ≡ Field50A
  -- gives the last option where there is none
  pub option_at_11_is_50 : option_at 11 ≡ Field50NoOption
  -- takes any digits in 59F
  pub limits_of_59F_numbers_in_turn : (limits_of Field59F).numbering ≡ InTurn
  -- gives the length of the slice, though only 38 bytes are kept
  pub text_of_40_has_length_38 : (text_of (replicate 40 65)).len ≡ 38
  -- fills with spaces
  pub text_of_pads_with_zeros : (text_of (bytes "A")).bytes ≡ 65 ∷ replicate 37 0
  -- takes the length for the place where the part ends
  pub part_of_takes_a_length : part_in (bytes "ABCD") (record { start = 1; len = 2 }) ≡ bytes "BC"
  -- gives nothing of a part that passes the body
  pub part_of_stops_at_the_end : part_in (bytes "AB") (record { start = 1; len = 2 }) ≡ bytes "B"
  -- gives every name the first one's text
  pub store_parts_has_each_name : get_or (party_in (bytes "ABCD") parts).name_and_address 1 (text_of []) ≡ text_of (bytes "D")
  -- leaves the digits out
  pub store_parts_keeps_the_digits : (party_in (bytes "ABCD") parts).digits ≡ 49 ∷ 56 ∷ 0 ∷ 0 ∷ []
  -- counts four empty names
  pub blank_has_no_name : blank.count ≡ 0
  -- says that there is an account, an empty one
  pub blank_has_no_account : blank.present ≡ false
  -- compares all bytes, those of an unused text too
  pub same_leaves_unused_out : Same (with_bic (bytes "A")) (with_bic (bytes "B"))

pub party_operations : PartyOperations
unfolding option_at padded text_of party_in content
party_operations = record {
  index_of_50F_is_2 = refl;
  index_of_59_is_8 = refl;
  limits_of_50A_account_is_34 = refl;
  limits_of_50F_name_is_33 = refl;
  option_at_1_is_50A = refl;
  option_at_11_is_50 = refl;
  limits_of_59F_numbers_in_turn = refl;
  text_of_40_has_length_38 = refl;
  text_of_pads_with_zeros = refl;
  part_of_takes_a_length = refl;
  part_of_stops_at_the_end = refl;
  store_parts_has_each_name = refl;
  store_parts_keeps_the_digits = refl;
  blank_has_no_name = refl;
  blank_has_no_account = refl;
  same_leaves_unused_out = refl;
}

pub record SwiftUtilsOperations : Type 0 where
  -- puts the classes of each byte one entry late: A has those of `@`
  pub class_table_of_A_is_31 : get_or class_table 65 0 ≡ 31
  -- has `~` among the legal bytes
  pub class_table_has_no_tilde : get_or class_table 126 1 ≡ 0
  -- takes every printable byte
  pub is_legal_of_tilde_is_no : legal 126 ≡ false
  -- goes one past 9
  pub is_digit_of_colon_is_no : digit 58 ≡ false
  -- begins at 1
  pub is_digit_of_0_is_yes : digit 48 ≡ true
  -- asks for an entry that has no other bit than the mask's: 8 is letters and digits
  pub all_in_allows_other_bits : all (entry_in class_table 8) (bytes "A1") ≡ true
  -- is content with one bit of the mask: 24 is letters and digits, and letters
  pub all_in_asks_for_every_bit : all (entry_in class_table 24) (bytes "1") ≡ false
  -- tests the first byte alone: 2 is the legal bytes but LF
  pub all_in_tests_every_byte : all (entry_in class_table 2) (bytes "A\n") ≡ false
  -- takes letters alone
  pub all_alphanumeric_takes_digits : all alphanumeric (bytes "A1") ≡ true
  -- is content with one such byte
  pub all_alphanumeric_refuses_a_hyphen : all alphanumeric (bytes "A-") ≡ false
  -- leaves the last byte out
  pub parse_swift_chars_tests_the_last : parse_swift_chars 1 (bytes "A~") ≡ refused 3 1
  -- makes a line up: always 1
  pub parse_swift_chars_names_the_line : parse_swift_chars 7 (bytes "~") ≡ refused 3 7
  -- refuses the shortest length
  pub parse_length_takes_the_shortest : parse_length 1 2 1 (bytes "A") ≡ accepted
  -- names no line
  pub parse_length_names_the_line : parse_length 1 2 7 [] ≡ refused 2 7
  -- refuses the longest length
  pub parse_account_takes_the_longest : parse_account 0 2 1 (bytes "AB") ≡ accepted
  -- tests the bytes before the length
  pub parse_account_tests_length_first : parse_account 0 2 1 (bytes "AB~") ≡ refused 2 1
  -- takes every length from 8 to 11
  pub is_bic_length_of_9_is_no : bic_length 9 ≡ false
  -- takes 8 alone
  pub is_bic_length_of_11_is_yes : bic_length 11 ≡ true

pub swift_utils_operations : SwiftUtilsOperations
unfolding letter small digit alphanumeric signs legal narrow_signs narrow bits_of classes_of class_table parse_swift_chars parse_account bic_length
swift_utils_operations = record {
  class_table_of_A_is_31 = refl;
  class_table_has_no_tilde = refl;
  is_legal_of_tilde_is_no = refl;
  is_digit_of_colon_is_no = refl;
  is_digit_of_0_is_yes = refl;
  all_in_allows_other_bits = refl;
  all_in_asks_for_every_bit = refl;
  all_in_tests_every_byte = refl;
  all_alphanumeric_takes_digits = refl;
  all_alphanumeric_refuses_a_hyphen = refl;
  parse_swift_chars_tests_the_last = refl;
  parse_swift_chars_names_the_line = refl;
  parse_length_takes_the_shortest = refl;
  parse_length_names_the_line = refl;
  parse_account_takes_the_longest = refl;
  parse_account_tests_length_first = refl;
  is_bic_length_of_9_is_no = refl;
  is_bic_length_of_11_is_yes = refl;
}

-- where `find` finds a byte, as its contract has it
abbrev found : List ℕ → ℕ → ℕ → ℕ
found s from b = from + upto b (drop from s)

pub record FieldUtilsOperations : Type 0 where
  -- begins after the place
  pub find_begins_at_the_place : found (bytes "a//") 1 47 ≡ 1
  -- looks at every other byte
  pub find_sees_every_byte : found (bytes "ab") 0 98 ≡ 1
  -- gives the LF after the next
  pub find_lf_gives_the_first : found (bytes "a\nb\n") 0 10 ≡ 1
  -- gives 0 where there is none
  pub find_lf_of_none_is_the_length : found (bytes "ab") 0 10 ≡ 2
  -- drops every CR before the LF
  pub next_drops_one_cr : next_line (bytes "a\r\r\n") 0 ≡ Some (record { part = record { start = 0; len = 2 }; rest = 4 })
  -- gives an empty line after an LF at the end
  pub next_is_done_after_the_last_lf : next_line (bytes "a\n") 2 ≡ None
  -- drops two CRs
  pub without_cr_drops_one : without_cr (bytes "A\r\r") ≡ bytes "A\r"
  -- drops a CR that is not at the end
  pub without_cr_keeps_an_inner_cr : without_cr (bytes "A\rB") ≡ bytes "A\rB"
  -- trims the start alone
  pub trim_drops_both_ends : trimmed (bytes " A ") ≡ bytes "A"
  -- trims spaces alone
  pub trim_drops_tab_and_cr : trimmed (9 ∷ 65 ∷ 13 ∷ []) ≡ bytes "A"
  -- takes a slash anywhere
  pub starts_with_slash_of_a_later_one_is_no : starts 47 (bytes "A/") ≡ false
  -- asks for a byte after the slash
  pub starts_with_slash_of_a_slash_is_yes : starts 47 (bytes "/") ≡ true
  -- takes a letter before the slash
  pub is_numbered_line_of_a_letter_is_no : is_numbered (bytes "A/B") ≡ false
  -- asks for a text after the slash
  pub is_numbered_line_without_text_is_yes : is_numbered (bytes "1/") ≡ true
  -- takes `//` with nothing after it
  pub parse_remaining_refuses_a_lone_slash : identifier_reply 34 1 (bytes "/") ≡ refused 2 1
  -- takes any byte in a code
  pub parse_remaining_refuses_a_sign_in_a_code : identifier_reply 34 1 (bytes "A-/1") ≡ refused 2 1
  -- counts the digit alone
  pub skip_of_numbered_is_2 : skip_of Numbered ≡ 2
  -- counts a number where there is none
  pub skip_of_unnumbered_is_0 : skip_of Unnumbered ≡ 0
  -- keeps 50F's digits in the text
  pub dropped_prefix_of_numbered_is_2 : dropped_prefix Numbered ≡ 2
  -- leaves 59F's digits out
  pub dropped_prefix_of_in_turn_is_0 : dropped_prefix InTurn ≡ 0
  -- takes no name at all
  pub parse_count_refuses_0 : parse_count 4 0 ≡ refused 7 0
  -- refuses as many as there may be
  pub parse_count_takes_four : parse_count 4 4 ≡ accepted
  -- tells the place among the names, 2, for the body line, 3, where a line precedes them
  pub names_tell_the_body_line : parse_name_and_address Field50K 2 (bytes "A" ∷ bytes "~" ∷ []) ≡ refused 3 3
  -- takes a name that is like an earlier one from the earlier place
  pub names_have_each_their_place : line_places (bytes "A\r\nA") 0 ≡ record { start = 0; len = 1 } ∷ record { start = 3; len = 1 } ∷ []
  -- gives 50F's number with its name, or the places of refused names
  pub names_start_after_the_number : name_places accepted 2 (record { start = 0; len = 3 } ∷ []) ≡ record { start = 2; len = 1 } ∷ no_place ∷ no_place ∷ no_place ∷ []
  pub names_refused_have_no_place : name_places (refused 7 0) 2 (record { start = 0; len = 3 } ∷ []) ≡ no_place ∷ no_place ∷ no_place ∷ no_place ∷ []

pub field_utils_operations : FieldUtilsOperations
unfolding four letter digit alphanumeric signs legal parse_swift_chars parse_account upto starts without_cr line_of next_line places_of white trimmed_start keep trimmed_end trimmed is_numbered second_slash identifier_reply parse_line parse_lines parse_name_and_address
field_utils_operations = record {
  find_begins_at_the_place = refl;
  find_sees_every_byte = refl;
  find_lf_gives_the_first = refl;
  find_lf_of_none_is_the_length = refl;
  next_drops_one_cr = refl;
  next_is_done_after_the_last_lf = refl;
  without_cr_drops_one = refl;
  without_cr_keeps_an_inner_cr = refl;
  trim_drops_both_ends = refl;
  trim_drops_tab_and_cr = refl;
  starts_with_slash_of_a_later_one_is_no = refl;
  starts_with_slash_of_a_slash_is_yes = refl;
  is_numbered_line_of_a_letter_is_no = refl;
  is_numbered_line_without_text_is_yes = refl;
  parse_remaining_refuses_a_lone_slash = refl;
  parse_remaining_refuses_a_sign_in_a_code = refl;
  skip_of_numbered_is_2 = refl;
  skip_of_unnumbered_is_0 = refl;
  dropped_prefix_of_numbered_is_2 = refl;
  dropped_prefix_of_in_turn_is_0 = refl;
  parse_count_refuses_0 = refl;
  parse_count_takes_four = refl;
  names_tell_the_body_line = refl;
  names_have_each_their_place = refl;
  names_start_after_the_number = refl;
  names_refused_have_no_place = refl;
}
