-- Wrong programs that the contracts of `reader`, `choices`, `field50` and `field59` rule out (document 01, 'For the auditor's form'), each by
-- computation. A field is named after its operation and the fact, and its comment says what a wrong program would do.
use Rattle.std.specs.Prelude.{◌≡◌, refl, true, false, List, [], ◌∷◌, ◌++◌, ℕ, suc, get_or, drop, replicate, Ok, Err}
use Rattle.errors.specs.declared.ParseError.TheVariants.{TooLong}
use Rattle.errors.specs.Refusals.{Reply, accepted, refused}
use Rattle.party.specs.declared.PartyOption.{PartyOption}
use Rattle.party.specs.declared.PartyOption.TheVariants.{Field50NoOption, Field50A, Field50F, Field50K, Field50C, Field50L, Field50G, Field50H, Field59NoOption, Field59A, Field59F}
use Rattle.party.specs.Text.{padded, text_of, four}
use Rattle.party.specs.Party.{blank}
use Rattle.party.specs.declared.First.TheVariants.{ShortAccount, AnyAccount}
use Rattle.party.specs.Limits.{limits_of, place_of}
use Rattle.swift_utils.specs.Bytes.{bytes, all, letter, digit, alphanumeric, signs, legal}
use Rattle.swift_utils.specs.Checks.{parse_swift_chars, parse_account, bic_length, parse_bic}
use Rattle.field_utils.specs.Lines.{upto, onto, starts, lines}
use Rattle.field_utils.specs.Trim.{white, trimmed_start, keep, trimmed_end, trimmed}
use Rattle.field_utils.specs.Identifier.{is_numbered, second_slash, identifier_reply, parse_party_identifier}
use Rattle.field_utils.specs.Names.{parse_line, parse_lines, parse_name_and_address}
use Rattle.record_bytes.specs.RecordBytes.{record_size, encoded_texts, encoded, stored, holds_record, party_from, decoded}
use Rattle.reader.specs.Reading.{party_of, told_answer, answer_from, read_into}
use Rattle.reader.specs.Options.{length_reply, account_head, short_account_head, after_head, ascii, body_reply, read}
use Rattle.reader.specs.declared.choices.Choice.TheVariants.{Field50InstructingParty, Field50OrderingCustomerFGH, Field50OrderingCustomerAFK, Field50OrderingCustomerNCF, Field50Creditor, Field59, Field59Debtor}
use Rattle.reader.specs.declared.choices.Test.TheVariants.{LaterNumbered, AnyNumbered, LastIsBic, BicSized, FirstNumbered}
use Rattle.reader.specs.Detection.{any_numbered, first_line, last_line, bic_like, test_line, holds}
use Rattle.reader.specs.Choices.{refusing, first_that, parse, pick_of, parse_with_variant}
use Rattle.promises.specs.RuledOut.{body_of, As}

-- a lent record, and one byte less
abbrev pub lent : List ℕ
lent = replicate record_size 7

abbrev pub short : List ℕ
short = replicate 240 7

pub record ReaderOperations : Type 0 where
  -- tests 50H's account as 50G's
  pub parse_head_of_50H_takes_any_account : (limits_of Field50H).first ≡ AnyAccount
  -- reads 59 as 50K: `/` with over 34 bytes is an account
  pub parse_head_of_59_takes_a_short_account : (limits_of Field59NoOption).first ≡ ShortAccount
  -- loses the line
  pub refusal_keeps_the_line : (told_answer (Err (TooLong 2))).reply ≡ refused 4 2
  -- leaves the names met so far beside the refusal
  pub refusal_has_no_names : (told_answer (Err (TooLong 2))).party.count ≡ 0
  -- gives all bytes where the place is past the end
  pub suffix_past_the_end_is_empty : drop 3 (bytes "AB") ≡ []
  -- gives one byte too few
  pub suffix_at_1_skips_one : drop 1 (bytes "AB") ≡ bytes "B"
  -- tests the bytes too
  pub account_length_takes_any_byte : length_reply Field50H (bytes "~") ≡ accepted
  -- has a limit of 35 for 34
  pub account_length_refuses_35 : length_reply Field50H (replicate 35 65) ≡ refused 2 1
  -- passes only bytes below 127
  pub is_ascii_of_127_is_yes : all ascii (127 ∷ []) ≡ true
  -- tests the first byte alone
  pub is_ascii_tests_every_byte : all ascii (65 ∷ 128 ∷ []) ≡ false
  -- has a limit of 2,047 for 2,048
  pub parse_body_takes_2048 : body_reply (replicate 2048 65) ≡ accepted
  -- tests the bytes before the length
  pub parse_body_tests_length_first : body_reply (replicate 2049 128) ≡ refused 12 0
  -- stores the blank record beside a refusal
  pub read_into_leaves_bytes_at_a_refusal : read_into (read Field50C (bytes "A")) lent ≡ record { reply = refused 9 1; bytes = lent }
  -- leaves 13 to its caller
  pub read_into_tells_13 : (read_into (read Field50H (47 ∷ 128 ∷ bytes "\nA")) lent).reply ≡ refused 13 0
  -- accepts where 240 bytes are lent, stores nothing and does not say so; or asks for more than 241
  pub read_into_refuses_240 : read_into (read Field50L (bytes "A")) short ≡ record { reply = refused 42 0; bytes = short }
  pub read_into_takes_241 : (read_into (read Field50L (bytes "A")) lent).reply ≡ accepted
  -- gives what the room holds beside a refusal
  pub answer_from_a_refusal_is_blank : (told_answer (answer_from (Err (TooLong 2)) (0 ∷ 1 ∷ replicate 239 0))).party.present ≡ false
  -- gives the blank record beside an acceptance
  pub answer_from_an_acceptance_is_the_room : (told_answer (answer_from (Ok tt) (0 ∷ 1 ∷ replicate 239 0))).party.present ≡ true

pub reader_operations : ReaderOperations
unfolding letter digit alphanumeric signs legal parse_swift_chars parse_account bic_length parse_bic upto onto starts lines second_slash identifier_reply parse_party_identifier parse_line parse_lines parse_name_and_address after_head read holds_record party_from decoded
reader_operations = record {
  parse_head_of_50H_takes_any_account = refl;
  parse_head_of_59_takes_a_short_account = refl;
  refusal_keeps_the_line = refl;
  refusal_has_no_names = refl;
  suffix_past_the_end_is_empty = refl;
  suffix_at_1_skips_one = refl;
  account_length_takes_any_byte = refl;
  account_length_refuses_35 = refl;
  is_ascii_of_127_is_yes = refl;
  is_ascii_tests_every_byte = refl;
  parse_body_takes_2048 = refl;
  parse_body_tests_length_first = refl;
  read_into_leaves_bytes_at_a_refusal = refl;
  read_into_tells_13 = refl;
  read_into_refuses_240 = refl;
  read_into_takes_241 = refl;
  answer_from_a_refusal_is_blank = refl;
  answer_from_an_acceptance_is_the_room = refl;
}

-- ---- the eleven options
-- a body whose name, text, BIC, account or identifier has so many bytes
abbrev pub body_with : PartyOption → ℕ → List ℕ
body_with Field50NoOption n = replicate n 65
body_with Field50A n = bytes "/" ++ replicate n 65 ++ bytes "\nABCDEFGH"
body_with Field50F n = replicate n 65 ++ bytes "\n1/N"
body_with Field50K n = replicate n 65
body_with Field50C n = replicate n 65
body_with Field50L n = replicate n 65
body_with Field50G n = bytes "/" ++ replicate n 65 ++ bytes "\nABCDEFGH"
body_with Field50H n = bytes "/" ++ replicate n 65 ++ bytes "\nN"
body_with Field59NoOption n = bytes "/" ++ replicate n 65 ++ bytes "\nN"
body_with Field59A n = bytes "/" ++ replicate n 65 ++ bytes "\nABCDEFGH"
body_with Field59F n = bytes "1/" ++ replicate n 65

-- the most that it may have
abbrev pub most_of : PartyOption → ℕ
most_of Field50NoOption = 35
most_of Field50A = 34
most_of Field50F = 35
most_of Field50K = 35
most_of Field50C = 11
most_of Field50L = 35
most_of Field50G = 34
most_of Field50H = 34
most_of Field59NoOption = 34
most_of Field59A = 34
most_of Field59F = 33

-- what one byte more is; in 59 it makes a name of the account, and in 59A a BIC
abbrev pub over_of : PartyOption → Reply
over_of Field50NoOption = refused 4 1
over_of Field50A = refused 2 1
over_of Field50F = refused 2 1
over_of Field50K = refused 4 1
over_of Field50C = refused 9 1
over_of Field50L = refused 2 1
over_of Field50G = refused 2 1
over_of Field50H = refused 2 1
over_of Field59NoOption = refused 4 1
over_of Field59A = refused 9 1
over_of Field59F = refused 4 1

pub record Parses (o : PartyOption) : Type 0 where
  -- hands the body to the reader of another option
  pub gives_the_option : As (read o (body_of o (bytes "A"))) o
  -- has a limit that is one too small
  pub takes_the_most : (read o (body_with o (most_of o))).reply ≡ accepted
  -- has one that is one too large, or tells another refusal
  pub refuses_one_more : (read o (body_with o (suc (most_of o)))).reply ≡ over_of o

pub parses : (o : PartyOption) → Parses o
unfolding padded text_of letter digit alphanumeric signs legal parse_swift_chars parse_account bic_length parse_bic upto onto starts lines is_numbered second_slash identifier_reply parse_party_identifier parse_line parse_lines parse_name_and_address four party_of account_head short_account_head after_head read
parses Field50NoOption = record { gives_the_option = (refl, refl); takes_the_most = refl; refuses_one_more = refl }
parses Field50A = record { gives_the_option = (refl, refl); takes_the_most = refl; refuses_one_more = refl }
parses Field50F = record { gives_the_option = (refl, refl); takes_the_most = refl; refuses_one_more = refl }
parses Field50K = record { gives_the_option = (refl, refl); takes_the_most = refl; refuses_one_more = refl }
parses Field50C = record { gives_the_option = (refl, refl); takes_the_most = refl; refuses_one_more = refl }
parses Field50L = record { gives_the_option = (refl, refl); takes_the_most = refl; refuses_one_more = refl }
parses Field50G = record { gives_the_option = (refl, refl); takes_the_most = refl; refuses_one_more = refl }
parses Field50H = record { gives_the_option = (refl, refl); takes_the_most = refl; refuses_one_more = refl }
parses Field59NoOption = record { gives_the_option = (refl, refl); takes_the_most = refl; refuses_one_more = refl }
parses Field59A = record { gives_the_option = (refl, refl); takes_the_most = refl; refuses_one_more = refl }
parses Field59F = record { gives_the_option = (refl, refl); takes_the_most = refl; refuses_one_more = refl }

-- ---- the choices
pub record ChoicesOperations : Type 0 where
  -- tries the third option before the second
  pub parse_tries_a_before_k : As (parse Field50OrderingCustomerAFK (bytes "ABCDEFGH")) Field50A
  -- tests for 12 what is tried, and not the body as it came
  pub parse_counts_the_body_as_it_came : parse Field50InstructingParty (replicate 2049 32) ≡ refusing 12 0
  -- takes a small letter for its capital
  pub parse_with_variant_refuses_small : parse_with_variant Field50OrderingCustomerAFK (bytes "ABCDEFGH") 97 ≡ refusing 14 0
  -- refuses a letter that no option of the choice has
  pub parse_with_variant_by_z_detects : As (parse_with_variant Field50OrderingCustomerAFK (bytes "ABCDEFGH") 90) Field50A
  -- takes from the body as it came the parts that were found in the trimmed one: the text of ` A` is a space
  pub parse_into_stores_the_trimmed : get_or (read_into (parse Field50InstructingParty (bytes " A")) lent).bytes 4 0 ≡ 65
  -- stores the blank record where no option accepts
  pub parse_into_leaves_bytes_at_a_refusal : read_into (parse Field50Creditor []) lent ≡ record { reply = refused 11 0; bytes = lent }
  -- tests 42 last
  pub parse_into_tests_42_first : read_into (parse Field50Creditor []) short ≡ record { reply = refused 42 0; bytes = short }
  -- detects all the same, and stores a 50A by K
  pub parse_with_variant_into_by_k_picks : get_or (read_into (parse_with_variant Field50OrderingCustomerAFK (bytes "ABCDEFGH") 75) lent).bytes 0 0 ≡ place_of Field50K
  -- stores the record, and then refuses the letter
  pub parse_with_variant_into_leaves_bytes_at_a_refusal : read_into (parse_with_variant Field50OrderingCustomerAFK (bytes "ABCDEFGH") 97) lent ≡ record { reply = refused 14 0; bytes = lent }
  -- tests 14 before 42
  pub parse_with_variant_into_tests_42_first : read_into (parse_with_variant Field50OrderingCustomerAFK (bytes "ABCDEFGH") 97) short ≡ record { reply = refused 42 0; bytes = short }
  -- the tests: whether a line after the first is numbered tests the first too, or the second alone
  pub later_numbered_leaves_the_first_out : holds LaterNumbered (lines (bytes "1/A\nB")) ≡ false
  pub later_numbered_tests_the_third : holds LaterNumbered (lines (bytes "A\nB\n1/C")) ≡ true
  -- whether any is tests the first alone
  pub any_numbered_tests_the_second : holds AnyNumbered (lines (bytes "A\n1/B")) ≡ true
  -- whether the last is a BIC tests it with its spaces, or asks for six letters first
  pub last_is_bic_trims_spaces : holds LastIsBic (lines (bytes "A\n ABCDEFGH ")) ≡ true
  pub last_is_bic_takes_digits : holds LastIsBic (lines (bytes "12345678")) ≡ true
  -- one line of 8 to 11 bytes takes two lines, or keeps the CR before the LF
  pub bic_sized_refuses_two_lines : holds BicSized (lines (bytes "ABCDEFGH\nA")) ≡ false
  pub bic_sized_drops_the_cr : holds BicSized (lines (bytes "ABCDEFGHIJK\r\n")) ≡ true
  -- whether the first is numbered, with `/` before it, tests the last, or the first where there is no second
  pub first_numbered_tests_the_second : holds FirstNumbered (lines (bytes "/A\n1/B\nC")) ≡ true
  pub first_numbered_of_one_line_is_no : holds FirstNumbered (lines (bytes "/A")) ≡ false

pub choices_operations : ChoicesOperations
unfolding padded text_of letter digit alphanumeric signs legal parse_swift_chars parse_account bic_length parse_bic upto onto starts lines white trimmed_start keep trimmed_end trimmed is_numbered second_slash identifier_reply parse_party_identifier parse_line parse_lines parse_name_and_address four party_of account_head after_head read any_numbered first_line last_line bic_like test_line first_that pick_of parse parse_with_variant encoded_texts encoded stored
choices_operations = record {
  parse_tries_a_before_k = (refl, refl);
  parse_counts_the_body_as_it_came = refl;
  parse_with_variant_refuses_small = refl;
  parse_with_variant_by_z_detects = (refl, refl);
  parse_into_stores_the_trimmed = refl;
  parse_into_leaves_bytes_at_a_refusal = refl;
  parse_into_tests_42_first = refl;
  parse_with_variant_into_by_k_picks = refl;
  parse_with_variant_into_leaves_bytes_at_a_refusal = refl;
  parse_with_variant_into_tests_42_first = refl;
  later_numbered_leaves_the_first_out = refl;
  later_numbered_tests_the_third = refl;
  any_numbered_tests_the_second = refl;
  last_is_bic_trims_spaces = refl;
  last_is_bic_takes_digits = refl;
  bic_sized_refuses_two_lines = refl;
  bic_sized_drops_the_cr = refl;
  first_numbered_tests_the_second = refl;
  first_numbered_of_one_line_is_no = refl;
}

-- letters are bytes: A 65, C 67, F 70, H 72, K 75, k 107
pub record Field50Operations : Type 0 where
  -- `Field50InstructingParty`: reads the body with its spaces
  pub instructing_party_trims_spaces : As (parse Field50InstructingParty (bytes " ABCDEFGH\n")) Field50C
  -- by C, trims too
  pub instructing_party_by_c_keeps_spaces : (parse_with_variant Field50InstructingParty (bytes " ABCDEFGH") 67).reply ≡ refused 9 1
  -- without a letter, picks C
  pub instructing_party_by_none_detects : As (parse_with_variant Field50InstructingParty (bytes "A") 0) Field50L
  -- `Field50OrderingCustomerFGH`: by H, detects all the same
  pub fgh_by_h_picks : As (parse_with_variant Field50OrderingCustomerFGH (bytes "/X\n1/A") 72) Field50H
  -- by K, which no option of the choice has, refuses
  pub fgh_by_k_detects : As (parse_with_variant Field50OrderingCustomerFGH (bytes "/X\nABCDEFGH") 75) Field50G
  -- `Field50OrderingCustomerAFK`: by K, detects all the same
  pub afk_by_k_picks : As (parse_with_variant Field50OrderingCustomerAFK (bytes "ABCDEFGH") 75) Field50K
  -- by k, which is no capital, detects
  pub afk_by_small_k_refuses : parse_with_variant Field50OrderingCustomerAFK (bytes "A") 107 ≡ refusing 14 0
  -- `Field50OrderingCustomerNCF`: tells C's refusal where C's test holds, and tries no other
  pub ncf_goes_on_after_c : As (parse Field50OrderingCustomerNCF (bytes "ABCDEFGHI")) Field50NoOption
  -- without a letter, detects
  pub ncf_by_none_picks : As (parse_with_variant Field50OrderingCustomerNCF (bytes "ABCDEFGH") 0) Field50NoOption
  -- by C, goes on to 50 where C refuses
  pub ncf_by_c_stops_at_c : (parse_with_variant Field50OrderingCustomerNCF (bytes "ABCDEFGHI") 67).reply ≡ refused 9 1
  -- `Field50Creditor`: tells the last option's refusal, and not 11
  pub creditor_tells_11 : (parse Field50Creditor []).reply ≡ refused 11 0
  -- by A, goes on to K where A refuses
  pub creditor_by_a_stops_at_a : (parse_with_variant Field50Creditor (bytes "A") 65).reply ≡ refused 9 1
  -- by F, picks F, as AFK does
  pub creditor_by_f_detects : As (parse_with_variant Field50Creditor (bytes "X\n1/A") 70) Field50K

pub record Field59Operations : Type 0 where
  -- `Field59`: by K, which no option of the choice has, refuses
  pub field59_by_k_detects : As (parse_with_variant Field59 (bytes "ABCDEFGH") 75) Field59A
  -- `Field59Debtor`: tries F for a numbered line, as `Field59` does
  pub debtor_has_no_f : As (parse Field59Debtor (bytes "1/A")) Field59NoOption
  -- without a letter, detects
  pub debtor_by_none_picks : As (parse_with_variant Field59Debtor (bytes "ABCDEFGH") 0) Field59NoOption
  -- by F, picks F, as `Field59` does
  pub debtor_by_f_detects : As (parse_with_variant Field59Debtor (bytes "1/A") 70) Field59NoOption

pub field50_operations : Field50Operations
unfolding padded text_of letter digit alphanumeric signs legal parse_swift_chars parse_account bic_length parse_bic upto onto starts lines white trimmed_start keep trimmed_end trimmed is_numbered second_slash identifier_reply parse_party_identifier parse_line parse_lines parse_name_and_address four party_of account_head short_account_head after_head read any_numbered first_line last_line bic_like first_that pick_of parse parse_with_variant
field50_operations = record {
  instructing_party_trims_spaces = (refl, refl);
  instructing_party_by_c_keeps_spaces = refl;
  instructing_party_by_none_detects = (refl, refl);
  fgh_by_h_picks = (refl, refl);
  fgh_by_k_detects = (refl, refl);
  afk_by_k_picks = (refl, refl);
  afk_by_small_k_refuses = refl;
  ncf_goes_on_after_c = (refl, refl);
  ncf_by_none_picks = (refl, refl);
  ncf_by_c_stops_at_c = refl;
  creditor_tells_11 = refl;
  creditor_by_a_stops_at_a = refl;
  creditor_by_f_detects = (refl, refl);
}

pub field59_operations : Field59Operations
unfolding padded text_of letter digit alphanumeric signs legal parse_swift_chars parse_account bic_length parse_bic upto onto starts lines is_numbered parse_line parse_lines parse_name_and_address four party_of account_head short_account_head after_head read first_line first_that pick_of test_line parse parse_with_variant
field59_operations = record {
  field59_by_k_detects = (refl, refl);
  debtor_has_no_f = (refl, refl);
  debtor_by_none_picks = (refl, refl);
  debtor_by_f_detects = (refl, refl);
}
