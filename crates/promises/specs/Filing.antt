-- Wrong programs that adding and closing rule out (document 01, 'For the auditor's form'), each by computation.
use Rattle.std.specs.Prelude.{◌≡◌, refl, true, false, List, [], ◌∷◌, ◌++◌, ℕ, ◌+◌, ◌*◌, ltb, length, replicate}
use Rattle.errors.specs.Refusals.{accepted, refused}
use Rattle.party.specs.declared.PartyOption.TheVariants.{Field50A, Field50K, Field59F}
use Rattle.party.specs.declared.Party.{Party}
use Rattle.party.specs.Text.{padded, text_of, four}
use Rattle.party.specs.Party.{Content, content}
use Rattle.swift_utils.specs.Bytes.{bytes, letter, digit, alphanumeric, signs, legal}
use Rattle.swift_utils.specs.Checks.{parse_swift_chars, parse_account}
use Rattle.field_utils.specs.Lines.{upto, onto, starts, without_cr}
use Rattle.field_utils.specs.Identifier.{is_numbered, second_slash, identifier_reply}
use Rattle.field_utils.specs.Names.{parse_line, parse_lines, parse_name_and_address}
use Rattle.field_utils.specs.Tags.{tag_of}
use Rattle.reader.specs.Reading.{party_of}
use Rattle.writer.specs.Writing.{name_lines, written_lines, joined, written_body, written_field, field_most, identified59_f, pieces}
use Rattle.writer.specs.Given.{is_line, are_names, is_given}
use Rattle.writer.specs.ReadBack.{ends_cr, last_empty}
use Rattle.writer.specs.Longest.{longest}
use Rattle.page_reader.specs.Pages.{is_end, ends_page}
use Rattle.page_writer.specs.IndexState.{no_index}
use Rattle.page_writer.specs.Adding.{any_line, later_boundary, is_carried, writable, position_after, refusal, asked, record_reply, add_reply, add, add_index, close}
use Rattle.page_writer.specs.Fold.{run, accepted_of}
use Rattle.page_writer.specs.Demand3.{adds, accepted_adds, closing, page, identified_in}
use Rattle.promises.specs.Starred.{gives, gives50_f, at_position}

-- a 50K of these names
abbrev pub of : List (List ℕ) → Party
of names = (gives Field50K false [] [] names).party

pub record FilingRuledOut : Type 0 where
  -- an adder that leaves the page as it came, that files the first record over and over, or that refuses all
  pub both_filed : (adds no_index (of (bytes "A" ∷ []) ∷ of (bytes "B" ∷ []) ∷ []) (replicate 20 0)).state.buffer ≡ bytes ":50K:A\n:50K:B\n" ++ replicate 6 0
  -- 24 with bytes free: 9 bytes take a field of 6, its LF and the end; 8 do not
  pub enough : record_reply 9 false (at_position 0) (content (of (bytes "A" ∷ []))) ≡ accepted
  pub short : record_reply 8 false (at_position 0) (content (of (bytes "A" ∷ []))) ≡ refused 24 0
  -- 23 too wide by one case: a first line like an end line or an opening, a later one that only begins like an end line, 59F with an
  -- identifier, a CR within
  pub hyphen_first : record_reply 40 false (at_position 0) (content (of (bytes "-" ∷ []))) ≡ accepted
  pub colon_first : record_reply 40 false (at_position 0) (content (of (bytes ":A" ∷ []))) ≡ accepted
  pub hyphen_more : record_reply 40 false (at_position 0) (content (of (bytes "A" ∷ bytes "-B" ∷ []))) ≡ accepted
  pub brace_first : record_reply 40 false (at_position 0) (content (of (bytes "-}" ∷ []))) ≡ accepted
  pub brace_more : record_reply 40 false (at_position 0) (content (of (bytes "A" ∷ bytes "-}B" ∷ []))) ≡ accepted
  pub identified_59F : record_reply 40 false (at_position 0) (content (gives Field59F true (bytes "1") [] (bytes "1/A" ∷ [])).party) ≡ accepted
  pub cr_within : record_reply 40 false (at_position 0) (content (of (bytes "A" ∷ bytes "\rB" ∷ []))) ≡ accepted
  -- or too narrow by one
  pub hyphen_later : record_reply 40 false (at_position 0) (content (of (bytes "A" ∷ bytes "-" ∷ []))) ≡ refused 23 0
  pub colon_later : record_reply 40 false (at_position 0) (content (of (bytes "A" ∷ bytes ":B" ∷ []))) ≡ refused 23 0
  pub brace_later : record_reply 40 false (at_position 0) (content (of (bytes "A" ∷ bytes "-}" ∷ []))) ≡ refused 23 0
  pub cr_last : record_reply 40 false (at_position 0) (content (of (bytes "A" ∷ bytes "B\r" ∷ []))) ≡ refused 23 0
  pub cr_only : record_reply 40 false (at_position 0) (content (of (bytes "A\r" ∷ []))) ≡ refused 23 0
  pub cr_earlier : record_reply 40 false (at_position 0) (content (of (bytes "A\r" ∷ bytes "B" ∷ []))) ≡ refused 23 0
  pub empty_last_lem : record_reply 40 false (at_position 0) (content (of (bytes "A" ∷ [] ∷ []))) ≡ refused 23 0
  -- closing that changes a byte after its LF, or writes `-}`
  pub closed : close (bytes "abc") 0 ≡ record { answer = position_after 2; buffer = bytes "-\nc" }
  -- 21 before all else: a position within a line
  pub position : (add (bytes "abcdefghijkl") 1 no_index (content (of []))).answer ≡ refusal 21 0

pub filing_ruled_out : FilingRuledOut
unfolding padded text_of content letter digit alphanumeric signs legal parse_swift_chars parse_account upto onto starts is_numbered identifier_reply parse_line parse_lines parse_name_and_address four party_of name_lines written_lines joined written_body written_field pieces is_line are_names is_given ends_cr last_empty without_cr is_end ends_page any_line later_boundary is_carried writable asked record_reply add_reply add add_index close run tag_of
filing_ruled_out = record {
  both_filed = refl;
  enough = refl;
  short = refl;
  hyphen_first = refl;
  colon_first = refl;
  hyphen_more = refl;
  brace_first = refl;
  brace_more = refl;
  identified_59F = refl;
  cr_within = refl;
  hyphen_later = refl;
  colon_later = refl;
  brace_later = refl;
  cr_last = refl;
  cr_only = refl;
  cr_earlier = refl;
  empty_last_lem = refl;
  closed = refl;
  position = refl;
}

-- a buffer for one field of the longest length, its LF and the end
abbrev room : List ℕ
room = replicate 190 0

-- a 50F, each text as long as it may be
abbrev pub long50_f : Party
long50_f = (gives50_f (replicate 35 65) (replicate 4 (replicate 33 65)) (bytes "1234")).party

-- records without the form: that 50F, a 59F without an identifier, a 50A with one
abbrev others : List Party
others = long50_f ∷ (gives Field59F false [] [] (bytes "1/A" ∷ [])).party ∷ (gives Field50A true (bytes "1") (bytes "ABCDEFGH") []).party ∷ []

-- the bounds of a page (document 02, Six)
pub record PageBounds : Type 0 where
  -- one field of 59F with an identifier, as long as it may be: the page meets 188 a field and 2, and so passes 185 a field and 2
  pub closes : (closing no_index (longest ∷ []) room).answer ≡ position_after 190
  pub met : length (page no_index (longest ∷ []) room 190) ≡ (field_most + 1) * length (accepted_adds no_index (longest ∷ []) room) + 2
  pub passed : ltb (185 * length (accepted_adds no_index (longest ∷ []) room) + 2) (length (page no_index (longest ∷ []) room 190)) ≡ true
  -- a bound of 185 whose premise no page meets: it counts the form, and nothing else
  pub counted : identified_in (longest ∷ []) ≡ 1
  pub not_counted : identified_in others ≡ 0
  -- and one that could be lower: a page of one 50F meets 185 a field and 2
  pub closes_50F : (closing no_index (long50_f ∷ []) room).answer ≡ position_after 187
  pub met_50F : length (page no_index (long50_f ∷ []) room 187) ≡ 185 * length (accepted_adds no_index (long50_f ∷ []) room) + 2

pub page_bounds : PageBounds
unfolding padded text_of content letter digit alphanumeric signs legal parse_swift_chars parse_account upto onto starts is_numbered second_slash identifier_reply parse_line parse_lines parse_name_and_address four party_of name_lines written_lines joined written_body written_field pieces is_line are_names is_given ends_cr last_empty without_cr is_end ends_page any_line later_boundary is_carried writable asked record_reply add_reply add add_index close run accepted_of tag_of identified59_f identified_in
page_bounds = record { closes = refl; met = refl; passed = refl; counted = refl; not_counted = refl; closes_50F = refl; met_50F = refl }

-- the 50K of one name, A, whose field has 6 bytes
abbrev content_a : Content
content_a = content (of (bytes "A" ∷ []))

-- where a page is written
pub record WritePositions : Type 0 where
  -- after an LF, the buffer's length is a position to write at: 24, and not 21
  pub length_after_lf_adds : (add (bytes "X\n") 2 no_index content_a).answer ≡ refusal 24 0
  pub length_after_lf_closes : (close (bytes "X\n") 2).answer ≡ refusal 24 0
  -- and so is 0 in an empty buffer
  pub zero_of_none_adds : (add [] 0 no_index content_a).answer ≡ refusal 24 0
  pub zero_of_none_closes : (close [] 0).answer ≡ refusal 24 0
  -- one past the buffer is not
  pub past_adds : (add (bytes "X\n") 3 no_index content_a).answer ≡ refusal 21 0
  pub past_closes : (close (bytes "X\n") 3).answer ≡ refusal 21 0
  -- nor one within it that is after another byte, a CR too; nor its length there
  pub within_a_line_adds : (add (bytes "X\rabcdefghijk") 2 no_index content_a).answer ≡ refusal 21 0
  pub within_a_line_closes : (close (bytes "X\rab") 2).answer ≡ refusal 21 0
  pub length_after_x_closes : (close (bytes "X") 1).answer ≡ refusal 21 0

pub write_positions : WritePositions
unfolding padded text_of content letter digit alphanumeric signs legal parse_swift_chars parse_account starts onto parse_line parse_lines parse_name_and_address four party_of name_lines written_lines joined written_body written_field pieces is_line are_names is_given ends_cr last_empty without_cr is_end ends_page any_line later_boundary is_carried writable asked record_reply add_reply add close tag_of
write_positions = record {
  length_after_lf_adds = refl;
  length_after_lf_closes = refl;
  zero_of_none_adds = refl;
  zero_of_none_closes = refl;
  past_adds = refl;
  past_closes = refl;
  within_a_line_adds = refl;
  within_a_line_closes = refl;
  length_after_x_closes = refl;
}

-- the space of a page: position, field, LF and 2 bytes more, or position and 2, within the buffer and within 32,768
pub record PageSpace : Type 0 where
  -- the position counts: 7 and 9
  pub position_counts : record_reply 16 false (at_position 7) content_a ≡ accepted
  pub position_counts_short : record_reply 15 false (at_position 7) content_a ≡ refused 24 0
  -- in a larger buffer a page is filled up to 32,768 and no further
  pub add_to_32768 : record_reply 40000 false (at_position 32759) content_a ≡ accepted
  pub add_to_32769 : record_reply 40000 false (at_position 32760) content_a ≡ refused 24 0
  pub close_to_32768 : (close (replicate 32800 10) 32766).answer ≡ position_after 32768
  pub close_to_32769 : (close (replicate 32800 10) 32767).answer ≡ refusal 24 0
  -- in a smaller one up to its length
  pub add_in_32767 : record_reply 32767 false (at_position 32759) content_a ≡ refused 24 0
  pub close_in_two : (close (bytes "ab") 0).answer ≡ position_after 2
  pub close_in_one : (close (bytes "a") 0).answer ≡ refusal 24 0

pub page_space_lem : PageSpace
unfolding padded text_of content letter digit alphanumeric signs legal parse_swift_chars parse_account starts onto parse_line parse_lines parse_name_and_address four party_of name_lines written_lines joined written_body written_field pieces is_line are_names is_given ends_cr last_empty without_cr is_end ends_page any_line later_boundary is_carried writable asked record_reply close tag_of
page_space_lem = record {
  position_counts = refl;
  position_counts_short = refl;
  add_to_32768 = refl;
  add_to_32769 = refl;
  close_to_32768 = refl;
  close_to_32769 = refl;
  add_in_32767 = refl;
  close_in_two = refl;
  close_in_one = refl;
}
