-- Wrong programs that adding with an index and looking up rule out (document 02, Three), each by computation.
use Rattle.std.specs.Prelude.{◌≡◌, refl, List, [], ◌∷◌, ◌++◌, ℕ, length, replicate}
use Rattle.party.specs.Text.{padded, text_of, four}
use Rattle.party.specs.Party.{content}
use Rattle.swift_utils.specs.Bytes.{bytes, letter, digit, alphanumeric, signs, legal}
use Rattle.swift_utils.specs.Checks.{parse_swift_chars, parse_account}
use Rattle.field_utils.specs.Lines.{upto, onto, starts, lines, without_cr}
use Rattle.field_utils.specs.Names.{parse_line, parse_lines, parse_name_and_address}
use Rattle.field_utils.specs.Tags.{tag_of}
use Rattle.reader.specs.Reading.{party_of}
use Rattle.reader.specs.Options.{account_head, after_head, read}
use Rattle.writer.specs.Writing.{name_lines, written_lines, joined, written_body, written_field, pieces}
use Rattle.writer.specs.Given.{is_line, are_names, is_given}
use Rattle.writer.specs.ReadBack.{ends_cr, last_empty}
use Rattle.page_reader.specs.Pages.{line_at, is_end, ends_page, runs, begins, tag_in, a_refusal, read_field, read_case, read_at}
use Rattle.page_reader.specs.Reads.{reads_from}
use Rattle.page_reader.specs.Index.{entries_in, entries_of, field_at, fields_in, fields_met, found, not_found, look_up, body_of}
use Rattle.page_writer.specs.IndexState.{IndexState, an_index, entries_kept, noted}
use Rattle.page_writer.specs.Adding.{any_line, later_boundary, is_carried, writable, Filed, position_after, refusal, asked, record_reply, add_reply, add, add_index}
use Rattle.page_writer.specs.Fold.{run}
use Rattle.page_writer.specs.Demand3.{adds}
use Rattle.promises.specs.Pages.{long_page}
use Rattle.promises.specs.Filing.{of}

-- an empty index, whose other numbers are any
abbrev empty : IndexState
empty = an_index (0 ∷ replicate 768 7)

-- one of a count and the numbers of its first entry
abbrev index : ℕ → List ℕ → List ℕ
index count numbers = count ∷ numbers ++ replicate 765 0

-- a full one
abbrev full : IndexState
full = an_index (256 ∷ replicate 768 0)

-- a page of two fields
abbrev page : List ℕ
page = bytes ":50K:A\n:50:BC\n-\n"

-- its index
abbrev made : List ℕ
made = 2 ∷ 3 ∷ 0 ∷ 6 ∷ 0 ∷ 7 ∷ 6 ∷ replicate 762 0

pub record IndexRuledOut : Type 0 where
  -- an index whose positions are off by the LF, or that counts it in a length; one that also has refused adds
  pub positions : entries_kept (adds empty (of (bytes "A" ∷ []) ∷ of [] ∷ of (bytes "BC" ∷ []) ∷ []) (replicate 30 0)).state.index
      ≡ record { tag = 3; position = 0; len = 6 } ∷ record { tag = 3; position = 7; len = 7 } ∷ []
  -- one that tells the tags of a field wrong, or leaves a field out
  pub fields : fields_met page ≡ record { tag = 3; position = 0; len = 6 } ∷ record { tag = 0; position = 7; len = 6 } ∷ []
  -- an add that changes another number than its entry's three and the count
  pub only_its_entry : add_index (replicate 9 0) 0 empty (content (of (bytes "A" ∷ []))) ≡ an_index (1 ∷ 3 ∷ 0 ∷ 6 ∷ replicate 765 7)
  -- 31 before 24, or too late; a refusal that notes its entry; a count above 256 that is believed
  pub no_space_first : (add (replicate 8 0) 0 full (content (of (bytes "A" ∷ [])))).answer ≡ refusal 24 0
  pub no_entry_lem : add (replicate 9 0) 0 full (content (of (bytes "A" ∷ []))) ≡ record { answer = refusal 31 0; buffer = replicate 9 0 }
  pub not_noted : add_index (replicate 9 0) 0 full (content (of (bytes "A" ∷ []))) ≡ full
  pub no_entry_above : (add (replicate 9 0) 0 (an_index (257 ∷ replicate 768 0)) (content (of (bytes "A" ∷ [])))).answer ≡ refusal 31 0
  pub last_entry : (add (replicate 9 0) 0 (an_index (255 ∷ replicate 768 0)) (content (of (bytes "A" ∷ [])))).answer ≡ position_after 7
  pub counted : length (entries_of made) ≡ 2
  pub counted_above : length (entries_of (300 ∷ replicate 768 0)) ≡ 256
  -- k counted from 0
  pub first : body_of (look_up page made 1) ≡ bytes "A"
  pub second : body_of (look_up page made 2) ≡ bytes "BC"
  pub zeroth : look_up page made 0 ≡ not_found 31 0
  pub third : look_up page made 3 ≡ not_found 31 0
  -- 31 after 21: an entry that the index has not got, and that the page has not either
  pub none_first : look_up page (index 0 (9 ∷ 9 ∷ 9 ∷ [])) 1 ≡ not_found 31 0
  -- either before 18
  pub too_long_first : look_up (replicate 32769 0) made 0 ≡ not_found 18 0
  pub too_long_at_an_entry : look_up (replicate 32769 0) made 1 ≡ not_found 18 0
  -- a lookup that trusts an entry: another tag, position or length; the end line, a line that is stray, the page's length, past it
  pub other_tag : look_up page (index 1 (0 ∷ 0 ∷ 6 ∷ [])) 1 ≡ not_found 21 0
  pub other_position : look_up page (index 1 (3 ∷ 1 ∷ 6 ∷ [])) 1 ≡ not_found 21 0
  pub other_field : look_up page (index 1 (3 ∷ 7 ∷ 6 ∷ [])) 1 ≡ not_found 21 0
  pub other_length : look_up page (index 1 (3 ∷ 0 ∷ 7 ∷ [])) 1 ≡ not_found 21 0
  pub at_the_end : look_up page (index 1 (0 ∷ 14 ∷ 1 ∷ [])) 1 ≡ not_found 21 0
  pub at_a_stray_line : look_up (bytes "x\n-\n") (index 1 (0 ∷ 0 ∷ 1 ∷ [])) 1 ≡ not_found 21 0
  pub at_the_length : look_up page (index 1 (0 ∷ 16 ∷ 0 ∷ [])) 1 ≡ not_found 21 0
  pub past_it : look_up page (index 1 (0 ∷ 17 ∷ 0 ∷ [])) 1 ≡ not_found 21 0
  pub unknown_tag : look_up (bytes ":51K:A\n-\n") (index 1 (3 ∷ 0 ∷ 6 ∷ [])) 1 ≡ not_found 21 0
  -- one that counts a CR before the LF in a length
  pub without_cr_lem : body_of (look_up (bytes ":50K:A\r\n-}\r\n") (index 1 (3 ∷ 0 ∷ 6 ∷ [])) 1) ≡ bytes "A"
  -- one that tells a body's refusal as its own, without a position
  pub body_refused : look_up (bytes ":50K:~\n-\n") (index 1 (3 ∷ 0 ∷ 6 ∷ [])) 1 ≡ found (record { at = 0; gave = record { outcome = a_refusal 3 1; body = bytes "~"; next = 7 } })

pub index_ruled_out : IndexRuledOut
unfolding padded text_of content letter digit alphanumeric signs legal parse_swift_chars parse_account upto onto starts lines parse_line parse_lines parse_name_and_address four party_of account_head after_head read name_lines written_lines joined written_body written_field pieces is_line are_names is_given ends_cr last_empty without_cr line_at is_end ends_page runs begins tag_in read_field read_case read_at reads_from entries_in entries_of field_at fields_in look_up noted any_line later_boundary is_carried writable asked record_reply add_reply add add_index run tag_of
index_ruled_out = record {
  positions = refl;
  fields = refl;
  only_its_entry = refl;
  no_space_first = refl;
  no_entry_lem = refl;
  not_noted = refl;
  no_entry_above = refl;
  last_entry = refl;
  counted = refl;
  counted_above = refl;
  first = refl;
  second = refl;
  zeroth = refl;
  third = refl;
  none_first = refl;
  too_long_first = refl;
  too_long_at_an_entry = refl;
  other_tag = refl;
  other_position = refl;
  other_field = refl;
  other_length = refl;
  at_the_end = refl;
  at_a_stray_line = refl;
  at_the_length = refl;
  past_it = refl;
  unknown_tag = refl;
  without_cr_lem = refl;
  body_refused = refl;
}

-- what an add answers in an empty buffer, beside a full index
abbrev refused_at : ℕ → List (List ℕ) → Filed
refused_at at names = (add [] at full (content (of names))).answer

-- the order of what applies to an add: 21, 22, 23, 24, 31
pub record AddOrder : Type 0 where
  -- each where all later ones apply too
  pub position_before_given : refused_at 1 [] ≡ refusal 21 0
  pub given_before_carried : refused_at 0 [] ≡ refusal 22 0
  pub carried_before_space : refused_at 0 (bytes "A" ∷ [] ∷ []) ≡ refusal 23 0
  pub space_before_entry : refused_at 0 (bytes "A" ∷ []) ≡ refusal 24 0
  -- and where the next one does not: a page would carry a name A⏎B; in 40 bytes there is space
  pub given_before_space : refused_at 0 (bytes "A\nB" ∷ []) ≡ refusal 22 0
  pub carried_before_entry : (add (replicate 40 0) 0 full (content (of (bytes "A" ∷ [] ∷ [])))).answer ≡ refusal 23 0
  pub position_before_entry : (add (replicate 40 0) 1 full (content (of (bytes "A" ∷ [])))).answer ≡ refusal 21 0

pub add_order : AddOrder
unfolding padded text_of content letter digit alphanumeric signs legal parse_swift_chars parse_account starts onto parse_line parse_lines parse_name_and_address four party_of name_lines written_lines joined written_body written_field pieces is_line are_names is_given ends_cr last_empty without_cr is_end ends_page any_line later_boundary is_carried writable asked record_reply add_reply add entries_in entries_of tag_of
add_order = record {
  position_before_given = refl;
  given_before_carried = refl;
  carried_before_space = refl;
  space_before_entry = refl;
  given_before_space = refl;
  carried_before_entry = refl;
  position_before_entry = refl;
}

-- a lookup in the longest page, and in one of a byte more
pub record LookMost : Type 0 where
  pub found_in_32768 : body_of (look_up (long_page 32759) (index 1 (3 ∷ 0 ∷ 6 ∷ [])) 1) ≡ bytes "A"
  pub too_long_of_32769 : look_up (long_page 32760) (index 1 (3 ∷ 0 ∷ 6 ∷ [])) 1 ≡ not_found 18 0

pub look_most : LookMost
unfolding padded text_of letter digit alphanumeric signs legal parse_swift_chars parse_account upto onto starts lines parse_line parse_lines parse_name_and_address four party_of account_head after_head read without_cr line_at is_end ends_page runs begins tag_in read_field read_case read_at entries_in entries_of field_at look_up tag_of
look_most = record { found_in_32768 = refl; too_long_of_32769 = refl }
