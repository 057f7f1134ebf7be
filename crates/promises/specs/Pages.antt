-- Pages at the edges (document 01, 'Pages (added)'), each read by computation, and wrong programs that they rule out.
use Rattle.std.specs.Prelude.{◌≡◌, refl, Bool, true, false, List, [], ◌∷◌, ◌++◌, map, ℕ, zero, suc, ◌≤◌, ◌<◌, length, drop, replicate}
use Rattle.std.proofs.Common.{le-leb}
use Rattle.std.proofs.lemmas.Bool.{lt-leb}
use Rattle.party.specs.declared.PartyOption.TheVariants.{Field50K}
use Rattle.party.specs.Text.{padded, text_of, four}
use Rattle.swift_utils.specs.Bytes.{bytes, letter, digit, alphanumeric, signs, legal}
use Rattle.swift_utils.specs.Checks.{parse_swift_chars, parse_account, bic_length, parse_bic}
use Rattle.field_utils.specs.Lines.{upto, onto, starts, lines, without_cr}
use Rattle.field_utils.specs.Names.{parse_line, parse_lines, parse_name_and_address}
use Rattle.field_utils.specs.Tags.{tag_of}
use Rattle.reader.specs.Reading.{party_of}
use Rattle.reader.specs.Options.{account_head, after_head, read}
use Rattle.page_reader.specs.Pages.{page_most, line_at, is_end, ends_page, runs, begins, tag_in, a_record, the_end, a_refusal, PageRead, bodiless, read_field, readable, rest_case, read_case, read_by, read_at}
use Rattle.promises.specs.Starred.{gives}

-- so many reads, each at the next position that the last gave
abbrev pub reads : ℕ → List ℕ → ℕ → List PageRead
reads zero page at = []
reads (suc n) page at = read_at page at ∷ reads n page (read_at page at).next

-- a 50K of one name, as a read gives it
abbrev pub named : List ℕ → ℕ → PageRead
named name next = record { outcome = a_record (gives Field50K false [] [] (name ∷ [])).party; body = name; next = next }

-- the end, and a refusal with a number
abbrev pub ends : ℕ → PageRead
ends next = bodiless the_end next

abbrev pub refuses : ℕ → ℕ → PageRead
refuses k next = bodiless (a_refusal k 0) next

pub record PageExamples : Type 0 where
  -- one record, and the end
  pub one : reads 2 (bytes ":50K:A\n-\n") 0 ≡ named (bytes "A") 7 ∷ ends 9 ∷ []
  -- an end line without LF; none, and then 17; no LF at the end
  pub open_end : reads 2 (bytes ":50K:A\n-") 0 ≡ named (bytes "A") 7 ∷ ends 8 ∷ []
  pub endless : reads 2 (bytes ":50K:A\n") 0 ≡ named (bytes "A") 7 ∷ refuses 17 7 ∷ []
  pub unclosed : reads 2 (bytes ":50K:A") 0 ≡ named (bytes "A") 6 ∷ refuses 17 6 ∷ []
  -- text after the end line is a page line like another
  pub after : reads 3 (bytes "-\nX\n:50K:A\n") 0 ≡ ends 2 ∷ refuses 16 4 ∷ named (bytes "A") 11 ∷ []
  -- an empty page; a page that is one LF
  pub empty : read_at [] 0 ≡ refuses 17 0
  pub stray : reads 2 (bytes "\n") 0 ≡ refuses 16 1 ∷ refuses 17 1 ∷ []
  -- positions: within a line; past the length; the length
  pub within : read_at (bytes ":50K:A\n-\n") 1 ≡ refuses 21 1
  pub past : read_at (bytes ":50K:A\n-\n") 10 ≡ refuses 21 10
  pub at_length : read_at (bytes ":50K:A\n-\n") 9 ≡ refuses 17 9
  -- a tag that is none of the eleven, and the field after it
  pub unknown : reads 2 (bytes ":50B:A\n:50K:B\n-\n") 0 ≡ refuses 15 7 ∷ named (bytes "B") 14 ∷ []

pub page_examples : PageExamples
unfolding padded text_of letter digit alphanumeric signs legal parse_swift_chars parse_account upto onto starts lines parse_line parse_lines parse_name_and_address four party_of account_head after_head read without_cr line_at is_end ends_page runs begins tag_in read_field read_case read_at tag_of
page_examples = record {
  one = refl;
  open_end = refl;
  endless = refl;
  unclosed = refl;
  after = refl;
  empty = refl;
  stray = refl;
  within = refl;
  past = refl;
  at_length = refl;
  unknown = refl;
}

-- a page of more than 32,768 bytes is 18 at every position, whatever its bytes
pub too_long : (page : List ℕ) (at : ℕ) → page_most < length page → read_at page at ≡ refuses 18 at
unfolding read_at read_case
too_long page at h = rw (lt-leb (length page) page_most h, read_case)

-- one of at most 32,768 is not
pub not_too_long : (page : List ℕ) (at : ℕ) → length page ≤ page_most
    → read_at page at ≡ elim (readable page at) [ true ↦ read_by (rest_case (drop at page) at) page at | false ↦ refuses 21 at ]
unfolding read_at read_case
not_too_long page at h = go (readable page at) refl
  where
    go : (t : Bool) → readable page at ≡ t → read_at page at ≡ elim (readable page at) [ true ↦ read_by (rest_case (drop at page) at) page at | false ↦ refuses 21 at ]
    go true e = rw (le-leb (length page) page_most h, read_case) (rw e)
    go false e = rw (le-leb (length page) page_most h, read_case) (rw e)

-- wrong programs
pub record PagesRuledOut : Type 0 where
  -- an end reported before the first field: read 1 of a page that opens with a field is that field
  pub first_read_is_the_field : read_at (bytes ":50K:A\n-\n") 0 ≡ named (bytes "A") 7
  -- the next position one short would be 6, which is no line start
  pub one_short_is_21 : read_at (bytes ":50K:A\n-\n") 6 ≡ refuses 21 6
  -- a lone hyphen after a tag taken for the end: it is a name
  pub hyphen_is_a_name : reads 2 (bytes ":50K:-\n-\n") 0 ≡ named (bytes "-") 7 ∷ ends 9 ∷ []
  -- a body that keeps its closing LF: 50K takes `A⏎` for one name all the same, but 50C would be refused
  pub closing_lf_is_left_off : (read_at (bytes ":50C:ABCDEFGH\n-\n") 0).body ≡ bytes "ABCDEFGH"
  -- 16 told as 17: before the length, a line that neither opens nor ends is 16
  pub stray_line_is_16 : read_at (bytes "X\n-\n") 0 ≡ refuses 16 2

pub pages_ruled_out : PagesRuledOut
unfolding padded text_of letter digit alphanumeric signs legal parse_swift_chars parse_account bic_length parse_bic upto onto starts lines parse_line parse_lines parse_name_and_address four party_of account_head after_head read without_cr line_at is_end ends_page runs begins tag_in read_field read_case read_at tag_of
pages_ruled_out = record { first_read_is_the_field = refl; one_short_is_21 = refl; hyphen_is_a_name = refl; closing_lf_is_left_off = refl; stray_line_is_16 = refl }

-- where a read goes on, and where one can start
pub record PageMoves : Type 0 where
  -- after 16: the next opening, the end line or the length, and not the next line
  pub stray_next_is_the_opening : read_at (bytes "X\nY\n:50K:A\n-\n") 0 ≡ refuses 16 4
  pub stray_next_is_the_end_line : read_at (bytes "X\nY\n-\n") 0 ≡ refuses 16 4
  pub stray_next_is_the_length : read_at (bytes "X\nY") 0 ≡ refuses 16 3
  -- after 15 and a body's refusal too, of which the second hands the body back
  pub unknown_next_is_the_opening : read_at (bytes ":52A:X\nY\n:50K:A\n-\n") 0 ≡ refuses 15 9
  pub refused_next_is_the_opening : read_at (bytes ":50C:X\nY\n:50K:A\n-\n") 0 ≡ record { outcome = a_refusal 9 1; body = bytes "X\nY"; next = 9 }
  -- where neither an opening nor an end line follows, one last LF is left off
  pub one_last_lf_is_left_off : read_at (bytes ":50L:A\n\n") 0 ≡ record { outcome = a_refusal 1 0; body = bytes "A\n"; next = 8 }
  -- a hyphen with a CR that no LF follows is a line of the field
  pub open_hyphen_cr_is_in_the_field : read_at (bytes ":50L:A\n-\r") 0 ≡ record { outcome = a_refusal 1 0; body = bytes "A\n-\r"; next = 9 }
  -- a line starts after an LF, and not after a CR
  pub no_start_after_cr : read_at (bytes "X\r:50K:A\n-\n") 2 ≡ refuses 21 2
  -- the length is a position to read at, after any byte
  pub length_after_any_byte : read_at (bytes "X") 1 ≡ refuses 17 1
  -- a tag has a capital or none, and a colon after it
  pub tag_is_whole : map (λ (page : List ℕ). (read_at page 0).outcome) (bytes ":50k:A" ∷ bytes ":59K:A" ∷ bytes ":50KA" ∷ bytes ":50 :A" ∷ bytes ":5:A" ∷ []) ≡ replicate 5 (a_refusal 15 0)

pub page_moves : PageMoves
unfolding padded text_of letter digit alphanumeric signs legal parse_swift_chars parse_account bic_length parse_bic upto onto starts lines parse_line parse_lines parse_name_and_address four party_of account_head after_head read without_cr line_at is_end ends_page runs begins tag_in read_field read_case read_at tag_of
page_moves = record {
  stray_next_is_the_opening = refl;
  stray_next_is_the_end_line = refl;
  stray_next_is_the_length = refl;
  unknown_next_is_the_opening = refl;
  refused_next_is_the_opening = refl;
  one_last_lf_is_left_off = refl;
  open_hyphen_cr_is_in_the_field = refl;
  no_start_after_cr = refl;
  length_after_any_byte = refl;
  tag_is_whole = refl;
}

-- a page of one field and its end, with so many bytes after it
abbrev pub long_page : ℕ → List ℕ
long_page n = bytes ":50K:A\n-\n" ++ replicate n 0

-- the most that a page has
pub record PageMost : Type 0 where
  -- 32,768 bytes are read, one more is 18
  pub read_of_32768 : read_at (long_page 32759) 0 ≡ named (bytes "A") 7
  pub too_long_of_32769 : read_at (long_page 32760) 0 ≡ refuses 18 0
  -- 18 before 21 and 17: within a line, and at the length
  pub too_long_before_position : read_at (long_page 32760) 1 ≡ refuses 18 1
  pub too_long_before_length : read_at (long_page 32760) 32769 ≡ refuses 18 32769

pub page_most_lem : PageMost
unfolding padded text_of letter digit alphanumeric signs legal parse_swift_chars parse_account upto onto starts lines parse_line parse_lines parse_name_and_address four party_of account_head after_head read without_cr line_at is_end ends_page runs begins tag_in read_field read_case read_at tag_of
page_most_lem = record { read_of_32768 = refl; too_long_of_32769 = refl; too_long_before_position = refl; too_long_before_length = refl }
