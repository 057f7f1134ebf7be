-- Adding to a page and closing it (document 01, 'Pages (added)' and 'From the state'; an index beside it, document 02, Three).
use Rattle.std.specs.Prelude.{ℕ, suc, ◌+◌, min, Bool, true, false, not, ◌&&◌, ◌||◌, List, [], ◌∷◌, ◌++◌, Result, Ok, Err, leb, length}
use Rattle.errors.specs.declared.ParseError.{ParseError}
use Rattle.errors.specs.Refusals.{Reply, accepted, refused, must, ◌then◌, refusal_of}
use Rattle.party.specs.Party.{Content}
use Rattle.party.specs.Limits.{place_of}
use Rattle.swift_utils.specs.Bytes.{bytes}
use Rattle.writer.specs.Writing.{written_body, written_field, pieces, put}
use Rattle.writer.specs.Given.{is_given}
use Rattle.writer.specs.ReadBack.{ends_cr, last_empty}
use Rattle.page_reader.specs.Pages.{page_most, is_boundary, starts_line}
use Rattle.page_reader.specs.Index.{Entry}
use Rattle.page_writer.specs.IndexState.{IndexState, is_indexed, entries_kept, is_free, noting}

-- a line, any of them, is such
unfoldable pub any_line : (List ℕ → Bool) → List (List ℕ) → Bool
any_line is [] = false
any_line is (l ∷ ls) = is l || any_line is ls

-- a line ends in CR
abbrev pub any_cr : List (List ℕ) → Bool
any_cr ls = any_line ends_cr ls

-- a line starts with `:` or is an end line, each closed by an LF
abbrev pub any_boundary : List (List ℕ) → Bool
any_boundary ls = any_line (is_boundary true) ls

-- a line after the first does
unfoldable pub later_boundary : List (List ℕ) → Bool
later_boundary [] = false
later_boundary (l ∷ ls) = any_boundary ls

-- lines that a page can carry: none ends in CR, the last is not empty, and none after the first starts with `:` or is `-` or `-}`
abbrev pub lines_carried : List (List ℕ) → Bool
lines_carried ls = not (any_cr ls) && not (last_empty ls) && not (later_boundary ls)

-- a record that a page can carry, else 23 (document 02, One and Six): its written lines are such
unfoldable pub is_carried : Content → Bool
is_carried s = lines_carried (pieces (written_body s))

-- a position to write at, else 21: within the buffer, and 0 or after an LF
unfoldable pub writable : List ℕ → ℕ → Bool
writable buffer at = leb at (length buffer) && starts_line buffer at

-- a position has space before it, else 24: it passes neither the buffer nor 32,768
abbrev pub has_space : ℕ → ℕ → Bool
has_space len to = leb to (min len page_most)

-- a text and LF
abbrev pub with_lf : List ℕ → List ℕ
with_lf text = text ++ 10 ∷ []

-- the end: `-` and LF
abbrev pub end_line : List ℕ
end_line = bytes "-\n"

-- adding and closing answer the position after, or a refusal with its number and line
pub data Filed : Type 0 where
  position_after : ℕ → Filed
  refusal : ℕ → ℕ → Filed

-- a call of either: its answer, and the buffer as it left it
pub record Call : Type 0 where
  pub answer : Filed
  pub buffer : List ℕ

-- accepted, the text is put at the position and no other byte changes; a refusal changes none
abbrev pub putting : Reply → List ℕ → ℕ → List ℕ → Call
putting accepted buffer at text = record { answer = position_after (at + length text); buffer = put buffer at text }
putting (refused k n) buffer at text = record { answer = refusal k n; buffer = buffer }

-- a record has space at a position of a page in a buffer of a length, else 24: position plus field plus its LF plus 2
abbrev pub record_space : ℕ → ℕ → Content → Bool
record_space len at s = has_space len (at + length (with_lf (written_field s)) + 2)

-- what a page asks of a record, wherever it is added: 22, 23
unfoldable pub asked : Content → Reply
asked s = must (is_given s) 22 0 then must (is_carried s) 23 0

-- how much of a page is used: its position and, where an index is kept, how many of its entries
pub record Tally : Type 0 where
  pub position : ℕ
  pub entries : ℕ

-- with one record more: its written field and LF, and its entry
abbrev pub tallied : Tally → Content → Tally
tallied t s = record { position = t.position + length (with_lf (written_field s)); entries = suc t.entries }

-- a refusal that applies to a record at a tally, from the buffer's length and whether an index is kept, and nothing else: 22, 23, 24, 31
-- (document 02, Three)
unfoldable pub record_reply : ℕ → Bool → Tally → Content → Reply
record_reply len indexed t s = asked s then must (record_space len t.position s) 24 0 then must (is_free indexed t.entries) 31 0

-- the tally of a page at a position, by what stands beside it
abbrev pub tally_of : ℕ → IndexState → Tally
tally_of at b = record { position = at; entries = length (entries_kept b) }

-- an entry is free beside a page
abbrev pub has_free_entry : IndexState → Bool
has_free_entry b = is_free (is_indexed b) (length (entries_kept b))

-- a refusal that applies to an add: 21 before these
unfoldable pub add_reply : List ℕ → ℕ → IndexState → Content → Reply
add_reply buffer at b s = must (writable buffer at) 21 0 then record_reply (length buffer) (is_indexed b) (tally_of at b) s

-- adding, with an index or without: 21, 22, 23, 24, 31; writes tag, body and LF
unfoldable pub add : List ℕ → ℕ → IndexState → Content → Call
add buffer at b s = putting (add_reply buffer at b s) buffer at (with_lf (written_field s))

-- the entry of a record that is added at a position
abbrev pub entry_for : ℕ → Content → Entry
entry_for at s = record { tag = place_of s.option; position = at; len = length (written_field s) }

-- the index after it: the record's entry is noted
unfoldable pub add_index : List ℕ → ℕ → IndexState → Content → IndexState
add_index buffer at b s = noting (add_reply buffer at b s) (entry_for at s) b

-- closing: 21, 24; writes `-` and LF
unfoldable pub close : List ℕ → ℕ → Call
close buffer at = putting (must (writable buffer at) 21 0 then must (has_space (length buffer) (at + 2)) 24 0) buffer at end_line

-- what the code's answer says
abbrev pub told_filed : Result ℕ ParseError → Filed
told_filed (Ok n) = position_after n
told_filed (Err e) = refusal (refusal_of e).number (refusal_of e).line

-- with the buffer that it left
abbrev pub told_call : Result ℕ ParseError → List ℕ → Call
told_call r buffer = record { answer = told_filed r; buffer = buffer }
