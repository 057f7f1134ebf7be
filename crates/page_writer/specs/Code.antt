-- The working forms of the private functions of page_writer.
use denote.Ref.{Bor}
use Rattle.std.specs.Prelude.{ℕ, ◌+◌, ◌≤◌, ◌<◌, ◌≡◌, Bool, true, List, Result, Ok, Err, length}
use Rattle.errors.specs.declared.ParseError.{ParseError}
use Rattle.errors.specs.Refusals.{Reply, must, ◌then◌, refusal_of}
use Rattle.party.specs.Party.{Content}
use Rattle.writer.specs.Writing.{written_field, pieces}
use Rattle.writer.specs.Given.{is_given}
use Rattle.page_reader.specs.Pages.{page_most}
use Rattle.page_reader.specs.Index.{index_most, index_size, entries_of}
use Rattle.page_writer.specs.IndexState.{IndexState}
use Rattle.page_writer.specs.Adding.{lines_carried, writable, has_space, with_lf, refusal, Call, putting, add}

-- a text and its LF, and so many spare bytes, have space at a position, else 24, and an entry is free, else 31
abbrev pub line_reply : ℕ → ℕ → List ℕ → ℕ → Bool → Reply
line_reply len at text spare free = must (has_space len (at + length (with_lf text) + spare)) 24 0 then must free 31 0

-- they are put there
abbrev pub line_call : List ℕ → ℕ → List ℕ → ℕ → Bool → Call
line_call buffer at text spare free = putting (line_reply (length buffer) at text spare free) buffer at (with_lf text)

-- a field put at a position, by its body: 23, 24, 31
abbrev pub field_call : List ℕ → ℕ → List ℕ → List ℕ → Bool → Call
field_call buffer at field body free = putting (must (lines_carried (pieces body)) 23 0 then line_reply (length buffer) at field 2 free) buffer at (with_lf field)

-- a record that is given is rendered as its field, where it may be written; else what refuses it is what adding it gives
abbrev pub Renders : List ℕ → ℕ → Content → Result (Bor (List ℕ)) ParseError → Type 0
Renders buffer at s (Ok field) = (writable buffer at ≡ true) × (is_given s ≡ true) × (field.now ≡ written_field s)
Renders buffer at s (Err e) = (b : IndexState) → add buffer at b s ≡ record { answer = refusal (refusal_of e).number (refusal_of e).line; buffer = buffer }

-- an entry can be noted: the index has so many, of which one is free, and a field stands from a position to another of a page
pub record Notes (numbers : List ℕ) (count at next : ℕ) : Type 0 where
  pub size : length numbers ≡ index_size
  pub entries : count ≡ length (entries_of numbers)
  pub free : count < index_most
  pub from : at < next
  pub most : next ≤ page_most
