-- Demand 3 and document 01's 'A whole page', as one claim over every list of adds, of any values of the code's `Party`, every buffer, and
-- no index or one (document 02, Three). The contracts of `page_writer::add_record`, `page_writer::add_indexed_record`, `page_writer::close`,
-- `page_reader::read_at_into` and `page_reader::index::look_up_into`, and of those by value over them, are equations with `add`, `add_index`,
-- `close`, `read_at` and `look_up`, so that it speaks of what runs. The theorems are in proofs/Theorems.antt, of a `b : IndexState` that is empty
-- (`IsEmpty b`), `ps : List Party` and `buffer : List ℕ`: `whole_page` is `WholePage b ps buffer`, and `open_page_lem` of it the `opened`.
use Rattle.std.specs.Prelude.{ℕ, suc, ◌+◌, ◌*◌, ◌≤◌, ◌<◌, ◌≡◌, true, false, List, [], ◌∷◌, ◌++◌, map, ◌⊎◌, length, take, drop}
use Rattle.party.specs.declared.Party.{Party}
use Rattle.party.specs.Party.{content}
use Rattle.writer.specs.Writing.{written_field, field_most, identified59_f}
use Rattle.writer.specs.Given.{Given}
use Rattle.page_reader.specs.Pages.{page_most, the_end, a_refusal}
use Rattle.page_writer.specs.IndexState.{IndexState, is_indexed}
use Rattle.page_writer.specs.Adding.{with_lf, end_line, Filed, position_after, refusal, Call, record_space, has_free_entry}
use Rattle.page_writer.specs.Fold.{Run, run, accepted_of}
use Rattle.page_writer.specs.WholePage.{OpenPage, add_step, closing_of, closed_page, is_accepted, Model, model_step, Field, kept, page_of, ReadsAs, Alone, Overwrites}
use Rattle.page_writer.specs.Indexed.{IndexHolds}

-- the adds, from an empty page
abbrev pub adds : IndexState → List Party → List ℕ → Run OpenPage Filed
adds b ps buffer = run add_step (record { buffer = buffer; position = 0; index = b }) ps

-- the model of them, by the buffer's length and whether there is an index
abbrev pub model : IndexState → List Party → ℕ → Run Model Filed
model b ps len = run (model_step len (is_indexed b)) (record { list = []; tally = record { position = 0; entries = 0 } }) ps

-- the records of those that were accepted, by what they answered
abbrev pub accepted_adds : IndexState → List Party → List ℕ → List Party
accepted_adds b ps buffer = accepted_of ps (map is_accepted (adds b ps buffer).answers)

-- the closing of what they left
abbrev pub closing : IndexState → List Party → List ℕ → Call
closing b ps buffer = closing_of (adds b ps buffer).state

-- the closed page
abbrev pub page : IndexState → List Party → List ℕ → ℕ → List ℕ
page b ps buffer to = closed_page (adds b ps buffer).state to

-- how many of these are 59F with an identifier (document 02, Six, 'this form')
unfoldable pub identified_in : List Party → ℕ
identified_in [] = 0
identified_in (p ∷ ps) = elim (identified59_f (content p)) [ true ↦ suc (identified_in ps) | false ↦ identified_in ps ]

-- ---- an open page that has the records of a list, in a buffer that was another at first
-- the bytes before its position are the fields of the list; reading them gives the list's records and then 17, at their length; and its
-- index, if one is kept, is that of these fields
pub record OpenReads (s : OpenPage) (list : List Party) (buffer : List ℕ) : Type 0 where
  pub bytes : take s.position s.buffer ≡ page_of (map kept list) []
  pub reads : ReadsAs (take s.position s.buffer) 0 (map kept list) (a_refusal 17 0)
  pub indexed : IndexHolds s.index (take s.position s.buffer) list
  -- no byte from its position on changes, and there are as many as at first: in a run of adds no position is higher than the last
  pub after : drop s.position s.buffer ≡ drop s.position buffer
  pub size : length s.buffer ≡ length buffer

-- what holds where closing it gives the position `to`
pub record ClosedPage (s : OpenPage) (list : List Party) (buffer : List ℕ) (to : ℕ) : Type 0 where
  -- reading the closed page gives the records of the list and no others, in number and order, each the same record, and then the end
  pub reads : ReadsAs (closed_page s to) 0 (map kept list) the_end
  -- it is their fields and the end, and no byte after it changes
  pub bytes : closed_page s to ≡ page_of (map kept list) end_line
  pub after : drop to (closing_of s).buffer ≡ drop to buffer
  -- the index, if one is kept, is that of its fields
  pub indexed : IndexHolds s.index (closed_page s to) list
  -- it has at most 32,768 bytes, and at most 188 a field and 2, the longest field and its LF; without a 59F that has an identifier, 185
  pub most : length (closed_page s to) ≤ page_most
  pub bound_all : length (closed_page s to) ≤ (field_most + 1) * length list + 2
  pub bound : identified_in list ≡ 0 → length (closed_page s to) ≤ 185 * length list + 2

-- whichever fields of a list are overwritten, with whatever bytes, at any length that keeps the page within 32,768: every other field still
-- gives its record in its turn, each overwritten one what document 01 says of its new bytes, and the end follows the last field
abbrev pub Overwritten : List Party → Type 0
Overwritten list = (fs : List Field) → Overwrites list fs → length (page_of fs end_line) ≤ page_most → ReadsAs (page_of fs end_line) 0 fs the_end

-- what holds of it open, closed, and then overwritten
pub record ListedPage (s : OpenPage) (list : List Party) (buffer : List ℕ) : Type 0 where
  pub opened : OpenReads s list buffer
  pub closed : {to : ℕ} → (closing_of s).answer ≡ position_after to → ClosedPage s list buffer to
  pub overwritten : Overwritten list
  -- closing is refused only in a buffer under 2 bytes, where the list is empty: it is 24, and no byte changes
  pub unclosed : {k n : ℕ} → (closing_of s).answer ≡ refusal k n → (closing_of s ≡ record { answer = refusal 24 0; buffer = buffer }) × (length buffer < 2) × (list ≡ [])
  pub closes : 2 ≤ length buffer → (closing_of s).answer ≡ position_after (s.position + 2)

-- ---- the run of adds
pub record WholePage (b : IndexState) (ps : List Party) (buffer : List ℕ) : Type 0 where
  -- the page that it leaves has the records of the accepted adds
  pub listed : ListedPage (adds b ps buffer).state (accepted_adds b ps buffer) buffer
  -- each add answers in the run what it answers in its turn
  pub in_turn_lem : (before : List Party) (p : Party) (later : List Party) → ps ≡ before ++ p ∷ later → let c = add_step (adds b before buffer).state p in
      (adds b ps buffer).answers ≡ (adds b before buffer).answers ++ c.answer ∷ (run add_step c.state later).answers
  -- in that list a record that a reader can give, with space for it, which is bytes and, where an index is kept, an entry, is refused, with
  -- 23, exactly when its field, alone on a page, would not read back as it; else it answers the position after
  pub exactly : (before : List Party) (p : Party) (later : List Party) → ps ≡ before ++ p ∷ later → let s = (adds b before buffer).state in
      Given p → record_space (length s.buffer) s.position (content p) ≡ true → has_free_entry s.index ≡ true
      → (Alone p × ((add_step s p).answer ≡ position_after (s.position + length (with_lf (written_field (content p))))))
      ⊎ ((Alone p → ⊥) × ((add_step s p).answer ≡ refusal 23 0))
  -- what the adds answer follows from the records, the buffer's length and whether an index is kept alone, and so do the position and the
  -- accepted adds
  pub answers : (adds b ps buffer).answers ≡ (model b ps (length buffer)).answers
  pub position : (adds b ps buffer).state.position ≡ (model b ps (length buffer)).state.tally.position
  pub list : accepted_adds b ps buffer ≡ (model b ps (length buffer)).state.list
