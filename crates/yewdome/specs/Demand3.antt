-- Demand 3 through the C interface, from bytes lent to `yewdome_page_add` or `yewdome_page_add_indexed` to bytes stored by
-- `yewdome_page_read` or `yewdome_page_look_up`: `page_add`, `page_add_index`, `page_close`, `page_read` and `page_look_up` (specs/Interface.antt)
-- are the definitions that the contracts of the exported functions are equations with. The lent records are any lists of bytes, and so is
-- the buffer. proofs/Demand3.antt has the theorem, `exported_page`, of a `b : IndexState` that is empty (`IsEmpty b`), `lents : List (List ℕ)` and
-- `buffer : List ℕ`: `ExportedPage b lents buffer`. The run is that of page_writer/specs/Fold.antt; the fields of a closed page and those
-- that overwrite some are those of page_writer/specs/WholePage.antt.
use Rattle.std.specs.Prelude.{ℕ, suc, ◌+◌, ◌-◌, ◌%◌, ◌≤◌, ◌<◌, ◌≡◌, Bool, true, false, List, [], ◌∷◌, ◌++◌, map, ltb, length, take}
use Rattle.party.specs.declared.Party.{Party}
use Rattle.party.specs.Party.{Same}
use Rattle.page_reader.specs.Pages.{page_most}
use Rattle.page_reader.specs.Reads.{Read, reads}
use Rattle.page_writer.specs.IndexState.{IndexState, no_index, an_index}
use Rattle.page_writer.specs.Adding.{end_line, Filed}
use Rattle.page_writer.specs.Fold.{Step, Run, run, accepted_of}
use Rattle.page_writer.specs.WholePage.{OpenPage, Field, kept, new, page_of, read_new, Overwrites}
use Rattle.page_writer.specs.Indexed.{Indexed}
use Rattle.page_writer.specs.Demand3.{adds as party_adds, accepted_adds, ListedPage}
use Rattle.record_bytes.specs.RecordBytes.{record_size, decoded}
use Rattle.yewdome.specs.Interface.{Called, position_room, argument_reply, code_or, read_call, page_look_up, page_read, filed_code, page_add, page_add_index, page_close}

-- ---- adding and closing
-- a number below 65,536 is a position; every other is a refusal, 41 and 42 included, and gives none
abbrev pub is_position : ℕ → Bool
is_position code = ltb code position_room

-- the last position that a call gave
abbrev pub last_given : ℕ → ℕ → ℕ
last_given code at = elim (is_position code) [ true ↦ code | false ↦ at ]

-- an add of a lent record, as a step of a run
abbrev pub add_step : OpenPage → List ℕ → Step OpenPage ℕ
add_step s lent =
    let c = page_add lent s.buffer s.position s.index in
    let b = page_add_index lent s.buffer s.position s.index in
    record { state = record { buffer = c.bytes; position = last_given c.code s.position; index = b }; answer = c.code }

-- the adds, from an empty page
abbrev pub adds : IndexState → List (List ℕ) → List ℕ → Run OpenPage ℕ
adds b lents buffer = run add_step (record { buffer = buffer; position = 0; index = b }) lents

-- the records of those that gave a position
abbrev pub records : IndexState → List (List ℕ) → List ℕ → List Party
records b lents buffer = map decoded (accepted_of lents (map is_position (adds b lents buffer).answers))

-- the closing, in the buffer and at the position that the adds left
abbrev pub closing : IndexState → List (List ℕ) → List ℕ → Called
closing b lents buffer = page_close (adds b lents buffer).state.buffer (adds b lents buffer).state.position

-- the closed page: the bytes before the position that closing gave
abbrev pub page : IndexState → List (List ℕ) → List ℕ → List ℕ
page b lents buffer = take (closing b lents buffer).code (closing b lents buffer).bytes

-- ---- reading
-- how many bytes a read moved past
abbrev pub moved_by : Called → ℕ
moved_by c = c.code % position_room

-- a read at a position gives a field's record: a number below 65,536, so no refusal and not the end, and bytes that are the same record; of
-- new bytes, what document 01 says of them
abbrev pub Gives : Called → ℕ → List ℕ → Field → Type 0
Gives c at into (kept p) = (is_position c.code ≡ true) × Same (decoded c.bytes) p
Gives c at into (new bytes) = c ≡ read_call (read_new bytes (at + moved_by c)) at into

-- reads from a position on, each into any lent record of at least 241 bytes, and at the position and the bytes that the last moved past:
-- read k answers field k, and the read after them gives the end and moves to the page's length
unfoldable pub Reads : List ℕ → ℕ → List Field → Type 0
Reads page at [] =
    (into : List ℕ) → record_size ≤ length into → (at ≤ length page) × (page_read page at into ≡ record { code = position_room + (length page - at); bytes = into })
Reads page at (f ∷ fs) =
    (into : List ℕ) → record_size ≤ length into → let c = page_read page at into in Gives c at into f × Reads page (at + moved_by c) fs

-- ---- looking up
-- an index beside a page of the fields of a list: it is the page's (page_writer/specs/Indexed.antt), and looking up field k gives
pub record ExportedIndex (numbers page : List ℕ) (list : List Party) : Type 0 where
  pub indexed : Indexed numbers page list
  -- what reading gives at the reader's k-th step, in number and bytes
  pub step : (before : List Read) (r : Read) (later : List Read) → reads page ≡ before ++ r ∷ later → length before < length list → (into : List ℕ)
      → page_look_up page numbers (suc (length before)) into ≡ page_read page r.at into
  -- and so the k-th record, in any lent record of at least 241 bytes
  pub gives : (before : List Party) (p : Party) (later : List Party) → list ≡ before ++ p ∷ later → (into : List ℕ) → record_size ≤ length into
      → let c = page_look_up page numbers (suc (length before)) into in (is_position c.code ≡ true) × Same (decoded c.bytes) p

-- of what stands beside the page
abbrev pub ExportedIndexState : IndexState → List ℕ → List Party → Type 0
ExportedIndexState no_index page list = Unit {0}
ExportedIndexState (an_index numbers) page list = ExportedIndex numbers page list

-- ---- demand 3
-- what adds of lent records answer, by what adds of the records that they hold answer: 42 and 41 of bytes that are none, else the same
unfoldable pub answers_of : List (List ℕ) → List Filed → List ℕ
answers_of [] answers = []
answers_of (lent ∷ lents) [] = []
answers_of (lent ∷ lents) (a ∷ answers) = code_or (argument_reply lent) (filed_code a) ∷ answers_of lents answers

pub record ExportedPage (b : IndexState) (lents : List (List ℕ)) (buffer : List ℕ) : Type 0 where
  -- the run is that of the records that are lent: it leaves the same page, position and index, accepts the same adds, and answers what they
  -- answer; so all of `WholePage b (map decoded lents) buffer` (page_writer/specs/Demand3.antt) is said of it
  pub state : (adds b lents buffer).state ≡ (party_adds b (map decoded lents) buffer).state
  pub accepted_adds_lem : records b lents buffer ≡ accepted_adds b (map decoded lents) buffer
  pub answers : (adds b lents buffer).answers ≡ answers_of lents (party_adds b (map decoded lents) buffer).answers
  -- of it, the page with the records of the accepted adds: open, closed, and its other bytes
  pub listed : ListedPage (adds b lents buffer).state (records b lents buffer) buffer
  -- reading the closed page from the start gives the records of the accepted adds and no others, in number and order, each the same record,
  -- and then the end
  pub reads : is_position (closing b lents buffer).code ≡ true → Reads (page b lents buffer) 0 (map kept (records b lents buffer))
  -- and so does looking up field by field, where an index is kept, before the page is closed and after
  pub open_looks : let s = (adds b lents buffer).state in ExportedIndexState s.index (take s.position s.buffer) (records b lents buffer)
  pub looks : is_position (closing b lents buffer).code ≡ true → ExportedIndexState (adds b lents buffer).state.index (page b lents buffer) (records b lents buffer)
  -- closing gives a position in every buffer of at least 2 bytes
  pub closes : 2 ≤ length buffer → is_position (closing b lents buffer).code ≡ true
  -- whichever fields are then overwritten: every other still gives its record in its turn, and each overwritten one what document 01 says
  pub overwritten : (fs : List Field) → Overwrites (records b lents buffer) fs → length (page_of fs end_line) ≤ page_most → Reads (page_of fs end_line) 0 fs
