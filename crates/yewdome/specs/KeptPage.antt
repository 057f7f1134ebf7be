-- Filing says what it keeps, and a page whose fields are kept is filed as its very bytes, from its first opening to its end line. Document 01
-- has the read and the add ('Pages (added)'); that the archive has the line that went out is clause 9.2's. The theorems are `filed_exact`,
-- `kept_page`, `kept_space` and `told_page`, proofs/KeptPage.antt.
use Rattle.std.specs.Prelude.{ℕ, ◌+◌, ◌-◌, ◌/◌, ◌≤◌, ◌≡◌, Bool, true, false, ◌&&◌, List, [], ◌∷◌, ◌++◌, ltb, eqb, length, take, drop}
use Rattle.party.specs.declared.Party.{Party}
use Rattle.party.specs.Decides.{Decides}
use Rattle.party.specs.Party.{content}
use Rattle.writer.specs.Writing.{written_field, put}
use Rattle.page_reader.specs.Pages.{ReadOutcome, a_record, the_end, a_refusal, read_at}
use Rattle.page_reader.specs.Reads.{Read, read_here, is_the_end, reads}
use Rattle.page_writer.specs.IndexState.{no_index}
use Rattle.page_writer.specs.Adding.{has_space, with_lf, end_line, position_after}
use Rattle.page_writer.specs.WholePage.{OpenPage}
use Rattle.page_writer.specs.Demand3.{closing}
use Rattle.kept.specs.Kept.{ends_lf}
use Rattle.kept.specs.Fields.{came_at, causes_by, is_kept_at}
use Rattle.yewdome.specs.Filing.{records_of, file_step}
use Rattle.yewdome.specs.Interface.{position_room, causes_unit, causes_code, number_step, file_numbers}

-- ---- a step
-- a step that files the record of the read at a position: it puts the written field and its LF on the new page, its answer tells the field's
-- causes, and these are 0 exactly when that field is the field as it came
pub record FiledStep (page : List ℕ) (s : OpenPage) (at : ℕ) (p : Party) : Type 0 where
  pub puts : (number_step page s (read_here page at)).state.buffer ≡ put s.buffer s.position (with_lf (written_field (content p)))
  pub tells : (number_step page s (read_here page at)).answer / causes_unit ≡ causes_code (causes_by page at (a_record p))
  pub exact : Decides (eqb (causes_code (causes_by page at (a_record p))) 0) (written_field (content p) ≡ came_at page at)

-- wherever a step answers a record
abbrev pub FiledExact : List ℕ → OpenPage → ℕ → Type 0
FiledExact page s at = (p : Party) → (file_step s (read_here page at)).answer ≡ a_record p → FiledStep page s at p

-- ---- a page
-- every field is kept: the one at each read but the last, which gives the end
unfoldable pub are_kept : List ℕ → List Read → Bool
are_kept page [] = false
are_kept page (r ∷ []) = is_the_end r.gave.outcome
are_kept page (r ∷ q ∷ rs) = is_kept_at page r.at && are_kept page (q ∷ rs)

-- a read of what stands before the first opening
abbrev pub is_stray : ReadOutcome → Bool
is_stray (a_record p) = false
is_stray the_end = false
is_stray (a_refusal k n) = eqb k 16

-- the reads of a page from its first opening on
abbrev pub from_opening : List Read → List Read
from_opening [] = []
from_opening (r ∷ rs) = elim (is_stray r.gave.outcome) [ true ↦ rs | false ↦ r ∷ rs ]

-- where the first of reads is
abbrev pub first_at : List Read → ℕ
first_at [] = 0
first_at (r ∷ rs) = r.at

-- and the last
unfoldable pub last_at : List Read → ℕ
last_at [] = 0
last_at (r ∷ []) = r.at
last_at (r ∷ q ∷ rs) = last_at (q ∷ rs)

-- the bytes of a page from the first of reads to the last
abbrev pub between : List ℕ → List Read → List ℕ
between page rs = take (last_at rs - first_at rs) (drop (first_at rs) page)

-- the bytes of a page from its first opening to its last read, which is at the end line where there is one
abbrev pub party_lines : List ℕ → List ℕ
party_lines page = between page (from_opening (reads page))

-- what filing the records that reading a page gives leaves: those very bytes, our end line, and after it the buffer as it was
pub record FiledAsCame (page buffer : List ℕ) : Type 0 where
  pub answer : (closing no_index (records_of page) buffer).answer ≡ position_after (length (party_lines page) + 2)
  pub bytes : take (length (party_lines page) + 2) (closing no_index (records_of page) buffer).buffer ≡ party_lines page ++ end_line
  pub after : drop (length (party_lines page) + 2) (closing no_index (records_of page) buffer).buffer ≡ drop (length (party_lines page) + 2) buffer

-- so it is where every field is kept, and there is space for these bytes and the end line, else 24
abbrev pub KeptPage : List ℕ → List ℕ → Type 0
KeptPage page buffer = are_kept page (from_opening (reads page)) ≡ true → has_space (length buffer) (length (party_lines page) + 2) ≡ true → FiledAsCame page buffer

-- there is, where every line ends in LF, which of kept fields needs to be said of the last line alone, in a buffer as long as the page
abbrev pub KeptSpace : List ℕ → List ℕ → Type 0
KeptSpace page buffer = are_kept page (from_opening (reads page)) ≡ true → ends_lf page ≡ true → length page ≤ length buffer → has_space (length buffer) (length (party_lines page) + 2) ≡ true

-- ---- the answers
-- numbers that filing answers tell that every field was filed, as it came: each is below 65,536, but for the last, which is the end's
unfoldable pub are_plain : List ℕ → Bool
are_plain [] = false
are_plain (n ∷ []) = eqb (n / position_room) 1
are_plain (n ∷ m ∷ ns) = ltb n position_room && are_plain (m ∷ ns)

-- those of the reads from the first opening on
abbrev pub answers_from : List ℕ → List ℕ → List ℕ
answers_from page answers = elim (is_stray (read_at page 0).outcome) [ true ↦ drop 1 answers | false ↦ answers ]

-- where the answers tell it, it is so, in any buffer that can be closed
abbrev pub ToldPage : List ℕ → List ℕ → Type 0
ToldPage page buffer = are_plain (answers_from page (file_numbers page buffer).answers) ≡ true → 2 ≤ length buffer → FiledAsCame page buffer
