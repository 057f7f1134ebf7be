-- Filing the records that the reads of a page give on a new page, without an index. Document 01 has the read and the add ('Pages (added)');
-- that one follows the other, up to the end, is ours.
use Rattle.std.specs.Prelude.{ℕ, List, [], ◌∷◌}
use Rattle.party.specs.declared.Party.{Party}
use Rattle.page_reader.specs.Pages.{ReadOutcome, a_record, the_end, a_refusal}
use Rattle.page_reader.specs.Reads.{Read, reads}
use Rattle.page_writer.specs.IndexState.{no_index}
use Rattle.page_writer.specs.Adding.{Filed, position_after, refusal}
use Rattle.page_writer.specs.Fold.{Step, Run, run}
use Rattle.page_writer.specs.WholePage.{OpenPage, add_step}

-- ---- the records of a page
-- the record that a read gives, if it gives one, before later ones
abbrev pub record_of : ReadOutcome → List Party → List Party
record_of (a_record p) later = p ∷ later
record_of the_end later = later
record_of (a_refusal k n) later = later

-- the records that reads give, in their order
unfoldable pub records_in : List Read → List Party
records_in [] = []
records_in (r ∷ rs) = record_of r.gave.outcome (records_in rs)

-- those of the whole page
abbrev pub records_of : List ℕ → List Party
records_of page = records_in (reads page)

-- ---- filing them
-- what filing a record answers: the record, or the refusal to add it
abbrev pub filed_as : Filed → Party → ReadOutcome
filed_as (position_after n) p = a_record p
filed_as (refusal k n) p = a_refusal k n

-- what a read gives, as a step over an open page: a record is added, as in a run of adds; nothing changes at the end or a refusal
abbrev pub file_outcome : OpenPage → ReadOutcome → Step OpenPage ReadOutcome
file_outcome s (a_record p) = let c = add_step s p in record { state = c.state; answer = filed_as c.answer p }
file_outcome s the_end = record { state = s; answer = the_end }
file_outcome s (a_refusal k n) = record { state = s; answer = a_refusal k n }

-- a read, as such a step
abbrev pub file_step : OpenPage → Read → Step OpenPage ReadOutcome
file_step s r = file_outcome s r.gave.outcome

-- a buffer and a position, as an open page without an index
abbrev pub open_page : List ℕ → ℕ → OpenPage
open_page buffer position = record { buffer = buffer; position = position; index = no_index }

-- the reads of a page as a run of these, from an empty page in a buffer
abbrev pub file_all : List ℕ → List ℕ → Run OpenPage ReadOutcome
file_all page buffer = run file_step (open_page buffer 0) (reads page)
