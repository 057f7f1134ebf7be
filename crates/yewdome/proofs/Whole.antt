-- Filing a page is the run of adds of the records that its reads give. Assumes nothing.
use mathlib.Core.Path.{◌≡◌, refl, ◌∙◌, ap}
use mathlib.Core.List.{List, [], ◌∷◌}
use Prim.Native.Nat.{ℕ}
use Rattle.party.specs.declared.Party.{Party}
use Rattle.page_reader.specs.Pages.{ReadOutcome, a_record, the_end, a_refusal}
use Rattle.page_reader.specs.Reads.{Read, reads}
use Rattle.page_writer.specs.IndexState.{no_index}
use Rattle.page_writer.specs.Adding.{close}
use Rattle.page_writer.specs.Fold.{run}
use Rattle.page_writer.specs.WholePage.{OpenPage, add_step}
use Rattle.page_writer.specs.Demand3.{adds, closing}
use Rattle.yewdome.specs.Filing.{open_page, file_outcome, file_step, file_all, record_of, records_in, records_of}

-- what a read leaves of an open page, and the adds after it
outcome_run : (s : OpenPage) (x : ReadOutcome) (later : List Party) → (run add_step (file_outcome s x).state later).state ≡ (run add_step s (record_of x later)).state
unfolding run
outcome_run s (a_record p) later = refl
outcome_run s the_end later = refl
outcome_run s (a_refusal k n) later = refl

reads_run : (s : OpenPage) (rs : List Read) → (run file_step s rs).state ≡ (run add_step s (records_in rs)).state
unfolding run records_in
reads_run s [] = refl
reads_run s (r ∷ rs) = reads_run (file_step s r).state rs ∙ outcome_run s r.gave.outcome (records_in rs)

-- a page is filed as the adds of `whole_page` are: the list is what the page's reads give, and the page is empty at first
pub filed_run : (page buffer : List ℕ) → (file_all page buffer).state ≡ (adds no_index (records_of page) buffer).state
filed_run page buffer = reads_run (open_page buffer 0) (reads page)

-- and closed as it closes
pub filed_closing : (page buffer : List ℕ) (s : OpenPage) → s ≡ (file_all page buffer).state → close s.buffer s.position ≡ closing no_index (records_of page) buffer
filed_closing page buffer s q = ap (λ (f : OpenPage). close f.buffer f.position) (q ∙ filed_run page buffer)
