-- The records that filing a page leaves on the new one are those whose answers tell a filing. Assumes nothing.
use Prim.Native.Nat.{ℕ, zero, suc}
use mathlib.Core.Path.{◌≡◌, refl, sym, ap, ◌∙◌, subst}
use mathlib.Core.Bool.{Bool, true, false}
use mathlib.Core.List.{List, [], ◌∷◌, map}
use native.Mathlib.Omega.{arith}
use borrow.Author.Tests.{lt-ltb, le-ltb}
use lib.ListN.{length}
use Rattle.party.specs.declared.Party.{Party}
use Rattle.party.specs.Party.{content}
use Rattle.page_reader.specs.Pages.{ReadOutcome, a_record, the_end, a_refusal, read_at}
use Rattle.page_reader.specs.Reads.{Read, read_here, is_last, reads_from, reads}
use Rattle.page_reader.proofs.Moves.{next_most}
use Rattle.page_writer.specs.Adding.{Filed, position_after, refusal}
use Rattle.page_writer.specs.IndexState.{no_index}
use Rattle.page_writer.specs.Fold.{run, accepted_of}
use Rattle.page_writer.specs.WholePage.{OpenPage, add_step, is_accepted}
use Rattle.page_writer.specs.Demand3.{adds, accepted_adds, ListedPage}
use Rattle.page_writer.proofs.Theorems.{whole_page}
use Rattle.kept.specs.Fields.{causes_by}
use Rattle.yewdome.specs.Filing.{record_of, records_in, records_of, filed_as, file_outcome, open_page}
use Rattle.yewdome.specs.Interface.{pack_unit, caused_number, number_step, file_numbers}
use Rattle.yewdome.specs.Code.{Within}
use Rattle.yewdome.specs.FiledRecords.{tells_filing, filed_in, FiledRecords}
use Rattle.yewdome.proofs.Causes.{causes_most}
use Rattle.yewdome.proofs.Pages.{add_within}
use Rattle.yewdome.proofs.Whole.{filed_run}
use Rattle.yewdome.proofs.WholePages.{same_state}

module _ (page : List ℕ) where
  -- reads, from an open page on: those whose answers tell a filing gave the records of the accepted adds
  abbrev Filed-are : OpenPage → List Read → Type 0
  Filed-are s rs = filed_in rs (run (number_step page) s rs).answers ≡ accepted_of (records_in rs) (map is_accepted (run add_step s (records_in rs)).answers)

  module _ (s : OpenPage) (at : ℕ) (rs : List Read) (later : (t : OpenPage) → Filed-are t rs) where
    -- one read more, by what it gave
    abbrev By : ReadOutcome → Type 0
    By x =
        let c = file_outcome s x in
        let after = filed_in rs (run (number_step page) c.state rs).answers in
        let ps = record_of x (records_in rs) in
        (elim (tells_filing (caused_number page (read_here page at) c.answer)) as (λ t. List Party) [ true ↦ record_of x after | false ↦ after ])
        ≡ accepted_of ps (map is_accepted (run add_step s ps).answers)

    -- what is no record adds none
    none : (t : Bool) → (elim t as (λ t. List Party) [ true ↦ filed_in rs (run (number_step page) s rs).answers | false ↦ filed_in rs (run (number_step page) s rs).answers ]) ≡ accepted_of (records_in rs) (map is_accepted (run add_step s (records_in rs)).answers)
    none true = later s
    none false = later s

    -- a record does where its add is accepted
    by_add : (p : Party) (f : Filed) → Within f → (add_step s p).answer ≡ f → let c = (add_step s p).state in
        (elim (tells_filing (caused_number page (read_here page at) (filed_as f p))) as (λ t. List Party) [
          | true ↦ p ∷ filed_in rs (run (number_step page) c rs).answers
          | false ↦ filed_in rs (run (number_step page) c rs).answers
        ])
        ≡ accepted_of (p ∷ records_in rs) (is_accepted f ∷ map is_accepted (run add_step c (records_in rs)).answers)
    unfolding accepted_of
    by_add p (position_after n) w e =
        let number = caused_number page (read_here page at) (a_record p) in
        let small : tells_filing number ≡ true = lt-ltb number pack_unit (omega (arith, causes_most (causes_by page at (a_record p)), next_most page at)) in
        rw small (ap (◌∷◌ p) (later (add_step s p).state))
    by_add p (refusal k n) w e =
        let number = caused_number page (read_here page at) (a_refusal k n) in
        let large : tells_filing number ≡ false = le-ltb number pack_unit (omega (arith, w.0)) in
        rw large (later (add_step s p).state)

    by : (x : ReadOutcome) → By x
    unfolding run
    by (a_record p) = by_add p (add_step s p).answer (add_within s.buffer s.position s.index (content p)) refl
    by the_end = none (tells_filing (caused_number page (read_here page at) the_end))
    by (a_refusal k n) = none (tells_filing (caused_number page (read_here page at) (a_refusal k n)))

    more : Filed-are s (read_here page at ∷ rs)
    unfolding filed_in records_in run
    more = by (read_at page at).outcome

  filed_from : (n at : ℕ) (s : OpenPage) → Filed-are s (reads_from n page at)
  unfolding reads_from filed_in records_in run accepted_of
  filed_from zero at s = refl
  filed_from (suc n) at s = go (is_last (read_at page at) at) (filed_from n (read_at page at).next)
    where
      go : (l : Bool) → ((t : OpenPage) → Filed-are t (reads_from n page (read_at page at).next))
          → Filed-are s (read_here page at ∷ elim l as (λ x. List Read) [ true ↦ [] | false ↦ reads_from n page (read_at page at).next ])
      go true ih = more s at [] (λ t. refl)
      go false ih = more s at (reads_from n page (read_at page at).next) ih

-- filing a page leaves the page of the records whose answers tell a filing, in their order
pub filed_records : (page buffer : List ℕ) → FiledRecords page buffer
filed_records page buffer =
    let w = file_numbers page buffer in
    let state : adds_state ≡ w.state = sym (same_state page (open_page buffer 0) (reads page) ∙ filed_run page buffer) in
    let list : accepted_adds no_index (records_of page) buffer ≡ filed_in (reads page) w.answers = sym (filed_from page (suc (length page)) 0 (open_page buffer 0)) in
    subst (λ (s : OpenPage). ListedPage s (filed_in (reads page) w.answers) buffer) state
    (subst (λ (l : List Party). ListedPage adds_state l buffer) list (whole_page no_index tt (records_of page) buffer).listed)
  where
    adds_state : OpenPage
    adds_state = (adds no_index (records_of page) buffer).state
