-- What the functions for whole pages give: the answers of `yewdome_page_read`, and the page of demand 3. Assumes nothing.
use Prim.Native.Nat.{ℕ, zero, suc, ◌+◌, ◌*◌, ◌/◌, ◌%◌, ◌≤◌, ◌<◌}
use mathlib.Core.Path.{◌≡◌, refl, ap, ◌∙◌, subst}
use mathlib.Core.Bool.{Bool, true, false}
use mathlib.Core.List.{List, [], ◌∷◌, map}
use native.Mathlib.Omega.{arith}
use borrow.Author.Tests.{le-leb, lt-ltb}
use lib.ListN.{length}
use Rattle.errors.specs.Refusals.{accepted}
use Rattle.writer.specs.Writing.{put}
use Rattle.writer.proofs.Puts.{put_length}
use Rattle.page_reader.specs.Pages.{read_at}
use Rattle.page_reader.specs.Reads.{Read, read_here, is_last, reads_from, reads}
use Rattle.page_reader.proofs.InTurn.{reads_most}
use Rattle.page_writer.specs.IndexState.{no_index}
use Rattle.page_writer.specs.Adding.{Filed, position_after, refusal, Call, close}
use Rattle.page_writer.specs.Fold.{run}
use Rattle.page_writer.specs.WholePage.{OpenPage}
use Rattle.page_writer.specs.Demand3.{adds, closing}
use Rattle.page_writer.proofs.Fold.{run_length}
use Rattle.page_writer.proofs.Theorems.{closing_within, whole_page}
use Rattle.record_bytes.specs.RecordBytes.{record_size}
use Rattle.yewdome.specs.Filing.{file_step, open_page, records_of}
use Rattle.yewdome.specs.Interface.{pack_unit, read_number, page_read, filed_code, number_step, file_numbers, Filing, filing, page_file}
use Rattle.yewdome.specs.Code.{Within}
use Rattle.yewdome.proofs.Pages.{close_within}
use Rattle.yewdome.proofs.Whole.{filed_closing}
use Rattle.yewdome.proofs.Theorems.{high, low}

-- the numbers that listing a page stores are those that `yewdome_page_read` gives, read by read
module _ (page into : List ℕ) (h : record_size ≤ length into) where
  abbrev given : Read → ℕ
  given r = (page_read page r.at into).code

  from_read : (n at : ℕ) → map read_number (reads_from n page at) ≡ map given (reads_from n page at)
  unfolding reads_from
  from_read zero at = refl
  from_read (suc n) at =
      let first : read_number (read_here page at) ≡ given (read_here page at) = rw (le-leb record_size (length into) h) in
      λ i. first i ∷ later (is_last (read_at page at) at) (from_read n (read_at page at).next) i
    where
      later : (l : Bool) → map read_number (reads_from n page (read_at page at).next) ≡ map given (reads_from n page (read_at page at).next)
          → map read_number (elim l as (λ x. List Read) [ true ↦ [] | false ↦ reads_from n page (read_at page at).next ])
          ≡ map given (elim l as (λ x. List Read) [ true ↦ [] | false ↦ reads_from n page (read_at page at).next ])
      later true e = refl
      later false e = e

  pub listed_reads : map read_number (reads page) ≡ map (λ (r : Read). (page_read page r.at into).code) (reads page)
  listed_reads = from_read (suc (length page)) 0

-- a run of numbers leaves the open page that the run of answers leaves
pub same_state : (page : List ℕ) (s : OpenPage) (rs : List Read) → (run (number_step page) s rs).state ≡ (run file_step s rs).state
unfolding run
same_state page s [] = refl
same_state page s (r ∷ rs) = same_state page (file_step s r).state rs

-- filing a page leaves what the adds and the closing of `whole_page` leave, for the records that its reads give
module _ (page buffer answers : List ℕ) (room : length page < length answers) where
  abbrev c : Call
  c = closing no_index (records_of page) buffer

  pub filed_page : page_file page buffer answers
      ≡ record { code = length (reads page) * pack_unit + filed_code c.answer; bytes = c.buffer; answers = put answers 0 (file_numbers page buffer).answers }
  filed_page =
      let w = file_numbers page buffer in
      let n : length w.answers ≡ length (reads page) = run_length (number_step page) (open_page buffer 0) (reads page) in
      let d : close w.state.buffer w.state.position ≡ c = filed_closing page buffer w.state (same_state page (open_page buffer 0) (reads page)) in
      let told : filing accepted w buffer answers ≡ record { code = length (reads page) * pack_unit + filed_code c.answer; bytes = c.buffer; answers = put answers 0 w.answers } =
      λ i. record { code = n i * pack_unit + filed_code (d i).answer; bytes = (d i).buffer; answers = put answers 0 w.answers } in
      rw (lt-ltb (length page) (length answers) room) told

  small : filed_code c.answer < pack_unit
  small = go c.answer refl
    where
      go : (f : Filed) → c.answer ≡ f → filed_code c.answer < pack_unit
      go (position_after n) e =
          let w : Within c.answer = close_within (adds no_index (records_of page) buffer).state.buffer (adds no_index (records_of page) buffer).state.position in
          rw e (omega (arith, subst Within e w))
      go (refusal k n) e = rw ((whole_page no_index tt (records_of page) buffer).listed.unclosed e).0 (omega arith)

  -- how many answers there are, and what closing gave, are told by the number
  pub filed_count : (page_file page buffer answers).code / pack_unit ≡ length (reads page)
  filed_count = ap (λ (f : Filing). f.code / pack_unit) filed_page ∙ high pack_unit (length (reads page)) (filed_code c.answer) small

  pub filed_code_lem : (page_file page buffer answers).code % pack_unit ≡ filed_code c.answer
  filed_code_lem = ap (λ (f : Filing). f.code % pack_unit) filed_page ∙ low pack_unit (length (reads page)) (filed_code c.answer) small

  -- both lie within what was lent, where closing is not refused
  pub filed_within : 2 ≤ length buffer → let f = page_file page buffer answers in (f.code / pack_unit ≤ length f.answers) × (f.code % pack_unit ≤ length f.bytes)
  filed_within h =
      let w = file_numbers page buffer in
      let n = run_length (number_step page) (open_page buffer 0) (reads page) in
      let kept : length (page_file page buffer answers).answers ≡ length answers = ap (λ (f : Filing). length f.answers) filed_page ∙ put_length answers 0 w.answers (omega (arith, n, reads_most page, room)) in
      let closes = (whole_page no_index tt (records_of page) buffer).listed.closes h in
      let to : filed_code c.answer ≡ (adds no_index (records_of page) buffer).state.position + 2 = ap filed_code closes in
      let left : length (page_file page buffer answers).bytes ≡ length c.buffer = ap (λ (f : Filing). length f.bytes) filed_page in
      (omega (arith, filed_count, reads_most page, kept, room), omega (arith, filed_code_lem, to, closing_within no_index tt (records_of page) buffer closes, left))
