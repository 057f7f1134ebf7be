-- `file_page::file_page` meets its contract, and writes a part of the buffer. Assumes nothing.
use Rattle.std.proofs.Common.{◌≡◌, ℕ, ◌≤◌, ◌<◌, ◌/◌, ◌%◌, List, length, sym, ◌∙◌, ap, subst}
use Rattle.std.proofs.Math.Seq.{length-take-le}
use Rattle.page_writer.specs.IndexState.{no_index}
use Rattle.page_writer.specs.Demand3.{closing}
use Rattle.yewdome.specs.Filing.{records_of}
use Rattle.yewdome.specs.Interface.{Filing, page_file}
use Rattle.yewdome.proofs.WholePages.{filed_page, filed_within}
use Rattle.file_page.proofs.file_page.Goals as goal

module _ (page buffer answers : List ℕ) (filed : Filing) (is : filed ≡ page_file page buffer answers) (room : length page < length answers) where
  -- what is left in the buffer is the closing of the records that the page's reads give
  left : filed.bytes ≡ (closing no_index (records_of page) buffer).buffer
  left = ap (λ (f : Filing). f.bytes) (is ∙ filed_page page buffer answers room)

  -- the count of answers and the length of the page lie within what was lent
  within : 2 ≤ length buffer → (filed.code / 4294967296 ≤ length filed.answers) × (filed.code % 4294967296 ≤ length filed.bytes)
  within h =
      subst (λ (f : Filing). (f.code / 4294967296 ≤ length f.answers) × (f.code % 4294967296 ≤ length f.bytes)) (sym is)
      (filed_within page buffer answers room h)

pub slice_bounds-say_answers-end : goal.slice_bounds-say_answers-end
slice_bounds-say_answers-end g c = (within _ _ _ _ c.yewdome_page_file-filed.ensures c.requires.1 c.requires.0).0

pub slice_bounds-say_answers-end-2 : goal.slice_bounds-say_answers-end-2
slice_bounds-say_answers-end-2 g c =
    let f = c.yewdome_page_file-filed in
    sym (length-take-le (f.result / 4294967296) f.new.answers (within _ _ _ _ f.ensures c.requires.1 c.requires.0).0)

pub slice_bounds-write_all-end : goal.slice_bounds-write_all-end
slice_bounds-write_all-end g c = (within _ _ _ _ c.yewdome_page_file-filed.ensures c.requires.1 c.requires.0).1

pub slice_bounds-write_all-end-2 : goal.slice_bounds-write_all-end-2
slice_bounds-write_all-end-2 g c =
    let f = c.yewdome_page_file-filed in
    sym (length-take-le (f.result % 4294967296) f.new.buf (within _ _ _ _ f.ensures c.requires.1 c.requires.0).1)

pub returns-then-is_err : goal.returns-then-is_err
returns-then-is_err g c = left _ _ _ _ c.yewdome_page_file-filed.ensures c.requires.1

pub returns-else-is_err : goal.returns-else-is_err
returns-else-is_err g c = left _ _ _ _ c.yewdome_page_file-filed.ensures c.requires.1
