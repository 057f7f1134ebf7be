-- `yewdome::step` meets its contract, by what the read gives and what became of its record. Assumes nothing.
use mathlib.Core.Path.{sym, ◌∙◌, ap}
use mathlib.Core.Bool.{Bool}
use Rattle.page_reader.specs.Pages.{Outline}
use Rattle.page_reader.specs.Reads.{read_here}
use Rattle.yewdome.specs.Filing.{open_page}
use Rattle.yewdome.specs.Code.{step_by, follows, told_step}
use Rattle.yewdome.proofs.Steps.{read, onward, is_move, is_read, none_filed}
use Rattle.yewdome.proofs.step.Goals as goal
use Rattle.yewdome.proofs.step.Goals.{then-files+then-is_record, else-files, else-files-via-then-files+else-is_record, else-files-via-else-files}

pub overflow_sub-moved : goal.overflow_sub-moved
overflow_sub-moved c =
    let a = c.args in
    (onward (read a.page.now a.at c.read_at_into-read.ensures.result_value c.read_at_into-read.ensures.bytes)).0

pub invariant_of-given : goal.invariant_of-given
invariant_of-given c =
    let a = c.args in
    let w = is_read (read a.page.now a.at c.read_at_into-read.ensures.result_value c.read_at_into-read.ensures.bytes) (sym c.is_record.ensures ∙ c.if-is_record.true) in
    record { read = w.0; moves = w.1 }

pub moved_past-answer-requires : goal.moved_past-answer-requires
moved_past-answer-requires c =
    let a = c.args in
    is_move (read a.page.now a.at c.read_at_into-read.ensures.result_value c.read_at_into-read.ensures.bytes)

pub returns-clause-answer : goal.returns-clause-answer
returns-clause-answer c =
    let a = c.args in
    let g = (read a.page.now a.at c.read_at_into-read.ensures.result_value c.read_at_into-read.ensures.bytes) in
    elim c.if-files.branch [
      | then-files+then-is_record w ↦ (λ i. told_step (w.answer-is i) (w.out-is i).buf.now (w.out-is i).position) ∙ w.file-answer.ensures.answer
          ∙ ap (λ (b : Bool). step_by b a.page.now (open_page a.out.now.buf.now a.out.now.position) (read_here a.page.now a.at)) (sym w.if-files.true)
      | else-files w ↦ (λ i. told_step (w.answer-is i) (w.out-is i).buf.now (w.out-is i).position)
          ∙ none_filed g a.files a.out.now.buf.now a.out.now.position
          (elim w.else-files.branch [
            | else-files-via-then-files+else-is_record v ↦ rw v.if-files.true (sym v.is_record.ensures ∙ v.if-is_record.false)
            | else-files-via-else-files v ↦ rw v.if-files.false
          ]) w.moved_past-answer.ensures
    ]

pub returns-clause-next : goal.returns-clause-next
returns-clause-next c =
    let a = c.args in
    let g = (read a.page.now a.at c.read_at_into-read.ensures.result_value c.read_at_into-read.ensures.bytes) in
    c.next_read.ensures ∙ ap (λ (y : Outline). follows y a.at) g.gave
