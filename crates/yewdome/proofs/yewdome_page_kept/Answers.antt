-- `yewdome::yewdome_page_kept` meets its contract, by what the read gives. Assumes nothing.
use mathlib.Core.Path.{sym, ◌∙◌}
use Rattle.yewdome.proofs.Steps.{read, onward, is_move, is_read, kept_none, kept_some}
use Rattle.yewdome.proofs.yewdome_page_kept.Goals as goal

pub overflow_sub-moved : goal.overflow_sub-moved
overflow_sub-moved c =
    let a = c.args in
    (onward (read a.page.now a.at c.read_at_into-read.ensures.result_value c.read_at_into-read.ensures.bytes)).0

pub invariant_of-given : goal.invariant_of-given
invariant_of-given c =
    let a = c.args in
    let w = is_read (read a.page.now a.at c.read_at_into-read.ensures.result_value c.read_at_into-read.ensures.bytes) (sym c.is_record.ensures ∙ c.if-is_record.true) in
    record { read = w.0; moves = w.1 }

pub moved_past-requires : goal.moved_past-requires
moved_past-requires c =
    let a = c.args in
    is_move (read a.page.now a.at c.read_at_into-read.ensures.result_value c.read_at_into-read.ensures.bytes)

pub returns-then-is_record : goal.returns-then-is_record
returns-then-is_record c =
    let a = c.args in
    c.with_causes.ensures ∙ kept_some (read a.page.now a.at c.read_at_into-read.ensures.result_value c.read_at_into-read.ensures.bytes) (sym c.is_record.ensures ∙ c.if-is_record.true) c.causes.ensures

pub returns-else-is_record : goal.returns-else-is_record
returns-else-is_record c =
    let a = c.args in
    kept_none (read a.page.now a.at c.read_at_into-read.ensures.result_value c.read_at_into-read.ensures.bytes) (sym c.is_record.ensures ∙ c.if-is_record.false) c.moved_past.ensures
