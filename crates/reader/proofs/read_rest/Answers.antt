-- `reader::read_rest` meets its contract, by whether the option has names. Assumes nothing.
use mathlib.Core.Path.{sym, ◌∙◌, ap}
use Prim.Native.Nat.{suc}
use lib.ListN.{drop}
use Rattle.field_utils.specs.Lines.{lines}
use Rattle.reader.specs.Code.{lines_before, head_at, reading_of}
use Rattle.reader.proofs.Readings.{rest_bic, rest_names}
use Rattle.reader.proofs.read_rest.Goals as goal

pub returns-then-limits_of-eq0 : goal.returns-then-limits_of-eq0
returns-then-limits_of-eq0 c =
    let a = c.args in
    c.read_bic.ensures
    ∙ ap (reading_of a.option)
    (sym (rest_bic a.option c.limits_of.ensures (suc (lines_before a.later.account)) (head_at a.later.lines.text.now a.later.account) (lines (drop a.later.lines.at a.later.lines.text.now)) c.if-limits_of-eq0.true))

pub returns-else-limits_of-eq0 : goal.returns-else-limits_of-eq0
returns-else-limits_of-eq0 c =
    let a = c.args in
    c.read_names.ensures
    ∙ ap (reading_of a.option)
    (sym (rest_names a.option c.limits_of.ensures (suc (lines_before a.later.account)) (head_at a.later.lines.text.now a.later.account) (lines (drop a.later.lines.at a.later.lines.text.now)) c.if-limits_of-eq0.false))
