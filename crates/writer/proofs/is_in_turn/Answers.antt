-- `writer::is_in_turn` meets its contract, by the numbering. Assumes nothing.
use mathlib.Core.Path.{sym, ◌∙◌}
use native.Mathlib.Omega.{arith}
use Rattle.field_utils.proofs.NameLines.{numbered_room}
use Rattle.writer.proofs.Records.{turn_written}
use Rattle.writer.proofs.is_in_turn.Goals as goal

pub bounds-text-0 : goal.bounds-text-0
bounds-text-0 c = omega (arith, numbered_room c.args.text.now (sym c.is_numbered_line.ensures ∙ c.if-is_numbered_line.true))

pub returns-in-Numbered : goal.returns-in-Numbered
returns-in-Numbered c =
    let a = c.args in
    rw c.in-Numbered.is (c.is_digit.ensures ∙ sym (turn_written a.turn a.digit a.text.now))
