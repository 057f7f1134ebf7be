-- No more is counted than the answers passed.
use Rattle.std.proofs.Common.{◌≤◌}
use Rattle.file_page.proofs.tally.say_answers.Given as goal

abbrev pub invariant-loop-i : goal.invariant-loop-i
invariant-loop-i g l = (l.tally.filed ≤ l.i) × (l.tally.changed ≤ l.i) × (l.tally.refused ≤ l.i)
