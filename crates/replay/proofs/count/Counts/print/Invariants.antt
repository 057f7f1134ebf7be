-- Each turn passes a `#` of the text.
use Rattle.std.proofs.Common.{length}
use Rattle.replay.proofs.count.Counts.print.Given as goal

abbrev pub decreases-loop-at : goal.decreases-loop-at
decreases-loop-at g l = length l.rest
