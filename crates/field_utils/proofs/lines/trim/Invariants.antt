-- `lines::trim` meets its contract: while bytes are taken away, the trimmed start is that of the part after them. Assumes nothing.
use Rattle.std.proofs.Common.{◌≡◌, length}
use Rattle.field_utils.specs.Trim.{trimmed_start}
use Rattle.field_utils.proofs.lines.trim.Given as goal

abbrev pub invariant-loop-part : goal.invariant-loop-part
invariant-loop-part l = trimmed_start l.s ≡ trimmed_start l.part

abbrev pub decreases-loop-part : goal.decreases-loop-part
decreases-loop-part l = length l.part
