-- `lines::trim_end` meets its contract: while bytes are taken away, the trimmed text is that of the part before them. Assumes nothing.
use Rattle.std.proofs.Common.{◌≡◌, length}
use Rattle.field_utils.specs.Trim.{trimmed_end}
use Rattle.field_utils.proofs.lines.trim_end.Given as goal

abbrev pub invariant-loop-part : goal.invariant-loop-part
invariant-loop-part l = trimmed_end l.s ≡ trimmed_end l.part

abbrev pub decreases-loop-part : goal.decreases-loop-part
decreases-loop-part l = length l.part
