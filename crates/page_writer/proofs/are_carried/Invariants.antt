-- `page_writer::are_carried` meets its contract: while pieces pass, those from the start are carried as those from there on. Assumes nothing.
use mathlib.Core.Path.{◌≡◌}
use Prim.Native.Nat.{◌-◌, ◌≤◌}
use lib.ListN.{length, drop}
use Rattle.writer.specs.Writing.{pieces}
use Rattle.page_writer.specs.Adding.{lines_carried}
use Rattle.page_writer.proofs.are_carried.Given as goal

abbrev pub invariant-loop-i : goal.invariant-loop-i
invariant-loop-i l = (lines_carried (pieces l.body) ≡ lines_carried (pieces (drop l.i l.body))) × (l.i ≤ length l.body)

abbrev pub decreases-loop-i : goal.decreases-loop-i
decreases-loop-i l = length l.body - l.i
