-- `page_reader::field_end` meets its contract: where no opening or end line follows an LF, the field runs to where it runs from there on.
-- Assumes nothing.
use mathlib.Core.Path.{◌≡◌}
use Prim.Native.Nat.{◌+◌, ◌-◌, ◌≤◌}
use lib.ListN.{length, drop}
use Rattle.page_reader.specs.Pages.{runs}
use Rattle.page_reader.proofs.field_end.Given as goal

abbrev pub invariant-loop-i : goal.invariant-loop-i
invariant-loop-i l = (l.at + runs (drop l.at l.page) ≡ l.i + runs (drop l.i l.page)) × (l.i ≤ length l.page)

abbrev pub decreases-loop-i : goal.decreases-loop-i
decreases-loop-i l = length l.page - l.i
