-- `record_bytes::copies::put_bytes` meets its contract. The loop's invariant: the bytes passed are copied. Assumes nothing.
use mathlib.Core.Path.{◌≡◌}
use lib.ListN.{take}
use Rattle.record_bytes.proofs.copies.put_bytes.Given as goal

abbrev pub invariant-loop-i : goal.invariant-loop-i
invariant-loop-i l = take l.i l.place ≡ take l.i l.s
