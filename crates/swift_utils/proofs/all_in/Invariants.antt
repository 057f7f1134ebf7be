-- The bits that the entries passed have in common, with the entries to come, say what all entries say. Assumes nothing.
use mathlib.Core.Path.{◌≡◌}
use mathlib.Core.Bool.{◌&&◌}
use lib.ListN.{drop}
use Rattle.swift_utils.specs.Bytes.{all}
use Rattle.swift_utils.specs.Classes.{has_bits, entry_in}
use Rattle.swift_utils.proofs.all_in.Given as goal

abbrev pub invariant-loop-b : goal.invariant-loop-b
invariant-loop-b l = (has_bits l.mask l.common && all (entry_in l.classes l.mask) (drop l.b-index l.s)) ≡ all (entry_in l.classes l.mask) l.s
