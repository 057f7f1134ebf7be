-- `has_slash` meets its contract: a slash was seen or is among the bytes left where it is among all. Assumes nothing.
use Rattle.std.proofs.Common.{◌≡◌, ◌||◌, drop}
use Rattle.swift_utils.specs.Bytes.{among}
use Rattle.field_utils.proofs.has_slash.Given as goal

abbrev pub invariant-loop-b : goal.invariant-loop-b
invariant-loop-b l = (l.seen || among (drop l.b-index l.s) 47) ≡ among l.s 47
