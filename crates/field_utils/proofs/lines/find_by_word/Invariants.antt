-- `lines::find_by_word` meets its contract: a word without an LF is passed, and the first LF in a word is the first of all. Assumes nothing.
use Rattle.std.proofs.Common.{◌*◌}
use Rattle.field_utils.specs.Words.{Passed}
use Rattle.field_utils.proofs.lines.find_by_word.Given as goal

abbrev pub invariant-loop-i : goal.invariant-loop-i
invariant-loop-i l = Passed l.s 0 (l.i * 8)
