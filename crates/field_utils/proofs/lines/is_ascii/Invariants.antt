-- `lines::is_ascii` meets its contract: a word of low bytes is passed, and the last word says what is left to say. Assumes nothing.
use Rattle.std.proofs.Common.{◌*◌}
use Rattle.field_utils.proofs.AllBytes.{low, Says}
use Rattle.field_utils.proofs.lines.is_ascii.Given as goal

abbrev pub invariant-loop-bytes : goal.invariant-loop-bytes
invariant-loop-bytes l = Says low l.s (l.bytes-index * 8)
