-- `words::is_clear` meets its contract: while no word that was seen has a highest bit, none of them has an LF. Assumes nothing.
use Rattle.std.proofs.Common.{◌≡◌, ◌*◌}
use lib.Bits.{bit_and}
use Rattle.field_utils.specs.Words.{every, Passed}
use Rattle.field_utils.proofs.words.is_clear.Given as goal

abbrev pub invariant-loop-bytes : goal.invariant-loop-bytes
invariant-loop-bytes l = bit_and l.seen (every 128 8) ≡ 0 → Passed l.block 0 (l.bytes-index * 8)
