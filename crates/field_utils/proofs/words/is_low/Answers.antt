-- `words::is_low` meets its contract. Assumes nothing.
use Rattle.field_utils.proofs.AllBytes.{low_word}
use Rattle.field_utils.proofs.words.is_low.Goals as goal

pub returns : goal.returns
returns c = low_word 8 c.args.w
