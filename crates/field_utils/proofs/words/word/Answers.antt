-- `words::word` meets its contract: the number's bytes are those that it was read from. Assumes nothing.
use Rattle.std.proofs.Common.{ap, ◌∙◌}
use Rattle.field_utils.specs.Words.{low_bytes}
use Rattle.field_utils.proofs.FirstLf.{low_eight}
use Rattle.field_utils.proofs.words.word.Goals as goal

pub returns-clause-bytes : goal.returns-clause-bytes
returns-clause-bytes c = ap (low_bytes 8) c.from_le_bytes.ensures ∙ low_eight c.args.bytes.now c.told-bytes (λ i h. c.fits-bytes i)
