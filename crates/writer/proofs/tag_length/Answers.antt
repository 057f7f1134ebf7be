-- `writer::tag_length` meets its contract. Assumes nothing.
use mathlib.Core.Path.{ap}
use lib.ListN.{length}
use Rattle.writer.proofs.Fields.{tag_plain, tag_lettered}
use Rattle.writer.proofs.tag_length.Goals as goal

pub returns-then-limits_of-eq0 : goal.returns-then-limits_of-eq0
returns-then-limits_of-eq0 c = ap length (tag_plain c.args.option c.limits_of.ensures c.if-limits_of-eq0.true)

pub returns-else-limits_of-eq0 : goal.returns-else-limits_of-eq0
returns-else-limits_of-eq0 c = ap length (tag_lettered c.args.option c.limits_of.ensures c.if-limits_of-eq0.false)
