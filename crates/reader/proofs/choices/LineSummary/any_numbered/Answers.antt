-- `choices::LineSummary::any_numbered` meets its contract, by what was seen of the first line. Assumes nothing.
use mathlib.Core.Path.{◌∙◌}
use Rattle.reader.proofs.Walks.{seen_any}
use Rattle.reader.proofs.choices.LineSummary.any_numbered.Goals as goal

pub returns-then-self : goal.returns-then-self
returns-then-self c = c.if-self.true ∙ seen_any c.args.self.now c.if-self.true

pub returns-else-self : goal.returns-else-self
returns-else-self c = c.later_numbered.ensures ∙ seen_any c.args.self.now c.if-self.false
