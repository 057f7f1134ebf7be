-- `choices::LineSummary::later_numbered` meets its contract, by what was seen of the second line, or those left. Assumes nothing.
use mathlib.Core.Path.{◌∙◌}
use borrow.Author.Tests.{tests}
use Rattle.std.proofs.Common.{rules}
use Rattle.std.proofs.lemmas.Iterator.Search.{any_from_yields_List}
use Rattle.field_utils.specs.Identifier.{is_numbered}
use Rattle.reader.proofs.Walks.{lines_left, any_listed, seen_later}
use Rattle.reader.proofs.choices.LineSummary.later_numbered.Goals as goal

pub returns-then-self : goal.returns-then-self
returns-then-self c = c.if-self.true ∙ seen_later c.args.self.now c.if-self.true

pub returns-else-self : goal.returns-else-self
returns-else-self c =
    let w = c.args.self.now in
    any_from_yields_List is_numbered _ _ _ c.any.ensures.ran (lines_left w.rest) (λ x b q k. search (rules, tests))
    ∙ any_listed _
    ∙ seen_later w c.if-self.false
