-- `choices::LineSummary::first_numbered` meets its contract, by the first byte. Assumes nothing.
use mathlib.Core.Path.{sym, ◌∙◌, ap}
use Rattle.field_utils.specs.Identifier.{is_numbered}
use Rattle.reader.proofs.LineTests.{test_second, test_first}
use Rattle.reader.proofs.choices.LineSummary.first_numbered.Goals as goal

pub returns-then-starts_with_slash : goal.returns-then-starts_with_slash
returns-then-starts_with_slash c =
    let w = c.args.self.now in
    w.two ∙ ap is_numbered (sym (test_second w.rest.text.now c.starts_with_slash.ensures c.if-starts_with_slash.true))

pub returns-else-starts_with_slash : goal.returns-else-starts_with_slash
returns-else-starts_with_slash c =
    let w = c.args.self.now in
    w.one ∙ ap is_numbered (sym (test_first w.rest.text.now c.starts_with_slash.ensures c.if-starts_with_slash.false))
