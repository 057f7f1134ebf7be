-- `choices::LineSummary::bic_line_length` meets its contract, by the first byte. Assumes nothing.
use mathlib.Core.Path.{sym, ◌∙◌, ap}
use Prim.Native.Nat.{ℕ}
use lib.ListN.{length}
use Rattle.reader.proofs.LineTests.{test_second, test_first}
use Rattle.reader.proofs.choices.LineSummary.bic_line_length.Goals as goal

pub returns-then-starts_with_slash : goal.returns-then-starts_with_slash
returns-then-starts_with_slash c =
    let w = c.args.self.now in
    w.second_length ∙ ap (length {A = ℕ}) (sym (test_second w.rest.text.now c.starts_with_slash.ensures c.if-starts_with_slash.true))

pub returns-else-starts_with_slash : goal.returns-else-starts_with_slash
returns-else-starts_with_slash c =
    let w = c.args.self.now in
    w.first_length ∙ ap (length {A = ℕ}) (sym (test_first w.rest.text.now c.starts_with_slash.ensures c.if-starts_with_slash.false))
