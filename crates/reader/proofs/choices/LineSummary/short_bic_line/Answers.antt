-- `choices::LineSummary::short_bic_line` meets its contract, by the length of the first line. Assumes nothing.
use mathlib.Core.Path.{sym, ◌∙◌, ap}
use Prim.Native.Nat.{ℕ}
use native.Mathlib.Omega.{arith}
use lib.ListN.{length}
use Rattle.party.specs.declared.Limits.{Limits}
use Rattle.field_utils.specs.Lines.{lines}
use Rattle.reader.proofs.LineTests.{short_long, short_fits}
use Rattle.reader.proofs.choices.LineSummary.short_bic_line.Goals as goal

pub returns-then-limits_of-self : goal.returns-then-limits_of-self
returns-then-limits_of-self c =
    let w = c.args.self.now in
    w.first_length
    ∙ ap (length {A = ℕ}) (sym (short_long (lines w.rest.text.now) (omega (arith, ap (λ (m : Limits). m.account_max) c.limits_of.ensures))))

pub returns-else-limits_of-self : goal.returns-else-limits_of-self
returns-else-limits_of-self c =
    let w = c.args.self.now in
    c.bic_line_length.ensures
    ∙ ap (length {A = ℕ}) (sym (short_fits (lines w.rest.text.now) (omega (arith, ap (λ (m : Limits). m.account_max) c.limits_of.ensures))))
