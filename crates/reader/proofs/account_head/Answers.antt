-- `reader::account_head` meets its contract, by whether there is one. Assumes nothing.
use mathlib.Core.Path.{◌≡◌, sym, ◌∙◌, ap}
use lib.ListN.{drop}
use Rattle.errors.specs.Refusals.{Reply}
use Rattle.party.specs.Limits.{limits_of}
use Rattle.reader.specs.Code.{account_by}
use Rattle.reader.specs.Options.{Head, account_reply, head}
use Rattle.reader.proofs.Heads.{by_none, by_some}
use Rattle.reader.proofs.Into.{exits}
use Rattle.reader.proofs.account_head.Goals as goal
use Rattle.reader.proofs.account_head.Goals.{After-suffix}

pub returns-then-not-has_account : goal.returns-then-not-has_account
returns-then-not-has_account c =
    let a = c.args in
    by_none (limits_of a.option).first a.option a.line.now (sym c.has_account.ensures ∙ c.if-not-has_account.true)

-- what the account makes of the line
there : (c : After-suffix) {r : Reply} → r ≡ account_reply c.args.option c.suffix.result.now → account_by (limits_of c.args.option).first c.args.option c.args.line.now ≡ head (drop 1 c.args.line.now) r
there c e =
    let a = c.args in
    by_some (limits_of a.option).first a.option a.line.now (sym c.has_account.ensures ∙ c.if-not-has_account.false)
    ∙ ap (head (drop 1 a.line.now)) (ap (account_reply a.option) (sym c.suffix.ensures) ∙ sym e)

pub returns-in_err-account : goal.returns-in_err-account
returns-in_err-account c =
    rw (exits c.from_residual.ensures.1) (ap (λ (h : Head). h.reply) (there (goal.at.returns-in_err-account c).After-suffix c.in_err-account.ensures))

pub returns : goal.returns
returns c = there (goal.at.returns c).After-suffix c.in_ok-account.ensures
