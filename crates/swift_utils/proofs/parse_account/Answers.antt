-- `swift_utils::parse_account` meets its contract: the length says what comes of the bytes. Assumes nothing.
use Rattle.std.proofs.Common.{sym, ◌∙◌}
use Rattle.std.proofs.lemmas.Result.{err_from_is_err_and}
use Rattle.swift_utils.proofs.Checks.{account_length_lem}
use Rattle.swift_utils.proofs.parse_account.Goals as goal

pub returns-in_err-parse_length : goal.returns-in_err-parse_length
returns-in_err-parse_length c =
    let a = c.args in
    let p = err_from_is_err_and c.from_residual.result c.from_residual.ensures.1 in
    rw (p.1, p.2) (sym (account_length_lem a.line a.input.now a.shortest a.longest (sym c.in_err-parse_length.ensures)))

pub returns : goal.returns
returns c =
    let a = c.args in
    c.parse_swift_chars.ensures ∙ sym (account_length_lem a.line a.input.now a.shortest a.longest (sym c.in_ok-parse_length.ensures))
