-- `writer::is_plain_account` meets its contract: the length, then the class of each byte. Assumes nothing.
use mathlib.Core.Path.{sym, ◌∙◌}
use Rattle.writer.proofs.Records.{ok_passes, plain_account}
use Rattle.writer.proofs.is_plain_account.Goals as goal

pub returns-then-is_ok : goal.returns-then-is_ok
returns-then-is_ok c =
    let a = c.args in
    c.is_plain.ensures ∙ plain_account a.option a.text.now (sym (ok_passes c.account_length.result c.account_length.ensures c.is_ok.ensures.value) ∙ c.if-is_ok.true)

pub returns-else-is_ok : goal.returns-else-is_ok
returns-else-is_ok c =
    let a = c.args in
    c.if-is_ok.false ∙ plain_account a.option a.text.now (sym (ok_passes c.account_length.result c.account_length.ensures c.is_ok.ensures.value) ∙ c.if-is_ok.false)
