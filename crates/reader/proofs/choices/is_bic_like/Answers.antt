-- `choices::is_bic_like` meets its contract. Assumes nothing.
use mathlib.Core.Path.{sym, ◌∙◌}
use Rattle.reader.proofs.LineTests.{bic_other, bic_letters}
use Rattle.reader.proofs.choices.is_bic_like.Goals as goal

pub returns-then-is_bic_length : goal.returns-then-is_bic_length
returns-then-is_bic_length c = c.all_alphanumeric.ensures ∙ sym (bic_letters c.args.text.now (sym c.is_bic_length.ensures ∙ c.if-is_bic_length.true))

pub returns-else-is_bic_length : goal.returns-else-is_bic_length
returns-else-is_bic_length c = c.if-is_bic_length.false ∙ sym (bic_other c.args.text.now (sym c.is_bic_length.ensures ∙ c.if-is_bic_length.false))
