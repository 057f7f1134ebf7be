-- `swift_utils::is_bic_length` meets its contract. Assumes nothing.
use borrow.Author.Tests.{eq-eqb, ne_eqb}
use Rattle.swift_utils.specs.Checks.{bic_length}
use Rattle.swift_utils.proofs.is_bic_length.Goals as goal

pub returns-then-n-eq-BIC_SHORT : goal.returns-then-n-eq-BIC_SHORT
unfolding bic_length
returns-then-n-eq-BIC_SHORT c = rw (eq-eqb _ _ c.if-n-eq-BIC_SHORT.true)

pub returns-else-n-eq-BIC_SHORT : goal.returns-else-n-eq-BIC_SHORT
unfolding bic_length
returns-else-n-eq-BIC_SHORT c = rw (ne_eqb _ _ c.if-n-eq-BIC_SHORT.false)
