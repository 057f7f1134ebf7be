-- `kept::causes_of` meets its contract, cause by cause. Assumes nothing.
use Rattle.kept.specs.Kept.{causes_of}
use Rattle.kept.proofs.causes_of.Goals as goal

pub returns : goal.returns
unfolding causes_of
returns c =
    let a = c.args in
    λ i. record { inner_cr = c.has_cr_lf.ensures i; last_lf = c.ends_lf.ensures i; after_bic = c.is_after_bic.ensures i; blanks = a.blanks; closing_cr = a.closing_cr }
