-- `kept::keep` meets its contract: a refusal has no causes. Assumes nothing.
use Rattle.std.proofs.lemmas.Result.{err_from_is_err_and}
use Rattle.kept.specs.Kept.{kept_of}
use Rattle.kept.proofs.keep.Goals as goal

pub returns-in_err-party : goal.returns-in_err-party
unfolding kept_of
returns-in_err-party c =
    let p = err_from_is_err_and c.from_residual.result c.from_residual.ensures.1 in rw (p.1, p.2, c.in_err-party.was)

pub returns : goal.returns
unfolding kept_of
returns c = rw (c.in_ok-party.was, c.causes_of.ensures)
