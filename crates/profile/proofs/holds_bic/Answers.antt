-- `profile::holds_bic` meets its contract: no BIC to hold, or the line, trimmed, compared with it. Assumes nothing.
use native.Mathlib.Omega.{arith}
use Rattle.std.proofs.lemmas.Grind.{common_steps}
use Rattle.profile.specs.Profile.{holds_bic}
use Rattle.profile.proofs.holds_bic.Goals as goal

pub returns-then-limits_of-ne0 : goal.returns-then-limits_of-ne0
unfolding holds_bic
returns-then-limits_of-ne0 c = grind (arith, common_steps)

pub returns-else-limits_of-ne0 : goal.returns-else-limits_of-ne0
unfolding holds_bic
returns-else-limits_of-ne0 c = grind (arith, common_steps)
