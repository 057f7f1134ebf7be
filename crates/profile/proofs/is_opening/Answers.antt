-- `profile::is_opening` meets its contract: the first line, an empty one, or its first byte. Assumes nothing.
use native.Mathlib.Omega.{arith}
use Rattle.std.proofs.lemmas.Grind.{common_steps}
use Rattle.profile.proofs.Laws.{opening_by}
use Rattle.profile.proofs.is_opening.Goals as goal

pub returns-else-n-eq1 : goal.returns-else-n-eq1
returns-else-n-eq1 c = grind (arith, common_steps, opening_by)
