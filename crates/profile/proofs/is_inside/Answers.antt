-- `profile::is_inside` meets its contract: the tests that need no look at the bytes, then the bytes. Assumes nothing.
use native.Mathlib.Omega.{arith}
use Rattle.std.proofs.lemmas.Grind.{common_steps}
use Rattle.profile.proofs.Laws.{inside_is}
use Rattle.profile.proofs.is_inside.Goals as goal

pub returns-then-is_opening : goal.returns-then-is_opening
returns-then-is_opening c = grind (arith, common_steps, inside_is)

pub returns-else-is_opening : goal.returns-else-is_opening
returns-else-is_opening c = grind (arith, common_steps, inside_is)
