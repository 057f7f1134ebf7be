-- `kept::ends_lf` meets its contract. Assumes nothing.
use native.Mathlib.Omega.{arith}
use Rattle.std.proofs.lemmas.Grind.{common_steps}
use Rattle.kept.proofs.Laws.{ends_none, ends_by}
use Rattle.kept.proofs.ends_lf.Goals as goal

pub returns : goal.returns
returns c = grind (arith, common_steps, ends_none, ends_by)
