-- `yewdome::ReadRecord::with_causes` meets its contract. Assumes nothing.
use native.Mathlib.Omega.{arith}
use Rattle.yewdome.proofs.Steps.{moved_few}
use Rattle.yewdome.proofs.ReadRecord.with_causes.Goals as goal

pub overflow_add-result : goal.overflow_add-result
overflow_add-result c = let r = c.args.self.now in omega (arith, moved_few r.page.now r.at r.moves)
