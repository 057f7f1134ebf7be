-- `yewdome::ReadRecord::filed_causes` meets its contract: lengths that agree show that there are none; else they are looked for. Assumes nothing.
use Rattle.yewdome.proofs.Causes.{filed_none, filed_within}
use native.Mathlib.Omega.{arith}
use Rattle.yewdome.proofs.ReadRecord.filed_causes.Goals as goal

pub returns-then-self-written : goal.returns-then-self-written
returns-then-self-written c =
    let r = c.args.self.now in
    filed_none r.page.now r.at r.bytes.now r.moved r.read r.moves c.args.written c.requires c.if-self.true c.if-self-written.true

pub overflow_add-self : goal.overflow_add-self
overflow_add-self c = let r = c.args.self.now in omega (arith, filed_within r.page.now r.at r.bytes.now r.moved r.read r.moves)
