-- `yewdome::ReadRecord::file` meets its contract, by what the add gives. Assumes nothing.
use native.Mathlib.Omega.{arith}
use Rattle.yewdome.proofs.Steps.{moved_few, add_small, filed_as_lem, was_filed, was_refused}
use Rattle.yewdome.proofs.ReadRecord.file.Goals as goal

pub overflow_sub-to : goal.overflow_sub-to
overflow_sub-to c =
    let a = c.args in
    let r = a.self.now in
    (filed_as_lem r.page.now r.at r.bytes.now r.moved r.read r.moves a.out.now.buf.now a.out.now.position c.add_record.result c.add_record.ensures c.in-Ok.is).0

pub filed_causes-causes-requires : goal.filed_causes-causes-requires
filed_causes-causes-requires c =
    let a = c.args in
    let r = a.self.now in
    (filed_as_lem r.page.now r.at r.bytes.now r.moved r.read r.moves a.out.now.buf.now a.out.now.position c.add_record.result c.add_record.ensures c.in-Ok.is).1

pub code-requires : goal.code-requires
code-requires c =
    let a = c.args in
    let r = a.self.now in
    rw c.in-Err.is at (add_small r.page.now r.at r.bytes.now r.moved r.read r.moves a.out.now.buf.now a.out.now.position c.add_record.result c.add_record.ensures)

pub returns-in-Ok-clause-answer : goal.returns-in-Ok-clause-answer
returns-in-Ok-clause-answer c =
    let a = c.args in
    let r = a.self.now in
    rw c.with_causes.ensures (was_filed r.page.now r.at r.bytes.now r.moved r.read r.moves a.out.now.buf.now a.out.now.position c.add_record.result c.add_record.ensures c.in-Ok.is c.filed_causes-causes.ensures)

pub returns-in-Err-clause-answer : goal.returns-in-Err-clause-answer
returns-in-Err-clause-answer c =
    let a = c.args in
    let r = a.self.now in
    rw c.pack.ensures (was_refused r.page.now r.at r.bytes.now r.moved r.read r.moves a.out.now.buf.now a.out.now.position c.add_record.result c.add_record.ensures c.in-Err.is c.code.ensures)

pub overflow_cast-self : goal.overflow_cast-self
overflow_cast-self c = let r = c.args.self.now in omega (arith, moved_few r.page.now r.at r.moves)
