-- `yewdome::yewdome_page_answers` meets its contract: the loop files nothing, and its answers are those of the reads. Assumes nothing.
use native.Mathlib.Omega.{arith}
use Rattle.yewdome.proofs.Walks.{answers_short, walked_few, lists}
use Rattle.yewdome.proofs.yewdome_page_answers.Goals as goal

pub returns-then-answers-page : goal.returns-then-answers-page
returns-then-answers-page c =
    let a = c.args in
    rw c.code.ensures (answers_short a.page.now a.answers.now (omega arith))

pub overflow_cast-result : goal.overflow_cast-result
overflow_cast-result c =
    let a = c.args in omega (arith, walked_few a.page.now a.answers.now c.walk-count.ensures)

pub returns : goal.returns
returns c =
    let a = c.args in lists a.page.now a.answers.now c.if-answers-page.false c.walk-count.ensures
