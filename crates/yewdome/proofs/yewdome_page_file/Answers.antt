-- `yewdome::yewdome_page_file` meets its contract: the loop files, and what it filed is closed. Assumes nothing.
use native.Mathlib.Omega.{arith}
use Rattle.yewdome.proofs.Walks.{file_short, walked_few, files_all}
use Rattle.yewdome.proofs.yewdome_page_file.Goals as goal

pub returns-then-answers-page : goal.returns-then-answers-page
returns-then-answers-page c =
    let a = c.args in
    rw c.from.ensures (rw c.code.ensures (file_short a.page.now a.answers.now (omega arith) a.buf.now))

pub overflow_cast-count : goal.overflow_cast-count
overflow_cast-count c =
    let a = c.args in omega (arith, walked_few a.page.now a.answers.now c.walk-count.ensures)

pub returns : goal.returns
returns c =
    let a = c.args in
    rw c.pack.ensures (files_all a.page.now a.answers.now c.if-answers-page.false c.walk-count.ensures c.yewdome_page_close.ensures)
