-- `yewdome::yewdome_page_close` meets its contract: what closing gave is told. Assumes nothing.
use Rattle.yewdome.proofs.Pages.{close_within, filed_small, filed_told}
use Rattle.yewdome.proofs.yewdome_page_close.Goals as goal

pub answered-requires : goal.answered-requires
answered-requires c =
    let a = c.args in
    filed_small c.close.result c.close.ensures (close_within a.buf.now a.position)

pub returns : goal.returns
returns c = filed_told c.close.result c.close.ensures c.answered.ensures
