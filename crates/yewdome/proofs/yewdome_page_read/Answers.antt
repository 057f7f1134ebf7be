-- `yewdome::yewdome_page_read` meets its contract: what a read gives and how far it moved make a number of 64 bits. Assumes nothing.
use Rattle.yewdome.proofs.Pages.{answer_next, answer_move, reads}
use Rattle.yewdome.proofs.yewdome_page_read.Goals as goal

pub overflow_sub-read : goal.overflow_sub-read
overflow_sub-read c = let a = c.args in (answer_next a.page.now a.at a.«record».now c.read_at_into-read.ensures.result_value).0

pub moved_past-requires : goal.moved_past-requires
moved_past-requires c = let a = c.args in answer_move a.page.now a.at a.«record».now c.read_at_into-read.ensures.result_value

pub returns : goal.returns
returns c = let a = c.args in reads a.page.now a.at a.«record».now c.read_at_into-read.ensures.result_value c.moved_past.ensures c.read_at_into-read.ensures.bytes
