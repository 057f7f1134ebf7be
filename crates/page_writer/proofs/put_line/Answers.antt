-- `page_writer::put_line` meets its contract: the text fits, and its LF after it. Assumes nothing.
use Rattle.page_writer.proofs.Addings.{line_puts}
use Rattle.page_writer.proofs.put_line.Goals as goal

pub returns : goal.returns
returns c =
    let a = c.args in
    line_puts a.buf.now a.at a.text.now c.requires c.put_text.ensures.buf_after
