-- `writer::Cursor::put_line` meets its contract: LF, number and text are put one after the other. Assumes nothing.
use Prim.Native.Nat.{◌+◌, ◌≤◌}
use mathlib.Core.List.{◌++◌}
use lib.ListN.{length}
use Rattle.writer.specs.Writing.{number_of}
use Rattle.writer.specs.Code.{lead}
use Rattle.writer.proofs.Puts.{space, moves_both}
use Rattle.writer.proofs.Cursor.put_line.Goals as goal
use Rattle.writer.proofs.Cursor.put_line.Goals.{After-put_lf}

-- number and text have space
rest :
    (l : After-put_lf) → let a = l.args in
    l.put_lf.new.self.at + length (number_of a.numbering a.digit ++ a.text.now) ≤ length l.put_lf.new.self.buf.now
rest l = space (lead l.args.later) (number_of l.args.numbering l.args.digit ++ l.args.text.now) l.put_lf.ensures.puts l.requires

pub returns : goal.returns
returns c =
    let number = number_of c.args.numbering c.args.digit in
    let text = c.args.text.now in
    moves_both (lead c.args.later) (number ++ text) c.put_lf.ensures c.requires (moves_both number text c.put_number.ensures (rest (goal.at.returns c).After-put_lf) c.put_bytes.ensures)
