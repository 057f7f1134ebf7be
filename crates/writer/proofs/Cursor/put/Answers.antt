-- `writer::Cursor::put` meets its contract. Assumes nothing.
use mathlib.Core.Path.{refl}
use Rattle.writer.proofs.Puts.{puts_byte}
use Rattle.writer.proofs.Cursor.put.Goals as goal

pub returns : goal.returns
returns c = record { puts = puts_byte c.args.self.now.buf.now c.args.self.now.at c.args.byte c.requires; same_reference = refl }
