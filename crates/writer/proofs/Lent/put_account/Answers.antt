-- `writer::Lent::put_account` meets its contract: slash and text are put one after the other. Assumes nothing.
use mathlib.Core.Path.{sym, ◌∙◌}
use Rattle.party.specs.Text.{used}
use Rattle.record_bytes.specs.RecordBytes.{laid_out}
use Rattle.writer.specs.Writing.{slash_of}
use Rattle.writer.proofs.Puts.{moves_both, moves_as}
use Rattle.writer.proofs.Lent.put_account.Goals as goal

pub returns-then-has_head : goal.returns-then-has_head
returns-then-has_head c =
    let there = sym c.has_head.ensures ∙ c.if-has_head.true in
    let room = rw (there, ← c.args.self.now.option_is) at c.requires in
    rw (there, ← c.args.self.now.option_is)
    (moves_both (slash_of c.args.self.now.option) (used (laid_out c.args.self.now.bytes.now).account).bytes c.put_slash.ensures room (moves_as c.account.ensures c.put_bytes.ensures))
