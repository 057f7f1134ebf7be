-- `writer::Lent::put_names` meets its contract. The loop's invariant: the names passed are put, and the others are left. Assumes nothing.
use mathlib.Core.Path.{◌≡◌}
use lib.ListN.{drop}
use Rattle.party.specs.Limits.{limits_of}
use Rattle.record_bytes.specs.RecordBytes.{laid_out}
use Rattle.writer.specs.Writing.{name_lines}
use Rattle.writer.specs.Code.{follows, led}
use Rattle.writer.specs.Lent.{lent_head}
use Rattle.writer.proofs.Names.{names_in}
use Rattle.writer.proofs.Puts.{Partway}
use Rattle.writer.proofs.Lent.put_names.Given as goal

abbrev pub invariant-loop-i : goal.invariant-loop-i
invariant-loop-i l =
    let p = laid_out l.self.bytes.now in
    let f = (limits_of p.option).numbering in
    let head = lent_head l.self in
    record {
      puts : Partway l.initial.out.buf.now l.initial.out.at (led head (name_lines f p.digits (names_in l.n p))) l.out.buf.now l.out.at (led (follows head l.i) (name_lines f (drop l.i p.digits) (drop l.i (names_in l.n p))));
      same_reference : l.out.buf.ghost_name ≡ l.initial.out.buf.ghost_name;
    }
