-- `writer::Lent::written_length` meets its contract. Assumes nothing.
use mathlib.Core.Path.{refl}
use native.Mathlib.Omega.{arith}
use lib.ListN.{length-append}
use Rattle.record_bytes.specs.RecordBytes.{laid_out}
use Rattle.writer.proofs.Fields.{lent_parts, tag_most}
use Rattle.writer.proofs.Lent.written_length.Goals as goal

pub overflow_add-result : goal.overflow_add-result
overflow_add-result c = omega (arith, tag_most c.args.self.now.option)

pub overflow_add-result-2 : goal.overflow_add-result-2
overflow_add-result-2 c = omega (arith, tag_most c.args.self.now.option)

pub returns : goal.returns
returns c =
    rw (lent_parts (laid_out c.args.self.now.bytes.now) c.args.self.now.option_is refl)
    (simp length-append (omega arith))
