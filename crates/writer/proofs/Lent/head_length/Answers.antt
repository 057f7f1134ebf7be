-- `writer::Lent::head_length` meets its contract. Assumes nothing.
use mathlib.Core.Path.{sym, ◌∙◌, ap}
use native.Mathlib.Omega.{arith}
use lib.ListN.{length, length-append}
use Rattle.record_bytes.proofs.Laws.{used_most}
use Rattle.writer.proofs.Lent.head_length.Goals as goal

pub returns : goal.returns
returns c =
    let text = ap length c.account.ensures in
    rw (sym c.has_head.ensures ∙ c.if-not-has_head.false, ← c.args.self.now.option_is)
    (record { is = simp length-append (omega arith); most = omega (arith, used_most c.args.self.now.bytes.now 0) })
