-- `writer::Lent::rest_length` meets its contract. Assumes nothing.
use mathlib.Core.Path.{ap}
use mathlib.Core.Bool.{Bool}
use native.Mathlib.Omega.{arith}
use lib.ListN.{length, length-append}
use Rattle.record_bytes.specs.RecordBytes.{laid_out}
use Rattle.record_bytes.proofs.Laws.{used_most}
use Rattle.writer.specs.Code.{lead}
use Rattle.writer.specs.Lent.{lent_head}
use Rattle.writer.proofs.Fields.{rest_names, rest_bic}
use Rattle.writer.proofs.Lent.rest_length.Goals as goal

pub returns-then-limits-eq0 : goal.returns-then-limits-eq0
returns-then-limits-eq0 c =
    rw (rest_names (lent_head c.args.self.now) (laid_out c.args.self.now.bytes.now) (rw c.limits.ensures at c.if-limits-eq0.true)) c.names_length.ensures

pub returns : goal.returns
returns c =
    let lf = ap (λ (b : Bool). length (lead b)) c.has_head.ensures in
    let text = ap length c.bic.ensures in
    rw (rest_bic (lent_head c.args.self.now) (laid_out c.args.self.now.bytes.now) (rw c.limits.ensures at c.if-limits-eq0.false))
    (record { is = simp length-append (omega arith); most = omega (arith, used_most c.args.self.now.bytes.now 1) })
