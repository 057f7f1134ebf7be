-- `writer::Lent::name_length` meets its contract. Assumes nothing.
use Prim.Native.Nat.{◌+◌}
use mathlib.Core.Path.{◌∙◌, ap}
use mathlib.Core.Bool.{Bool}
use native.Mathlib.Omega.{arith}
use lib.ListN.{length, length-append}
use Rattle.party.specs.declared.Limits.{Limits}
use Rattle.party.specs.Limits.{limits_of}
use Rattle.field_utils.specs.Names.{dropped_prefix}
use Rattle.record_bytes.specs.RecordBytes.{laid_out}
use Rattle.record_bytes.proofs.Laws.{used_most}
use Rattle.writer.specs.Code.{lead}
use Rattle.writer.proofs.Names.{number_length_lem, marks_most}
use Rattle.writer.proofs.Lent.name_length.Goals as goal

pub returns : goal.returns
returns c =
    let p = laid_out c.args.self.now.bytes.now in
    let f = (limits_of p.option).numbering in
    let lf = ap (λ (b : Bool). length (lead b)) c.has_lf.ensures in
    let mark = c.dropped_prefix.ensures ∙ ap (λ (l : Limits). dropped_prefix l.numbering) c.limits.ensures in
    let text = ap length c.name.ensures in
    record {
      is = simp (length-append, number_length_lem) (omega (arith, lf, mark, text));
      most = omega (arith, mark, text, marks_most f, used_most c.args.self.now.bytes.now (2 + c.args.i));
    }
