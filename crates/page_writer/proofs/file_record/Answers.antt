-- `page_writer::file_record` meets its contract, by the field that is rendered. Assumes nothing.
use mathlib.Core.Path.{◌∙◌, ap}
use mathlib.Core.Bool.{Bool}
use Prim.Native.Nat.{ℕ}
use native.Mathlib.Omega.{arith}
use lib.ListN.{length, drop}
use Rattle.party.specs.declared.PartyOption.{PartyOption}
use Rattle.field_utils.specs.Tags.{tag_of}
use Rattle.record_bytes.specs.RecordBytes.{decoded}
use Rattle.writer.proofs.Theorems.{given_exact, written_most}
use Rattle.page_writer.specs.Code.{field_call}
use Rattle.page_writer.proofs.Addings.{field_is}
use Rattle.page_writer.proofs.file_record.Goals as goal

pub file_field-requires : goal.file_field-requires
file_field-requires c =
    let p = decoded c.args.«record».now in
    let h = c.in_ok-field.ensures in
    omega (arith, ap length h.2, written_most p ((given_exact p).yes h.1))

pub returns : goal.returns
returns c = λ b e.
    let a = c.args in
    let field = c.in_ok-field.field.now in
    let h = c.in_ok-field.ensures in
    let body = c.suffix-body.ensures ∙ ap (λ (n : ℕ). drop n field) (c.tag_length.ensures ∙ ap (λ (o : PartyOption). length (tag_of o)) c.option_of.ensures) in
    c.file_field.ensures
    ∙ ap (λ (free : Bool). field_call a.buf.now a.at field c.suffix-body.result.now free) e
    ∙ field_is (decoded a.«record».now) a.buf.now a.at b h.1 h.0 h.2 body
