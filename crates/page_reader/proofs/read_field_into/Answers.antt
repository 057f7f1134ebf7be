-- `page_reader::read_field_into` meets its contract. Assumes nothing.
use mathlib.Core.Path.{sym, ◌∙◌, ap}
use native.Mathlib.Omega.{arith}
use Rattle.std.specs.Prelude.{Ok, Err}
use Rattle.std.proofs.lemmas.Result.{err_from_is_err_and}
use Rattle.page_reader.specs.Pages.{PageRead, kind_of, read_bytes}
use Rattle.page_reader.specs.Code.{told_tag}
use Rattle.page_reader.proofs.Cases.{field_tagged, field_leaves}
use Rattle.page_reader.proofs.read_field_into.Goals as goal

pub returns-in_default : goal.returns-in_default
returns-in_default c =
    let text = c.args.text.now in
    let q = field_tagged text 0 (ap told_tag (sym c.in_default.is) ∙ c.parse_tag.ensures) in
    record { result_value = ap (λ (r : PageRead). kind_of r.outcome) (sym q); bytes = ap (λ (r : PageRead). read_bytes r.outcome c.args.«record».now) (sym q) }

pub returns-in_err-read_into : goal.returns-in_err-read_into
returns-in_err-read_into c =
    let h = field_leaves c.args.text.now c.parse_tag.ensures c.in-Some.is (Err c.in_err-read_into.field-0.0) c.args.«record».now (omega (arith, c.told-record)) c.in_err-read_into.ensures in
    let p = err_from_is_err_and c.from_residual.result c.from_residual.ensures.1 in
    record { result_value = rw (p.1, p.2) h.0; bytes = h.1 }

pub returns : goal.returns
returns c =
    let h = field_leaves c.args.text.now c.parse_tag.ensures c.in-Some.is (Ok tt) c.args.«record».now (omega (arith, c.told-record)) c.in_ok-read_into.ensures in
    record { result_value = h.0; bytes = h.1 }
