-- `reader::read_text_only` meets its contract. Assumes nothing.
use mathlib.Core.Path.{sym, ◌∙◌, ap}
use native.Mathlib.Omega.{arith}
use mathlib.Core.Bool.{true}
use mathlib.Core.List.{List, []}
use Prim.Native.Nat.{ℕ}
use Rattle.errors.specs.declared.ParseError.TheVariants.{LineCount}
use Rattle.reader.specs.Reading.{party_of}
use Rattle.reader.specs.Options.{text_only}
use Rattle.reader.proofs.LineCounts.{among_found, among_none}
use Rattle.reader.specs.Code.{passed_head, nameless}
use Rattle.reader.proofs.Readings.{refusing, accepting, text_lf, text_line, whole_part}
use Rattle.reader.proofs.Into.{exits}
use Rattle.reader.proofs.read_text_only.Goals as goal

pub returns-then-find_lf-body : goal.returns-then-find_lf-body
returns-then-find_lf-body c =
    let a = c.args in
    refusing a.option (text_only a.option a.body.now) a.body.now LineCount
    (text_lf a.option a.body.now (among_found a.body.now (omega (arith, c.find_lf.ensures, c.if-find_lf-body.true))))

pub returns-in_err-account : goal.returns-in_err-account
returns-in_err-account c =
    let a = c.args in
    rw (exits c.from_residual.ensures.1)
    (refusing a.option (text_only a.option a.body.now) a.body.now c.in_err-account.field-0.0
    (text_line a.option a.body.now (among_none a.body.now (omega (arith, c.find_lf.ensures, c.if-find_lf-body.false))) ∙ sym c.in_err-account.ensures))

pub returns : goal.returns
unfolding party_of
returns c =
    let a = c.args in
    accepting a.option (text_only a.option a.body.now) a.body.now _
    (text_line a.option a.body.now (among_none a.body.now (omega (arith, c.find_lf.ensures, c.if-find_lf-body.false))) ∙ sym c.in_ok-account.ensures)
    (c.nameless_parts.ensures a.body.now ∙ ap (λ (l : List ℕ). party_of a.option (nameless (passed_head true l) [])) (whole_part a.body.now c.whole.ensures))
