-- `page_reader::field_end` meets its contract: where no opening or end line follows an LF, the field runs to where it runs from there on.
-- Assumes nothing.
use mathlib.Core.Path.{refl, sym, ◌∙◌}
use Prim.Native.Nat.{◌+◌}
use native.Mathlib.Omega.{arith}
use lib.ListN.{drop, length-drop}
use Rattle.field_utils.proofs.Places.{upto_length}
use Rattle.page_reader.proofs.Cases.{to_last, to_lf, to_more, followed_line}
use Rattle.page_reader.proofs.field_end.Goals as goal
use Rattle.page_reader.proofs.field_end.Goals.{then-page-next-via-then-page-next, then-page-next-via-else-page-next+then-opens_at, then-page-next-via-else-page-next+else-opens_at+then-ends_at}

pub overflow_add-next : goal.overflow_add-next
overflow_add-next c =
    let page = c.args.page.now in
    omega (arith, c.find_lf-lf.ensures, upto_length 10 (drop c.loop-i.i page), length-drop c.loop-i.i page, c.loop-i.invariant.1)

pub returns-then-page-next : goal.returns-then-page-next
returns-then-page-next c =
    let page = c.args.page.now in
    let lf = c.find_lf-lf.result in
    (elim c.then-page-next.branch [
      | then-page-next-via-then-page-next w ↦ to_last page c.loop-i.i lf c.find_lf-lf.ensures c.loop-i.invariant.1 w.if-page-next.true
      | then-page-next-via-else-page-next+then-opens_at w ↦
          to_lf page c.loop-i.i lf c.find_lf-lf.ensures c.loop-i.invariant.1 (omega arith) (followed_line page (lf + 1) (omega arith) (sym w.opens_at.ensures ∙ w.if-opens_at.true) refl)
      | then-page-next-via-else-page-next+else-opens_at+then-ends_at w ↦
          to_lf page c.loop-i.i lf c.find_lf-lf.ensures c.loop-i.invariant.1 (omega arith)
          (followed_line page (lf + 1) (omega arith) (sym w.opens_at.ensures ∙ w.if-opens_at.false) (sym w.ends_at.ensures ∙ w.if-ends_at.true))
    ])
    ∙ sym c.loop-i.invariant.0

pub loop-i-preserved : goal.loop-i-preserved
loop-i-preserved c =
    let a = c.args in
    let lf = c.find_lf-lf.result in (
      c.loop-i.invariant.0
          ∙ to_more a.page.now c.loop-i.i lf c.find_lf-lf.ensures c.loop-i.invariant.1 (omega arith)
          (followed_line a.page.now (lf + 1) (omega arith) (sym c.opens_at.ensures ∙ c.if-opens_at.false) (sym c.ends_at.ensures ∙ c.if-ends_at.false)),
      omega arith,
    )
