-- `page_writer::are_carried` meets its contract: while pieces pass, those from the start are carried as those from there on. Assumes nothing.
use mathlib.Core.Path.{◌≡◌, refl, sym, ◌∙◌}
use mathlib.Core.Bool.{Bool, not, ◌&&◌, ◌||◌}
use mathlib.Core.List.{List}
use Prim.Native.Nat.{ℕ, ◌+◌, ◌<◌}
use native.Mathlib.Omega.{arith}
use lib.ListN.{length, drop, length-drop}
use Rattle.swift_utils.proofs.Parts.{part}
use Rattle.field_utils.proofs.Places.{upto_length}
use Rattle.writer.specs.Writing.{pieces}
use Rattle.writer.specs.ReadBack.{ends_cr}
use Rattle.page_reader.specs.Pages.{line_at, opens, ends_at}
use Rattle.page_writer.specs.Adding.{lines_carried}
use Rattle.page_writer.proofs.Carried.{carried_last, carried_lf, carried_cr, empty_is}
use Rattle.page_writer.proofs.are_carried.Goals as goal
use Rattle.page_writer.proofs.are_carried.Goals.{After-find_lf-lf, then-opens_at-via-then-opens_at, then-opens_at-via-else-opens_at+then-ends_at}

module _ (f : After-find_lf-lf) where
  abbrev b : List ℕ
  b = f.args.body.now

  abbrev i : ℕ
  i = f.loop-i.i

  abbrev lf : ℕ
  lf = f.find_lf-lf.result

  -- the pieces from the start are carried as those from there on
  from_there : {t : Bool} → lines_carried (pieces (drop i b)) ≡ t → lines_carried (pieces b) ≡ t
  from_there q = f.loop-i.invariant.0 ∙ q

  -- by the piece that an LF ends
  by_lf : {x y z : Bool} → lf < length b → ends_cr (part i lf b) ≡ x → opens (line_at (drop (lf + 1) b)) ≡ y → ends_at (drop (lf + 1) b) ≡ z
      → lines_carried (pieces b) ≡ (not x && not (y || z) && lines_carried (pieces (drop (lf + 1) b)))
  by_lf h p q r = from_there (carried_lf b i lf f.find_lf-lf.ensures f.loop-i.invariant.1 h ∙ rw (p, q, r))

pub slice_bounds-ends_cr-end : goal.slice_bounds-ends_cr-end
slice_bounds-ends_cr-end c = omega (arith, c.find_lf-lf.ensures, c.loop-i.invariant.1, upto_length 10 (drop (i c) (b c)), length-drop (i c) (b c))

pub returns-then-ends_cr : goal.returns-then-ends_cr
returns-then-ends_cr c =
    let f = (goal.at.returns-then-ends_cr c).After-find_lf-lf in
    sym (from_there f (carried_cr (b f) (i f) (lf f) c.find_lf-lf.ensures c.loop-i.invariant.1 (sym c.ends_cr.ensures ∙ c.if-ends_cr.true)))

pub returns-then-body-lf : goal.returns-then-body-lf
returns-then-body-lf c =
    let f = (goal.at.returns-then-body-lf c).After-find_lf-lf in
    sym (from_there f (carried_last (b f) (i f) (lf f) c.find_lf-lf.ensures c.loop-i.invariant.1 (omega arith) ∙ rw (sym c.ends_cr.ensures ∙ c.if-ends_cr.false) (empty_is (b f) (i f))))

pub returns-then-opens_at : goal.returns-then-opens_at
returns-then-opens_at c =
    let f = (goal.at.returns-then-opens_at c).After-find_lf-lf in
    let cr = sym c.ends_cr.ensures ∙ c.if-ends_cr.false in
    elim c.then-opens_at.branch [
      | then-opens_at-via-then-opens_at w ↦ sym (by_lf f (omega arith) cr (sym c.opens_at.ensures ∙ w.if-opens_at.true) refl)
      | then-opens_at-via-else-opens_at+then-ends_at w ↦ sym (by_lf f (omega arith) cr (sym c.opens_at.ensures ∙ w.if-opens_at.false) (sym w.ends_at.ensures ∙ w.if-ends_at.true))
    ]

pub loop-i-preserved : goal.loop-i-preserved
loop-i-preserved c =
    let f = (goal.at.loop-i-preserved c).After-find_lf-lf in (
      by_lf f (omega arith) (sym c.ends_cr.ensures ∙ c.if-ends_cr.false) (sym c.opens_at.ensures ∙ c.if-opens_at.false) (sym c.ends_at.ensures ∙ c.if-ends_at.false),
      omega arith,
    )
