-- `reader::counts` meets its contract: a body with a byte has a line. Assumes nothing.
use mathlib.Core.Path.{◌≡◌, sym, ◌∙◌, ap}
use mathlib.Core.List.{List}
use Prim.Native.Nat.{ℕ, ◌+◌}
use native.Mathlib.Omega.{arith}
use lib.Dec.{leb}
use lib.ListN.{length, length-map}
use borrow.Author.Tests.{lt-ltb, lt-leb}
use Rattle.party.specs.Text.{part_in}
use Rattle.field_utils.specs.Lines.{lines}
use Rattle.field_utils.proofs.Places.{drained}
use Rattle.reader.proofs.LineCounts.{lines_most, lines_second, counts_open, counts_least, counts_few, counts_most}
use Rattle.reader.proofs.counts.Goals as goal
use Rattle.reader.proofs.counts.Goals.{then-limits-lt2, else-limits-lt2, After-count-n}

-- no line after the first is asked for, or one
pub returns-then-limits-le2 : goal.returns-then-limits-le2
returns-then-limits-le2 c =
    let o = c.args.option in
    let s = c.args.rest.text.now in
    let e = c.limits_of-limits.ensures in
    elim c.if-limits-lt2.branch [
      | then-limits-lt2 w ↦ w.result-is ∙ lt-ltb _ _ w.if-limits-lt2.true ∙ sym (counts_open o e (length (lines s)) (omega (arith, c.requires, w.if-limits-lt2.true)) c.if-limits-eq0.true)
      | else-limits-lt2 w ↦
          let two : c.limits_of-limits.result.now.min_lines ≡ 2 = omega (arith, c.if-limits-le2.true, w.if-limits-lt2.false) in
          w.result-is ∙ sym (counts_least o e (length (lines s)) c.if-limits-eq0.true ∙ ap (λ (k : ℕ). leb k (length (lines s))) two ∙ lines_second s c.args.rest.at c.requires)
    ]

-- the lines that are walked are those after the first
walked : (c : After-count-n) → 1 + c.count-n.result ≡ length (lines c.args.rest.text.now)
walked c =
    let (ps, run, e) = c.count-n.ensures.ran in
    omega (arith, e, length-map ps (part_in c.args.rest.text.now), ap (length {A = List ℕ}) (drained c.args.rest ps run), c.requires)

pub overflow_add-n : goal.overflow_add-n
overflow_add-n c = omega (arith, walked (goal.at.overflow_add-n c).After-count-n, lines_most c.args.rest.text.now)

pub returns-else-limits-n : goal.returns-else-limits-n
returns-else-limits-n c =
    let n = walked (goal.at.returns-else-limits-n c).After-count-n in
    lt-leb _ _ (omega (arith, c.if-limits-n.false)) ∙ sym (counts_few c.args.option c.limits_of-limits.ensures _ (omega (arith, n, c.if-limits-n.false)))

pub returns-else-limits-eq0-2 : goal.returns-else-limits-eq0-2
returns-else-limits-eq0-2 c =
    let n = walked (goal.at.returns-else-limits-eq0-2 c).After-count-n in
    ap (λ (n : ℕ). leb n c.limits_of-limits.result.now.max_lines) n
    ∙ sym (counts_most c.args.option c.limits_of-limits.ensures _ (omega (arith, n, c.if-limits-n.true)) c.if-limits-eq0-2.false)
