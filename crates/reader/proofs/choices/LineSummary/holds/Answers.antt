-- `choices::LineSummary::holds` meets its contract: each arm is its test. Assumes nothing.
use mathlib.Core.Path.{◌≡◌, sym, ◌∙◌, ap}
use mathlib.Core.Bool.{Bool, and-true}
use mathlib.Core.List.{List}
use Prim.Native.Nat.{ℕ}
use native.Mathlib.Omega.{arith}
use lib.ListN.{length, length-take}
use borrow.Author.Tests.{le-leb}
use Rattle.field_utils.specs.Lines.{lines}
use Rattle.reader.specs.declared.choices.Test.{Test}
use Rattle.reader.specs.Detection.{holds}
use Rattle.reader.proofs.LineTests.{slash_at, later_two}
use Rattle.reader.proofs.choices.LineSummary.holds.Goals as goal

-- a test that is known
known : {r : Bool} (text : List ℕ) {t u : Test} → t ≡ u → r ≡ holds u (lines text) → r ≡ holds t (lines text)
known text e f = f ∙ ap (λ (t : Test). holds t (lines text)) (sym e)

pub returns-in-LaterNumbered : goal.returns-in-LaterNumbered
returns-in-LaterNumbered c =
    let text = c.args.self.now.rest.text.now in
    known text c.in-LaterNumbered.is (c.later_numbered.ensures ∙ sym (later_two (lines text)))

pub returns-then-self-eq2 : goal.returns-then-self-eq2
returns-then-self-eq2 c =
    let w = c.args.self.now in
    let ls = lines w.rest.text.now in
    let n : length ls ≡ 2 = omega (arith, w.counted, length-take 3 ls, c.if-self-eq2.true) in
    known w.rest.text.now c.in-SlashFirstOfTwo.is (rw (n, slash_at w.rest.text.now, and-true) c.starts_with_slash.ensures)

pub returns-then-self-ge2 : goal.returns-then-self-ge2
returns-then-self-ge2 c =
    let w = c.args.self.now in
    let ls = lines w.rest.text.now in
    known w.rest.text.now c.in-SlashFirst.is (rw (le-leb 2 (length ls) (omega (arith, w.counted, length-take 3 ls, c.if-self-ge2.true)), slash_at w.rest.text.now) c.starts_with_slash-then-self-ge2.ensures)
