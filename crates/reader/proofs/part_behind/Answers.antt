-- `reader::part_behind` meets its contract. Assumes nothing.
use mathlib.Core.Path.{◌≡◌, sym, ◌∙◌, ap}
use Prim.Native.Nat.{ℕ, ◌+◌, ◌-◌}
use native.Mathlib.Omega.{arith}
use lib.ListN.{take, drop}
use lib.Seq.{drop-drop}
use Rattle.std.proofs.lemmas.List.{drop-take}
use Rattle.reader.proofs.part_behind.Goals as goal

pub returns : goal.returns
returns c = λ body.
    let a = c.args in
    let n : a.line.len ≡ a.skip + (a.line.len - a.skip) = omega (arith, c.if-line-skip.false) in
    sym
    (ap (λ (n : ℕ). drop a.skip (take n (drop a.line.start body))) n
    ∙ drop-take a.skip (a.line.len - a.skip) (drop a.line.start body)
    ∙ ap (take (a.line.len - a.skip)) (drop-drop a.skip a.line.start body))
