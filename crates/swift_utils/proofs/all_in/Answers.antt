-- `swift_utils::all_in` meets its contract: the bits that the entries passed have in common say what those entries say. Assumes nothing.
use mathlib.Core.Path.{sym, ◌∙◌}
use mathlib.Core.Bool.{◌&&◌, and_assoc, and-true}
use mathlib.Core.List.{List}
use Prim.Native.Nat.{ℕ, ◌+◌}
use native.Mathlib.Omega.{arith}
use lib.ListN.{drop, get_or}
use Rattle.std.proofs.lemmas.List.{at_drop_more, at_drop_all}
use Rattle.swift_utils.specs.Bytes.{all}
use Rattle.swift_utils.specs.Classes.{has_bits, entry_in}
use Rattle.swift_utils.proofs.Bits.{has_and, has_all}
use Rattle.swift_utils.proofs.all_in.Goals as goal

pub loop-b-init : goal.loop-b-init
loop-b-init c = rw (has_all c.args.mask (omega arith))

pub loop-b-preserved : goal.loop-b-preserved
loop-b-preserved c =
    let a = c.args in
    let i = c.loop-b.b-index in
    let test = entry_in a.classes.now a.mask in
    rw (has_and a.mask c.loop-b.common (get_or a.classes.now (get_or a.s.now i 0) 0)) (and_assoc (has_bits a.mask c.loop-b.common) (test (get_or a.s.now i 0)) (all test (drop (i + 1) a.s.now)))
    ∙ sym (at_drop_more (λ (x : List ℕ). has_bits a.mask c.loop-b.common && all test x) a.s.now i 0 (omega arith))
    ∙ c.loop-b.invariant

pub returns : goal.returns
returns c =
    let a = c.args in
    sym (and-true _)
    ∙ sym (at_drop_all (λ (x : List ℕ). has_bits a.mask c.loop-b.common && all (entry_in a.classes.now a.mask) x) a.s.now c.loop-b.b-index (omega arith))
    ∙ c.loop-b.invariant
