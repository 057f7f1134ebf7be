-- `kept::field_causes` meets its contract: the causes in the body that the read hands back, and what stands after it. Assumes nothing.
use mathlib.Core.Path.{◌∙◌, ap}
use mathlib.Core.Bool.{false, ◌&&◌}
use Prim.Native.Nat.{◌+◌}
use native.Mathlib.Omega.{arith}
use lib.Dec.{ltb, eqb}
use lib.ListN.{get_or}
use Rattle.party.specs.declared.Part.{Part}
use Rattle.page_reader.specs.Pages.{read_at}
use Rattle.page_reader.proofs.Bodies.{There, part_there, place_there}
use Rattle.kept.specs.Kept.{causes_of}
use Rattle.kept.proofs.field_causes.Goals as goal
use Rattle.kept.proofs.field_causes.Goals.{After-body_place-place}

there : (c : After-body_place-place) → let a = c.args in There a.page.now c.body_place-place.result (read_at a.page.now a.at).body
there c = place_there c.args.page.now c.args.at c.body_place-place.ensures

pub overflow_add-end : goal.overflow_add-end
overflow_add-end c = omega (arith, (there (goal.at.overflow_add-end c).After-body_place-place).within)

pub slice_bounds-causes_of-end : goal.slice_bounds-causes_of-end
slice_bounds-causes_of-end c = omega (arith, (there (goal.at.slice_bounds-causes_of-end c).After-body_place-place).within)

pub returns : goal.returns
returns c =
    let a = c.args in
    let closing = c.is_cr_after-closing_cr.ensures ∙ ap (λ (p : Part). ltb 0 p.start && eqb (get_or a.page.now (p.start + p.len) 0) 13) c.body_place-place.ensures in
    c.causes_of.ensures ∙ (λ i. causes_of a.option a.present (part_there (there (goal.at.returns c).After-body_place-place) i) false (closing i))
