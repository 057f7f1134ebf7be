-- `yewdome::yewdome_page_body` meets its contract: a place and a length within a page make a number of 64 bits. Assumes nothing.
use Prim.Native.Nat.{◌+◌, ◌≤◌}
use mathlib.Core.Path.{sym, ◌∙◌, ap, subst}
use native.Mathlib.Omega.{arith}
use Rattle.party.specs.declared.Part.{Part}
use Rattle.page_reader.specs.Pages.{page_most}
use Rattle.page_reader.proofs.Bodies.{body_most_lem}
use Rattle.yewdome.specs.Interface.{packed}
use Rattle.yewdome.proofs.yewdome_page_body.Goals as goal
use Rattle.yewdome.proofs.yewdome_page_body.Goals.{After-body_place-place}

most : (c : After-body_place-place) → c.body_place-place.result.start + c.body_place-place.result.len ≤ page_most
most c =
    let a = c.args in
    subst (λ (p : Part). p.start + p.len ≤ page_most) (sym c.body_place-place.ensures) (body_most_lem a.page.now a.at)

pub overflow_cast-place : goal.overflow_cast-place
overflow_cast-place c = omega (arith, most (goal.at.overflow_cast-place c).After-body_place-place)

pub overflow_cast-place-2 : goal.overflow_cast-place-2
overflow_cast-place-2 c = omega (arith, most (goal.at.overflow_cast-place-2 c).After-body_place-place)

pub returns : goal.returns
returns c = c.pack.ensures ∙ ap (λ (p : Part). packed p.start p.len) c.body_place-place.ensures
