-- `page_reader::body_place` meets its contract. Assumes nothing.
use mathlib.Core.Path.{sym, ◌∙◌, ap}
use mathlib.Core.List.{List}
use Prim.Native.Nat.{ℕ, ◌+◌}
use native.Mathlib.Omega.{arith}
use lib.ListN.{length}
use Rattle.party.specs.Limits.{options}
use Rattle.page_reader.specs.Pages.{tag_in, body_in}
use Rattle.page_reader.proofs.Cases.{ends_by}
use Rattle.page_reader.proofs.Bodies.{text_within, place_by_lem, place_none}
use Rattle.page_reader.proofs.body_place.Goals as goal

pub returns-in_default : goal.returns-in_default
returns-in_default c = sym (place_none c.args.page.now c.args.at (λ to e. c.in_default.not-Opening to (c.read_case.ensures ∙ e)))

pub text_in-text-requires : goal.text_in-text-requires
text_in-text-requires c =
    let s = ends_by c.args.page.now c.args.at (sym c.read_case.ensures ∙ c.in-Opening.is) in (s.from, s.most)

pub overflow_add-at : goal.overflow_add-at
overflow_add-at c =
    let a = c.args in
    let s = ends_by a.page.now a.at (sym c.read_case.ensures ∙ c.in-Opening.is) in
    omega (arith, ap length c.text_in-text.ensures, text_within a.page.now a.at c.in-Opening.to s.from s.most, s.most)

pub returns : goal.returns
returns c =
    let a = c.args in
    c.body_in.ensures ∙ ap (λ (y : List ℕ). body_in (tag_in options y) (a.at + length y)) c.text_in-text.ensures ∙ sym (place_by_lem a.page.now a.at (sym c.read_case.ensures ∙ c.in-Opening.is))
