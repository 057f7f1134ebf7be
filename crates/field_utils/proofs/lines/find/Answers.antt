-- `lines::find` meets its contract: the place that is found among the bytes left is that of the first. Assumes nothing.
use Rattle.std.proofs.Common.{◌≡◌, ℕ, ◌+◌, sym, ap, ◌∙◌, rules, tests}
use Rattle.std.proofs.lemmas.Iterator.{IsFirst-from_position, YieldsList-from_slice}
use Rattle.field_utils.specs.Lines.{upto}
use Rattle.field_utils.proofs.Places.{upto_found}
use Rattle.field_utils.proofs.lines.find.Goals as goal

pub returns : goal.returns
returns c =
    let a = c.args in
    let rest = c.suffix-rest.result.now in
    let first = IsFirst-from_position _ _ c.position.result (λ x. x ≡ a.b) (λ x. x ≡ a.b → ⊥) c.position.ensures.ran (YieldsList-from_slice rest cc) (λ x q k. search (rules, tests)) (λ x q k. search (rules, tests)) in
    ap (λ (n : ℕ). a.from + n) (c.unwrap_or.ensures ∙ sym (upto_found a.b rest c.position.result first) ∙ ap (upto a.b) c.suffix-rest.ensures)
