-- `find_slash` meets its contract: where no slash is among the bytes, none is found. Assumes nothing.
use Rattle.std.proofs.Common.{◌≡◌, ℕ, ◌<◌, ◌≤◌, List, length, Option, None, Some, MatchOption, sym, ◌∙◌, arith, rules, tests}
use Rattle.std.specs.Option.{unwrap_or, IfSome}
use Rattle.std.proofs.lemmas.Iterator.{IsFirst-from_position, YieldsList-from_slice}
use Rattle.field_utils.specs.Lines.{upto}
use Rattle.field_utils.proofs.Places.{upto_found}
use Rattle.field_utils.proofs.Identifiers.{upto_none}
use Rattle.field_utils.proofs.find_slash.Goals as goal

-- the place that is found, in the bytes or none
by_place : (s : List ℕ) (r : Option ℕ) → upto 47 s ≡ unwrap_or r (length s) → IfSome r (λ i. i < length s) → MatchOption r (length s ≤ upto 47 s) (λ k. (k ≡ upto 47 s) × (k < length s))
by_place s None e h = omega (arith, e)
by_place s (Some k) e h = (sym e, h)

pub returns-then-has_slash : goal.returns-then-has_slash
returns-then-has_slash c =
    let s = c.args.s.now in
    let first = IsFirst-from_position _ _ c.position.result (λ x. x ≡ 47) (λ x. x ≡ 47 → ⊥) c.position.ensures.ran (YieldsList-from_slice s cc) (λ x q k. search (rules, tests)) (λ x q k. search (rules, tests)) in
    by_place s c.position.result (upto_found 47 s c.position.result first) (rw c.iter.ensures.rest at c.position.ensures.bound)

pub returns-else-has_slash : goal.returns-else-has_slash
returns-else-has_slash c = omega (arith, upto_none 47 c.args.s.now (sym c.has_slash.ensures ∙ c.if-has_slash.false))
