-- The eleven options: what holds of each holds of any, and each stands at its place in the table, so its place tells it.
-- Assumes nothing.
use Prim.Native.Nat.{◌≤◌}
use mathlib.Core.Path.{◌≡◌, refl, ◌∙◌, sym, ap}
use native.Mathlib.Omega.{arith}
use lib.ListN.{get_or}
use Rattle.party.specs.declared.PartyOption.{PartyOption}
use Rattle.party.specs.declared.PartyOption.TheVariants.{Field50NoOption, Field50A, Field50F, Field50K, Field50C, Field50L, Field50G, Field50H, Field59NoOption, Field59A, Field59F}
use Rattle.party.specs.Limits.{options, place_of, option_at}

pub by_option :
    (P : PartyOption → Type 0) → P Field50NoOption → P Field50A → P Field50F → P Field50K → P Field50C → P Field50L → P Field50G → P Field50H → P Field59NoOption → P Field59A → P Field59F →
    (o : PartyOption) → P o
by_option P a b c d e f g h i j k Field50NoOption = a
by_option P a b c d e f g h i j k Field50A = b
by_option P a b c d e f g h i j k Field50F = c
by_option P a b c d e f g h i j k Field50K = d
by_option P a b c d e f g h i j k Field50C = e
by_option P a b c d e f g h i j k Field50L = f
by_option P a b c d e f g h i j k Field50G = g
by_option P a b c d e f g h i j k Field50H = h
by_option P a b c d e f g h i j k Field59NoOption = i
by_option P a b c d e f g h i j k Field59A = j
by_option P a b c d e f g h i j k Field59F = k

pub placed : (o : PartyOption) → option_at (place_of o) ≡ o
unfolding option_at
placed = by_option (λ o. get_or options (place_of o) Field50NoOption ≡ o) refl refl refl refl refl refl refl refl refl refl refl

pub place_one : (o r : PartyOption) → place_of o ≡ place_of r → o ≡ r
place_one o r e = sym (placed o) ∙ (ap option_at e ∙ placed r)

pub place_most : (o : PartyOption) → place_of o ≤ 10
place_most =
    by_option (λ o. place_of o ≤ 10) (omega arith) (omega arith) (omega arith) (omega arith) (omega arith) (omega arith) (omega arith) (omega arith) (omega arith) (omega arith) (omega arith)
