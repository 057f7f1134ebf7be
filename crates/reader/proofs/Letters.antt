-- 14 comes first: a letter that is neither A to Z nor 0 is refused in every choice, whatever the body, one over 2,048 bytes or with bytes
-- above 127 too. Assumes nothing.
use mathlib.Core.Path.{◌≡◌, refl}
use mathlib.Core.Bool.{Bool, true, false}
use mathlib.Core.List.{List}
use Prim.Native.Nat.{ℕ, ◌≤◌}
use lib.Dec.{leb}
use borrow.Author.Tests.{leb-true, ne_eqb}
use Rattle.reader.specs.declared.choices.Choice.{Choice}
use Rattle.reader.specs.Choices.{refusing, parse_with_variant}

pub not_a_letter : (choice : Choice) (body : List ℕ) (letter : ℕ) → (letter ≡ 0 → ⊥) → (65 ≤ letter → letter ≤ 90 → ⊥)
    → parse_with_variant choice body letter ≡ refusing 14 0
unfolding parse_with_variant
not_a_letter choice body letter h g = go (leb 65 letter) (leb letter 90) refl refl
  where
    go : (t u : Bool) → leb 65 letter ≡ t → leb letter 90 ≡ u → parse_with_variant choice body letter ≡ refusing 14 0
    go true true e f = absurd (g (leb-true 65 letter e) (leb-true letter 90 f))
    go true false e f = rw (ne_eqb letter 0 h, e, f)
    go false u e f = rw (ne_eqb letter 0 h, e)

-- the digit 0 is not the letter 0
pub byte_48 : (choice : Choice) (body : List ℕ) → parse_with_variant choice body 48 ≡ refusing 14 0
unfolding parse_with_variant
byte_48 choice body = refl
