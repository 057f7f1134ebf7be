-- What a test that is a Bool says of a claim; document 01 leaves it to us.
use Rattle.std.specs.Prelude.{◌≡◌, Bool, true, false}

-- the test is true exactly where the claim holds
pub record Decides (b : Bool) (P : Type 0) : Type 0 where
  pub yes : b ≡ true → P
  pub no : b ≡ false → P → ⊥
