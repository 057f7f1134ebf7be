-- Laws of checks in their order. Assumes nothing.
use mathlib.Core.Path.{◌≡◌, refl}
use mathlib.Core.Bool.{Bool, true, false}
use Prim.Native.Nat.{ℕ}
use native.Mathlib.Omega.{arith}
use Rattle.errors.specs.Refusals.{Reply, accepted, refused, must, ◌then◌}

pub refused≢accepted : {k n : ℕ} → refused k n ≡ accepted → ⊥
refused≢accepted e = let z : ◌≡◌ {A = ℕ} 0 1 = cc in omega arith

-- what passed held
pub must_held : (b : Bool) (k n : ℕ) → must b k n ≡ accepted → b ≡ true
must_held true k n e = refl
must_held false k n e = absurd (refused≢accepted e)

-- where checks in order pass, the first does
pub then_first : (r s : Reply) → (r then s) ≡ accepted → r ≡ accepted
then_first accepted s e = refl
then_first (refused k n) s e = absurd (refused≢accepted e)

-- and so does the second
pub then_second : (r s : Reply) → (r then s) ≡ accepted → s ≡ accepted
then_second accepted s e = e
then_second (refused k n) s e = absurd (refused≢accepted e)

-- a last check that passes
pub then_accepted : (r : Reply) → (r then accepted) ≡ r
then_accepted accepted = refl
then_accepted (refused k n) = refl

-- checks in order, grouped either way
pub then_assoc : (r s t : Reply) → ((r then s) then t) ≡ (r then (s then t))
then_assoc accepted s t = refl
then_assoc (refused k n) s t = refl

-- what holds passes; checks that pass pass together
pub must_passes : (b : Bool) (k n : ℕ) → b ≡ true → must b k n ≡ accepted
must_passes b k n e = rw e

pub then_passes : (r s : Reply) → r ≡ accepted → s ≡ accepted → (r then s) ≡ accepted
then_passes r s e f = rw (e, f)
