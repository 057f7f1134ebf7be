-- A result of the Rust as a reply of document 01 with a value, and the Rust's statements in their order. Assumes nothing.
use mathlib.Core.Path.{◌≡◌, refl, ◌∙◌, ap}
use mathlib.Core.Bool.{Bool, true, false, not}
use Prim.Native.Nat.{ℕ}
use Rattle.errors.specs.Refusals.{Reply, accepted, refused, must, ◌then◌}
use Rattle.errors.proofs.Replies.{then_accepted}
use Rattle.swift_mt_message.specs.Std.{Result, Ok, Err, ◌and_then◌, err_if}
use Rattle.swift_mt_message.specs.Std as S

-- by a test
pub by_test : {P : Type 0} (t : Bool) → (t ≡ true → P) → (t ≡ false → P) → P
by_test true f g = f refl
by_test false f g = g refl

-- a value where a reply accepts, and else an error
abbrev pub result : {A : Type 0} → Reply → A → Result A
result accepted v = Ok v
result (refused k n) v = Err k n

pub record Is {A : Type 0} (x : Result A) (r : Reply) (v : A) : Type 0 where
  pub is : x ≡ result r v

pub ok : {A : Type 0} {v : A} → Is (Ok v) accepted v
ok = record { is = refl }

pub err : {A : Type 0} {k n : ℕ} {v : A} → Is (Err k n) (refused k n) v
err = record { is = refl }

-- a test that must not hold, where document 01 has one that must
pub must_is : (t b : Bool) (k n : ℕ) → t ≡ not b → Is (err_if t k n) (must b k n) tt
must_is t true k n e = record { is = ap (λ (s : Bool). err_if s k n) e }
must_is t false k n e = record { is = ap (λ (s : Bool). err_if s k n) e }

pub must_at : (t b : Bool) (k : ℕ) {m n : ℕ} → t ≡ not b → m ≡ n → Is (err_if t k m) (must b k n) tt
must_at t b k {n = n} e f = rw f (must_is t b k n e)

module _ {A B : Type 0} where
  pub then_is : {x : Result A} {r : Reply} {v : A} {rest : Result B} {s : Reply} {w : B} → Is x r v → (r ≡ accepted → Is rest s w)
      → Is (S.◌then◌ x rest) (r then s) w
  then_is {r = accepted} {rest = rest} e f = record { is = ap (λ (y : Result A). S.◌then◌ y rest) e.is ∙ (f refl).is }
  then_is {r = refused k n} {rest = rest} e f = record { is = ap (λ (y : Result A). S.◌then◌ y rest) e.is }

  pub and_is : {x : Result A} {r : Reply} {v : A} (f : A → Result B) {s : Reply} {w : B} → Is x r v → (r ≡ accepted → Is (f v) s w)
      → Is (x and_then f) (r then s) w
  and_is {r = accepted} f e g = record { is = ap (λ (y : Result A). y and_then f) e.is ∙ (g refl).is }
  and_is {r = refused k n} f e g = record { is = ap (λ (y : Result A). y and_then f) e.is }

-- the same reply, and the same value where it accepts
pub reply_is : {A : Type 0} {x : Result A} {r s : Reply} {v : A} → Is x r v → r ≡ s → Is x s v
reply_is {v = v} e f = record { is = e.is ∙ ap (λ (q : Reply). result q v) f }

pub value_is : {A : Type 0} {x : Result A} {r : Reply} {v w : A} → Is x r v → v ≡ w → Is x r w
value_is {r = r} e f = record { is = e.is ∙ ap (result r) f }

-- the last check before what is given
module _ {A B : Type 0} where
  pub last_is : {x : Result A} {r : Reply} {v : A} {rest : Result B} {w : B} → Is x r v → (r ≡ accepted → Is rest accepted w) → Is (S.◌then◌ x rest) r w
  last_is {r = r} e f = reply_is (then_is e f) (then_accepted r)

  pub last_and : {x : Result A} {r : Reply} {v : A} (f : A → Result B) {w : B} → Is x r v → (r ≡ accepted → Is (f v) accepted w) → Is (x and_then f) r w
  last_and {r = r} f e g = reply_is (and_is f e g) (then_accepted r)

-- checks in order
pub then_same : (r : Reply) {s t : Reply} → (r ≡ accepted → s ≡ t) → (r then s) ≡ (r then t)
then_same accepted e = e refl
then_same (refused k n) e = refl

-- a branch that gives an error, where document 01 has a test that must hold
pub if_is : {A : Type 0} (t b : Bool) (k n : ℕ) {x : Result A} {s : Reply} {v : A} → t ≡ b → (b ≡ true → Is x s v)
    → Is (elim t [ true ↦ x | false ↦ Err k n ]) (must b k n then s) v
if_is {A} t true k n {x} e f = record { is = ap (λ (u : Bool). elim u as (λ y. Result A) [ true ↦ x | false ↦ Err k n ]) e ∙ (f refl).is }
if_is {A} t false k n {x} e f = record { is = ap (λ (u : Bool). elim u as (λ y. Result A) [ true ↦ x | false ↦ Err k n ]) e }
