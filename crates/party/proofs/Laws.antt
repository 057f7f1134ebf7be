-- Laws of tests, lists and padded texts that the functions' proofs cite.
-- Assumes nothing.
use Prim.Native.Nat.{ℕ, zero, suc, min}
use mathlib.Core.Path.{◌≡◌, refl, ◌∙◌, sym, ap}
use mathlib.Core.Bool.{Bool, true, false, beq, true≢false, false≢true}
use mathlib.Core.List.{List, [], ◌∷◌, map}
use native.Mathlib.Omega.{arith}
use borrow.Author.Tests.{lt-ltb}
use lib.ListN.{length, take, length-take}
use lib.Seq.{take_all, take-take, length-take-le}
use Rattle.party.specs.declared.Text.{Text}
use Rattle.std.specs.Bool.{Decides as DecidesBy}
use Rattle.std.specs.Cmp.Lexicographic.{pointwise}
use Rattle.std.proofs.lemmas.Bool.Decides.{Decides-eqb}
use Rattle.std.proofs.lemmas.Slice.Eq.{slice_eq-Decides}
use Rattle.std.proofs.lemmas.List.{take_min as take_to}
use lib.Dec.{eqb}
use Rattle.party.specs.Decides.{Decides}
use Rattle.party.specs.Text.{padded, text_of, Used, used, text_most}
use Rattle.party.specs.Party.{where_limit}

-- ---- tests
pub holds : {P : Type 0} → P → Decides true P
holds p = record { yes = λ e. p; no = λ e. absurd (false≢true (sym e)) }

pub fails : {P : Type 0} → (P → ⊥) → Decides false P
fails n = record { yes = λ e. absurd (false≢true e); no = λ e. n }

-- a test that decides as the library says it
pub decides_so : {b : Bool} {P : Type 0} → DecidesBy b P → Decides b P
decides_so d = record { yes = d.0; no = λ e p. false≢true (sym e ∙ d.1 p) }

-- whether two lists are the same up to a place, or to their end where that is before it
pub decides_taken : {b : Bool} (l m : List ℕ) (n most i : ℕ) → length l ≡ most → length m ≡ most → i ≡ min n most → b ≡ pointwise eqb (take i l) (take i m) → Decides b (take n l ≡ take n m)
decides_taken l m n most i h k e t =
    let left : take i l ≡ take n l = rw (e, ← h) (take_to n l) in
    let right : take i m ≡ take n m = rw (e, ← k) (take_to n m) in
    decides_so (rw (← left, ← right) (slice_eq-Decides Decides-eqb (take i l) (take i m) _ t))

pub decides_as : {b : Bool} {P Q : Type 0} → (P → Q) → (Q → P) → Decides b P → Decides b Q
decides_as f g d = record { yes = λ e. f (d.yes e); no = λ e q. d.no e (g q) }

-- a test of two parts, `a && b`, on the branch where the first holds and on the one where it fails
module _ {a v : Bool} {P Q : Type 0} (d : Decides a P) where
  pub both_then : {b : Bool} → a ≡ true → v ≡ b → Decides b Q → Decides v (P × Q)
  both_then h is q = record { yes = λ e. (d.yes h, q.yes (sym is ∙ e)); no = λ e both. q.no (sym is ∙ e) both.1 }

  pub both_else : a ≡ false → v ≡ a → Decides v (P × Q)
  both_else h is = record { yes = λ e. absurd (true≢false (sym e ∙ is ∙ h)); no = λ e both. d.no h both.0 }

equal_true : (a b : Bool) → beq a b ≡ true → a ≡ b
equal_true true true e = refl
equal_true true false e = sym e
equal_true false true e = e
equal_true false false e = refl

equal_false : (a b : Bool) → beq a b ≡ false → a ≡ b → ⊥
equal_false true true e f = true≢false e
equal_false true false e f = true≢false f
equal_false false true e f = false≢true f
equal_false false false e f = true≢false e

pub equal_decides : (a b : Bool) → Decides (beq a b) (a ≡ b)
equal_decides a b = record { yes = equal_true a b; no = equal_false a b }

-- ---- texts of one length, by the bytes that they use
pub used_same : {b : Bool} (t u : Text) → t.len ≡ u.len → Decides b ((used t).bytes ≡ (used u).bytes) → Decides b (used t ≡ used u)
used_same t u lens = decides_as (λ e i. record { len = lens i; bytes = e i }) (ap (λ (w : Used). w.bytes))

-- ---- texts that an option has or has not
pub where_none : (limit : ℕ) (a b : List Used) → limit ≡ 0 → where_limit limit a ≡ where_limit limit b
where_none limit a b e = rw e

where_some : (limit : ℕ) (a : List Used) → (limit ≡ 0 → ⊥) → where_limit limit a ≡ a
where_some limit a h = rw (lt-ltb 0 limit (omega arith), where_limit)

pub where_same : (limit : ℕ) (a b : List Used) → (limit ≡ 0 → ⊥) → where_limit limit a ≡ where_limit limit b → a ≡ b
where_same limit a b h e = sym (where_some limit a h) ∙ (e ∙ where_some limit b h)

-- ---- lists
module _ {A : Type 0} where
  pub map_take : {B : Type 0} (f : A → B) (n : ℕ) (l : List A) → map f (take n l) ≡ take n (map f l)
  map_take f zero l = refl
  map_take f (suc n) [] = refl
  map_take f (suc n) (a ∷ l) = ap (◌∷◌ (f a)) (map_take f n l)

  -- what is taken of a list is as long as it can be
  pub take_min : (n : ℕ) (l : List A) (i : ℕ) → i ≡ min n (length l) → take n l ≡ take i l
  take_min n l i h = sym (take_all i (take n l) (omega (arith, length-take n l))) ∙ take-take i n l (omega arith)

-- ---- padded texts
-- where all of s, or 38 bytes of it, are in, it is the text of s
pub padded_all : (s : List ℕ) (i : ℕ) → i ≡ min text_most (length s) → (record { bytes = padded (take i s); len = i }) ≡ text_of s
unfolding text_of
padded_all s i h =
    rw (take_min text_most s i h, length-take-le i s (omega arith))
