-- The test of each two names says whether all that count hold the same.
use Rattle.std.proofs.Common.{◌≡◌, ◌<◌, ℕ, List, [], ◌∷◌, map, take, length, Bool, true, false, refl, rules, arith}
use Prim.Native.Nat.{zero, suc}
use mathlib.Core.List.{head-eq_of_cons-eq, tail-eq_of_cons-eq}
use Rattle.std.specs.Bool.{MatchBool}
use Rattle.std.specs.List.{zip, AllWithin, HoldsAt}
use Rattle.std.proofs.lemmas.Iterator.{YieldsList-from_slice, YieldsList-from_zip, YieldsList-from_take, cases_from_all}
use Rattle.party.specs.declared.Text.{Text}
use Rattle.party.specs.Decides.{Decides}
use Rattle.party.specs.Text.{used}
use Rattle.party.proofs.Laws.{holds, fails}
use Rattle.party.proofs.same_names.Goals as goal

abbrev Alike : Text × Text → Type 0
Alike x = used x.0 ≡ used x.1

abbrev Unlike : Text × Text → Type 0
Unlike x = Alike x → ⊥

alike : (n : ℕ) (l m : List Text) → length l ≡ length m → AllWithin Alike (take n (zip l m)) 0 (length (take n (zip l m))) → map used (take n l) ≡ map used (take n m)
alike zero l m e h = refl
alike (suc n) [] [] e h = refl
alike (suc n) [] (u ∷ m) e h = absurd (omega (arith, e))
alike (suc n) (t ∷ l) [] e h = absurd (omega (arith, e))
alike (suc n) (t ∷ l) (u ∷ m) e h = rw (h 0 (t, u) (omega arith) (omega arith), alike n l m (omega (arith, e)) (λ k d low high. h (suc k) d (omega arith) (omega (arith, high))))

unlike : (n : ℕ) (l m : List Text) (k : ℕ) → k < length (take n (zip l m)) → HoldsAt Unlike (take n (zip l m)) k → map used (take n l) ≡ map used (take n m) → ⊥
unlike zero l m k h differ e = absurd (omega (arith, h))
unlike (suc n) [] m k h differ e = absurd (omega (arith, h))
unlike (suc n) (t ∷ l) [] k h differ e = absurd (omega (arith, h))
unlike (suc n) (t ∷ l) (u ∷ m) zero h differ e = differ (t, u) (head-eq_of_cons-eq e)
unlike (suc n) (t ∷ l) (u ∷ m) (suc k) h differ e = unlike n l m k (omega (arith, h)) differ (tail-eq_of_cons-eq e)

decided : (r : Bool) (n : ℕ) (l m : List Text) → length l ≡ length m
    → MatchBool r (AllWithin Alike (take n (zip l m)) 0 (length (take n (zip l m)))) ((k : ℕ) × (k < length (take n (zip l m))) × HoldsAt Unlike (take n (zip l m)) k)
    → Decides r (map used (take n l) ≡ map used (take n m))
decided true n l m e h = holds (alike n l m e h)
decided false n l m e h = fails (unlike n l m h.0 h.1 h.2)

pub returns : goal.returns
returns c =
    let p = c.args.p.now.name_and_address in
    let q = c.args.q.now.name_and_address in
    let same : length p ≡ length q = omega arith in
    decided c.all.result c.args.count p q same
    (cases_from_all c.all.new.self _ _ Alike Unlike c.all.ensures.ran (YieldsList-from_take c.args.count (YieldsList-from_zip (YieldsList-from_slice p cc) (YieldsList-from_slice q cc)) cc) (λ x f k. search rules) (λ x f k. search rules))
