-- Laws of runs. Assumes nothing.
use mathlib.Core.Path.{◌≡◌, refl, ap}
use mathlib.Core.Bool.{Bool, true, false}
use mathlib.Core.List.{List, [], ◌∷◌, ◌++◌, map}
use Prim.Native.Nat.{suc}
use lib.ListN.{length}
use Rattle.page_writer.specs.Fold.{Step, Run, run, accepted_of}

module _ {S E A : Type 0} (step : S → E → Step S A) where
  -- a run of two lists is the run of the one and then of the other
  pub run_append : (s : S) (xs ys : List E) → let a = run step s xs in let b = run step a.state ys in
      run step s (xs ++ ys) ≡ record { state = b.state; answers = a.answers ++ b.answers }
  unfolding run
  run_append s [] ys = refl
  run_append s (x ∷ xs) ys = let c = step s x in ap {B = Run S A} (λ (r : Run S A). record { state = r.state; answers = c.answer ∷ r.answers }) (run_append c.state xs ys)

  -- what each step keeps, a run keeps
  pub run_keeps : (P : S → Type 0) → ((s : S) (e : E) → P s → P (step s e).state) → (s : S) → P s → (es : List E) → P (run step s es).state
  unfolding run
  run_keeps P k s h [] = h
  run_keeps P k s h (e ∷ es) = run_keeps P k (step s e).state (k s e h) es

  -- each step answers once
  pub run_length : (s : S) (es : List E) → length (run step s es).answers ≡ length es
  unfolding run
  run_length s [] = refl
  run_length s (e ∷ es) = ap suc (run_length (step s e).state es)

  -- events that stand for others
  pub run_map : {D : Type 0} (f : D → E) (s : S) (ds : List D) → run (λ (s : S) (d : D). step s (f d)) s ds ≡ run step s (map f ds)
  unfolding run
  run_map f s [] = refl
  run_map f s (d ∷ ds) = let c = step s (f d) in ap {B = Run S A} (λ (r : Run S A). record { state = r.state; answers = c.answer ∷ r.answers }) (run_map f c.state ds)

-- two runs over one list: states that each step keeps related stay so, and answers that look the same after each step do so in all
module _
    {S T E A B C : Type 0} (f : S → E → Step S A) (g : T → E → Step T B) (v : A → C) (w : B → C) (R : S → T → Type 0)
    (keeps : (s : S) (t : T) (e : E) → R s t → R (f s e).state (g t e).state × (v (f s e).answer ≡ w (g t e).answer))
  where
    pub alike : (s : S) (t : T) → R s t → (es : List E) → R (run f s es).state (run g t es).state × (map v (run f s es).answers ≡ map w (run g t es).answers)
    unfolding run
    alike s t h [] = (h, refl)
    alike s t h (e ∷ es) =
        let k = keeps s t e h in
        let r = alike (f s e).state (g t e).state k.0 es in
        (r.0, λ i. k.1 i ∷ r.1 i)

pub accepted_map : {D E : Type 0} (f : D → E) (ds : List D) (ts : List Bool) → map f (accepted_of ds ts) ≡ accepted_of (map f ds) ts
unfolding accepted_of
accepted_map f [] ts = refl
accepted_map f (d ∷ ds) [] = refl
accepted_map f (d ∷ ds) (true ∷ ts) = ap (◌∷◌ (f d)) (accepted_map f ds ts)
accepted_map f (d ∷ ds) (false ∷ ts) = accepted_map f ds ts
