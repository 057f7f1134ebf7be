-- A run of events: a left fold over a state (document 01, 'A whole page (demand 3)': each call gets what the last one left).
use Rattle.std.specs.Prelude.{Bool, true, false, List, [], ◌∷◌}

-- what a step gives: the next state, and an answer
pub record Step (S A : Type 0) : Type 0 where
  pub state : S
  pub answer : A

-- what a run gives: the last state, and what each step answered
pub record Run (S A : Type 0) : Type 0 where
  pub state : S
  pub answers : List A

-- the steps of a list of events, each from the state that the last one left
unfoldable pub run : {S E A : Type 0} → (S → E → Step S A) → S → List E → Run S A
run step s [] = record { state = s; answers = [] }
run step s (e ∷ es) =
    let c = step s e in
    let r = run step c.state es in
    record { state = r.state; answers = c.answer ∷ r.answers }

-- the events that were accepted
unfoldable pub accepted_of : {E : Type 0} → List E → List Bool → List E
accepted_of [] ts = []
accepted_of (e ∷ es) [] = []
accepted_of (e ∷ es) (true ∷ ts) = e ∷ accepted_of es ts
accepted_of (e ∷ es) (false ∷ ts) = accepted_of es ts
