-- The lines of lines that were joined: what they are, and that they are no heavier. Assumes nothing.
use mathlib.Core.Path.{◌≡◌, refl, ◌∙◌, ap}
use mathlib.Core.Bool.{Bool, true, false, ◌&&◌, and-false, false≢true, true≢false}
use mathlib.Core.List.{List, [], ◌∷◌, ◌++◌}
use Prim.Native.Nat.{ℕ, suc, ◌+◌, ◌≤◌, ◌<◌}
use native.Mathlib.Omega.{arith}
use lib.Dec.{eqb}
use lib.ListN.{length}
use Rattle.field_utils.specs.Lines.{onto, starts, lines, is_empty, without_cr}
use Rattle.field_utils.proofs.Places.{without_cr_short}
use Rattle.field_utils.proofs.Tests.{first_not, rest_not, none_more, either_left, either_right, Line}
use Rattle.writer.specs.Writing.{joined, pieces}
use Rattle.writer.specs.ReadBack.{ends_cr, last_empty, earlier_cr}

-- a claim of every element of a list
abbrev pub All : {A : Type 0} → (A → Type 0) → List A → Type 0
All P [] = Unit {0}
All P (x ∷ xs) = P x × All P xs

-- ---- lines that an LF closes
-- a line that an LF closes, without one CR at its end
pub lines_at : (l rest : List ℕ) → Line l → lines (l ++ 10 ∷ rest) ≡ without_cr l ∷ lines rest
unfolding lines starts without_cr onto
lines_at [] rest h = refl
lines_at (b ∷ []) rest h = go (eqb b 13) refl
  where
    go : (t : Bool) → eqb b 13 ≡ t → lines (b ∷ 10 ∷ rest) ≡ without_cr (b ∷ []) ∷ lines rest
    go true e = rw (first_not b [] h, e, lines, without_cr)
    go false e = rw (first_not b [] h, e, lines, without_cr)
lines_at (b ∷ a ∷ l) rest h =
    let t : eqb a 10 ≡ false = first_not a l (rest_not b (a ∷ l) h) in
    rw (first_not b (a ∷ l) h, t, and-false (eqb b 13), lines) (ap (onto b) (lines_at (a ∷ l) rest (rest_not b (a ∷ l) h)))

-- text after the last LF
pub lines_rest : (l : List ℕ) → Line l → lines l ≡ elim (is_empty l) [ true ↦ [] | false ↦ l ∷ [] ]
unfolding lines starts onto
lines_rest [] h = refl
lines_rest (b ∷ []) h = rw (first_not b [] h, and-false (eqb b 13), lines)
lines_rest (b ∷ a ∷ l) h =
    let t : eqb a 10 ≡ false = first_not a l (rest_not b (a ∷ l) h) in
    rw (first_not b (a ∷ l) h, t, and-false (eqb b 13), lines) (ap (onto b) (lines_rest (a ∷ l) (rest_not b (a ∷ l) h)))

-- ---- lines that were joined
-- what is read of joined lines
abbrev pub relined : List (List ℕ) → List (List ℕ)
relined [] = []
relined (l ∷ []) = elim (is_empty l) [ true ↦ [] | false ↦ l ∷ [] ]
relined (l ∷ m ∷ ls) = without_cr l ∷ relined (m ∷ ls)

pub lines_joined : (ls : List (List ℕ)) → All Line ls → lines (joined ls) ≡ relined ls
unfolding joined lines
lines_joined [] h = refl
lines_joined (l ∷ []) h = lines_rest l h.0
lines_joined (l ∷ m ∷ ls) h = lines_at l (joined (m ∷ ls)) h.0 ∙ ap (◌∷◌ (without_cr l)) (lines_joined (m ∷ ls) h.1)

pub cr_kept : (l : List ℕ) → ends_cr l ≡ false → without_cr l ≡ l
unfolding ends_cr without_cr
cr_kept [] e = refl
cr_kept (b ∷ []) e = rw (e, without_cr)
cr_kept (b ∷ a ∷ l) e = ap (◌∷◌ b) (cr_kept (a ∷ l) e)

-- a text in front that does not end in CR stays
pub cr_front : (t x : List ℕ) → ends_cr t ≡ false → without_cr (t ++ x) ≡ t ++ without_cr x
unfolding ends_cr without_cr
cr_front [] x e = refl
cr_front (b ∷ []) [] e = rw (e, without_cr)
cr_front (b ∷ []) (a ∷ x) e = refl
cr_front (b ∷ a ∷ t) x e = ap (◌∷◌ b) (cr_front (a ∷ t) x e)

-- a line in front, with its LF, does not count
pub ends_after : (l x : List ℕ) → ends_cr (l ++ 10 ∷ x) ≡ ends_cr x
unfolding ends_cr
ends_after [] [] = refl
ends_after [] (a ∷ x) = refl
ends_after (b ∷ []) x = ends_after [] x
ends_after (b ∷ a ∷ l) x = ends_after (a ∷ l) x

-- they are the same where the last is not empty and no earlier one ends in CR
pub relined_same : (ls : List (List ℕ)) → last_empty ls ≡ false → earlier_cr ls ≡ false → relined ls ≡ ls
unfolding last_empty earlier_cr
relined_same [] e f = refl
relined_same ([] ∷ []) e f = absurd (true≢false e)
relined_same ((b ∷ l) ∷ []) e f = refl
relined_same (l ∷ m ∷ ls) e f =
    let kept : without_cr l ≡ l = cr_kept l (either_left (ends_cr l) (earlier_cr (m ∷ ls)) f) in
    let later : relined (m ∷ ls) ≡ m ∷ ls = relined_same (m ∷ ls) e (either_right (ends_cr l) (earlier_cr (m ∷ ls)) f) in
    ap (λ (x : List ℕ). x ∷ relined (m ∷ ls)) kept ∙ ap (◌∷◌ l) later

-- the weight of lines: their bytes, and one a line
abbrev pub weight : List (List ℕ) → ℕ
weight [] = 0
weight (l ∷ ls) = suc (length l) + weight ls

pub cr_shorter : (l : List ℕ) → ends_cr l ≡ true → length (without_cr l) < length l
unfolding without_cr ends_cr
cr_shorter [] e = absurd (false≢true e)
cr_shorter (b ∷ []) e = rw (e, without_cr) (omega arith)
cr_shorter (b ∷ a ∷ l) e = let h = cr_shorter (a ∷ l) e in omega arith

pub relined_most : (ls : List (List ℕ)) → weight (relined ls) ≤ weight ls
relined_most [] = omega arith
relined_most ([] ∷ []) = omega arith
relined_most ((b ∷ l) ∷ []) = omega arith
relined_most (l ∷ m ∷ ls) = let h = relined_most (m ∷ ls) in omega (arith, h, without_cr_short l)

-- and lighter where not
pub relined_empty : (ls : List (List ℕ)) → 0 < length ls → last_empty ls ≡ true → weight (relined ls) < weight ls
unfolding last_empty
relined_empty [] n e = absurd (omega arith)
relined_empty ([] ∷ []) n e = omega arith
relined_empty ((b ∷ l) ∷ []) n e = absurd (false≢true e)
relined_empty (l ∷ m ∷ ls) n e = let h = relined_empty (m ∷ ls) (omega arith) e in omega (arith, h, without_cr_short l)

pub relined_cr : (ls : List (List ℕ)) → earlier_cr ls ≡ true → weight (relined ls) < weight ls
unfolding earlier_cr
relined_cr [] e = absurd (false≢true e)
relined_cr (l ∷ []) e = absurd (false≢true e)
relined_cr (l ∷ m ∷ ls) e = go (ends_cr l) refl (relined_cr (m ∷ ls))
  where
    go : (t : Bool) → ends_cr l ≡ t → (earlier_cr (m ∷ ls) ≡ true → weight (relined (m ∷ ls)) < weight (m ∷ ls))
        → weight (relined (l ∷ m ∷ ls)) < weight (l ∷ m ∷ ls)
    go true f ih = omega (arith, cr_shorter l f, relined_most (m ∷ ls))
    go false f ih = let h = ih (rw f at e) in omega (arith, h, without_cr_short l)

-- ---- the pieces of joined lines are the lines
pieces_at : (l rest : List ℕ) → Line l → pieces (l ++ 10 ∷ rest) ≡ l ∷ pieces rest
unfolding pieces onto
pieces_at [] rest h = refl
pieces_at (b ∷ l) rest h = rw (first_not b l h, pieces) (ap (onto b) (pieces_at l rest (rest_not b l h)))

pieces_rest : (l : List ℕ) → Line l → pieces l ≡ l ∷ []
unfolding pieces onto
pieces_rest [] h = refl
pieces_rest (b ∷ l) h = rw (first_not b l h, pieces) (ap (onto b) (pieces_rest l (rest_not b l h)))

pub pieces_joined : (ls : List (List ℕ)) → 0 < length ls → All Line ls → pieces (joined ls) ≡ ls
unfolding joined
pieces_joined [] n h = absurd (omega arith)
pieces_joined (l ∷ []) n h = pieces_rest l h.0
pieces_joined (l ∷ m ∷ ls) n h = pieces_at l (joined (m ∷ ls)) h.0 ∙ ap (◌∷◌ l) (pieces_joined (m ∷ ls) (omega arith) h.1)

-- ---- lines each followed by CR LF
abbrev pub closed : List (List ℕ) → List ℕ
closed [] = []
closed (l ∷ ls) = (l ++ 13 ∷ []) ++ 10 ∷ closed ls

pub cr_added : (l : List ℕ) → without_cr (l ++ 13 ∷ []) ≡ l
unfolding without_cr
cr_added [] = refl
cr_added (b ∷ []) = refl
cr_added (b ∷ a ∷ l) = ap (◌∷◌ b) (cr_added (a ∷ l))

pub cr_line : (l : List ℕ) → Line l → Line (l ++ 13 ∷ [])
cr_line [] h = refl
cr_line (b ∷ l) h = none_more b (l ++ 13 ∷ []) (first_not b l h) (cr_line l (rest_not b l h))

pub lines_closed : (ls : List (List ℕ)) → All Line ls → lines (closed ls) ≡ ls
unfolding lines
lines_closed [] h = refl
lines_closed (l ∷ ls) h =
    lines_at (l ++ 13 ∷ []) (closed ls) (cr_line l h.0)
    ∙ ap (λ (x : List ℕ). x ∷ lines (closed ls)) (cr_added l)
    ∙ ap (◌∷◌ l) (lines_closed ls h.1)

-- ---- no line of a body has an LF
onto_lines : (b : ℕ) (ls : List (List ℕ)) → eqb b 10 ≡ false → All Line ls → All Line (onto b ls)
unfolding onto
onto_lines b [] e h = (none_more b [] e refl, tt)
onto_lines b (l ∷ ls) e h = (none_more b l e h.0, h.1)

pub lines_are : (s : List ℕ) → All Line (lines s)
unfolding lines
lines_are [] = tt
lines_are (b ∷ l) = go (eqb b 10) (eqb b 13 && starts 10 l) refl refl (lines_are l)
  where
    go : (p q : Bool) → eqb b 10 ≡ p → (eqb b 13 && starts 10 l) ≡ q → All Line (lines l) → All Line (lines (b ∷ l))
    go true q e f h = rw (e, lines) (refl, h)
    go false true e f h = rw (e, lines) (rw f h)
    go false false e f h = rw (e, lines) (rw f (onto_lines b (lines l) e h))
