-- Laws of `upto` and of lines by their places. Assumes nothing.
use Rattle.std.proofs.Common.{Bor, ◌≡◌, ℕ, zero, suc, ◌+◌, ◌-◌, ◌<◌, ◌≤◌, Bool, true, false, ◌&&◌, eqb, ltb, List, [], ◌∷◌, map, length, get_or, take, drop, sym, refl, ap, ◌∙◌, subst, add-one, arith, length-drop, drop_of_length-le, length-take, drop-cons, take-take, drop-drop, ltb-false, ltb-true, le-ltb, lt-ltb, eq-eqb, ne_eqb, eqb-true, Option, None, Some, MatchOption}
use Rattle.std.specs.Iterator.{Yields, Drains}
use Rattle.std.specs.List.{AllWithin, HoldsAt}
use Rattle.std.specs.Option.{unwrap_or}
use Rattle.std.proofs.lemmas.Iterator.{index_from_first}
use mathlib.Core.Bool.{and-false}
use lib.Seq.{drop-length, take-length, take_all}
use Rattle.party.specs.declared.Part.{Part}
use Rattle.party.specs.Text.{part_in}
use Rattle.field_utils.specs.declared.lines.Lines.{Lines}
use Rattle.field_utils.specs.Lines.{upto, onto, starts, lines, without_cr}
use Rattle.field_utils.specs.Cursor.{NextLine, line_of, next_line, GivesLine}

-- a list by its first b: how many bytes stand before it, or how many there are
pub data Upto (b : ℕ) : List ℕ → ℕ → Type 0 where
  none : Upto b [] 0
  here : {l : List ℕ} → Upto b (b ∷ l) 0
  past : {a : ℕ} {l : List ℕ} {n : ℕ} → eqb a b ≡ false → Upto b l n → Upto b (a ∷ l) (suc n)

pub by_upto : (b : ℕ) (l : List ℕ) → Upto b l (upto b l)
unfolding upto
by_upto b [] = none
by_upto b (a ∷ l) = go (eqb a b) refl (by_upto b l)
  where
    go : (t : Bool) → eqb a b ≡ t → Upto b l (upto b l) → Upto b (a ∷ l) (upto b (a ∷ l))
    go true e r = rw (e, upto) (subst (λ (c : ℕ). Upto b (c ∷ l) 0) (sym (eqb-true a b e)) here)
    go false e r = rw (e, upto) (past e r)

most : {b n : ℕ} {l : List ℕ} → Upto b l n → n ≤ length l
most none = omega arith
most here = omega arith
most (past e r) = let h = most r in omega arith

pub upto_length : (b : ℕ) (l : List ℕ) → upto b l ≤ length l
upto_length b l = most (by_upto b l)

-- `upto` from a place on
module _ (b : ℕ) (s : List ℕ) (i : ℕ) where
  pub upto_here : i < length s → get_or s i 0 ≡ b → upto b (drop i s) ≡ 0
  unfolding upto
  upto_here h e = rw (drop-cons s i 0) (rw (eq-eqb _ _ e, upto))

  pub upto_next : i < length s → (get_or s i 0 ≡ b → ⊥) → upto b (drop i s) ≡ suc (upto b (drop (i + 1) s))
  unfolding upto
  upto_next h e = rw (add-one, drop-cons s i 0) (rw (ne_eqb _ _ e, upto))

  pub upto_done : length s ≤ i → upto b (drop i s) ≡ 0
  unfolding upto
  upto_done h = rw (drop_of_length-le s h)

-- the place that a search gives, or the length where it finds none
pub upto_found : (b : ℕ) (l : List ℕ) (r : Option ℕ)
    → MatchOption r (AllWithin (λ a. a ≡ b → ⊥) l 0 (length l)) (λ i. (i < length l) × HoldsAt (λ a. a ≡ b) l i × AllWithin (λ a. a ≡ b → ⊥) l 0 i)
    → upto b l ≡ unwrap_or r (length l)
unfolding upto
upto_found b l r h = index_from_first (upto b) (λ a. a ≡ b) (λ a. a ≡ b → ⊥) none_there here_first past_first l r h
  where
    none_there : upto b [] ≡ 0
    none_there = refl

    here_first : (a : ℕ) (l : List ℕ) → a ≡ b → upto b (a ∷ l) ≡ 0
    here_first a l e = rw (eq-eqb a b e, upto)

    past_first : (a : ℕ) (l : List ℕ) → (a ≡ b → ⊥) → upto b (a ∷ l) ≡ upto b l + 1
    past_first a l e = rw (ne_eqb a b e, upto) (omega arith)

-- a byte that is no LF, with none after it: it stands in front of the first line
lines_past : (b : ℕ) (l : List ℕ) → eqb b 10 ≡ false → starts 10 l ≡ false → lines (b ∷ l) ≡ onto b (lines l)
unfolding lines
lines_past b l e f = let g : (eqb b 13 && starts 10 l) ≡ false = rw (f, and-false) in rw (e, lines) (rw g)

-- the first line of a list with an LF, and the lines after it
lines_lf : {l : List ℕ} {n : ℕ} → Upto 10 l n → n < length l → lines l ≡ without_cr (take n l) ∷ lines (drop (suc n) l)
unfolding onto starts lines without_cr
lines_lf none h = absurd (omega arith)
lines_lf here h = refl
lines_lf (past e none) h = absurd (omega arith)
lines_lf (past {a} e (here {l})) h = go (eqb a 13) refl
  where
    go : (t : Bool) → eqb a 13 ≡ t → lines (a ∷ 10 ∷ l) ≡ without_cr (a ∷ []) ∷ lines l
    go true f = rw (e, lines) (rw (f, without_cr))
    go false f = rw (e, lines) (rw (f, without_cr))
lines_lf (past {a} {l} e (past f r)) h = lines_past a l e f ∙ ap (onto a) (lines_lf (past f r) (omega arith))

-- a list with no LF is one line, if not empty
lines_end : {l : List ℕ} {n : ℕ} → Upto 10 l n → n ≡ length l → 0 < n → lines l ≡ l ∷ []
unfolding onto starts lines
lines_end none h p = absurd (omega arith)
lines_end here h p = absurd (omega arith)
lines_end (past {a} e none) h p = lines_past a [] e refl
lines_end (past e here) h p = absurd (omega arith)
lines_end (past {a} {l} e (past f r)) h p = lines_past a l e f ∙ ap (onto a) (lines_end (past f r) (omega arith) (omega arith))

-- a line without its CR is a part from its start
pub without_cr_part : (l : List ℕ) → without_cr l ≡ take (length (without_cr l)) l
unfolding without_cr
without_cr_part [] = refl
without_cr_part (b ∷ []) = go (eqb b 13) refl
  where
    go : (t : Bool) → eqb b 13 ≡ t → without_cr (b ∷ []) ≡ take (length (without_cr (b ∷ []))) (b ∷ [])
    go true e = rw (e, without_cr)
    go false e = rw (e, without_cr)
without_cr_part (b ∷ a ∷ l) = ap (◌∷◌ b) (without_cr_part (a ∷ l))

pub without_cr_short : (l : List ℕ) → length (without_cr l) ≤ length l
without_cr_short l = omega (arith, ap length (without_cr_part l), length-take (length (without_cr l)) l)

-- its length, by whether its last byte is a CR
without_cr_length : (l : List ℕ) (n : ℕ) (t : Bool) → length l ≡ suc n → eqb (get_or l n 0) 13 ≡ t → length (without_cr l) + elim t [ true ↦ 1 | false ↦ 0 ] ≡ suc n
unfolding without_cr
without_cr_length [] n t h e = absurd (omega arith)
without_cr_length (b ∷ []) zero true h e = rw (e, without_cr)
without_cr_length (b ∷ []) zero false h e = rw (e, without_cr)
without_cr_length (b ∷ []) (suc n) t h e = absurd (omega arith)
without_cr_length (b ∷ a ∷ l) zero t h e = absurd (omega arith)
without_cr_length (b ∷ a ∷ l) (suc n) t h e = omega (arith, without_cr_length (a ∷ l) n t (omega arith) e)

-- and the line, by whether its last byte is a CR
pub without_cr_dropped : (l : List ℕ) → 0 < length l → get_or l (length l - 1) 0 ≡ 13 → without_cr l ≡ take (length l - 1) l
without_cr_dropped l h e =
    let n : length (without_cr l) ≡ length l - 1 = omega (arith, without_cr_length l (length l - 1) true (omega arith) (eq-eqb _ _ e)) in
    without_cr_part l ∙ ap (λ (n : ℕ). take n l) n

pub without_cr_kept : (l : List ℕ) → (0 < length l → get_or l (length l - 1) 0 ≡ 13 → ⊥) → without_cr l ≡ l
unfolding without_cr
without_cr_kept [] h = refl
without_cr_kept (b ∷ l) h =
    let s : List ℕ = b ∷ l in
    let n : length (without_cr s) ≡ length s = omega (arith, without_cr_length s (length s - 1) false (omega arith) (ne_eqb _ _ (h (omega arith)))) in
    without_cr_part s ∙ ap (λ (n : ℕ). take n s) n ∙ take-length s

-- the next line, by cases
module _ (s : List ℕ) (at : ℕ) where
  pub next_done : length s ≤ at → next_line s at ≡ None
  unfolding next_line
  next_done h = rw (le-ltb _ _ h, next_line)

  module _ (h : at < length s) where
    pub next_last : length s ≤ at + upto 10 (drop at s) → next_line s at ≡ Some (record { part = record { start = at; len = upto 10 (drop at s) }; rest = at + upto 10 (drop at s) })
    unfolding next_line line_of
    next_last k = rw (lt-ltb _ _ h, next_line) (rw (le-ltb _ _ k, line_of))

    pub next_lf :
        at + upto 10 (drop at s) < length s
        → next_line s at ≡ Some (record { part = record { start = at; len = length (without_cr (take (upto 10 (drop at s)) (drop at s))) }; rest = at + upto 10 (drop at s) + 1 })
    unfolding next_line line_of
    next_lf k = rw (lt-ltb _ _ h, next_line) (rw (lt-ltb _ _ k, line_of))

-- what a found line says: the line is that part, and the lines from the place on are it and those from rest on
pub record Found (s : List ℕ) (at : ℕ) (p : Part) (rest : ℕ) : Type 0 where
  pub line : lines (drop at s) ≡ part_in s p ∷ lines (drop rest s)
  pub onward : at ≤ p.start
  pub before : p.start + p.len ≤ rest
  pub moved : at < rest
  pub within : rest ≤ length s

abbrev pub Fits : List ℕ → ℕ → Option NextLine → Type 0
Fits s at (Some l) = Found s at l.part l.rest
Fits s at None = (lines (drop at s) ≡ []) × (length s ≤ at)

fits_done : (s : List ℕ) (at : ℕ) → length s ≤ at → Fits s at None
unfolding lines
fits_done s at h = (rw (drop_of_length-le s h), h)

module _ (s : List ℕ) (at n : ℕ) (r : Upto 10 (drop at s) n) (h : at < length s) where
  -- where no LF follows, the line is the rest
  fits_last : at + n ≡ length s → Found s at (record { start = at; len = n }) (at + n)
  unfolding lines
  fits_last k =
      record {
        line = rw k (lines_end r (omega (arith, length-drop at s)) (omega arith) ∙ rw (drop-length, take_all n (drop at s) (omega (arith, length-drop at s))));
        onward = omega arith;
        before = omega arith;
        moved = omega arith;
        within = omega arith;
      }

  -- where one follows, it is the bytes before the LF without a CR
  fits_lf : at + n < length s → Found s at (record { start = at; len = length (without_cr (take n (drop at s))) }) (at + n + 1)
  fits_lf k =
      record {
        line = lines_lf r (omega (arith, length-drop at s)) ∙ rw (drop-drop, onwards) (ap (λ (l : List ℕ). l ∷ lines (drop (at + suc n) s)) whole);
        onward = omega arith;
        before = omega (arith, short);
        moved = omega arith;
        within = omega arith;
      }
    where
      short : length (without_cr (take n (drop at s))) ≤ n
      short = omega (arith, ap length (without_cr_part (take n (drop at s))), length-take (length (without_cr (take n (drop at s)))) (take n (drop at s)), length-take n (drop at s))

      whole : without_cr (take n (drop at s)) ≡ take (length (without_cr (take n (drop at s)))) (drop at s)
      whole = without_cr_part (take n (drop at s)) ∙ take-take (length (without_cr (take n (drop at s)))) n (drop at s) short

      onwards : at + n + 1 ≡ at + suc n
      onwards = omega arith

pub next_fits : (s : List ℕ) (at : ℕ) → Fits s at (next_line s at)
next_fits s at = go (ltb at (length s)) refl
  where
    go : (t : Bool) → ltb at (length s) ≡ t → Fits s at (next_line s at)
    go false e = let h = ltb-false at (length s) e in rw (next_done s at h) (fits_done s at h)
    go true e = lf (ltb (at + upto 10 (drop at s)) (length s)) refl
      where
        h : at < length s
        h = ltb-true at (length s) e

        r : Upto 10 (drop at s) (upto 10 (drop at s))
        r = by_upto 10 (drop at s)

        lf : (t : Bool) → ltb (at + upto 10 (drop at s)) (length s) ≡ t → Fits s at (next_line s at)
        lf true f = let k = ltb-true _ _ f in rw (next_lf s at h k) (fits_lf s at _ r h k)
        lf false f = let k = ltb-false _ _ f in rw (next_last s at h k) (fits_last s at _ r h (omega (arith, h, k, most r, length-drop at s)))

-- the same of what a call of the iterator gave
module _ {s t : Lines} {r : Option Part} (g : GivesLine s r t) where
  pub given : {p : Part} → r ≡ Some p → next_line s.text.now s.at ≡ Some (record { part = p; rest = t.at })
  given e = (subst (λ (x : Option Part). GivesLine s x t) e g).next

  pub found : {p : Part} → r ≡ Some p → Found s.text.now s.at p t.at
  found e = subst (Fits s.text.now s.at) (given e) (next_fits s.text.now s.at)

  pub ended : r ≡ None → (lines (drop s.at s.text.now) ≡ []) × (length s.text.now ≤ s.at)
  ended e = subst (Fits s.text.now s.at) (subst (λ (x : Option Part). GivesLine s x t) e g).next.0 (next_fits s.text.now s.at)

-- the lines that a run of calls gives are all that are left
pub drained : (s : Lines) (ps : List Part) → Drains GivesLine s ps → map (part_in s.text.now) ps ≡ lines (drop s.at s.text.now)
drained s ps (t, (u, run, last)) = go s ps run
  where
    go : (s : Lines) (ps : List Part) → Yields GivesLine s ps u → map (part_in s.text.now) ps ≡ lines (drop s.at s.text.now)
    go s [] e = sym (ap (λ (x : Lines). lines (drop x.at x.text.now)) e ∙ (ended last refl).0)
    go s (p ∷ ps) (j, g, more) =
        ap (λ (x : Bor (List ℕ)). part_in s.text.now p ∷ map (part_in x.now) ps) (sym g.text)
        ∙ ap (◌∷◌ (part_in s.text.now p)) (go j ps more ∙ ap (λ (x : Bor (List ℕ)). lines (drop j.at x.now)) g.text) ∙ sym (found g refl).line
