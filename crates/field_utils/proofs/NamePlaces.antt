-- The places of the lines, and those of the names passed so far. Assumes nothing.
use Rattle.std.proofs.Common.{◌≡◌, ℕ, zero, suc, ◌+◌, ◌<◌, ◌≤◌, List, [], ◌∷◌, ◌++◌, map, length, drop, set, sym, refl, ap, ◌∙◌, subst, append-nil, arith, length-append, Option, None, Some}
use lib.Seq.{append_snoc}
use Rattle.errors.specs.Refusals.{accepted}
use Rattle.party.specs.declared.Part.{Part}
use Rattle.party.specs.Text.{part_in, four}
use Rattle.field_utils.specs.Lines.{lines}
use Rattle.field_utils.specs.Cursor.{NextLine, next_line, places_of, line_places, no_place, kept_place, name_places}
use Rattle.field_utils.proofs.Places.{Found, Fits, next_fits, next_done}
use Rattle.field_utils.proofs.NameTexts.{more_of, past_of}

-- the places of a line and of n after it
abbrev places_by : ℕ → List ℕ → Option NextLine → List Part
places_by n s (Some l) = l.part ∷ places_of n s l.rest
places_by n s None = []

opened : (n : ℕ) (s : List ℕ) (at : ℕ) {x : Option NextLine} → next_line s at ≡ x → places_of (suc n) s at ≡ places_by n s x
unfolding places_of
opened n s at {x} e = ap (λ (y : Option NextLine). elim y as (λ z. List Part) [ Some l ↦ l.part ∷ places_of n s l.rest | None ↦ [] ]) e ∙ go x
  where
    go : (y : Option NextLine) → ◌≡◌ {A = List Part} (elim y as (λ z. List Part) [ Some l ↦ l.part ∷ places_of n s l.rest | None ↦ [] ]) (places_by n s y)
    go (Some l) = refl
    go None = refl

closed : (s : List ℕ) (at : ℕ) → places_of 0 s at ≡ []
unfolding places_of
closed s at = refl

-- one more changes nothing where there is none
stable : (n : ℕ) (s : List ℕ) (at : ℕ) → length s ≤ at + n → places_of n s at ≡ places_of (suc n) s at
stable zero s at h = closed s at ∙ sym (opened 0 s at (next_done s at (omega (arith, h))))
stable (suc n) s at h = opened n s at refl ∙ go (next_line s at) (next_fits s at) (λ i. stable n s i) ∙ sym (opened (suc n) s at refl)
  where
    go : (x : Option NextLine) → Fits s at x → ((i : ℕ) → length s ≤ i + n → places_of n s i ≡ places_of (suc n) s i) → places_by n s x ≡ places_by (suc n) s x
    go (Some l) f more = ap (◌∷◌ l.part) (more l.rest (omega (arith, f.moved, h)))
    go None f more = refl

-- the places from a place on, by the line there
places_none : (s : List ℕ) (at : ℕ) → next_line s at ≡ None → line_places s at ≡ []
places_none s at e = go (length s)
  where
    go : (n : ℕ) → places_of n s at ≡ []
    go zero = closed s at
    go (suc n) = opened n s at e

places_more : (s : List ℕ) (at : ℕ) {l : NextLine} → next_line s at ≡ Some l → line_places s at ≡ l.part ∷ line_places s l.rest
places_more s at {l} e = go (length s) refl
  where
    fits : Found s at l.part l.rest
    fits = subst (Fits s at) e (next_fits s at)

    go : (n : ℕ) → length s ≡ n → places_of n s at ≡ l.part ∷ places_of n s l.rest
    go zero h = absurd (omega (arith, h, fits.moved, fits.within))
    go (suc n) h = opened n s at e ∙ ap (◌∷◌ l.part) (stable n s l.rest (omega (arith, h, fits.moved)))

-- what stands at these places are the lines, so that the two say one thing
first_there : (n : ℕ) (s : List ℕ) (at : ℕ) → length s ≤ at + n → map (part_in s) (places_of n s at) ≡ lines (drop at s)
first_there zero s at h = go (next_line s at) (next_fits s at)
  where
    go : (x : Option NextLine) → Fits s at x → map (part_in s) (places_of 0 s at) ≡ lines (drop at s)
    go (Some l) f = absurd (omega (arith, h, f.moved, f.within))
    go None f = ap (map (part_in s)) (closed s at) ∙ sym f.0
first_there (suc n) s at h = ap (map (part_in s)) (opened n s at refl) ∙ go (next_line s at) (next_fits s at) (first_there n s)
  where
    go : (x : Option NextLine) → Fits s at x → ((i : ℕ) → length s ≤ i + n → map (part_in s) (places_of n s i) ≡ lines (drop i s)) → map (part_in s) (places_by n s x) ≡ lines (drop at s)
    go (Some l) f later = ap (◌∷◌ (part_in s l.part)) (later l.rest (omega (arith, h, f.moved))) ∙ sym f.line
    go None f later = sym f.0

pub lines_there : (s : List ℕ) (at : ℕ) → map (part_in s) (line_places s at) ≡ lines (drop at s)
lines_there s at = first_there (length s) s at (omega arith)

-- the lines from a place on up to another are passed, n of them, and the parts are those of what is kept of the first four
pub record Marked (s : List ℕ) (kept from n at : ℕ) (parts : List Part) : Type 0 where
  pub done : List Part
  pub all : line_places s from ≡ done ++ line_places s at
  pub count : n ≡ length done
  pub are : parts ≡ four no_place (map (kept_place kept) done)

pub marked_none : (s : List ℕ) (kept from : ℕ) {parts : List Part} → parts ≡ four no_place [] → Marked s kept from 0 from parts
marked_none s kept from e = record { done = []; all = refl; count = refl; are = e }

module _ {s : List ℕ} {kept from n at : ℕ} {parts : List Part} (m : Marked s kept from n at parts) where
  -- one more
  module _ {l : NextLine} (e : next_line s at ≡ Some l) where
    more : {w : List Part} → w ≡ four no_place (map (kept_place kept) (m.done ++ (l.part ∷ []))) → Marked s kept from (n + 1) l.rest w
    more k =
        record {
          done = m.done ++ (l.part ∷ []);
          all = m.all ∙ ap (λ (ps : List Part). m.done ++ ps) (places_more s at e) ∙ sym (append_snoc m.done l.part (line_places s l.rest));
          count = omega (arith, m.count, length-append m.done (l.part ∷ []));
          are = k;
        }

    pub marked_more : n < 4 → Marked s kept from (n + 1) l.rest (set parts n (kept_place kept l.part))
    marked_more h = more (more_of no_place (kept_place kept) m.done l.part m.count m.are refl h)

    pub marked_past : 4 ≤ n → Marked s kept from (n + 1) l.rest parts
    marked_past h = more (past_of no_place (kept_place kept) m.done l.part m.count m.are h)

  -- no more
  pub marked_all : next_line s at ≡ None → parts ≡ name_places accepted kept (line_places s from)
  marked_all e = m.are ∙ ap (λ (ps : List Part). four no_place (map (kept_place kept) ps)) (sym (m.all ∙ ap (λ (ps : List Part). m.done ++ ps) (places_none s at e) ∙ append-nil m.done))
