-- The walk of the lines. Assumes nothing.
use mathlib.Core.Path.{◌≡◌, refl, sym, ◌∙◌, ap, subst}
use mathlib.Core.Bool.{Bool, true, false, ◌||◌}
use mathlib.Core.List.{List, [], ◌∷◌, map}
use Prim.Native.Nat.{ℕ, ◌+◌, ◌≤◌}
use native.Mathlib.Omega.{arith}
use lib.Dec.{ltb}
use lib.ListN.{length, take, drop, length-take, length-drop, drop_of_length-le}
use borrow.Author.Tests.{le-ltb, ltb-true, ltb-false}
use Rattle.std.specs.Prelude.{Option, Some, None, is_some}
use Rattle.std.specs.Int.{from_bool}
use Rattle.std.specs.Iterator.{Drains}
use Rattle.std.specs.List as std
use Rattle.std.specs.List.{list_any}
use Rattle.std.specs.Option.{unwrap_or, option_or}
use Rattle.std.proofs.lemmas.Iterator.{YieldsList}
use Rattle.std.proofs.lemmas.Iterator.Splits.{YieldsList-from_shown_while}
use Rattle.party.specs.declared.Part.{Part}
use Rattle.party.specs.Text.{part_in}
use Rattle.field_utils.specs.declared.lines.Lines.{Lines}
use Rattle.field_utils.specs.Lines.{lines}
use Rattle.field_utils.specs.Identifier.{is_numbered}
use Rattle.field_utils.specs.Cursor.{GivesLine, no_place}
use Rattle.field_utils.proofs.Places.{found, ended, drained}
use Rattle.reader.specs.declared.choices.LineSummary.{LineSummary}
use Rattle.reader.specs.Detection.{any_numbered, first_line, last_line}
use Rattle.reader.proofs.LineTests.{last_or, last_or_lem, any_split}
use Rattle.reader.proofs.LineCounts.{lines_most, lines_some}

-- the lines that are left, as a chain gives them
pub lines_left : (s : Lines) → YieldsList GivesLine (part_in s.text.now) s (lines (drop s.at s.text.now))
lines_left s = YieldsList-from_shown_while GivesLine (part_in s.text.now) (λ t. lines (drop t.at s.text.now)) (λ t. t.text ≡ s.text) none some s refl
  where
    none : (u t : Lines) → u.text ≡ s.text → GivesLine u None t → length (lines (drop u.at s.text.now)) ≡ 0
    none u t e g = ap (λ x. length (lines (drop u.at x.now))) (sym e) ∙ ap length (ended g refl).0

    some : (u : Lines) (p : Part) (t : Lines) → u.text ≡ s.text → GivesLine u (Some p) t → (t.text ≡ s.text) × (lines (drop u.at s.text.now) ≡ part_in s.text.now p ∷ lines (drop t.at s.text.now))
    some u p t e g = (g.text ∙ e, ap (λ x. lines (drop u.at x.now)) (sym e) ∙ (found g refl).line ∙ ap (λ x. part_in x.now p ∷ lines (drop t.at x.now)) e)

pub any_listed : (ls : List (List ℕ)) → list_any is_numbered ls ≡ any_numbered ls
unfolding any_numbered
any_listed [] = refl
any_listed (l ∷ ls) = ap (λ (t : Bool). is_numbered l || t) (any_listed ls)

-- the last of them, or the line before them
last_part : (s : List ℕ) (w : Part) (o : Option Part) (ps : List Part) → part_in s (unwrap_or (std.last_or o ps) w) ≡ last_or (part_in s (unwrap_or o w)) (map (part_in s) ps)
last_part s w o [] = refl
last_part s w o (p ∷ ps) = last_part s w (Some p) ps

pub last_left : (s : Lines) (w : Part) (ps : List Part) → Drains GivesLine s ps
    → part_in s.text.now (unwrap_or (std.last_or None ps) w) ≡ last_or (part_in s.text.now w) (lines (drop s.at s.text.now))
last_left s w ps d = last_part s.text.now w None ps ∙ ap (last_or (part_in s.text.now w)) (drained s ps d)

-- what the first call says of the lines of a text
pub record Opened (body : List ℕ) (p : Part) (rest : Lines) : Type 0 where
  pub text : rest.text.now ≡ body
  pub all : lines body ≡ part_in body p ∷ lines (drop rest.at body)
  pub within : p.start + p.len ≤ length body

module _ {body : List ℕ} {s t : Lines} {r : Option Part} (e : s.text.now ≡ body) (z : s.at ≡ 0) (g : GivesLine s r t) where
  whole : lines body ≡ lines (drop s.at s.text.now)
  whole = sym (λ i. lines (drop (z i) (e i)))

  pub opened : {p : Part} → r ≡ Some p → Opened body p t
  opened {p} f =
      record {
        text = ap (λ x. x.now) g.text ∙ e;
        all = whole ∙ (found g f).line ∙ ap (λ (l : List ℕ). part_in l p ∷ lines (drop t.at l)) e;
        within = omega (arith, (found g f).before, (found g f).within, ap length e);
      }

  pub unopened : r ≡ None → lines body ≡ []
  unopened f = whole ∙ (ended g f).0

-- what two calls say of all lines, with the place where they leave it; a line that is not there is empty
pub record Seen (s : List ℕ) (one two : Option Part) (at : ℕ) : Type 0 where
  pub counted : from_bool (is_some one) + from_bool (is_some two) + from_bool (ltb at (length s)) ≡ length (take 3 (lines s))
  pub first : part_in s (unwrap_or one no_place) ≡ first_line (lines s)
  pub second : part_in s (unwrap_or two no_place) ≡ first_line (drop 1 (lines s))
  pub last : part_in s (unwrap_or (option_or two one) no_place) ≡ last_line (take 2 (lines s))
  pub later : lines (drop at s) ≡ drop 2 (lines s)

module _ (s : List ℕ) (at : ℕ) where
  -- where no line is left, the place is the end
  seen_none : lines s ≡ [] → length s ≤ at → Seen s None None at
  unfolding lines first_line last_line
  seen_none e h =
      record {
        counted = rw (e, le-ltb _ _ h);
        first = rw e;
        second = rw e;
        last = rw e;
        later = rw (e, drop_of_length-le s h);
      }

  seen_one : (p : Part) → lines s ≡ part_in s p ∷ [] → length s ≤ at → Seen s (Some p) None at
  unfolding lines first_line last_line
  seen_one p e h =
      record {
        counted = rw (e, le-ltb _ _ h);
        first = rw e;
        second = rw e;
        last = rw e;
        later = rw (e, drop_of_length-le s h);
      }

  -- and else one is left, where it is before the end
  more : length (take 1 (lines (drop at s))) ≡ from_bool (ltb at (length s))
  more = go (ltb at (length s)) refl
    where
      go : (t : Bool) → ltb at (length s) ≡ t → length (take 1 (lines (drop at s))) ≡ from_bool t
      go true e = omega (arith, length-take 1 (lines (drop at s)), lines_some (drop at s) (omega (arith, ltb-true at (length s) e, length-drop at s)))
      go false e = omega (arith, length-take 1 (lines (drop at s)), lines_most (drop at s), length-drop at s, ltb-false at (length s) e)

  seen_two : (p q : Part) → lines s ≡ part_in s p ∷ part_in s q ∷ lines (drop at s) → Seen s (Some p) (Some q) at
  unfolding first_line last_line
  seen_two p q e =
      record {
        counted = rw e (omega (arith, more));
        first = rw e;
        second = rw e;
        last = rw e;
        later = rw e;
      }

pub seen_by : {s t u : Lines} (one two : Option Part) → s.at ≡ 0 → GivesLine s one t → GivesLine t two u → Seen u.text.now one two u.at
seen_by {s} {t} {u} one two z g h = subst (λ x. Seen x.now one two u.at) (sym (h.text ∙ g.text)) (go one two g h)
  where
    first : (p : Part) → GivesLine s (Some p) t → lines s.text.now ≡ part_in s.text.now p ∷ lines (drop t.at s.text.now)
    first p g = ap (λ (k : ℕ). lines (drop k s.text.now)) (sym z) ∙ (found g refl).line

    go : (one two : Option Part) → GivesLine s one t → GivesLine t two u → Seen s.text.now one two u.at
    go None None g h =
        seen_none s.text.now u.at (ap (λ (k : ℕ). lines (drop k s.text.now)) (sym z) ∙ (ended g refl).0) (omega (arith, (ended g refl).1, g.next.1, h.next.1))
    go None (Some q) g h =
        absurd (omega (arith, (ended g refl).1, g.next.1, (found h refl).moved, (found h refl).within, ap (λ x. length x.now) g.text))
    go (Some p) None g h =
        seen_one s.text.now u.at p (first p g ∙ ap (◌∷◌ (part_in s.text.now p)) (ap (λ x. lines (drop t.at x.now)) (sym g.text) ∙ (ended h refl).0))
        (omega (arith, (ended h refl).1, h.next.1, ap (λ x. length x.now) g.text))
    go (Some p) (Some q) g h =
        seen_two s.text.now u.at p q
        (first p g
        ∙ ap (◌∷◌ (part_in s.text.now p))
        (ap (λ x. lines (drop t.at x.now)) (sym g.text) ∙ (found h refl).line ∙ ap (λ x. part_in x.now q ∷ lines (drop u.at x.now)) g.text))

-- what was seen of two lines, with those after them, is what there is of all
any_later : (ls : List (List ℕ)) → any_numbered (drop 1 ls) ≡ (is_numbered (first_line (drop 1 ls)) || any_numbered (drop 2 ls))
any_later [] = any_split []
any_later (l ∷ ls) = any_split ls

last_later : (ls : List (List ℕ)) → last_or (last_line (take 2 ls)) (drop 2 ls) ≡ last_line ls
unfolding last_line
last_later [] = refl
last_later (l ∷ []) = refl
last_later (l ∷ m ∷ ls) = sym (last_or_lem (m ∷ ls))

module _ (w : LineSummary) where
  abbrev text : List ℕ
  text = w.rest.text.now

  abbrev seen : List (List ℕ)
  seen = lines text

  pub seen_any : {t : Bool} → w.first.numbered ≡ t → (t || any_numbered (drop 1 seen)) ≡ any_numbered seen
  seen_any e = ap (λ (u : Bool). u || any_numbered (drop 1 seen)) (sym e ∙ w.one) ∙ sym (any_split seen)

  pub seen_later : {t : Bool} → w.second.numbered ≡ t → (t || any_numbered (lines (drop w.rest.at text))) ≡ any_numbered (drop 1 seen)
  seen_later e = (λ i. (sym e ∙ w.two) i || any_numbered (w.later i)) ∙ sym (any_later seen)

  pub seen_last : last_or (part_in text w.last) (lines (drop w.rest.at text)) ≡ last_line seen
  seen_last = (λ i. last_or (w.last_is i) (w.later i)) ∙ last_later seen
