-- The cases of the profile's rules, as the code meets them. Assumes nothing.
use mathlib.Core.Path.{◌≡◌, refl, sym, ◌∙◌, ap}
use mathlib.Core.Bool.{Bool, true, false, not, ◌&&◌, ◌||◌, and-false}
use mathlib.Core.List.{List, [], ◌∷◌}
use Prim.Native.Nat.{ℕ, suc}
use native.Mathlib.Omega.{arith}
use lib.Dec.{eqb}
use lib.ListN.{length, get_or}
use borrow.Author.Tests.{ne_eqb, not-true}
use Rattle.errors.specs.Refusals.{Reply, accepted, refused, must}
use Rattle.errors.proofs.Replies.{must_held, then_first, then_second}
use Rattle.party.specs.declared.Party.{Party}
use Rattle.swift_utils.specs.Bytes.{small, narrow}
use Rattle.swift_utils.specs.Classes.{in_classes}
use Rattle.swift_utils.proofs.Classes.{class_narrow, class_small}
use Rattle.std.specs.Cmp.Lexicographic.{pointwise}
use Rattle.std.specs.List.{list_all}
use Rattle.field_utils.specs.Lines.{starts, is_empty}
use Rattle.field_utils.proofs.Tests.{both_left, both_right}
use Rattle.reader.specs.Reading.{Reading, giving}
use Rattle.reader.specs.Choices.{refusing}
use Rattle.profile.specs.Profile.{is_same, holds_bic, is_narrow, is_capital, is_opening, is_inside, lines_reply, profile_reply, profiled}

-- ---- two lists compared byte by byte, as `==` compares them
pub same_pointwise : (l m : List ℕ) → pointwise eqb l m ≡ is_same l m
unfolding is_same
same_pointwise [] [] = refl
same_pointwise [] (b ∷ m) = refl
same_pointwise (a ∷ l) [] = refl
same_pointwise (a ∷ l) (b ∷ m) = ap (λ (t : Bool). eqb a b && t) (same_pointwise l m)

-- ---- the bytes of a line
-- what is asked of each, where it is said whether the line holds the BIC
abbrev pub byte_inside : Bool → ℕ → Bool
byte_inside holds b = in_classes 4 b && not (holds && in_classes 64 b)

shuffle : (a b x y : Bool) → ((a && b) && (x && y)) ≡ ((a && x) && (b && y))
shuffle true true x y = refl
shuffle true false x y = sym (and-false x)
shuffle false b x y = refl

capital_more : (holds : Bool) (b : ℕ) (l : List ℕ) → (not (holds && small b) && is_capital holds l) ≡ is_capital holds (b ∷ l)
capital_more true b l = refl
capital_more false b l = refl

pub bytes_inside : (holds : Bool) (l : List ℕ) → list_all (byte_inside holds) l ≡ (is_narrow l && is_capital holds l)
bytes_inside true [] = refl
bytes_inside false [] = refl
bytes_inside holds (b ∷ l) =
    rw (class_narrow b, class_small b, bytes_inside holds l)
    (shuffle (narrow b) (not (holds && small b)) (is_narrow l) (is_capital holds l) ∙ ap (λ (t : Bool). is_narrow (b ∷ l) && t) (capital_more holds b l))

-- ---- how a line starts, after the first
pub opening_by : (n : ℕ) (l : List ℕ) → (n ≡ 1 → ⊥) → is_opening n l ≡ not (eqb (get_or l 0 0) 58 || eqb (get_or l 0 0) 45)
unfolding starts
opening_by n [] h = rw (ne_eqb n 1 h)
opening_by n (b ∷ l) h = rw (ne_eqb n 1 h)

-- ---- a line
empty_is : (l : List ℕ) → is_empty l ≡ eqb (length l) 0
empty_is [] = refl
empty_is (b ∷ l) = sym (ne_eqb (suc (length l)) 0 (λ e. omega arith))

turned : (x a e o : Bool) → (((x && a) && e) && o) ≡ (((a && e) && o) && x)
turned true true true true = refl
turned true true true false = refl
turned true true false o = refl
turned true false e o = refl
turned false a e o = sym (and-false ((a && e) && o))

-- the tests that need no look at the bytes, then the bytes
pub inside_is : (n : ℕ) (after holds : Bool) (l : List ℕ)
    → is_inside n after holds l ≡ (((not after && not (eqb (length l) 0)) && is_opening n l) && (is_narrow l && is_capital holds l))
unfolding is_inside
inside_is n after holds l = rw (empty_is l) (turned (is_narrow l && is_capital holds l) (not after) (not (eqb (length l) 0)) (is_opening n l))

-- what a line that passes has
pub record Inside (n : ℕ) (l : List ℕ) : Type 0 where
  pub bytes : is_narrow l ≡ true
  pub some : is_empty l ≡ false
  pub opening : is_opening n l ≡ true

pub inside_has : (n : ℕ) (after holds : Bool) (l : List ℕ) → is_inside n after holds l ≡ true → Inside n l
unfolding is_inside
inside_has n after holds l e =
    let some = both_left (is_narrow l && is_capital holds l && not after && not (is_empty l)) (is_opening n l) e in
    let before = both_left (is_narrow l && is_capital holds l && not after) (not (is_empty l)) some in
    record {
      bytes = both_left (is_narrow l) (is_capital holds l) (both_left (is_narrow l && is_capital holds l) (not after) before);
      some = not-true _ (both_right (is_narrow l && is_capital holds l && not after) (not (is_empty l)) some);
      opening = both_right (is_narrow l && is_capital holds l && not after && not (is_empty l)) (is_opening n l) e;
    }

-- ---- the lines, one after the other
module _ (p : Party) (n : ℕ) (after : Bool) where
  pub lines_none : (ls : List (List ℕ)) → ls ≡ [] → lines_reply p n after ls ≡ accepted
  unfolding lines_reply
  lines_none ls e = rw e

  module _ (ls : List (List ℕ)) (l : List ℕ) (later : List (List ℕ)) (e : ls ≡ l ∷ later) where
    pub lines_fault : is_inside n after (holds_bic p l) l ≡ false → lines_reply p n after ls ≡ refused 32 n
    unfolding lines_reply
    lines_fault t = rw (e, t)

    pub lines_held : lines_reply p n after ls ≡ accepted → (is_inside n after (holds_bic p l) l ≡ true) × (lines_reply p (suc n) (after || holds_bic p l) later ≡ accepted)
    unfolding lines_reply
    lines_held t =
        let h : lines_reply p n after (l ∷ later) ≡ accepted = ap (lines_reply p n after) (sym e) ∙ t in
        (must_held _ 32 n (then_first _ _ h), then_second (must (is_inside n after (holds_bic p l) l) 32 n) _ h)

    pub lines_pass : is_inside n after (holds_bic p l) l ≡ true → lines_reply p n after ls ≡ lines_reply p (suc n) (after || holds_bic p l) later
    unfolding lines_reply
    lines_pass t = rw (e, t)

-- ---- a reading under the profile: the ordinary refusal stands, a line is at fault, or it is as it was
module _ (r : Reading) (body : List ℕ) where
  pub profiled_refused : {k n : ℕ} → r.reply ≡ refused k n → profiled r body ≡ refusing k n
  unfolding profiled
  profiled_refused e = rw e

  module _ (e : r.reply ≡ accepted) where
    pub profiled_by : {t : Reply} → profile_reply r.party body ≡ t → profiled r body ≡ giving t r.party
    unfolding profiled
    profiled_by f = rw (e, f)

    pub profiled_fault : {k n : ℕ} → profile_reply r.party body ≡ refused k n → profiled r body ≡ refusing k n
    profiled_fault f = profiled_by f

    pub profiled_pass : profile_reply r.party body ≡ accepted → profiled r body ≡ r
    profiled_pass f = profiled_by f ∙ λ i. record { reply = sym e i; party = r.party }
