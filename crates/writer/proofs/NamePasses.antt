-- What lines of names that pass have, whatever body lines they are. Assumes nothing.
use mathlib.Core.Path.{◌≡◌, refl, sym, ◌∙◌, ap}
use mathlib.Core.Bool.{Bool, true, false, ◌&&◌, false≢true, true≢false}
use mathlib.Core.List.{List, [], ◌∷◌, ◌++◌, map}
use Prim.Native.Nat.{ℕ, zero, suc, ◌+◌, ◌≤◌}
use native.Mathlib.Omega.{arith}
use lib.Dec.{leb, eqb}
use lib.ListN.{length, drop, get_or, length-drop}
use borrow.Author.Tests.{leb-true, le-leb, eqb-true, ne_eqb}
use Rattle.errors.specs.Refusals.{Reply, accepted, refused, must}
use Rattle.errors.proofs.Replies.{must_held, then_first, then_second, must_passes, then_passes}
use Rattle.party.specs.declared.PartyOption.{PartyOption}
use Rattle.party.specs.Limits.{limits_of}
use Rattle.party.specs.Text.{Used}
use Rattle.party.specs.Party.{where_numbered}
use Rattle.party.specs.declared.Numbering.{Numbering}
use Rattle.party.specs.declared.Numbering.TheVariants.{Unnumbered, Numbered, InTurn}
use Rattle.swift_utils.specs.Bytes.{all, between, digit, legal}
use Rattle.swift_utils.specs.Checks.{parse_swift_chars}
use Rattle.field_utils.specs.Identifier.{is_numbered}
use Rattle.field_utils.specs.Names.{skip_of, parse_number, parse_line, parse_lines, parse_name_and_address, kept, digit_of}
use Rattle.field_utils.proofs.Tests.{both_left, both_right, both, none_more, rest_not, Line}
use Rattle.writer.specs.Writing.{number_of, name_lines}
use Rattle.writer.specs.Given.{passes, every, is_line}
use Rattle.writer.proofs.Relined.{All}
use Rattle.writer.proofs.Contents.{used_of, bytes_of, Short, line_free}

-- a reply that passes
pub passed : (r : Reply) → passes r ≡ true → r ≡ accepted
passed accepted e = refl
passed (refused k n) e = absurd (false≢true e)

pub passing : (r : Reply) → r ≡ accepted → passes r ≡ true
passing r e = rw e

-- the number of a line that is the k-th of the names
abbrev pub is_number : Numbering → ℕ → List ℕ → Bool
is_number Unnumbered k l = true
is_number Numbered k l = is_numbered l
is_number InTurn k l = is_numbered l && eqb (get_or l 0 0) (48 + k)

number_held : (f : Numbering) (n k : ℕ) (l : List ℕ) → parse_number f n k l ≡ accepted → is_number f k l ≡ true
number_held Unnumbered n k l e = refl
number_held Numbered n k l e = must_held (is_numbered l) 5 n e
number_held InTurn n k l e =
    both (is_numbered l) (eqb (get_or l 0 0) (48 + k)) (must_held (is_numbered l) 5 n (then_first _ _ e)) (must_held (eqb (get_or l 0 0) (48 + k)) 6 n (then_second (must (is_numbered l) 5 n) _ e))

number_passes : (f : Numbering) (n k : ℕ) (l : List ℕ) → is_number f k l ≡ true → parse_number f n k l ≡ accepted
number_passes Unnumbered n k l e = refl
number_passes Numbered n k l e = must_passes (is_numbered l) 5 n e
number_passes InTurn n k l e =
    then_passes _ _ (must_passes (is_numbered l) 5 n (both_left (is_numbered l) _ e)) (must_passes (eqb (get_or l 0 0) (48 + k)) 6 n (both_right (is_numbered l) _ e))

-- a line that passes
pub record Passes (f : Numbering) (longest k : ℕ) (l : List ℕ) : Type 0 where
  pub number : is_number f k l ≡ true
  pub long : length (drop (skip_of f) l) ≤ longest
  pub chars : all legal (drop (skip_of f) l) ≡ true

-- lines that pass
abbrev pub AllPass : Numbering → ℕ → ℕ → List (List ℕ) → Type 0
AllPass f longest k [] = Unit {0}
AllPass f longest k (l ∷ ls) = Passes f longest k l × AllPass f longest (suc k) ls

module _ (f : Numbering) (longest : ℕ) where
  line_held : (n k : ℕ) (l : List ℕ) → parse_line f longest n k l ≡ accepted → Passes f longest k l
  unfolding parse_line parse_swift_chars
  line_held n k l e =
      let later = then_second (parse_number f n k l) _ e in
      record {
        number = number_held f n k l (then_first _ _ e);
        long = leb-true _ _ (must_held (leb (length (drop (skip_of f) l)) longest) 4 n (then_first _ _ later));
        chars = must_held (all legal (drop (skip_of f) l)) 3 n (then_second (must (leb (length (drop (skip_of f) l)) longest) 4 n) _ later);
      }

  line_passes : (n k : ℕ) (l : List ℕ) → Passes f longest k l → parse_line f longest n k l ≡ accepted
  unfolding parse_line parse_swift_chars
  line_passes n k l h =
      then_passes _ _ (number_passes f n k l h.number)
      (then_passes _ _ (must_passes (leb (length (drop (skip_of f) l)) longest) 4 n (le-leb _ _ h.long)) (must_passes (all legal (drop (skip_of f) l)) 3 n h.chars))

  lines_held : (n k : ℕ) (ls : List (List ℕ)) → parse_lines f longest n k ls ≡ accepted → AllPass f longest k ls
  unfolding parse_lines
  lines_held n k [] e = tt
  lines_held n k (l ∷ ls) e = (line_held n k l (then_first _ _ e), lines_held (suc n) (suc k) ls (then_second (parse_line f longest n k l) _ e))

  lines_pass : (n k : ℕ) (ls : List (List ℕ)) → AllPass f longest k ls → parse_lines f longest n k ls ≡ accepted
  unfolding parse_lines
  lines_pass n k [] h = refl
  lines_pass n k (l ∷ ls) h = then_passes _ _ (line_passes n k l h.0) (lines_pass (suc n) (suc k) ls h.1)

-- names that pass
pub record NamesPass (o : PartyOption) (ls : List (List ℕ)) : Type 0 where
  pub each : AllPass (limits_of o).numbering (limits_of o).name_max 1 ls
  pub least : 1 ≤ length ls
  pub most : length ls ≤ (limits_of o).max_names

module _ (o : PartyOption) (n : ℕ) (ls : List (List ℕ)) where
  pub names_held : parse_name_and_address o n ls ≡ accepted → NamesPass o ls
  unfolding parse_name_and_address
  names_held e =
      let counted = must_held (between 1 (limits_of o).max_names (length ls)) 7 0 (then_second (parse_lines (limits_of o).numbering (limits_of o).name_max n 1 ls) _ e) in
      record {
        each = lines_held (limits_of o).numbering (limits_of o).name_max n 1 ls (then_first _ _ e);
        least = leb-true _ _ (both_left (leb 1 (length ls)) (leb (length ls) (limits_of o).max_names) counted);
        most = leb-true _ _ (both_right (leb 1 (length ls)) (leb (length ls) (limits_of o).max_names) counted);
      }

  pub names_pass_lem : NamesPass o ls → parse_name_and_address o n ls ≡ accepted
  unfolding parse_name_and_address
  names_pass_lem h =
      then_passes _ _ (lines_pass (limits_of o).numbering (limits_of o).name_max n 1 ls h.each)
      (must_passes (between 1 (limits_of o).max_names (length ls)) 7 0 (both _ _ (le-leb _ _ h.least) (le-leb _ _ h.most)))

-- ---- the lines that are written of names, and the names that are kept of lines
module _ (f : Numbering) where
  pub written_length_lem : (ds : List ℕ) (us : List Used) → length (name_lines f ds us) ≡ length us
  unfolding name_lines
  written_length_lem ds [] = refl
  written_length_lem ds (u ∷ us) = ap suc (written_length_lem (drop 1 ds) us)

kept_number : (f : Numbering) (d : ℕ) (x : List ℕ) → kept f (number_of f d ++ x) ≡ x
kept_number Unnumbered d x = refl
kept_number Numbered d x = refl
kept_number InTurn d x = refl

pub kept_written : (f : Numbering) (ds : List ℕ) (us : List Used) → map (kept f) (name_lines f ds us) ≡ map bytes_of us
unfolding name_lines
kept_written f ds [] = refl
kept_written f ds (u ∷ us) =
    ap (λ (x : List ℕ). x ∷ map (kept f) (name_lines f (drop 1 ds) us)) (kept_number f (get_or ds 0 0) u.bytes) ∙ ap (◌∷◌ u.bytes) (kept_written f (drop 1 ds) us)

-- a digit is no LF, and there is none where there is no digit
digit_line : (d : ℕ) → digit d ≡ true → eqb d 10 ≡ false
unfolding digit
digit_line d e = ne_eqb d 10 (λ h. true≢false (sym e ∙ ap digit h))

no_digit : (x : List ℕ) → is_numbered (0 ∷ x) ≡ true → ⊥
unfolding is_numbered digit
no_digit [] e = false≢true e
no_digit (b ∷ x) e = false≢true e

number_line : (f : Numbering) (k d : ℕ) (x : List ℕ) → is_number f k (number_of f d ++ x) ≡ true → Line x → Line (number_of f d ++ x)
unfolding is_numbered
number_line Unnumbered k d x e h = h
number_line Numbered k d x e h = none_more d (47 ∷ x) (digit_line d (both_left (digit d) true e)) (none_more 47 x refl h)
number_line InTurn k d x e h = h

pub written_lines_lem : (f : Numbering) (longest k : ℕ) (ds : List ℕ) (us : List Used) → every is_line us ≡ true → AllPass f longest k (name_lines f ds us)
    → All Line (name_lines f ds us)
unfolding name_lines
written_lines_lem f longest k ds [] h p = tt
written_lines_lem f longest k ds (u ∷ us) h p = (
  number_line f k (get_or ds 0 0) u.bytes p.0.number (line_free u (both_left (is_line u) (every is_line us) h)),
  written_lines_lem f longest (suc k) (drop 1 ds) us (both_right (is_line u) (every is_line us) h) p.1,
)

-- the digits of written lines that pass are those that were written
pub digits_back : (f : Numbering) (longest k : ℕ) (ds : List ℕ) (us : List Used) → length ds ≤ length us → AllPass f longest k (name_lines f (where_numbered f ds) us)
    → where_numbered f (map (digit_of f) (name_lines f (where_numbered f ds) us)) ≡ where_numbered f ds
unfolding name_lines
digits_back Unnumbered longest k ds us h p = refl
digits_back InTurn longest k ds us h p = refl
digits_back Numbered longest k [] [] h p = refl
digits_back Numbered longest k (d ∷ ds) [] h p = absurd (omega arith)
digits_back Numbered longest k [] (u ∷ us) h p = absurd (no_digit (47 ∷ u.bytes) p.0.number)
digits_back Numbered longest k (d ∷ ds) (u ∷ us) h p = ap (◌∷◌ d) (digits_back Numbered longest (suc k) ds us (omega arith) p.1)

-- ---- lines that pass are written again of what is kept of them and of their digits
abbrev pub again : Numbering → List (List ℕ) → List (List ℕ)
again f ls = name_lines f (where_numbered f (map (digit_of f) ls)) (map used_of (map (kept f) ls))

numbered_again : (l : List ℕ) → is_numbered l ≡ true → (get_or l 0 0 ∷ 47 ∷ drop 2 l) ≡ l
unfolding is_numbered
numbered_again [] e = absurd (false≢true e)
numbered_again (d ∷ []) e = absurd (false≢true e)
numbered_again (d ∷ s ∷ l) e = ap (λ (b : ℕ). d ∷ b ∷ l) (sym (eqb-true s 47 (both_right (digit d) (eqb s 47) e)))

line_again : (f : Numbering) (longest k : ℕ) (l : List ℕ) (ds : List ℕ) → Passes f longest k l
    → number_of f (get_or (where_numbered f (digit_of f l ∷ ds)) 0 0) ++ kept f l ≡ l
line_again Unnumbered longest k l ds p = refl
line_again Numbered longest k l ds p = numbered_again l p.number
line_again InTurn longest k l ds p = refl

later_digits : (f : Numbering) (d : ℕ) (ds : List ℕ) → drop 1 (where_numbered f (d ∷ ds)) ≡ where_numbered f ds
later_digits Unnumbered d ds = refl
later_digits Numbered d ds = refl
later_digits InTurn d ds = refl

pub again_same : (f : Numbering) (longest k : ℕ) (ls : List (List ℕ)) → AllPass f longest k ls → again f ls ≡ ls
unfolding name_lines
again_same f longest k [] p = refl
again_same f longest k (l ∷ ls) p =
    let us = map used_of (map (kept f) ls) in
    ap (λ (w : List ℕ). w ∷ name_lines f (drop 1 (where_numbered f (digit_of f l ∷ map (digit_of f) ls))) us) (line_again f longest k l (map (digit_of f) ls) p.0)
    ∙ ap (λ (ds : List ℕ). l ∷ name_lines f ds us) (later_digits f (digit_of f l) (map (digit_of f) ls))
    ∙ ap (◌∷◌ l) (again_same f longest (suc k) ls p.1)

-- what is kept of lines fits a text, and is a line
kept_most : (f : Numbering) (l : List ℕ) → length (kept f l) ≤ length (drop (skip_of f) l) + 2
kept_most Unnumbered l = omega arith
kept_most Numbered l = omega arith
kept_most InTurn l = omega (arith, length-drop 2 l)

pub kept_short : (f : Numbering) (longest k : ℕ) (ls : List (List ℕ)) → longest ≤ 36 → AllPass f longest k ls → All Short (map (kept f) ls)
kept_short f longest k [] h p = tt
kept_short f longest k (l ∷ ls) h p = (omega (arith, kept_most f l, p.0.long), kept_short f longest (suc k) ls h p.1)

pub drop_line : (n : ℕ) (l : List ℕ) → Line l → Line (drop n l)
drop_line zero l h = h
drop_line (suc n) [] h = refl
drop_line (suc n) (b ∷ l) h = drop_line n l (rest_not b l h)

kept_line : (f : Numbering) (l : List ℕ) → Line l → Line (kept f l)
kept_line Unnumbered l h = h
kept_line Numbered l h = drop_line 2 l h
kept_line InTurn l h = h

pub kept_lines : (f : Numbering) (ls : List (List ℕ)) → All Line ls → All Line (map (kept f) ls)
kept_lines f [] h = tt
kept_lines f (l ∷ ls) h = (kept_line f l h.0, kept_lines f ls h.1)
