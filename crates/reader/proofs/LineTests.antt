-- The cases of the tests on lines. Assumes nothing.
use mathlib.Core.Path.{◌≡◌, refl, sym, ◌∙◌, ap}
use mathlib.Core.Bool.{Bool, true, false, ◌&&◌, ◌||◌, and-true, and-false, false≢true}
use mathlib.Core.List.{List, [], ◌∷◌}
use Prim.Native.Nat.{ℕ, ◌≤◌, ◌<◌}
use lib.Dec.{leb, eqb}
use lib.ListN.{length, drop, length-drop}
use native.Mathlib.Omega.{arith}
use borrow.Author.Tests.{eqb-true, ne_eqb, le-leb, lt-leb}
use Rattle.swift_utils.specs.Bytes.{all, alphanumeric}
use Rattle.swift_utils.specs.Checks.{bic_length}
use Rattle.field_utils.specs.Identifier.{is_numbered}
use Rattle.field_utils.specs.Lines.{onto, starts, lines}
use Rattle.reader.specs.Detection.{any_numbered, first_line, last_line, bic_like, test_line}
use Rattle.reader.specs.ChoicesCode.{short_bic_line}

-- a line is numbered: the first, or one after it
pub any_split : (ls : List (List ℕ)) → any_numbered ls ≡ (is_numbered (first_line ls) || any_numbered (drop 1 ls))
unfolding any_numbered first_line is_numbered
any_split [] = refl
any_split (l ∷ ls) = refl

-- the last line of all is that of those left, or the last one passed
abbrev pub last_or : List ℕ → List (List ℕ) → List ℕ
last_or l [] = l
last_or l (m ∷ ls) = last_or m ls

pub last_or_lem : (ls : List (List ℕ)) → last_line ls ≡ last_or [] ls
unfolding last_line
last_or_lem [] = refl
last_or_lem (l ∷ []) = refl
last_or_lem (l ∷ m ∷ ls) = last_or_lem (m ∷ ls)

pub bic_other : (l : List ℕ) → bic_length (length l) ≡ false → bic_like l ≡ false
unfolding bic_like
bic_other l e = rw e

pub bic_letters : (l : List ℕ) → bic_length (length l) ≡ true → bic_like l ≡ all alphanumeric l
unfolding bic_like
bic_letters l e = rw e

-- a list starts with one byte
one_start : (c d : ℕ) (l : List ℕ) → starts c l ≡ true → starts d l ≡ eqb c d
unfolding starts
one_start c d [] e = absurd (false≢true e)
one_start c d (a ∷ l) e = ap (λ (n : ℕ). eqb n d) (eqb-true a c e)

onto_starts : (d b : ℕ) (ls : List (List ℕ)) → starts d (first_line (onto b ls)) ≡ eqb b d
unfolding starts first_line onto
onto_starts d b [] = refl
onto_starts d b (l ∷ ls) = refl

-- the first line has a slash where the text has
pub slash_at : (s : List ℕ) → starts 47 (first_line (lines s)) ≡ starts 47 s
unfolding starts first_line lines
slash_at [] = refl
slash_at (b ∷ l) = go (eqb b 10) (eqb b 13) (starts 10 l) refl refl refl (slash_at l)
  where
    go : (t u v : Bool) → eqb b 10 ≡ t → eqb b 13 ≡ u → starts 10 l ≡ v → starts 47 (first_line (lines l)) ≡ starts 47 l
        → starts 47 (first_line (lines (b ∷ l))) ≡ eqb b 47
    go true u v e f g ih = rw (e, lines) (sym (ne_eqb b 47 (λ q. omega (arith, eqb-true b 10 e))))
    go false true true e f g ih = rw (e, f, g, lines) (ih ∙ one_start 10 47 l g ∙ sym (ne_eqb b 47 (λ q. omega (arith, eqb-true b 13 f))))
    go false true false e f g ih = rw (e, f, g, lines) (onto_starts 47 b (lines l))
    go false false v e f g ih = rw (e, f, lines) (onto_starts 47 b (lines l))

-- the line that is tested for a number, by the first byte of the text
module _ (s : List ℕ) {t : Bool} (e : t ≡ starts 47 s) where
  pub test_second : t ≡ true → test_line (lines s) ≡ first_line (drop 1 (lines s))
  unfolding test_line
  test_second f = rw (slash_at s ∙ sym e ∙ f, test_line)

  pub test_first : t ≡ false → test_line (lines s) ≡ first_line (lines s)
  unfolding test_line
  test_first f = rw (slash_at s ∙ sym e ∙ f, test_line)

-- the line that 59A takes for its BIC, by the length of the first
module _ (ls : List (List ℕ)) where
  pub short_long : 35 < length (first_line ls) → short_bic_line ls ≡ first_line ls
  unfolding short_bic_line
  short_long h = rw (lt-leb (length (drop 1 (first_line ls))) 34 (omega (arith, length-drop 1 (first_line ls))), and-false (starts 47 (first_line ls)), short_bic_line)

  pub short_fits : length (first_line ls) ≤ 35 → short_bic_line ls ≡ test_line ls
  unfolding short_bic_line test_line
  short_fits h = rw (le-leb (length (drop 1 (first_line ls))) 34 (omega (arith, length-drop 1 (first_line ls))), and-true (starts 47 (first_line ls)), short_bic_line)

-- where a line after the first is numbered, there are 2 or more
pub later_two : (ls : List (List ℕ)) → (leb 2 (length ls) && any_numbered (drop 1 ls)) ≡ any_numbered (drop 1 ls)
unfolding any_numbered
later_two [] = refl
later_two (l ∷ []) = refl
later_two (l ∷ m ∷ ls) = ap (λ (t : Bool). t && any_numbered (m ∷ ls)) (le-leb 2 (length (l ∷ m ∷ ls)) (omega arith))
