-- The Rust's lines are document 01's. Assumes nothing.
use mathlib.Core.Path.{◌≡◌, refl, sym, ◌∙◌, ap}
use mathlib.Core.Bool.{true, false, ◌&&◌, and-false}
use mathlib.Core.List.{List, [], ◌∷◌, map}
use mathlib.Core.Option
use mathlib.Core.Option.{Option, none, some, get_or}
use Prim.Native.Nat.{ℕ}
use lib.Dec.{eqb}
use borrow.Author.Tests.{eqb-true}
use Rattle.field_utils.specs.Lines.{onto, starts, lines}
use Rattle.swift_mt_message.specs.Std.{Str, newline, return, in_front, split_inclusive, strip_suffix, line_of, let_lines}
use Rattle.swift_mt_message.specs.Std as S
use Rattle.swift_mt_message.proofs.Results.{by_test}

-- a piece of one byte, or of one and a newline
line_one : (b : ℕ) → eqb b newline ≡ false → line_of (b ∷ []) ≡ b ∷ []
unfolding line_of strip_suffix
line_one b e = rw (e, line_of)

line_ended : (b : ℕ) → eqb b return ≡ false → line_of (b ∷ newline ∷ []) ≡ b ∷ []
unfolding line_of strip_suffix
line_ended b e = rw (e, strip_suffix)

-- a byte in front of a longer piece stays
line_front : (b c : ℕ) (p : Str) → eqb c newline ≡ false → line_of (b ∷ c ∷ p) ≡ b ∷ line_of (c ∷ p)
unfolding line_of strip_suffix
line_front b c [] e = rw (e, line_of)
line_front b c (d ∷ p) e = go (strip_suffix (d ∷ p) newline) refl
  where
    kept : (t : Str) (o : Option Str) → get_or (Option.map (λ s. b ∷ s) o) (b ∷ t) ≡ b ∷ get_or o t
    kept t none = refl
    kept t (some s) = refl

    go : (o : Option Str) → strip_suffix (d ∷ p) newline ≡ o → line_of (b ∷ c ∷ d ∷ p) ≡ b ∷ line_of (c ∷ d ∷ p)
    go none f = rw (f, line_of)
    go (some t) f = rw (f, line_of) (kept (c ∷ t) (strip_suffix (c ∷ t) return))

fronts : (b c : ℕ) (ps : List Str) → eqb c newline ≡ false → map line_of (in_front b (in_front c ps)) ≡ onto b (map line_of (in_front c ps))
unfolding in_front onto
fronts b c [] e = ap (λ (l : Str). l ∷ []) (line_front b c [] e)
fronts b c (p ∷ ps) e = ap (λ (l : Str). l ∷ map line_of ps) (line_front b c p e)

-- the clauses of both
module _ (b : ℕ) (s : Str) where
  split_newline : eqb b newline ≡ true → split_inclusive (b ∷ s) ≡ (b ∷ []) ∷ split_inclusive s
  unfolding split_inclusive
  split_newline e = rw (e, split_inclusive)

  split_other : eqb b newline ≡ false → split_inclusive (b ∷ s) ≡ in_front b (split_inclusive s)
  unfolding split_inclusive
  split_other e = rw (e, split_inclusive)

  lines_newline : eqb b newline ≡ true → lines (b ∷ s) ≡ [] ∷ lines s
  unfolding lines
  lines_newline e = rw (e, lines)

  lines_dropped : eqb b newline ≡ false → (eqb b return && starts newline s) ≡ true → lines (b ∷ s) ≡ lines s
  unfolding lines
  lines_dropped e f = rw (e, lines) (rw (f, lines))

  lines_kept : eqb b newline ≡ false → (eqb b return && starts newline s) ≡ false → lines (b ∷ s) ≡ onto b (lines s)
  unfolding lines
  lines_kept e f = rw (e, lines) (rw (f, lines))

-- a byte that is no newline: before no byte, before a newline, and before another byte
module _ (b : ℕ) (e : eqb b newline ≡ false) where
  last_byte : S.lines (b ∷ []) ≡ lines (b ∷ [])
  unfolding split_inclusive in_front lines starts onto
  last_byte = ap (map line_of) (split_other b [] e) ∙ ap (λ (l : Str). l ∷ []) (line_one b e) ∙ sym (lines_kept b [] e (and-false (eqb b return)))

  module _ (c : ℕ) (s : Str) where
    before_newline : eqb c newline ≡ true → S.lines s ≡ lines s → S.lines (b ∷ c ∷ s) ≡ lines (b ∷ c ∷ s)
    unfolding in_front starts onto line_of strip_suffix
    before_newline f h =
        ap (map line_of) (split_other b (c ∷ s) e ∙ ap (in_front b) (split_newline c s f))
        ∙ by_test (eqb b return)
        (λ g.
        rw (eqb-true b return g, eqb-true c newline f) (ap (λ (ls : List Str). [] ∷ ls) h) ∙ sym (lines_dropped b (c ∷ s) e (rw (g, f)) ∙ lines_newline c s f))
        (λ g.
        rw (eqb-true c newline f, line_ended b g) (ap (λ (ls : List Str). (b ∷ []) ∷ ls) h) ∙ sym (lines_kept b (c ∷ s) e (rw g) ∙ ap (onto b) (lines_newline c s f)))

    before_other : eqb c newline ≡ false → S.lines (c ∷ s) ≡ lines (c ∷ s) → S.lines (b ∷ c ∷ s) ≡ lines (b ∷ c ∷ s)
    unfolding starts
    before_other f h =
        ap (map line_of) (split_other b (c ∷ s) e ∙ ap (in_front b) (split_other c s f))
        ∙ fronts b c (split_inclusive s) f
        ∙ ap (onto b) (sym (ap (map line_of) (split_other c s f)) ∙ h)
        ∙ sym (lines_kept b (c ∷ s) e (rw f (and-false (eqb b return))))

-- a newline
at_newline : (b : ℕ) (s : Str) → eqb b newline ≡ true → S.lines s ≡ lines s → S.lines (b ∷ s) ≡ lines (b ∷ s)
unfolding line_of strip_suffix
at_newline b s e h =
    ap (map line_of) (split_newline b s e)
    ∙ rw (eqb-true b newline e) (ap (λ (ls : List Str). [] ∷ ls) h)
    ∙ sym (lines_newline b s e)

pub same_lines : (s : Str) → S.lines s ≡ lines s
unfolding split_inclusive lines
same_lines [] = refl
same_lines (b ∷ []) = by_test (eqb b newline) (λ e. at_newline b [] e refl) (λ e. last_byte b e)
same_lines (b ∷ c ∷ s) =
    by_test
    (eqb b newline)
    (λ e. at_newline b (c ∷ s) e (same_lines (c ∷ s)))
    (λ e. by_test (eqb c newline) (λ f. before_newline b e c s f (same_lines s)) (λ f. before_other b e c s f (same_lines (c ∷ s))))

-- the Rust's statements on the lines of a body
pub collected : {A : Type 0} (body : Str) (rest : List Str → A) → let_lines body rest ≡ rest (lines body)
unfolding let_lines
collected body rest = ap rest (same_lines body)
