-- When a text is a line, and when its bytes are plain. Assumes nothing.
use Prim.Native.Nat.{ℕ}
use mathlib.Core.Path.{◌≡◌, refl, sym, ap}
use mathlib.Core.Bool.{Bool, true, false, not, ◌&&◌, ◌||◌, and-false}
use mathlib.Core.List.{List, [], ◌∷◌}
use native.Mathlib.Omega.{arith}
use lib.Dec.{leb, eqb}
use lib.ListN.{length, length-take}
use borrow.Author.Tests.{leb-true, leb-false, eq-eqb, ne_eqb}
use Rattle.party.specs.declared.Text.{Text}
use Rattle.party.specs.Text.{text_most, used}
use Rattle.swift_utils.specs.Bytes.{all, among, legal}
use Rattle.swift_utils.specs.Classes.{plain}
use Rattle.field_utils.specs.Lines.{upto}
use Rattle.reader.proofs.LineCounts.{among_found, among_none}
use Rattle.writer.specs.Given.{is_line}

-- its used bytes, by whether its length passes 38
module _ (t : Text) (size : length t.bytes ≡ text_most) where
  pub line_whole : {b : Bool} → leb t.len text_most ≡ b → is_line (used t) ≡ (b && not (among (used t).bytes 10))
  unfolding is_line
  line_whole e = rw (← e) (ap (λ (b : Bool). b && not (among (used t).bytes 10)) (go (leb t.len text_most) refl))
    where
      go : (b : Bool) → leb t.len text_most ≡ b → eqb t.len (length (used t).bytes) ≡ b
      go true h = eq-eqb t.len (length (used t).bytes) (omega (arith, length-take t.len t.bytes, leb-true t.len text_most h))
      go false h = ne_eqb t.len (length (used t).bytes) (λ k. omega (arith, length-take t.len t.bytes, leb-false t.len text_most h))

-- a finder that reaches the end finds no LF
pub no_lf : (l : List ℕ) → leb (length l) (upto 10 l) ≡ not (among l 10)
no_lf l = go (leb (length l) (upto 10 l)) refl
  where
    go : (t : Bool) → leb (length l) (upto 10 l) ≡ t → t ≡ not (among l 10)
    go true e = rw (among_none l (leb-true (length l) (upto 10 l) e))
    go false e = rw (among_found l (leb-false (length l) (upto 10 l) e))

-- all bytes are plain where all are legal and none is an LF
one_more : (a e x y : Bool) → ((a && not e) && (x && not y)) ≡ ((a && x) && not (e || y))
one_more false e x y = refl
one_more true true x y = sym (and-false x)
one_more true false x y = refl

pub all_plain : (l : List ℕ) → all plain l ≡ (all legal l && not (among l 10))
all_plain [] = refl
all_plain (b ∷ l) = rw (all_plain l) (one_more (legal b) (eqb 10 b) (all legal l) (among l 10))
