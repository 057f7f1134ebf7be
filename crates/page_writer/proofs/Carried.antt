-- The pieces of a body that a page carries, one after the other, and positions to write at. Assumes nothing.
use mathlib.Core.Path.{◌≡◌, refl, sym, ◌∙◌, ap}
use mathlib.Core.Bool.{Bool, true, false, not, ◌&&◌, ◌||◌, and-false}
use mathlib.Core.List.{List, [], ◌∷◌}
use Prim.Native.Nat.{ℕ, zero, suc, ◌+◌, ◌-◌, ◌≤◌, ◌<◌}
use native.Mathlib.Omega.{arith}
use lib.Dec.{ltb, leb, eqb}
use lib.ListN.{length, take, drop, get_or, length-drop}
use lib.Seq.{drop-drop, take_all}
use borrow.Author.Tests.{eq-eqb, ne_eqb, le-ltb, lt-ltb, leb-true, leb-false}
use Rattle.swift_utils.proofs.Parts.{part}
use Rattle.field_utils.specs.Lines.{upto, is_empty}
use Rattle.writer.specs.Writing.{joined, pieces}
use Rattle.writer.specs.ReadBack.{ends_cr, last_empty}
use Rattle.writer.proofs.Relined.{cr_kept, pieces_joined}
use Rattle.page_reader.specs.Pages.{line_at, has_lf, opens, is_end, ends_page, is_boundary}
use Rattle.page_reader.proofs.Runs.{line_whole}
use Rattle.page_writer.specs.Adding.{any_line, any_cr, any_boundary, later_boundary, lines_carried}
use Rattle.page_writer.proofs.Pieces.{pieces_last, pieces_lf, first}

-- ---- 23's clauses on lines, one after the other
lines_one : (l : List ℕ) → lines_carried (l ∷ []) ≡ (not (ends_cr l) && not (is_empty l))
unfolding any_line last_empty later_boundary
lines_one l = go (ends_cr l) (is_empty l)
  where
    go : (c e : Bool) → (not (c || false) && not e && true) ≡ (not c && not e)
    go true e = refl
    go false true = refl
    go false false = refl

lines_more : (l m : List ℕ) (ls : List (List ℕ)) → lines_carried (l ∷ m ∷ ls) ≡ (not (ends_cr l) && not (is_boundary true m) && lines_carried (m ∷ ls))
unfolding any_line last_empty later_boundary
lines_more l m ls = go (last_empty (m ∷ ls)) (ends_cr l) (any_cr (m ∷ ls)) (is_boundary true m) (any_boundary ls)
  where
    go : (a c d m' n : Bool) → (not (c || d) && not a && not (m' || n)) ≡ (not c && not m' && (not d && not a && not n))
    go a true d m' n = refl
    go a false true true n = refl
    go a false true false n = refl
    go true false false true n = refl
    go true false false false n = refl
    go false false false true n = refl
    go false false false false n = refl

-- a last line that no LF closes yet ends the page as one that an LF closes, but for a CR at its end
open_line : (s : List ℕ) → (not (is_boundary true (line_at s)) && lines_carried (pieces s)) ≡ (not (is_boundary (has_lf s) (line_at s)) && lines_carried (pieces s))
unfolding ends_page joined
open_line s = go (has_lf s) refl
  where
    go : (t : Bool) → has_lf s ≡ t → (not (is_boundary true (line_at s)) && lines_carried (pieces s)) ≡ (not (is_boundary (has_lf s) (line_at s)) && lines_carried (pieces s))
    go true e = rw e
    go false e = rw (e, line_whole s e) (by_cr (ends_cr s) refl)
      where
        one : lines_carried (pieces s) ≡ (not (ends_cr s) && not (is_empty s))
        one = ap lines_carried (pieces_joined (s ∷ []) (omega arith) (e, tt)) ∙ lines_one s

        by_cr : (t : Bool) → ends_cr s ≡ t → (not (is_boundary true s) && lines_carried (pieces s)) ≡ (not (is_boundary false s) && lines_carried (pieces s))
        by_cr true c =
            let z : lines_carried (pieces s) ≡ false = one ∙ rw c in
            rw z (and-false (not (is_boundary true s)) ∙ sym (and-false (not (is_boundary false s))))
        by_cr false c = ap (λ (l : List ℕ). not (opens s || is_end l) && lines_carried (pieces s)) (cr_kept s c)

-- the pieces after an LF begin with the line there
pieces_more : (l s : List ℕ) → lines_carried (l ∷ pieces s) ≡ (not (ends_cr l) && not (is_boundary (has_lf s) (line_at s)) && lines_carried (pieces s))
pieces_more l s =
    let f = first s in
    ap (λ (ps : List (List ℕ)). lines_carried (l ∷ ps)) f.are ∙ lines_more l (line_at s) f.later
    ∙ sym (ap (λ (ps : List (List ℕ)). not (ends_cr l) && not (is_boundary true (line_at s)) && lines_carried ps) f.are)
    ∙ go (not (ends_cr l)) (not (is_boundary true (line_at s))) (not (is_boundary (has_lf s) (line_at s))) (open_line s)
  where
    go : (c a b : Bool) → (a && lines_carried (pieces s)) ≡ (b && lines_carried (pieces s)) → (c && a && lines_carried (pieces s)) ≡ (c && b && lines_carried (pieces s))
    go true a b e = e
    go false a b e = refl

-- from a position on, where the next LF stands at lf
module _ (body : List ℕ) (i lf : ℕ) (e : lf ≡ i + upto 10 (drop i body)) (k : i ≤ length body) where
  pub carried_last : length body ≤ lf → lines_carried (pieces (drop i body)) ≡ (not (ends_cr (part i lf body)) && not (is_empty (drop i body)))
  carried_last h =
      let n : length (drop i body) ≤ upto 10 (drop i body) = omega (arith, e, h, length-drop i body) in
      ap lines_carried (pieces_last (drop i body) n) ∙ lines_one (drop i body)
      ∙ ap (λ (l : List ℕ). not (ends_cr l) && not (is_empty (drop i body))) (sym (take_all (lf - i) (drop i body) (omega (arith, e, n))))

  pub carried_lf : lf < length body
      → lines_carried (pieces (drop i body)) ≡ (not (ends_cr (part i lf body)) && not (is_boundary (has_lf (drop (lf + 1) body)) (line_at (drop (lf + 1) body))) && lines_carried (pieces (drop (lf + 1) body)))
  unfolding line_at
  carried_lf h =
      let n : upto 10 (drop i body) ≡ lf - i = omega (arith, e) in
      let m : i + suc (upto 10 (drop i body)) ≡ lf + 1 = omega (arith, e) in
      ap lines_carried (pieces_lf (drop i body) (omega (arith, e, h, length-drop i body)))
      ∙ ap (λ (s : List ℕ). lines_carried (line_at (drop i body) ∷ pieces s)) (drop-drop (suc (upto 10 (drop i body))) i body ∙ ap (λ (k : ℕ). drop k body) m)
      ∙ ap (λ (k : ℕ). lines_carried (take k (drop i body) ∷ pieces (drop (lf + 1) body))) n
      ∙ pieces_more (part i lf body) (drop (lf + 1) body)

  pub carried_cr : ends_cr (part i lf body) ≡ true → lines_carried (pieces (drop i body)) ≡ false
  carried_cr c = go (leb (length body) lf) refl
    where
      go : (t : Bool) → leb (length body) lf ≡ t → lines_carried (pieces (drop i body)) ≡ false
      go true h = carried_last (leb-true (length body) lf h) ∙ rw c
      go false h = carried_lf (leb-false (length body) lf h) ∙ rw c

pub empty_is : (body : List ℕ) (i : ℕ) → not (is_empty (drop i body)) ≡ ltb i (length body)
empty_is body i = go (drop i body) (length-drop i body)
  where
    go : (s : List ℕ) → length s ≡ length body - i → not (is_empty s) ≡ ltb i (length body)
    go [] e = sym (le-ltb i (length body) (omega (arith, e)))
    go (b ∷ s) e = sym (lt-ltb i (length body) (omega (arith, e)))

-- ---- a piece that ends in CR
ends_byte : (l : List ℕ) (n : ℕ) → length l ≡ suc n → ends_cr l ≡ eqb (get_or l n 0) 13
unfolding ends_cr
ends_byte [] n h = absurd (omega arith)
ends_byte (b ∷ []) zero h = refl
ends_byte (b ∷ []) (suc n) h = absurd (omega arith)
ends_byte (b ∷ a ∷ l) zero h = absurd (omega arith)
ends_byte (b ∷ a ∷ l) (suc n) h = ends_byte (a ∷ l) n (omega arith)

pub cr_empty : (l : List ℕ) → length l < 1 → ends_cr l ≡ false
unfolding ends_cr
cr_empty [] h = refl
cr_empty (b ∷ l) h = absurd (omega arith)

pub cr_last : (l : List ℕ) → 1 ≤ length l → get_or l (length l - 1) 0 ≡ 13 → ends_cr l ≡ true
cr_last l h e = ends_byte l (length l - 1) (omega (arith, h)) ∙ eq-eqb (get_or l (length l - 1) 0) 13 e

pub cr_none : (l : List ℕ) → 1 ≤ length l → (get_or l (length l - 1) 0 ≡ 13 → ⊥) → ends_cr l ≡ false
cr_none l h n = ends_byte l (length l - 1) (omega (arith, h)) ∙ ne_eqb (get_or l (length l - 1) 0) 13 n
