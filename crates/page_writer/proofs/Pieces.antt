-- A text as its pieces, and how far a field of lines runs where an opening or end line follows it. Assumes nothing.
use mathlib.Core.Path.{◌≡◌, refl, sym, ◌∙◌, ap}
use mathlib.Core.Bool.{Bool, true, false}
use mathlib.Core.List.{List, [], ◌∷◌, ◌++◌, append_assoc}
use Prim.Native.Nat.{ℕ, suc, ◌≤◌, ◌<◌}
use native.Mathlib.Omega.{arith}
use lib.Dec.{leb, eqb}
use lib.ListN.{length, drop, take, length-append}
use borrow.Author.Tests.{eqb-true, leb-true, leb-false}
use Rattle.field_utils.specs.Lines.{upto, onto, is_empty}
use Rattle.field_utils.proofs.Tests.{none_more, Line, either_left, either_right}
use Rattle.writer.specs.Writing.{joined, pieces}
use Rattle.writer.proofs.Relined.{All, pieces_joined}
use Rattle.writer.proofs.Weights.{joined_onto}
use Rattle.page_reader.specs.Pages.{line_at, is_boundary, runs}
use Rattle.page_reader.proofs.Runs.{first_line_lem, line_all, no_lf, line_at_lem, lf_at, followed, followed_is, runs_stop, runs_on}
use Rattle.page_writer.specs.Adding.{any_line, any_boundary}
use lib.Seq.{take_at}

-- ---- any text is its pieces joined, and they are lines
pub record Pieces (text : List ℕ) : Type 0 where
  pub first : List ℕ
  pub later : List (List ℕ)
  pub are : pieces text ≡ first ∷ later
  pub joins : text ≡ joined (first ∷ later)
  pub lines : All Line (first ∷ later)

pub pieces_of : (text : List ℕ) → Pieces text
unfolding pieces joined onto
pieces_of [] = record { first = []; later = []; are = refl; joins = refl; lines = (refl, tt) }
pieces_of (b ∷ l) = go (eqb b 10) refl (pieces_of l)
  where
    go : (t : Bool) → eqb b 10 ≡ t → Pieces l → Pieces (b ∷ l)
    go true e p = record {
      first = [];
      later = p.first ∷ p.later;
      are = rw (e, pieces) (ap (◌∷◌ []) p.are);
      joins = ap (λ (c : ℕ). c ∷ l) (eqb-true b 10 e) ∙ ap (◌∷◌ 10) p.joins;
      lines = (refl, p.lines);
    }
    go false e p = record {
      first = b ∷ p.first;
      later = p.later;
      are = rw (e, pieces) (ap (onto b) p.are);
      joins = ap (◌∷◌ b) p.joins ∙ sym (joined_onto b (p.first ∷ p.later) (omega arith));
      lines = (none_more b p.first e p.lines.0, p.lines.1);
    }

-- ---- by the first LF
pub pieces_last : (s : List ℕ) → length s ≤ upto 10 s → pieces s ≡ s ∷ []
unfolding joined
pieces_last s h = pieces_joined (s ∷ []) (omega arith) (no_lf s h, tt)

pub pieces_lf : (s : List ℕ) → upto 10 s < length s → pieces s ≡ line_at s ∷ pieces (drop (suc (upto 10 s)) s)
unfolding joined
pieces_lf s h =
    let f = first_line_lem s in
    let p = pieces_of (drop (suc (upto 10 s)) s) in
    ap pieces (f.splits h ∙ ap (λ (t : List ℕ). line_at s ++ 10 ∷ t) p.joins)
    ∙ pieces_joined (line_at s ∷ p.first ∷ p.later) (omega arith) (f.line, p.lines) ∙ ap (◌∷◌ (line_at s)) (sym p.are)

-- the first piece is the line there
pub record First (s : List ℕ) : Type 0 where
  pub later : List (List ℕ)
  pub are : pieces s ≡ line_at s ∷ later

pub first : (s : List ℕ) → First s
first s = go (leb (length s) (upto 10 s)) refl
  where
    go : (t : Bool) → leb (length s) (upto 10 s) ≡ t → First s
    go true e =
        let h = leb-true (length s) (upto 10 s) e in
        record { later = []; are = pieces_last s h ∙ ap (λ (l : List ℕ). l ∷ []) (sym (line_all s h)) }
    go false e = record { later = pieces (drop (suc (upto 10 s)) s); are = pieces_lf s (leb-false (length s) (upto 10 s) e) }

-- ---- a field of lines, up to the first that is an opening or end line
abbrev pub up_to_boundary : List (List ℕ) → List (List ℕ)
up_to_boundary [] = []
up_to_boundary (m ∷ ms) = elim (is_boundary true m) [ true ↦ [] | false ↦ m ∷ up_to_boundary ms ]

pub none_cut : (ls : List (List ℕ)) → any_boundary ls ≡ false → up_to_boundary ls ≡ ls
unfolding any_line
none_cut [] e = refl
none_cut (m ∷ ms) e = rw (either_left (is_boundary true m) (any_boundary ms) e, up_to_boundary) (ap (◌∷◌ m) (none_cut ms (either_right (is_boundary true m) (any_boundary ms) e)))

-- what follows the part that is cut off
abbrev after_cut : List (List ℕ) → List ℕ → List ℕ
after_cut [] rest = rest
after_cut (m ∷ ms) rest = elim (is_boundary true m) [ true ↦ joined (m ∷ ms) ++ 10 ∷ rest | false ↦ after_cut ms rest ]

joined_more : (l m : List ℕ) (ms : List (List ℕ)) (rest : List ℕ) → joined (l ∷ m ∷ ms) ++ 10 ∷ rest ≡ l ++ 10 ∷ (joined (m ∷ ms) ++ 10 ∷ rest)
unfolding joined
joined_more l m ms rest = append_assoc l (10 ∷ joined (m ∷ ms)) (10 ∷ rest)

cut_at : (l : List ℕ) (ls : List (List ℕ)) (rest : List ℕ) → joined (l ∷ ls) ++ 10 ∷ rest ≡ joined (l ∷ up_to_boundary ls) ++ 10 ∷ after_cut ls rest
unfolding joined
cut_at l [] rest = refl
cut_at l (m ∷ ms) rest = go (is_boundary true m) refl (cut_at m ms rest)
  where
    go : (t : Bool) → is_boundary true m ≡ t → joined (m ∷ ms) ++ 10 ∷ rest ≡ joined (m ∷ up_to_boundary ms) ++ 10 ∷ after_cut ms rest
        → joined (l ∷ m ∷ ms) ++ 10 ∷ rest ≡ joined (l ∷ up_to_boundary (m ∷ ms)) ++ 10 ∷ after_cut (m ∷ ms) rest
    go true e ih = rw (e, up_to_boundary, after_cut) (joined_more l m ms rest)
    go false e ih =
        rw (e, up_to_boundary, after_cut)
        (joined_more l m ms rest ∙ ap (λ (x : List ℕ). l ++ 10 ∷ x) ih ∙ sym (joined_more l m (up_to_boundary ms) (after_cut ms rest)))

line_first : (m : List ℕ) (ms : List (List ℕ)) (rest : List ℕ) → Line m → line_at (joined (m ∷ ms) ++ 10 ∷ rest) ≡ m
unfolding joined
line_first m [] rest h = line_at_lem m rest h
line_first m (n ∷ ms) rest h = ap line_at (joined_more m n ms rest) ∙ line_at_lem m _ h

some_not : (x rest : List ℕ) → is_empty (x ++ 10 ∷ rest) ≡ false
some_not [] rest = refl
some_not (b ∷ x) rest = refl

-- such a field runs to the end of that part
pub runs_cut : (l : List ℕ) (ls : List (List ℕ)) (rest : List ℕ) → All Line (l ∷ ls) → followed rest ≡ true
    → runs (joined (l ∷ ls) ++ 10 ∷ rest) ≡ length (joined (l ∷ up_to_boundary ls))
unfolding joined
runs_cut l [] rest h e = runs_stop l rest h.0 e
runs_cut l (m ∷ ms) rest h e = go (is_boundary true m) refl (runs_cut m ms rest h.1 e)
  where
    s : List ℕ
    s = joined (m ∷ ms) ++ 10 ∷ rest

    by_line : {t : Bool} → is_boundary true m ≡ t → followed s ≡ t
    by_line q = followed_is s (some_not (joined (m ∷ ms)) rest) (ap (λ (t : Bool). is_boundary t (line_at s)) (lf_at (joined (m ∷ ms)) rest) ∙ ap (is_boundary true) (line_first m ms rest h.1.0) ∙ q)

    go : (t : Bool) → is_boundary true m ≡ t → runs s ≡ length (joined (m ∷ up_to_boundary ms)) → runs (joined (l ∷ m ∷ ms) ++ 10 ∷ rest) ≡ length (joined (l ∷ up_to_boundary (m ∷ ms)))
    go true q ih = ap runs (joined_more l m ms rest) ∙ rw (q, up_to_boundary) (runs_stop l s h.0 (by_line q))
    go false q ih =
        ap runs (joined_more l m ms rest) ∙ runs_on l s h.0 (by_line q)
        ∙ rw (q, up_to_boundary) (let k = length-append l (10 ∷ joined (m ∷ up_to_boundary ms)) in omega (arith, ih, k))

-- ---- the text of such a field
module _ (l : List ℕ) (ls : List (List ℕ)) (rest : List ℕ) (h : All Line (l ∷ ls)) (e : followed rest ≡ true) where
  abbrev S : List ℕ
  S = joined (l ∷ ls) ++ 10 ∷ rest

  pub text_cut : take (runs S) S ≡ joined (l ∷ up_to_boundary ls)
  text_cut =
      ap (take (runs S)) (cut_at l ls rest)
      ∙ take_at (joined (l ∷ up_to_boundary ls)) (10 ∷ after_cut ls rest) (runs S) (sym (runs_cut l ls rest h e))

  pub cut_within : suc (runs S) ≤ length S
  cut_within = omega (arith, runs_cut l ls rest h e, ap length (cut_at l ls rest), length-append (joined (l ∷ up_to_boundary ls)) (10 ∷ after_cut ls rest))

  pub first_cut : line_at S ≡ l
  first_cut = line_first l ls rest h.0
