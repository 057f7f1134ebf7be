-- The lines of a body under the network profile are lines that a page carries, and so are those that are written of them. Assumes nothing.
use mathlib.Core.Path.{◌≡◌, refl, sym, ◌∙◌, ap}
use mathlib.Core.Bool.{Bool, true, false, not, ◌&&◌, ◌||◌, true≢false}
use mathlib.Core.List.{List, [], ◌∷◌, ◌++◌}
use Prim.Native.Nat.{ℕ, zero, suc, ◌<◌}
use native.Mathlib.Omega.{arith}
use lib.Dec.{eqb}
use lib.ListN.{length, take, drop}
use borrow.Author.Tests.{ne_eqb, not-true}
use Rattle.errors.specs.Refusals.{accepted, must}
use Rattle.errors.proofs.Replies.{must_held, then_second}
use Rattle.party.specs.declared.Party.{Party}
use Rattle.swift_utils.specs.Bytes.{all, letter, digit, alphanumeric, narrow_signs, narrow}
use Rattle.swift_utils.specs.Checks.{bic_length, parse_bic}
use Rattle.field_utils.specs.Lines.{starts, is_empty, lines}
use Rattle.field_utils.specs.Trim.{white, trimmed_start, keep, trimmed_end, trimmed}
use Rattle.field_utils.proofs.Tests.{both_left, both_right, both, either_left, either_right, neither, is_not}
use Rattle.profile.specs.Profile.{holds_bic, is_opening, lines_reply, profile_reply}
use Rattle.profile.proofs.Laws.{inside_has, lines_held}
use Rattle.writer.specs.ReadBack.{ends_cr, last_empty}
use Rattle.writer.proofs.Relined.{All}
use Rattle.writer.proofs.Back.{bic_least}
use Rattle.page_reader.specs.Pages.{opens, ends_page, is_boundary}
use Rattle.page_reader.proofs.EndLines.{ends_not}
use Rattle.page_writer.specs.Adding.{any_line, any_cr, any_boundary, later_boundary, lines_carried}

-- ---- lines that a page carries: the first, one after it, and all
pub record Front (l : List ℕ) : Type 0 where
  pub cr : ends_cr l ≡ false
  pub some : is_empty l ≡ false

pub record Later (l : List ℕ) : Type 0 where
  pub front : Front l
  pub inner : is_boundary true l ≡ false

abbrev pub Carried : List (List ℕ) → Type 0
Carried [] = Unit {0}
Carried (l ∷ ls) = Front l × All Later ls

later_crs : (ls : List (List ℕ)) → All Later ls → any_cr ls ≡ false
unfolding any_line
later_crs [] h = refl
later_crs (l ∷ ls) h = neither (ends_cr l) (any_cr ls) h.0.front.cr (later_crs ls h.1)

later_boundaries : (ls : List (List ℕ)) → All Later ls → any_boundary ls ≡ false
unfolding any_line
later_boundaries [] h = refl
later_boundaries (l ∷ ls) h = neither (is_boundary true l) (any_boundary ls) h.0.inner (later_boundaries ls h.1)

last_some : (l : List ℕ) (ls : List (List ℕ)) → Front l → All Later ls → last_empty (l ∷ ls) ≡ false
unfolding last_empty
last_some l [] f h = f.some
last_some l (m ∷ ls) f h = last_some m ls h.0.front h.1

pub carried_lines : (ls : List (List ℕ)) → 0 < length ls → Carried ls → lines_carried ls ≡ true
unfolding any_line later_boundary
carried_lines [] n h = absurd (omega arith)
carried_lines (l ∷ ls) n h =
    both (not (any_cr (l ∷ ls)) && not (last_empty (l ∷ ls))) (not (later_boundary (l ∷ ls)))
    (both (not (any_cr (l ∷ ls))) (not (last_empty (l ∷ ls))) (is_not _ (neither (ends_cr l) (any_cr ls) h.0.cr (later_crs ls h.1))) (is_not _ (last_some l ls h.0 h.1)))
    (is_not _ (later_boundaries ls h.1))

-- ---- lines under the profile
-- a line does not end in CR where CR fails a test that all its bytes pass
all_cr : (f : ℕ → Bool) → f 13 ≡ false → (l : List ℕ) → all f l ≡ true → ends_cr l ≡ false
unfolding ends_cr
all_cr f h [] e = refl
all_cr f h (b ∷ []) e = ne_eqb b 13 (λ q. true≢false (sym (both_left (f b) true e) ∙ ap f q ∙ h))
all_cr f h (b ∷ a ∷ l) e = all_cr f h (a ∷ l) (both_right (f b) (all f (a ∷ l)) e)

narrow_cr : (l : List ℕ) → all narrow l ≡ true → ends_cr l ≡ false
unfolding letter digit alphanumeric narrow_signs narrow
narrow_cr l e = all_cr narrow refl l e

later_opening : (n : ℕ) (l : List ℕ) → is_opening (suc (suc n)) l ≡ true → is_boundary true l ≡ false
later_opening n l e =
    let h : (starts 58 l || starts 45 l) ≡ false = not-true _ (rw (ne_eqb (suc (suc n)) 1 (λ q. omega (arith, q))) at e) in
    neither (opens l) (ends_page true l) (either_left (starts 58 l) (starts 45 l) h) (ends_not true l (either_right (starts 58 l) (starts 45 l) h))

under_later : (p : Party) (n : ℕ) (after : Bool) (ls : List (List ℕ)) → lines_reply p (suc (suc n)) after ls ≡ accepted → All Later ls
under_later p n after [] e = tt
under_later p n after (l ∷ ls) e =
    let h = lines_held p (suc (suc n)) after (l ∷ ls) l ls refl e in
    let i = inside_has (suc (suc n)) after (holds_bic p l) l h.0 in
    (record { front = record { cr = narrow_cr l i.bytes; some = i.some }; inner = later_opening n l i.opening }, under_later p (suc n) (after || holds_bic p l) ls h.1)

under_first : (p : Party) (ls : List (List ℕ)) → lines_reply p 1 false ls ≡ accepted → Carried ls
under_first p [] e = tt
under_first p (l ∷ ls) e =
    let h = lines_held p 1 false (l ∷ ls) l ls refl e in
    let i = inside_has 1 false (holds_bic p l) l h.0 in
    (record { cr = narrow_cr l i.bytes; some = i.some }, under_later p zero (holds_bic p l) ls h.1)

pub under_carried : (p : Party) (body : List ℕ) → profile_reply p body ≡ accepted → Carried (lines body)
unfolding profile_reply
under_carried p body e = under_first p (lines body) e

-- ---- the first of such
all_left : (ws rest : List (List ℕ)) → All Later (ws ++ rest) → All Later ws
all_left [] rest h = tt
all_left (w ∷ ws) rest h = (h.0, all_left ws rest h.1)

pub carried_first : (ws rest : List (List ℕ)) → Carried (ws ++ rest) → Carried ws
carried_first [] rest h = tt
carried_first (w ∷ ws) rest h = (h.0, all_left ws rest h.1)

-- ---- texts that are read as one line
-- a BIC
rest_cr : (k : ℕ) (l : List ℕ) → k < length l → ends_cr l ≡ ends_cr (drop k l)
unfolding ends_cr
rest_cr zero l h = refl
rest_cr (suc k) [] h = absurd (omega arith)
rest_cr (suc k) (b ∷ []) h = absurd (omega arith)
rest_cr (suc k) (b ∷ a ∷ l) h = rest_cr k (a ∷ l) (omega arith)

pub some_bytes : (l : List ℕ) → 0 < length l → is_empty l ≡ false
some_bytes [] h = absurd (omega arith)
some_bytes (b ∷ l) h = refl

pub bic_front : (x : List ℕ) → parse_bic 1 x ≡ accepted → Front x
unfolding parse_bic letter digit alphanumeric
bic_front x e =
    let n = bic_least 1 x e in
    let later = then_second (must (bic_length (length x)) 9 1) _ e in
    let rest : all alphanumeric (drop 6 x) ≡ true = must_held _ 10 1 (then_second (must (all letter (take 6 x)) 10 1) _ later) in
    record { cr = rest_cr 6 x (omega (arith, n)) ∙ all_cr alphanumeric refl (drop 6 x) rest; some = some_bytes x (omega (arith, n)) }

-- a trimmed text
white_cr : (b : ℕ) → white b ≡ false → eqb b 13 ≡ false
unfolding white
white_cr b e = ne_eqb b 13 (λ q. true≢false (sym (ap white q) ∙ e))

end_cr : (l : List ℕ) → ends_cr (trimmed_end l) ≡ false
unfolding ends_cr trimmed_end keep
end_cr [] = refl
end_cr (b ∷ l) = go (trimmed_end l) (end_cr l)
  where
    go : (m : List ℕ) → ends_cr m ≡ false → ends_cr (keep b m) ≡ false
    go [] h = one (white b) refl
      where
        one : (t : Bool) → white b ≡ t → ends_cr (keep b []) ≡ false
        one true e = rw (e, keep)
        one false e = rw (e, keep) (white_cr b e)
    go (a ∷ m) h = h

pub trimmed_cr : (l : List ℕ) → ends_cr (trimmed l) ≡ false
unfolding trimmed
trimmed_cr l = end_cr (trimmed_start l)
