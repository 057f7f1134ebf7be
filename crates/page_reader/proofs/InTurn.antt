-- The reads of a page, one after the other. Assumes nothing.
use mathlib.Core.Path.{◌≡◌, refl, sym, ◌∙◌, ap}
use mathlib.Core.Bool.{Bool, true, false}
use mathlib.Core.List.{List, [], ◌∷◌}
use mathlib.Core.Logic.{⊎_elim}
use Prim.Native.Nat.{ℕ, zero, suc, ◌-◌, ◌≤◌, ◌<◌}
use native.Mathlib.Omega.{arith}
use lib.Dec.{eqb, leb}
use lib.ListN.{length}
use borrow.Author.Tests.{eqb-false, leb-true, leb-false}
use Rattle.field_utils.proofs.Tests.{either_right}
use Rattle.page_reader.specs.Pages.{page_most, PageRead, read_at}
use Rattle.page_reader.specs.Reads.{Read, read_here, is_the_end, is_last, reads_from, reads}
use Rattle.page_reader.proofs.Cases.{by_case, case_long}
use Rattle.page_reader.proofs.Moves.{stays_or_moves}

module _ (page : List ℕ) (at : ℕ) where
  abbrev r : PageRead
  r = read_at page at

  -- a read that is not the last moves past a byte
  pub read_moves : is_last r at ≡ false → (at < r.next) × (r.next ≤ length page)
  read_moves e =
      let n = eqb-false r.next at (either_right (is_the_end r.outcome) (eqb r.next at) e) in
      ⊎_elim (λ q. absurd (n q)) (λ m. (m.past, m.within)) (stays_or_moves page at)

  -- the last read, and any other
  from_last : (n : ℕ) → is_last r at ≡ true → reads_from (suc n) page at ≡ read_here page at ∷ []
  unfolding reads_from
  from_last n e = rw (e, reads_from)

  from_next : (n : ℕ) → is_last r at ≡ false → reads_from (suc n) page at ≡ read_here page at ∷ reads_from n page r.next
  unfolding reads_from
  from_next n e = rw (e, reads_from)

-- more reads than there can be change nothing
from_enough : (n m : ℕ) (page : List ℕ) (at : ℕ) → length page - at < n → length page - at < m → reads_from n page at ≡ reads_from m page at
from_enough zero m page at h k = absurd (omega (arith, h))
from_enough (suc n) zero page at h k = absurd (omega (arith, k))
from_enough (suc n) (suc m) page at h k = go (is_last (read_at page at) at) refl (from_enough n m page (read_at page at).next)
  where
    next : ℕ
    next = (read_at page at).next

    go : (l : Bool) → is_last (read_at page at) at ≡ l → (length page - next < n → length page - next < m → reads_from n page next ≡ reads_from m page next)
        → reads_from (suc n) page at ≡ reads_from (suc m) page at
    go true e later = from_last page at n e ∙ sym (from_last page at m e)
    go false e later =
        let d = read_moves page at e in
        from_next page at n e ∙ ap (◌∷◌ (read_here page at)) (later (omega (arith, d.0, d.1, h)) (omega (arith, d.0, d.1, k))) ∙ sym (from_next page at m e)

-- the reads from a position on
abbrev pub rest : List ℕ → ℕ → List Read
rest page at = reads_from (suc (length page - at)) page at

pub rest_some : (page : List ℕ) (at : ℕ) → 1 ≤ length (rest page at)
unfolding reads_from
rest_some page at = omega arith

pub rest_start : (page : List ℕ) → rest page 0 ≡ reads page
rest_start page = from_enough (suc (length page - 0)) (suc (length page)) page 0 (omega arith) (omega arith)

pub rest_last : (page : List ℕ) (at : ℕ) → is_last (read_at page at) at ≡ true → rest page at ≡ read_here page at ∷ []
rest_last page at = from_last page at (length page - at)

pub rest_next : (page : List ℕ) (at : ℕ) → is_last (read_at page at) at ≡ false → rest page at ≡ read_here page at ∷ rest page (read_at page at).next
rest_next page at e =
    let d = read_moves page at e in
    let next = (read_at page at).next in
    from_next page at (length page - at) e ∙ ap (◌∷◌ (read_here page at)) (from_enough (length page - at) (suc (length page - next)) page next (omega (arith, d.0, d.1)) (omega arith))

-- there are at most as many as asked for, and so no more than a page has bytes, and one
from_most : (n : ℕ) (page : List ℕ) (at : ℕ) → length (reads_from n page at) ≤ n
unfolding reads_from
from_most zero page at = omega arith
from_most (suc n) page at = go (is_last (read_at page at) at) refl (from_most n page (read_at page at).next)
  where
    go : (l : Bool) → is_last (read_at page at) at ≡ l → length (reads_from n page (read_at page at).next) ≤ n → length (reads_from (suc n) page at) ≤ suc n
    go true e m = omega (arith, ap length (from_last page at n e))
    go false e m = omega (arith, ap length (from_next page at n e), m)

pub reads_most : (page : List ℕ) → length (reads page) ≤ suc (length page)
reads_most page = from_most (suc (length page)) page 0

-- a page over 32,768 bytes has one, which is 18
pub reads_few : (page : List ℕ) → length (reads page) ≤ suc page_most
reads_few page = go (leb (length page) page_most) refl
  where
    go : (t : Bool) → leb (length page) page_most ≡ t → length (reads page) ≤ suc page_most
    go true e = omega (arith, reads_most page, leb-true (length page) page_most e)
    go false e =
        let q = by_case page 0 (case_long page 0 (leb-false (length page) page_most e)) in
        omega (arith, ap length (from_last page 0 (length page) (ap (λ (r : PageRead). is_last r 0) q)))
