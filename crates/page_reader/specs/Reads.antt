-- The reads of a page from its start. Document 01 has the read ('Pages (added)'), each at the next position that the last gave; where they
-- stop is ours.
use Rattle.std.specs.Prelude.{ℕ, zero, suc, Bool, true, false, ◌||◌, List, [], ◌∷◌, eqb, length}
use Rattle.page_reader.specs.Pages.{ReadOutcome, a_record, the_end, a_refusal, PageRead, read_at}

-- a read, and the position where it was
pub record Read : Type 0 where
  pub at : ℕ
  pub gave : PageRead

-- the read at a position
abbrev pub read_here : List ℕ → ℕ → Read
read_here page at = record { at = at; gave = read_at page at }

-- a read that gives the end
abbrev pub is_the_end : ReadOutcome → Bool
is_the_end (a_record p) = false
is_the_end the_end = true
is_the_end (a_refusal k n) = false

-- the last read: the end, or one that does not move on
abbrev pub is_last : PageRead → ℕ → Bool
is_last r at = is_the_end r.outcome || eqb r.next at

-- at most n reads from a position on, each at the next position that the last gave, up to the last
unfoldable pub reads_from : ℕ → List ℕ → ℕ → List Read
reads_from zero page at = []
reads_from (suc n) page at =
    let r = read_at page at in
    read_here page at ∷ elim (is_last r at) [ true ↦ [] | false ↦ reads_from n page r.next ]

-- those of the whole page: each but the last moves past a byte, so that there are no more than this
abbrev pub reads : List ℕ → List Read
reads page = reads_from (suc (length page)) page 0
