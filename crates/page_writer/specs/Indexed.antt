-- An index beside a page: what it equals, and what looking a field up in it gives (document 02, Three).
use Rattle.std.specs.Prelude.{ℕ, suc, ◌≤◌, ◌<◌, ◌≡◌, List, [], ◌∷◌, ◌++◌, length}
use Rattle.party.specs.declared.Party.{Party}
use Rattle.page_reader.specs.Reads.{Read, reads}
use Rattle.page_reader.specs.Index.{index_most, index_size, entries_of, fields_met, found, not_found, look_up}
use Rattle.page_writer.specs.IndexState.{IndexState, no_index, an_index}
use Rattle.page_writer.specs.WholePage.{kept, Gives}

-- no index, or an empty one: 769 numbers, of which the first says that it has no entry, and the others are any
abbrev pub IsEmpty : IndexState → Type 0
IsEmpty no_index = Unit {0}
IsEmpty (an_index numbers) = (length numbers ≡ index_size) × (entries_of numbers ≡ [])

-- what holds of an index beside a page of the fields of a list
pub record Indexed (numbers page : List ℕ) (list : List Party) : Type 0 where
  -- it equals the list of the fields that reading the page from 0 meets, in number, order, tag, position and length
  pub equals : entries_of numbers ≡ fields_met page
  -- there are as many as records, and at most 256
  pub number : length (entries_of numbers) ≡ length list
  pub most : length list ≤ index_most
  -- looking up field k is the reader's k-th step
  pub step : (before : List Read) (r : Read) (later : List Read) → reads page ≡ before ++ r ∷ later → length before < length list
      → look_up page numbers (suc (length before)) ≡ found r
  -- where there is no field k, it is 31
  pub past : (k : ℕ) → length list < k → look_up page numbers k ≡ not_found 31 0
  pub zeroth : look_up page numbers 0 ≡ not_found 31 0
  -- it gives the k-th record
  pub gives : (before : List Party) (p : Party) (later : List Party) → list ≡ before ++ p ∷ later
      → (r : Read) × (look_up page numbers (suc (length before)) ≡ found r) × Gives r.gave (kept p)

-- of what stands beside a page
abbrev pub IndexHolds : IndexState → List ℕ → List Party → Type 0
IndexHolds no_index page list = Unit {0}
IndexHolds (an_index numbers) page list = Indexed numbers page list
