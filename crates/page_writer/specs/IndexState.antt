-- What stands beside a page: an index or none (document 02, Three).
use Rattle.std.specs.Prelude.{ℕ, suc, ◌+◌, ◌*◌, Bool, true, false, List, [], ◌∷◌, ltb, length}
use Rattle.errors.specs.Refusals.{Reply, accepted, refused}
use Rattle.writer.specs.Writing.{put}
use Rattle.page_reader.specs.Index.{Entry, index_most, entries_of}

-- an index, as its numbers, or none
pub data IndexState : Type 0 where
  no_index : IndexState
  an_index : List ℕ → IndexState

-- whether it is an index
abbrev pub is_indexed : IndexState → Bool
is_indexed no_index = false
is_indexed (an_index numbers) = true

-- the entries that it has
abbrev pub entries_kept : IndexState → List Entry
entries_kept no_index = []
entries_kept (an_index numbers) = entries_of numbers

-- an entry is free, else 31: with an index under 256 are used; without one none is needed
abbrev pub is_free : Bool → ℕ → Bool
is_free true n = ltb n index_most
is_free false n = true

-- an index with an entry put after those that it has; no other number changes but the count
unfoldable pub noted : Entry → List ℕ → List ℕ
noted e numbers =
    let n = length (entries_of numbers) in
    put (put numbers (3 * n + 1) (e.tag ∷ e.position ∷ e.len ∷ [])) 0 (suc n ∷ [])

-- by the reply to an add: accepted, its entry is noted; a refusal changes no number
abbrev pub noting : Reply → Entry → IndexState → IndexState
noting accepted e no_index = no_index
noting accepted e (an_index numbers) = an_index (noted e numbers)
noting (refused k n) e b = b
