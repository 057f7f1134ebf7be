-- `page_reader::index::entry_of` meets its contract, by the chunk of an entry's numbers. Assumes nothing.
use mathlib.Core.Path.{sym, ◌∙◌, ap}
use mathlib.Core.List.{List, []}
use Prim.Native.Nat.{ℕ, ◌-◌, ◌≤◌}
use native.Mathlib.Omega.{arith}
use lib.ListN.{length, drop, get_or, length-drop}
use lib.Seq.{take_all}
use borrow.Author.Tests.{le-leb}
use Rattle.page_reader.specs.Index.{entries_of}
use Rattle.page_reader.proofs.Entries.{chunk_entry, entry_chunk}
use Rattle.page_reader.proofs.index.entry_of.Goals as goal

pub returns : goal.returns
returns c =
    let index = c.args.index.now in
    let k = c.args.k in
    let n = c.as_chunks.ensures.front_len in
    let o : 1 ≤ k = omega (arith, c.if-k-eq0.false) in
    let m : k ≤ length (entries_of index) = omega (arith, c.if-entry_count-k.false, c.entry_count.ensures.value) in (
      rw (le-leb 1 k o, le-leb k (length (entries_of index)) m),
      entry_chunk _ index k (take_all 768 (drop 1 index) (omega (arith, length-drop 1 index))) o m (omega arith) (omega arith)
          ∙ ap (λ (es : List (List ℕ)). chunk_entry (get_or es (k - 1) [])) (sym c.as_chunks.ensures.front),
    )
