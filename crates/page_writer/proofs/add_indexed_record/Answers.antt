-- `page_writer::add_indexed_record` meets its contract, by what adding answers. Assumes nothing.
use mathlib.Core.Path.{◌≡◌, sym, ◌∙◌, ap}
use mathlib.Core.Bool.{true}
use mathlib.Core.List.{List, [], ◌∷◌}
use Prim.Native.Nat.{ℕ, ◌+◌, ◌-◌}
use native.Mathlib.Omega.{arith}
use borrow.Author.Tests.{ltb-true}
use lib.Dec.{ltb}
use lib.ListN.{length, length-append}
use Rattle.errors.specs.Refusals.{Reply, accepted}
use Rattle.party.specs.declared.PartyOption.{PartyOption}
use Rattle.party.specs.Limits.{place_of}
use Rattle.party.specs.Party.{Content, content}
use Rattle.record_bytes.specs.RecordBytes.{decoded}
use Rattle.writer.specs.Writing.{written_field}
use Rattle.page_reader.specs.Index.{Entry, index_most, index_size, entries_of}
use Rattle.page_writer.specs.IndexState.{an_index, noted}
use Rattle.page_writer.specs.Adding.{with_lf, position_after, refusal, Call, tally_of, add_reply, add, add_index}
use Rattle.page_writer.specs.Code.{Notes}
use Rattle.page_writer.proofs.Addings.{add_by, reply_space, reply_free, add_record_lem, put_accepted, put_refused, index_by, entry_is}
use Rattle.page_writer.proofs.add_indexed_record.Goals as goal
use Rattle.page_writer.proofs.add_indexed_record.Goals.{After-entry_count-count}

-- an entry is free, as the count says
free_is : (c : After-entry_count-count) → ltb c.entry_count-count.result index_most ≡ ltb (length (entries_of c.args.index.now)) index_most
free_is c = ap (λ (n : ℕ). ltb n index_most) c.entry_count-count.ensures.value

-- what the call of an add tells of the index
module _ (buffer : List ℕ) (at : ℕ) (d : List ℕ) (s : Content) where
  abbrev reply : Reply
  reply = add_reply buffer at (an_index d) s

  -- a refused one
  unchanged : {e : List ℕ} {k n : ℕ} → ◌≡◌ {A = Call} (record { answer = refusal k n; buffer = e }) (add buffer at (an_index d) s) → an_index d ≡ add_index buffer at (an_index d) s
  unchanged q = sym (index_by buffer at (an_index d) s (put_refused reply buffer at (with_lf (written_field s)) (q ∙ add_by buffer at (an_index d) s)))

  -- an accepted one
  module _ {e : List ℕ} {next : ℕ} (q : ◌≡◌ {A = Call} (record { answer = position_after next; buffer = e }) (add buffer at (an_index d) s)) where
    passed : (reply ≡ accepted) × (next ≡ at + length (with_lf (written_field s)))
    passed = put_accepted reply buffer at (with_lf (written_field s)) (q ∙ add_by buffer at (an_index d) s)

    notes : {count : ℕ} → count ≡ length (entries_of d) → length d ≡ index_size → Notes d count at next
    notes counted size =
        let r = add_record_lem buffer at (an_index d) s passed.0 in
        let free = ltb-true (length (entries_of d)) index_most (reply_free (length buffer) true (tally_of at (an_index d)) s r) in
        let space = reply_space (length buffer) true (tally_of at (an_index d)) s r in
        let n = length-append (written_field s) (10 ∷ []) in
        record { size = size; entries = counted; free = omega (arith, free, counted); from = omega (arith, passed.1, n); most = omega (arith, passed.1, space) }

pub returns-in_err-next-clause-index : goal.returns-in_err-next-clause-index
returns-in_err-next-clause-index c =
    let a = c.args in
    unchanged a.buf.now a.at a.index.now (content (decoded a.«record».now)) (c.in_err-next.ensures (an_index a.index.now) (free_is (goal.at.returns-in_err-next-clause-index c).After-entry_count-count))

pub note-requires : goal.note-requires
note-requires c =
    let a = c.args in
    notes a.buf.now a.at a.index.now (content (decoded a.«record».now)) (c.in_ok-next.ensures (an_index a.index.now) (free_is (goal.at.note-requires c).After-entry_count-count)) c.entry_count-count.ensures.value c.entry_count-count.ensures.sized

pub returns-clause-index : goal.returns-clause-index
returns-clause-index c =
    let a = c.args in
    let d = a.index.now in
    let p = decoded a.«record».now in
    let k = passed a.buf.now a.at d (content p) (c.in_ok-next.ensures (an_index d) (free_is (goal.at.returns-clause-index c).After-entry_count-count)) in
    ap an_index (c.note.ensures ∙ ap (λ (o : PartyOption). noted (record { tag = place_of o; position = a.at; len = c.in_ok-next.next - a.at - 1 }) d) c.option_of.ensures ∙ ap (λ (e : Entry). noted e d) (entry_is p a.at k.1))
    ∙ sym (index_by a.buf.now a.at (an_index d) (content p) k.0)
