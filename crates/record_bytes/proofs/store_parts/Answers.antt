-- `record_bytes::store_parts` meets its contract: as `store` does, with the texts of the parts over zeros.
-- Assumes nothing.
use Prim.Native.Nat.{ℕ, ◌*◌}
use mathlib.Core.Path.{◌≡◌, ◌∙◌, sym, ap}
use mathlib.Core.List.{List, ◌++◌}
use native.Mathlib.Omega.{arith}
use lib.ListN.{length, drop, replicate}
use lib.Seq.{paste}
use Rattle.std.proofs.lemmas.Option.{MatchOption-at_none}
use Rattle.std.proofs.lemmas.Slice.{between-put_mid}
use borrow.Rule.Slice.PartMut.{mid_of}
use Rattle.party.specs.Party.{party_in}
use Rattle.party.proofs.Values.{are_parts}
use Rattle.record_bytes.specs.RecordBytes.{text_size, digits_at, record_size, encoded_texts, texts_of}
use Rattle.record_bytes.proofs.Laws.{stored_whole, stored_none, chunk_size}
use Rattle.record_bytes.proofs.Parts.{store_all_parts, paste_on_mid}
use Rattle.record_bytes.proofs.store_parts.Goals as goal
use Rattle.record_bytes.proofs.store_parts.Goals.{After-fill}

pub returns-in_default-clause-out_after : goal.returns-in_default-clause-out_after
returns-in_default-clause-out_after c = sym (stored_none (party_in c.args.body.now c.args.parts) c.args.out.now (MatchOption-at_none _ _ c.in_default.is c.first_chunk_mut.ensures.cases))

-- after the zeros
module _ (h : After-fill) where
  size : length h.fill.new.self ≡ 6 * text_size
  size = omega (arith, h.fill.ensures.len, h.put_fields.array_long)

  zeros : h.fill.new.self ≡ replicate (6 * text_size) 0
  zeros =
      let all : length (mid_of 3 (6 * text_size) h.put_fields.new.record) ≡ 6 * text_size = omega (arith, h.put_fields.array_long) in
      h.fill.ensures.after (λ y e. e) ∙ ap (λ (k : ℕ). replicate {A = ℕ} k 0) all

pub put_parts-requires : goal.put_parts-requires
put_parts-requires c =
    let h = (goal.at.put_parts-requires c).After-fill in
    between-put_mid 3 (6 * text_size) c.put_fields.new.record c.fill.new.self digits_at (omega arith) (size h) ∙ zeros h

pub returns-clause-out_after : goal.returns-clause-out_after
returns-clause-out_after c =
    let h = (goal.at.returns-clause-out_after c).After-fill in
    let q = c.args.parts in
    let body = c.args.body.now in
    let d = c.args.out.now in
    let texts = encoded_texts (texts_of (party_in body q)) in
    let whole = are_parts q _ c.well_formed.0 in
    let chunk = c.in-Some.ensures.cases in
    ap (λ (l : List ℕ). l ++ drop record_size d)
    (c.put_parts.ensures
    ∙ paste_on_mid c.put_fields.new.record c.fill.new.self texts 3 (6 * text_size) (omega arith) (size h)
    ∙ ap (λ (l : List ℕ). paste l 3 texts (6 * text_size)) c.put_fields.ensures
    ∙ store_all_parts body q c.in-Some.record.now whole.size whole.digits (chunk_size chunk))
    ∙ sym (stored_whole (party_in body q) d chunk.enough)
