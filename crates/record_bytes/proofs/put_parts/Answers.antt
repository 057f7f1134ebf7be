-- `record_bytes::put_parts` meets its contract. The loop's invariant: the first texts stand from 3 on.
-- Assumes nothing.
use Prim.Native.Nat.{ℕ, ◌<◌, ◌+◌, ◌*◌}
use mathlib.Core.Path.{◌≡◌, sym, ◌∙◌, ap}
use native.Mathlib.Omega.{arith}
use mathlib.Core.List.{List}
use lib.ListN.{length, take, drop, replicate}
use lib.Seq.{paste, take_all, length-paste}
use Rattle.party.specs.declared.Parts.{Parts}
use Rattle.party.specs.Text.{text_of, part_in}
use Rattle.party.specs.Party.{party_in}
use Rattle.party.proofs.Values.{are_parts}
use Rattle.record_bytes.specs.RecordBytes.{encoded_text, encoded_texts, texts_of, text_size, record_size}
use Rattle.record_bytes.specs.Code.{parts_of}
use Rattle.record_bytes.proofs.Laws.{paste_more, six}
use Rattle.record_bytes.proofs.Parts.{text_size_lem, party_sizes, party_four, part_text, zeros_left, zeros_same, no_text}
use Rattle.record_bytes.proofs.put_parts.Goals as goal
use Rattle.record_bytes.proofs.put_parts.Goals.{After-nth_part-part, then-part-ne0, else-part-ne0}

-- at a part: what was put of those before it, and zeros
module _ (k : After-nth_part-part) where
  abbrev q : Parts
  q = k.args.parts

  abbrev texts : List ℕ
  texts = encoded_texts (texts_of (party_in k.args.body.now q))

  -- its text
  abbrev text : List ℕ
  text = encoded_text (text_of (part_in k.args.body.now k.nth_part-part.result))

  all : length texts ≡ 6 * text_size
  all = six (party_in k.args.body.now q) (party_four k.args.body.now q (are_parts q _ k.well_formed.0).size) (party_sizes k.args.body.now q)

  room : length k.loop-n.record ≡ record_size
  room = ap length k.loop-n.invariant ∙ length-paste k.args.record.now 3 texts (text_size * k.loop-n.n) (omega arith) (omega (arith, all)) ∙ omega arith

  left : take text_size (drop (3 + text_size * k.loop-n.n) k.loop-n.record) ≡ replicate text_size 0
  left =
      ap (λ (l : List ℕ). take text_size (drop (3 + text_size * k.loop-n.n) l)) k.loop-n.invariant
      ∙ zeros_left k.args.record.now texts k.loop-n.n (omega arith) (omega arith) (omega (arith, all)) k.requires

  -- with it one more text stands
  more : paste k.loop-n.record (3 + text_size * k.loop-n.n) text text_size ≡ paste k.args.record.now 3 texts (text_size * (k.loop-n.n + 1))
  more =
      let body = k.args.body.now in
      let n = k.loop-n.n in
      let inside : n < length (parts_of q) = omega (arith, (are_parts q _ k.well_formed.0).size) in
      let same = part_text body q n (part_in body k.nth_part-part.result) inside (ap (part_in body) k.nth_part-part.ensures) in
      let next : text_size * (n + 1) ≡ text_size * n + text_size = omega arith in
      ap (λ (l : List ℕ). paste l (3 + text_size * n) text text_size) k.loop-n.invariant
      ∙ paste_more k.args.record.now texts text 3 (text_size * n) text_size (omega arith) (omega (arith, all))
      (take_all text_size text (omega (arith, text_size_lem (part_in body k.nth_part-part.result))) ∙ same)
      ∙ ap (paste k.args.record.now 3 texts) (sym next)

pub put_part-requires : goal.put_part-requires
put_part-requires c =
    (omega arith, left (goal.at.put_part-requires c).After-nth_part-part)

pub loop-n-preserved : goal.loop-n-preserved
loop-n-preserved c =
    let k = (goal.at.loop-n-preserved c).After-nth_part-part in
    let at = 3 + text_size * c.loop-n.n in
    let put : c.if-part-ne0.record ≡ paste c.loop-n.record at (text k) text_size =
    elim c.if-part-ne0.branch [
      | then-part-ne0 w ↦ w.record-is ∙ w.put_part.ensures ∙ ap (λ (l : List ℕ). paste c.loop-n.record at (encoded_text (text_of l)) text_size) w.part_of.ensures
      | else-part-ne0 w ↦ w.record-is ∙ sym (ap (λ (l : List ℕ). paste c.loop-n.record at l text_size) (no_text k.args.body.now c.nth_part-part.result w.if-part-ne0.false) ∙ zeros_same c.loop-n.record at text_size (omega (arith, room k)) (left k))
    ] in
    put ∙ more k

pub returns : goal.returns
returns c =
    let all : text_size * c.loop-n.n ≡ 6 * text_size = omega arith in
    c.loop-n.invariant ∙ ap (paste c.args.record.now 3 (encoded_texts (texts_of (party_in c.args.body.now c.args.parts)))) all
