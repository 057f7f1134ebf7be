-- `record_bytes::put_texts` meets its contract. The loop's invariant: the first texts stand from 3 on.
-- Assumes nothing.
use Prim.Native.Nat.{◌<◌, ◌+◌, ◌*◌}
use mathlib.Core.Path.{◌≡◌, ◌∙◌, sym, ap}
use native.Mathlib.Omega.{arith}
use lib.ListN.{length, take}
use lib.Seq.{paste, take_all}
use Rattle.party.specs.declared.Text.{Text}
use Rattle.party.proofs.Values.{is_party}
use Rattle.record_bytes.specs.RecordBytes.{encoded_text, encoded_texts, texts_of, text_size}
use Rattle.record_bytes.proofs.Laws.{paste_more, text_in, sizes, six}
use Rattle.record_bytes.proofs.put_texts.Goals as goal

pub loop-n-preserved : goal.loop-n-preserved
loop-n-preserved c =
    let p = c.args.p in
    let n = c.loop-n.n in
    let whole = is_party p _ c.well_formed.0 in
    let inside : n < length (texts_of p) = omega (arith, whole.size) in
    let next : text_size * (n + 1) ≡ text_size * n + text_size = omega arith in
    let same = ap (λ (t : Text). take text_size (encoded_text t)) c.nth_text.ensures ∙ (take_all text_size _ (omega (arith, sizes p whole n inside)) ∙ sym (text_in (texts_of p) n (sizes p whole) inside)) in
    let more = paste_more c.args.record.now (encoded_texts (texts_of p)) (encoded_text c.nth_text.result) 3 (text_size * n) text_size (omega arith) (omega (arith, six p whole.size (sizes p whole))) same in
    c.put_text.ensures ∙ rw (c.loop-n.invariant, next) more

pub returns : goal.returns
returns c =
    let all : text_size * c.loop-n.n ≡ 6 * text_size = omega arith in
    c.loop-n.invariant ∙ ap (paste c.args.record.now 3 (encoded_texts (texts_of c.args.p))) all
