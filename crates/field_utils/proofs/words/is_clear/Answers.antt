-- `words::is_clear` meets its contract: while no word that was seen has a highest bit, none of them has an LF. Assumes nothing.
use Rattle.std.proofs.Common.{ℕ, ◌*◌, ◌/◌, List, [], length, get_or, sym, ap, ◌∙◌, arith, eqb-true}
use lib.Bits.{bit_and, or_comm}
use Rattle.field_utils.specs.Lines.{upto}
use Rattle.field_utils.specs.Words.{every}
use Rattle.field_utils.proofs.FirstLf.{clear_or, clear_word}
use Rattle.field_utils.proofs.Places.{upto_done}
use Rattle.field_utils.proofs.Passing.{passed_more, passed_part, chunk_at}
use Rattle.field_utils.proofs.words.is_clear.Goals as goal

-- a word without an LF is passed, where nothing is seen after it
pub loop-bytes-preserved : goal.loop-bytes-preserved
loop-bytes-preserved c = λ e.
    let block = c.args.block.now in
    let i = c.loop-bytes.bytes-index in
    let seen = c.loop-bytes.seen in
    let y = c.less_ones-seen.result in
    let bytes = c.word.ensures.bytes ∙ ap (λ (ws : List (List ℕ)). get_or ws i []) c.as_chunks.ensures.front ∙ chunk_at 8 (length block / 8) block i (omega (arith, c.as_chunks.ensures.front_len)) in
    let clear = clear_or y seen (every 128 8) (ap (λ (z : ℕ). bit_and z (every 128 8)) (or_comm y seen) ∙ e) in
    let none = clear_word c.word.result (omega arith) (sym (ap (λ (z : ℕ). bit_and z (every 128 8)) c.less_ones-seen.ensures) ∙ clear) in
    passed_more (c.loop-bytes.invariant (clear_or seen y (every 128 8) e))
    (passed_part block (i * 8) 8 _ (omega arith) (omega (arith, c.loop-bytes-test.true, c.as_chunks.ensures.front_len)) (sym (ap (upto 10) bytes) ∙ none))

pub returns : goal.returns
returns c = λ e.
    let block = c.args.block.now in
    let all = c.loop-bytes.invariant (eqb-true _ _ e) in
    let i = c.loop-bytes.bytes-index in
    omega (arith, all.same, all.within, upto_done 10 block (i * 8) (omega (arith, c.told-block, c.as_chunks.ensures.front_len)), c.told-block, c.as_chunks.ensures.front_len)
