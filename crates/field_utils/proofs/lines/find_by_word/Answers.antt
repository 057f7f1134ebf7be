-- `lines::find_by_word` meets its contract: a word without an LF is passed, and the first LF in a word is the first of all. Assumes nothing.
use Rattle.std.proofs.Common.{◌≡◌, ℕ, ◌+◌, ◌*◌, ◌/◌, ◌≤◌, List, [], length, get_or, take, drop, ap, ◌∙◌, arith}
use lib.Count.{count_trailing_zeros}
use Rattle.field_utils.specs.Lines.{upto}
use Rattle.field_utils.proofs.FirstLf.{first_lf, none_told, one_told}
use Rattle.field_utils.proofs.Passing.{part_of, passed_more, passed_part, chunk_at}
use Rattle.field_utils.proofs.lines.find_by_word.Goals as goal
use Rattle.field_utils.proofs.lines.find_by_word.Goals.{After-lf_mask-mask}

-- a turn: what the mask of the word there tells
module _ (c : After-lf_mask-mask) where
  abbrev s : List ℕ
  s = c.args.s.now

  abbrev at : ℕ
  at = c.loop-i.i * 8

  told : count_trailing_zeros 64 c.lf_mask-mask.result / 8 ≡ upto 10 (take 8 (drop at s))
  told =
      let bytes = c.word.ensures.bytes ∙ ap (λ (ws : List (List ℕ)). get_or ws c.loop-i.i []) c.as_chunks.ensures.front ∙ chunk_at 8 (length s / 8) s c.loop-i.i (omega (arith, c.as_chunks.ensures.front_len)) in
      ap (λ (m : ℕ). count_trailing_zeros 64 m / 8) c.lf_mask-mask.ensures ∙ first_lf c.word.result (omega arith) ∙ ap (upto 10) bytes

  inside : at + 8 ≤ length s
  inside = omega (arith, c.loop-i-test.true, c.as_chunks.ensures.front_len)

pub returns-then-mask-ne0 : goal.returns-then-mask-ne0
returns-then-mask-ne0 c =
    let m = (goal.at.returns-then-mask-ne0 c).After-lf_mask-mask in
    let tells = one_told c.lf_mask-mask.result (omega arith) c.if-mask-ne0.true in
    omega (arith, told m, (part_of 10 8 (drop (at m) (s m))).found (omega (arith, told m, tells)), c.loop-i.invariant.same)

pub loop-i-preserved : goal.loop-i-preserved
loop-i-preserved c =
    let m = (goal.at.loop-i-preserved c).After-lf_mask-mask in
    let none = none_told c.lf_mask-mask.result _ (omega (arith, c.if-mask-ne0.false)) (told m) in
    passed_more c.loop-i.invariant (passed_part (s m) (at m) 8 _ (omega arith) (omega (arith, inside m)) none)
