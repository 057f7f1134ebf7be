-- `lines::is_ascii` meets its contract: a word of low bytes is passed, and the last word says what is left to say. Assumes nothing.
use Rattle.std.proofs.Common.{◌≡◌, ℕ, ◌+◌, ◌*◌, ◌/◌, Bool, List, [], length, get_or, take, drop, sym, ap, ◌∙◌, subst, arith}
use Rattle.swift_utils.specs.Bytes.{all}
use Rattle.field_utils.proofs.AllBytes.{low, Says, all_first, says_more}
use Rattle.field_utils.proofs.Passing.{chunk_at}
use Rattle.field_utils.proofs.lines.is_ascii.Goals as goal
use Rattle.field_utils.proofs.lines.is_ascii.Goals.{After-is_low}

-- a turn: what the word there tells
module _ (c : After-is_low) where
  abbrev s : List ℕ
  s = c.args.s.now

  abbrev at : ℕ
  at = c.loop-bytes.bytes-index * 8

  tells : {t : Bool} → c.is_low.result ≡ t → all low (take 8 (drop at s)) ≡ t
  tells e =
      let i = c.loop-bytes.bytes-index in
      let bytes = c.word.ensures.bytes ∙ ap (λ (ws : List (List ℕ)). get_or ws i []) c.as_chunks.ensures.front ∙ chunk_at 8 (length s / 8) s i (omega (arith, c.loop-bytes-test.true, c.as_chunks.ensures.front_len)) in
      sym (c.is_low.ensures ∙ ap (all low) bytes) ∙ e

pub returns-then-not-is_low : goal.returns-then-not-is_low
returns-then-not-is_low c =
    let m = (goal.at.returns-then-not-is_low c).After-is_low in
    sym (c.loop-bytes.invariant (at m) (omega arith) ∙ all_first low 8 (drop (at m) (s m)) (tells m c.if-not-is_low.true))

pub loop-bytes-preserved : goal.loop-bytes-preserved
loop-bytes-preserved c =
    let m = (goal.at.loop-bytes-preserved c).After-is_low in
    let next : at m + 8 ≡ (c.loop-bytes.bytes-index + 1) * 8 = omega arith in
    subst (Says low (s m)) next (says_more low 8 c.loop-bytes.invariant (tells m c.if-not-is_low.false))
