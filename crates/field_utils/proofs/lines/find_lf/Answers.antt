-- `lines::find_lf` meets its contract: an LF that is near is the first; where there is none, what is near is passed, and then the blocks. Assumes nothing.
use Rattle.std.proofs.Common.{◌≡◌, ℕ, ◌+◌, ◌-◌, List, take, drop, sym, refl, ap, ◌∙◌, arith, length-take}
use Rattle.field_utils.specs.Lines.{upto}
use Rattle.field_utils.proofs.Places.{upto_length, upto_done}
use Rattle.field_utils.proofs.Passing.{part_of, passed_part}
use Rattle.field_utils.proofs.lines.find_lf.Goals as goal
use Rattle.field_utils.proofs.lines.find_lf.Goals.{After-find_by_word-found}

-- what the bytes that are near tell
module _ (c : After-find_by_word-found) where
  abbrev s : List ℕ
  s = c.args.s.now

  abbrev from : ℕ
  from = c.args.from

  abbrev near : List ℕ
  near = take 128 (drop from s)

  told : c.find_by_word-found.result ≡ upto 10 near
  told =
      let long : from + 128 - from ≡ 128 = omega arith in
      c.find_by_word-found.ensures ∙ ap (λ (n : ℕ). upto 10 (take n (drop from s))) long

pub returns-then-s-from : goal.returns-then-s-from
returns-then-s-from c =
    let a = c.args in omega (arith, upto_done 10 a.s.now a.from (omega arith))

pub returns-then-found-lt-NEAR : goal.returns-then-found-lt-NEAR
returns-then-found-lt-NEAR c = omega (arith, told (goal.at.returns-then-found-lt-NEAR c).After-find_by_word-found, (part_of 10 128 (drop (from (goal.at.returns-then-found-lt-NEAR c).After-find_by_word-found) (s (goal.at.returns-then-found-lt-NEAR c).After-find_by_word-found))).found (omega (arith, told (goal.at.returns-then-found-lt-NEAR c).After-find_by_word-found)))

pub returns : goal.returns
returns c =
    let most = upto_length 10 (near (goal.at.returns c).After-find_by_word-found) in
    let none : upto 10 (near (goal.at.returns c).After-find_by_word-found) ≡ 128 = omega (arith, told (goal.at.returns c).After-find_by_word-found, most, length-take 128 (drop (from (goal.at.returns c).After-find_by_word-found) (s (goal.at.returns c).After-find_by_word-found)), c.if-found-lt-NEAR.false) in
    c.find_from-2.ensures ∙ sym ((passed_part (s (goal.at.returns c).After-find_by_word-found) (from (goal.at.returns c).After-find_by_word-found) 128 _ refl (omega arith) none).same ∙ c.pass_blocks.ensures.same)
