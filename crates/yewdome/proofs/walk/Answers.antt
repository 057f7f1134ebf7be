-- `yewdome::walk` meets its contract: each turn but the last moves past at least one byte, and what is left ends as the whole run does.
-- Assumes nothing.
use Rattle.std.proofs.Common.{◌≡◌, length, ◌∙◌, rules}
use lib.Seq.{set-get_or}
use native.Mathlib.Omega.{arith}
use Rattle.yewdome.specs.Filing.{open_page}
use Rattle.yewdome.proofs.Walks.{goes_on, walked, none_left}
use Rattle.yewdome.proofs.walk.Goals as goal

pub loop-count-preserved : goal.loop-count-preserved
loop-count-preserved c =
    let partly = rw c.in-Some.is at c.loop-count.invariant.going in
    record {
      going = goes_on (record { room = c.requires; inv = partly; step = c.step.ensures.answer }) c.step.result.1 c.step.ensures.next;
      same_reference = c.step.ensures.same_reference ∙ c.loop-count.invariant.same_reference;
    }

pub returns-in_default : goal.returns-in_default
returns-in_default c =
    let l = c.loop-count in
    rw (set-get_or l.answers l.count 0) (walked l.invariant.going c.in_default.is (search rules))

pub returns : goal.returns
returns c =
    let a = c.args in
    let l = c.loop-count in
    let last = none_left a.files a.page.now a.buf.now a.answers.now c.requires (open_page l.out.buf.now l.out.position) l.answers l.next l.invariant.going (omega arith) in
    let all : length l.answers ≡ l.count = omega arith in
    rw all (walked l.invariant.going last (search rules))
