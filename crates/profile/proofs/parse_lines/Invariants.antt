-- `profile::parse_lines` meets its contract: while lines pass, the reply to all is the reply to those left. Assumes nothing.
use mathlib.Core.Path.{◌≡◌}
use Prim.Native.Nat.{suc}
use lib.ListN.{drop}
use Rattle.std.specs.Iterator.Adapters.{enumerate_source, enumerate_count}
use Rattle.field_utils.specs.Lines.{lines}
use Rattle.profile.specs.Profile.{lines_reply, profile_reply}
use Rattle.profile.proofs.parse_lines.Given as goal

abbrev pub invariant-loop-k : goal.invariant-loop-k
invariant-loop-k l =
    let left = enumerate_source l.k-iterator in
    (goal.iterator-loop-k).can_next l.k-iterator
    × (goal.iterator-loop-k).is_finite l.k-iterator
    × (left.text.now ≡ l.body)
    × (profile_reply l.party l.body ≡ lines_reply l.party (suc (enumerate_count l.k-iterator)) l.after (lines (drop left.at l.body)))
