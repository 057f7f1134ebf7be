-- `yewdome::walk` meets its contract: each turn but the last moves past at least one byte, and what is left ends as the whole run does.
-- Assumes nothing.
use mathlib.Core.Path.{◌≡◌}
use Rattle.yewdome.specs.Filing.{open_page}
use Rattle.yewdome.proofs.Walks.{Going}
use Rattle.yewdome.proofs.walk.Given as goal

abbrev pub invariant-loop-count : goal.invariant-loop-count
invariant-loop-count l =
    record {
      going : Going l.files l.page l.initial.out.buf.now l.initial.answers (open_page l.out.buf.now l.out.position) l.answers l.next l.count;
      same_reference : l.out.buf.ghost_name ≡ l.initial.out.buf.ghost_name;
    }
