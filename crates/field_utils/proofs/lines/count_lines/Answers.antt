-- `lines::count_lines` meets its contract: a run of the iterator from the first byte on gives all lines. Assumes nothing.
use Rattle.std.proofs.Common.{length, drop, sym, ap, ◌∙◌}
use lib.ListN.{length-map}
use Rattle.party.specs.Text.{part_in}
use Rattle.field_utils.specs.Lines.{lines}
use Rattle.field_utils.proofs.Places.{drained}
use Rattle.field_utils.proofs.lines.count_lines.Goals as goal

pub returns : goal.returns
returns c =
    let (ps, run, e) = c.count.ensures.ran in
    let w = c.lines_of.result in
    e ∙ sym (length-map ps (part_in w.text.now)) ∙ ap length (drained w ps run) ∙ ap length (λ i. lines (drop (c.lines_of.ensures.at i) (c.lines_of.ensures.text i)))
