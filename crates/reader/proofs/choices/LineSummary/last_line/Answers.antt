-- `choices::LineSummary::last_line` meets its contract: the last line of all is that of those left, or the last one passed. Assumes nothing.
use mathlib.Core.Path.{◌∙◌, ap}
use Rattle.std.specs.Option.{unwrap_or}
use Rattle.party.specs.Text.{part_in}
use Rattle.reader.proofs.Walks.{last_left, seen_last}
use Rattle.reader.proofs.choices.LineSummary.last_line.Goals as goal

pub returns : goal.returns
returns c =
    let w = c.args.self.now in
    c.part_of.ensures
    ∙ ap (part_in w.rest.text.now) (c.unwrap_or-last.ensures ∙ ap (λ o. unwrap_or o w.last) c.last.ensures.ran.2)
    ∙ last_left w.rest w.last c.last.ensures.ran.0 c.last.ensures.ran.1
    ∙ seen_last w
