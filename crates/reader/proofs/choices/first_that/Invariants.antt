-- `choices::first_that` meets its contract: each place that is passed leaves it to those after it, and the bytes as they were. Assumes nothing.
use mathlib.Core.Path.{◌≡◌}
use lib.ListN.{drop}
use Rattle.field_utils.specs.Lines.{lines}
use Rattle.reader.specs.Choices.{first_that}
use Rattle.reader.proofs.RuledOut.{open_of}
use Rattle.reader.proofs.choices.first_that.Given as goal

abbrev pub invariant-loop-option : goal.invariant-loop-option
invariant-loop-option l =
    let ls = lines l.seen.rest.text.now in
    (l.record ≡ l.initial.record) × (first_that (open_of l.text ls l.option-items) l.text ≡ first_that (open_of l.text ls (drop l.option-index l.option-items)) l.text)
