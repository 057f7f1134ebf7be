-- `parse_name_and_address` meets its contract. Of the lines: what all of them say is what those from the cursor on say, and those passed
-- are filled. Of a line's bytes: the test of all is the test of those left. Assumes nothing.
use Rattle.std.proofs.Common.{◌≡◌, ◌-◌, ◌≤◌, length, drop}
use Rattle.swift_utils.specs.Bytes.{all, legal}
use Rattle.swift_utils.proofs.Parts.{part}
use Rattle.field_utils.specs.Lines.{lines}
use Rattle.field_utils.proofs.NameTexts.{Passed}
use Rattle.field_utils.proofs.NamePlaces.{Marked}
use Rattle.field_utils.proofs.parse_name_and_address.Given as goal

abbrev pub invariant-loop-b : goal.invariant-loop-b
invariant-loop-b l = all legal l.text ≡ all legal (part l.b-index (length l.b-items) l.b-items)

abbrev pub invariant-lines : goal.invariant-lines
invariant-lines l =
    let from = l.initial.lines in
    let s = from.text.now in
    (l.lines.text ≡ from.text) × (l.count ≤ l.lines.at)
    × Passed s l.limits.numbering l.limits.name_max l.start_idx l.kept (lines (drop from.at s)) l.count l.parts l.digits (lines (drop l.lines.at s))
    × Marked s l.kept from.at l.count l.lines.at l.parts × (from.at ≤ l.lines.at)

abbrev pub decreases-lines : goal.decreases-lines
decreases-lines l = length l.lines.text.now - l.lines.at
