-- `swift_utils::parse_swift_chars` meets its contract: a case of the rule for each way of the test. Assumes nothing.
use mathlib.Core.Path.{◌≡◌, sym, ◌∙◌}
use mathlib.Core.Bool.{Bool}
use Rattle.errors.specs.Refusals.{must}
use Rattle.swift_utils.specs.Bytes.{legal}
use Rattle.swift_utils.specs.Checks.{parse_swift_chars}
use Rattle.swift_utils.proofs.Classes.{class_legal}
use Rattle.swift_utils.proofs.Table.{by_entries}
use Rattle.swift_utils.proofs.Checks.{chars}
use Rattle.swift_utils.proofs.parse_swift_chars.Goals as goal
use Rattle.swift_utils.proofs.parse_swift_chars.Goals.{After-all_in}

-- what the test of the class says
tested : (c : After-all_in) {t : Bool} → c.all_in.result ≡ t
    → let a = c.args in must t 3 a.line ≡ parse_swift_chars a.line a.input.now
tested c e =
    let a = c.args in
    sym (chars a.line a.input.now (sym (by_entries 1 legal class_legal c.class_table.result.now a.input.now c.class_table.ensures) ∙ sym c.all_in.ensures ∙ e))

pub returns-then-all_in : goal.returns-then-all_in
returns-then-all_in c = tested (goal.at.returns-then-all_in c).After-all_in c.if-all_in.true

pub returns-else-all_in : goal.returns-else-all_in
returns-else-all_in c = tested (goal.at.returns-else-all_in c).After-all_in c.if-all_in.false
