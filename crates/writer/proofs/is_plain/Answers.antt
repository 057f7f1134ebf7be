-- `writer::is_plain` meets its contract, by the table of classes. Assumes nothing.
use mathlib.Core.Path.{◌∙◌}
use Rattle.swift_utils.specs.Classes.{plain}
use Rattle.swift_utils.proofs.Classes.{class_plain}
use Rattle.swift_utils.proofs.Table.{by_entries}
use Rattle.writer.proofs.is_plain.Goals as goal

pub returns : goal.returns
returns c = c.all_in.ensures ∙ by_entries 2 plain class_plain c.class_table.result.now c.args.text.now c.class_table.ensures
