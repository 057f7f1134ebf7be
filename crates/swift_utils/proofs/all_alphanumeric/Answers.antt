-- `swift_utils::all_alphanumeric` meets its contract, by what the classes say. Assumes nothing.
use mathlib.Core.Path.{◌∙◌}
use Rattle.swift_utils.specs.Bytes.{alphanumeric}
use Rattle.swift_utils.proofs.Classes.{class_alphanumeric}
use Rattle.swift_utils.proofs.Table.{by_entries}
use Rattle.swift_utils.proofs.all_alphanumeric.Goals as goal

pub returns : goal.returns
returns c = c.all_in.ensures ∙ by_entries 8 alphanumeric class_alphanumeric c.class_table.result.now c.args.s.now c.class_table.ensures
