-- `swift_utils::is_legal` meets its contract, by what the classes say. Assumes nothing.
use mathlib.Core.Path.{◌∙◌}
use Rattle.swift_utils.proofs.Classes.{class_legal}
use Rattle.swift_utils.proofs.is_legal.Goals as goal

pub returns : goal.returns
returns c = c.is_in.ensures ∙ class_legal c.args.b
