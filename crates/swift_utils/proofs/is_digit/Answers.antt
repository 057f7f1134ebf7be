-- `swift_utils::is_digit` meets its contract, by what the classes say. Assumes nothing.
use mathlib.Core.Path.{◌∙◌}
use Rattle.swift_utils.proofs.Classes.{class_digit}
use Rattle.swift_utils.proofs.is_digit.Goals as goal

pub returns : goal.returns
returns c = c.is_in.ensures ∙ class_digit c.args.b
