-- `swift_utils::is_in` meets its contract: its entry of the table. Assumes nothing.
use mathlib.Core.Path.{◌∙◌, ap}
use mathlib.Core.List.{List}
use Prim.Native.Nat.{ℕ}
use lib.ListN.{get_or}
use Rattle.swift_utils.specs.Classes.{has_bits}
use Rattle.swift_utils.proofs.Table.{classes_at}
use Rattle.swift_utils.proofs.is_in.Goals as goal

pub returns : goal.returns
returns c = ap (λ (l : List ℕ). has_bits c.args.mask (get_or l c.args.b 0)) c.class_table.ensures ∙ ap (has_bits c.args.mask) (classes_at c.args.b)
