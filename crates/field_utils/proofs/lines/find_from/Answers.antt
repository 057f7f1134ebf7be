-- `lines::find_from` meets its contract: what is found of the bytes left stands among them. Assumes nothing.
use Rattle.std.proofs.Common.{drop, ap, ◌∙◌, arith, length-drop}
use Rattle.swift_utils.proofs.Parts.{part_end}
use Rattle.field_utils.specs.Lines.{upto}
use Rattle.field_utils.proofs.Places.{upto_length}
use Rattle.field_utils.proofs.lines.find_from.Goals as goal

pub overflow_add-result : goal.overflow_add-result
overflow_add-result c =
    let s = c.args.s.now in
    let from = c.args.from in
    record { fits = omega (arith, c.find_by_word.ensures ∙ ap (upto 10) (part_end s from), upto_length 10 (drop from s), length-drop from s) }
