-- `lines::trim` meets its contract: while bytes are taken away, the trimmed start is that of the part after them. Assumes nothing.
use Rattle.std.proofs.Common.{◌≡◌, sym, ap, ◌∙◌, arith}
use Rattle.swift_utils.proofs.Parts.{part_end}
use Rattle.field_utils.specs.Trim.{trimmed, trimmed_start, trimmed_end}
use Rattle.field_utils.proofs.Trims.{start_more, start_there, start_short}
use Rattle.field_utils.proofs.lines.trim.Goals as goal
use Rattle.field_utils.proofs.lines.trim.Goals.{in_default, in-len1-up+then-not-is_white}

pub loop-part-preserved : goal.loop-part-preserved
loop-part-preserved c =
    let p = c.loop-part.part.now in
    c.loop-part.invariant ∙ start_more p 0 (omega arith) (sym c.is_white.ensures ∙ c.if-not-is_white.false) ∙ ap trimmed_start (sym (part_end p 1))

pub returns : goal.returns
unfolding trimmed
returns c =
    let p = c.loop-part.part.now in
    let there : trimmed_start p ≡ p =
    elim c.if-part-lt1.branch [
      | in_default w ↦ start_short p (omega arith)
      | in-len1-up+then-not-is_white w ↦ start_there p 0 (omega arith) (sym w.is_white.ensures ∙ w.if-not-is_white.true)
    ] in
    c.trim_end.ensures ∙ ap trimmed_end (sym (c.loop-part.invariant ∙ there))
