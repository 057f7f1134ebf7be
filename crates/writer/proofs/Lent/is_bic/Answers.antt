-- `writer::Lent::is_bic` meets its contract: a text that passes as a BIC has no LF. Assumes nothing.
use mathlib.Core.Path.{◌≡◌, sym, ◌∙◌, ap}
use mathlib.Core.Bool.{Bool, not, ◌&&◌}
use mathlib.Core.List.{List, [], ◌∷◌}
use Prim.Native.Nat.{ℕ}
use native.Mathlib.Omega.{arith}
use Rattle.party.specs.declared.Party.{Party}
use Rattle.party.specs.Limits.{limits_of}
use Rattle.party.specs.Text.{used}
use Rattle.party.specs.Party.{where_limit}
use Rattle.swift_utils.specs.Bytes.{among}
use Rattle.swift_utils.specs.Checks.{parse_bic}
use Rattle.record_bytes.specs.RecordBytes.{laid_out}
use Rattle.record_bytes.proofs.Laws.{laid_size}
use Rattle.writer.specs.Given.{passes, every, is_bic}
use Rattle.writer.proofs.Texts.{line_whole}
use Rattle.writer.proofs.Records.{every_one, ok_passes}
use Rattle.writer.proofs.Necessary.{bic_line_lem}
use Rattle.writer.proofs.Lent.is_bic.Goals as goal
use Rattle.writer.proofs.Lent.is_bic.Goals.{After-is_whole}

module _ (w : After-is_whole) where
  abbrev p : Party
  p = laid_out w.args.self.now.bytes.now

  -- where the option has one, it is a line, and passes
  tested :
      {b : Bool} → w.is_whole.result ≡ b →
      every is_bic (where_limit (limits_of p.option).bic_count (used p.bic ∷ [])) ≡ ((b && not (among (used p.bic).bytes 10)) && passes (parse_bic 1 (used p.bic).bytes))
  tested e =
      every_one is_bic (limits_of p.option).bic_count (used p.bic) (rw w.limits.ensures at w.if-limits-eq0.false)
      ∙ ap (λ (b : Bool). b && passes (parse_bic 1 (used p.bic).bytes))
      (line_whole p.bic (laid_size w.args.self.now.bytes.now 1 (omega arith)) (sym w.is_whole.ensures ∙ e))

pub returns-then-is_whole : goal.returns-then-is_whole
returns-then-is_whole c =
    let w = (goal.at.returns-then-is_whole c).After-is_whole in
    ok_passes c.parse_bic.result c.parse_bic.ensures c.is_ok.ensures.value
    ∙ ap (λ (x : List ℕ). passes (parse_bic 1 x)) c.bic.ensures
    ∙ sym (bic_line_lem 1 (used (p w).bic).bytes)
    ∙ sym (tested w c.if-is_whole.true)

pub returns-else-is_whole : goal.returns-else-is_whole
returns-else-is_whole c = c.if-is_whole.false ∙ sym (tested (goal.at.returns-else-is_whole c).After-is_whole c.if-is_whole.false)
