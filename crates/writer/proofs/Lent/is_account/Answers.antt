-- `writer::Lent::is_account` meets its contract. Assumes nothing.
use mathlib.Core.Path.{◌≡◌, sym, ◌∙◌, ap}
use mathlib.Core.Bool.{Bool, true, false, not, ◌&&◌}
use Prim.Native.Nat.{ℕ}
use native.Mathlib.Omega.{arith}
use lib.Dec.{eqb}
use Rattle.party.specs.declared.Party.{Party}
use Rattle.party.specs.declared.PartyOption.{PartyOption}
use Rattle.party.specs.Limits.{limits_of}
use Rattle.party.specs.Text.{used}
use Rattle.swift_utils.specs.Bytes.{among}
use Rattle.record_bytes.specs.RecordBytes.{laid_out}
use Rattle.record_bytes.proofs.Laws.{laid_size}
use Rattle.writer.specs.Given.{passes, text_reply, is_account}
use Rattle.writer.specs.Code.{line_reply, head_test}
use Rattle.writer.proofs.Texts.{line_whole}
use Rattle.writer.proofs.Records.{every_one, empty_line}
use Rattle.writer.proofs.Lent.is_account.Goals as goal
use Rattle.writer.proofs.Lent.is_account.Goals.{After-is_whole}

module _ (w : After-is_whole) where
  abbrev p : Party
  p = laid_out w.args.self.now.bytes.now

  -- where the option has one and it is there, it is a line, and its text passes
  tested :
      {b : Bool} → w.is_whole.result ≡ b → let x = (used p.account).bytes in
      head_test p.option p.present p ≡ ((b && not (among x 10)) && passes (text_reply (limits_of p.option).first p.option x))
  tested e =
      ap (λ (t : Bool). head_test p.option t p) (sym w.args.self.now.present_is ∙ w.if-not-self.false)
      ∙ every_one (is_account p.option true) (limits_of p.option).account_max (used p.account) (rw w.limits.ensures at w.if-limits-eq0.false)
      ∙ ap (λ (b : Bool). b && passes (text_reply (limits_of p.option).first p.option (used p.account).bytes))
      (line_whole p.account (laid_size w.args.self.now.bytes.now 0 (omega arith)) (sym w.is_whole.ensures ∙ e))

pub returns-then-not-self : goal.returns-then-not-self
returns-then-not-self c =
    let p = laid_out c.args.self.now.bytes.now in
    ap (λ (n : ℕ). eqb n 0) c.text_length.ensures
    ∙ sym (
    ap (λ (t : Bool). head_test p.option t p) (sym c.args.self.now.present_is ∙ c.if-not-self.true)
    ∙ every_one (is_account p.option false) (limits_of p.option).account_max (used p.account) (rw c.limits.ensures at c.if-limits-eq0.false)
    ∙ empty_line p.account
    )

pub returns-then-is_whole : goal.returns-then-is_whole
returns-then-is_whole c =
    let w = (goal.at.returns-then-is_whole c).After-is_whole in
    let x = (used (p w).account).bytes in
    rw c.account.ensures at c.is_account_text.ensures
    ∙ ap (λ (o : PartyOption). line_reply (text_reply (limits_of o).first o x) x) c.args.self.now.option_is
    ∙ sym (tested w c.if-is_whole.true)

pub returns-else-is_whole : goal.returns-else-is_whole
returns-else-is_whole c = c.if-is_whole.false ∙ sym (tested (goal.at.returns-else-is_whole c).After-is_whole c.if-is_whole.false)
