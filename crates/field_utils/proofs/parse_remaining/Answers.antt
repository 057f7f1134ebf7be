-- `parse_remaining` meets its contract: a case of the rule for each way through the tests. Assumes nothing.
use Rattle.std.proofs.Common.{ℕ, drop, sym, refl, ap, ◌∙◌, add-one, arith}
use Rattle.swift_utils.specs.Checks.{parse_account}
use Rattle.swift_utils.proofs.Parts.{part_end}
use Rattle.field_utils.specs.Lines.{upto}
use Rattle.field_utils.proofs.Identifiers.{no_slash, two_slashes, code_long, code_other, code_good}
use Rattle.field_utils.proofs.parse_remaining.Goals as goal

pub returns-in-None : goal.returns-in-None
returns-in-None c =
    let a = c.args in
    c.parse_account.ensures ∙ sym (no_slash a.longest a.line a.remaining.now (upto 47 a.remaining.now) refl c.in-None.ensures)

pub returns-in-Some-eq0 : goal.returns-in-Some-eq0
returns-in-Some-eq0 c =
    let a = c.args in
    let k = c.in-Some-eq0 in
    c.parse_account-in-Some-eq0.ensures
    ∙ ap (parse_account 1 a.longest a.line) (part_end a.remaining.now 1)
    ∙ sym (two_slashes a.longest a.line a.remaining.now k.field-0 k.ensures.0 k.ensures.1 k.field-0-test)

pub returns-in-Some : goal.returns-in-Some
returns-in-Some c =
    let a = c.args in
    let k = c.in-Some in
    c.parse_account-in-Some.ensures
    ∙ ap (parse_account 0 a.longest a.line) (part_end a.remaining.now _ ∙ ap (λ (n : ℕ). drop n a.remaining.now) (add-one k.slash))
    ∙ sym (code_good a.longest a.line a.remaining.now k.slash k.ensures.0 k.ensures.1 (omega arith) c.if-slash-le2.true (sym c.if-all_alphanumeric.ensures))

pub returns-in-Some-2 : goal.returns-in-Some-2
returns-in-Some-2 c =
    let a = c.args in
    let k = c.in-Some in
    sym (code_other a.longest a.line a.remaining.now k.slash k.ensures.0 k.ensures.1 (omega arith) c.if-slash-le2.true (sym c.if-all_alphanumeric.ensures))

pub returns-in-Some-2-2 : goal.returns-in-Some-2-2
returns-in-Some-2-2 c =
    let a = c.args in
    let k = c.in-Some in
    sym (code_long a.longest a.line a.remaining.now k.slash k.ensures.0 k.ensures.1 (omega arith) c.if-slash-le2.false)
