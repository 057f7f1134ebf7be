-- `swift_utils::parse_bic` meets its contract: a case of the rule for each way through the tests. Assumes nothing.
use mathlib.Core.Path.{◌≡◌, sym, ◌∙◌, ap}
use mathlib.Core.Bool.{Bool, true}
use mathlib.Core.List.{List}
use Prim.Native.Nat.{ℕ, ◌≤◌}
use native.Mathlib.Omega.{arith}
use lib.ListN.{length, take}
use lib.Seq.{length-take-le}
use Rattle.errors.specs.Refusals.{must}
use Rattle.swift_utils.specs.Bytes.{all, letter, alphanumeric}
use Rattle.swift_utils.specs.Checks.{bic_length, parse_bic}
use Rattle.swift_utils.proofs.Classes.{class_letter}
use Rattle.swift_utils.proofs.Table.{by_entries}
use Rattle.swift_utils.proofs.Checks.{bic_length_least, bic_length_other, bic_length_lem, bic_bank, bic_rest}
use Rattle.swift_utils.proofs.Parts.{part, part_end}
use Rattle.swift_utils.proofs.parse_bic.Goals as goal
use Rattle.swift_utils.proofs.parse_bic.Goals.{then-input-eq-BIC_SHORT, else-input-eq-BIC_SHORT, After-all_in, Else-input-eq-BIC_SHORT, Else-not-all_in, Else-not-is_bic_length, Joined-input-eq-BIC_SHORT}

-- past the test of the length
module _ (c : Else-not-is_bic_length) where
  abbrev input : List ℕ
  input = c.args.input.now

  abbrev line : ℕ
  line = c.args.line

  right : bic_length (length input) ≡ true
  right = sym c.is_bic_length.ensures ∙ c.if-not-is_bic_length.false

  long : 8 ≤ length input
  long = bic_length_least _ right

-- past the test of the first six
module _ (c : After-all_in) where
  bank : {t : Bool} → c.all_in.result ≡ t → all letter (take 6 (input (goal.at.After-all_in c).Else-not-is_bic_length)) ≡ t
  bank e =
      sym (by_entries 16 letter class_letter c.class_table.result.now (take 6 (input (goal.at.After-all_in c).Else-not-is_bic_length)) c.class_table.ensures)
      ∙ sym c.all_in.ensures
      ∙ e

-- at the rest
module _ (c : Else-not-all_in) where
  rest : {n : ℕ} {t : Bool} → length (input (goal.at.Else-not-all_in c).Else-not-is_bic_length) ≡ n → t ≡ all alphanumeric (part 6 n (input (goal.at.Else-not-all_in c).Else-not-is_bic_length))
      → must t 10 (line (goal.at.Else-not-all_in c).Else-not-is_bic_length) ≡ parse_bic (line (goal.at.Else-not-all_in c).Else-not-is_bic_length) (input (goal.at.Else-not-all_in c).Else-not-is_bic_length)
  rest h e =
      sym
      (bic_rest (line (goal.at.Else-not-all_in c).Else-not-is_bic_length) (input (goal.at.Else-not-all_in c).Else-not-is_bic_length) (right (goal.at.Else-not-all_in c).Else-not-is_bic_length) (bank (goal.at.Else-not-all_in c).After-all_in c.if-not-all_in.false)
      (ap (all alphanumeric) (sym (part_end (input (goal.at.Else-not-all_in c).Else-not-is_bic_length) 6) ∙ ap (λ (n : ℕ). part 6 n (input (goal.at.Else-not-all_in c).Else-not-is_bic_length)) h)
      ∙ sym e))

-- without a branch code there are eight bytes, with one eleven
eleven : (c : Else-input-eq-BIC_SHORT) → length (input (goal.at.Else-input-eq-BIC_SHORT c).Else-not-is_bic_length) ≡ 11
eleven c = bic_length_other _ (right (goal.at.Else-input-eq-BIC_SHORT c).Else-not-is_bic_length) c.if-input-eq-BIC_SHORT.false

pub returns-then-not-is_bic_length : goal.returns-then-not-is_bic_length
returns-then-not-is_bic_length c =
    let a = c.args in
    sym (bic_length_lem a.line a.input.now (sym c.is_bic_length.ensures ∙ c.if-not-is_bic_length.true))

pub slice_bounds-bank_and_country-end : goal.slice_bounds-bank_and_country-end
slice_bounds-bank_and_country-end c = sym (length-take-le 6 (input (goal.at.slice_bounds-bank_and_country-end c).Else-not-is_bic_length) (omega (arith, long (goal.at.slice_bounds-bank_and_country-end c).Else-not-is_bic_length)))

pub returns-then-not-all_in : goal.returns-then-not-all_in
returns-then-not-all_in c = sym (bic_bank (line (goal.at.returns-then-not-all_in c).Else-not-is_bic_length) (input (goal.at.returns-then-not-all_in c).Else-not-is_bic_length) (right (goal.at.returns-then-not-all_in c).Else-not-is_bic_length) (bank (goal.at.returns-then-not-all_in c).After-all_in c.if-not-all_in.true))

pub slice_bounds-all_alphanumeric-end-else-input-eq-BIC_SHORT : goal.slice_bounds-all_alphanumeric-end-else-input-eq-BIC_SHORT
slice_bounds-all_alphanumeric-end-else-input-eq-BIC_SHORT c = omega (arith, eleven c)

either : (c : Joined-input-eq-BIC_SHORT) {t : Bool} → c.if-input-eq-BIC_SHORT.is_rest_good ≡ t → must t 10 c.args.line ≡ parse_bic c.args.line c.args.input.now
either c e =
    let at = goal.at.Joined-input-eq-BIC_SHORT c in
    elim c.if-input-eq-BIC_SHORT.branch [
      | then-input-eq-BIC_SHORT w ↦ rest at.Else-not-all_in w.if-input-eq-BIC_SHORT.true (sym e ∙ w.is_rest_good-is ∙ w.all_alphanumeric-is_rest_good.ensures)
      | else-input-eq-BIC_SHORT w ↦
          rest at.Else-not-all_in (bic_length_other _ (right at.Else-not-is_bic_length) w.if-input-eq-BIC_SHORT.false)
          (sym e ∙ w.is_rest_good-is ∙ w.all_alphanumeric-is_rest_good-else-input-eq-BIC_SHORT.ensures)
    ]

pub returns-then-is_rest_good : goal.returns-then-is_rest_good
returns-then-is_rest_good c = either (goal.at.returns-then-is_rest_good c).Joined-input-eq-BIC_SHORT c.if-is_rest_good.true

pub returns-else-is_rest_good : goal.returns-else-is_rest_good
returns-else-is_rest_good c = either (goal.at.returns-else-is_rest_good c).Joined-input-eq-BIC_SHORT c.if-is_rest_good.false
