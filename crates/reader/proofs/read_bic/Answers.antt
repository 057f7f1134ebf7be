-- `reader::read_bic` meets its contract, by whether a line is left. Assumes nothing.
use mathlib.Core.Path.{◌≡◌, sym, ◌∙◌, ap}
use mathlib.Core.List.{List, ◌∷◌}
use Prim.Native.Nat.{ℕ, suc, ◌+◌}
use native.Mathlib.Numerals.{add-one}
use lib.ListN.{drop}
use Rattle.errors.specs.declared.ParseError.TheVariants.{BicMissing}
use Rattle.errors.specs.Refusals.{Reply}
use Rattle.party.specs.Text.{part_in}
use Rattle.swift_utils.specs.Checks.{parse_bic}
use Rattle.field_utils.specs.Lines.{lines}
use Rattle.field_utils.proofs.Places.{found, ended}
use Rattle.reader.specs.Reading as reading
use Rattle.reader.specs.Reading.{party_of}
use Rattle.reader.specs.Options.{with_bic}
use Rattle.reader.specs.Code.{lines_before, head_at}
use Rattle.reader.proofs.Readings.{refusing, accepting}
use Rattle.reader.proofs.Into.{exits}
use Rattle.reader.proofs.read_bic.Goals as goal
use Rattle.reader.proofs.read_bic.Goals.{After-parse_bic}

-- what is said of the line that was found, where the BIC is read
module _ (c : After-parse_bic) where
  abbrev text : List ℕ
  text = c.args.later.lines.text.now

  abbrev left : List (List ℕ)
  left = lines (drop c.args.later.lines.at text)

  abbrev there : List (List ℕ) → reading.Found
  there ls = with_bic (suc (lines_before c.args.later.account)) (head_at text c.args.later.account) ls

  line : left ≡ part_in text c.in-Some.bic ∷ lines (drop c.next.new.self.at text)
  line = (found c.next.ensures.steps c.in-Some.is).line

  said : {r : Reply} → r ≡ parse_bic (c.from.result + 1) c.part_of.result.now → (there left).reply ≡ r
  said e =
      ap (λ (ls : List (List ℕ)). (there ls).reply) line
      ∙ (λ i. parse_bic (sym (ap (λ (k : ℕ). k + 1) (c.from.ensures ∙ c.start_idx.ensures) ∙ add-one (lines_before c.args.later.account)) i) (sym c.part_of.ensures i))
      ∙ sym e

pub returns-in_default : goal.returns-in_default
returns-in_default c =
    let a = c.args in
    refusing a.option _ a.later.lines.text.now BicMissing
    (ap (λ (ls : List (List ℕ)). (with_bic (suc (lines_before a.later.account)) (head_at a.later.lines.text.now a.later.account) ls).reply)
    (ended c.next.ensures.steps c.in_default.is).0)

pub returns-in_err-parse_bic : goal.returns-in_err-parse_bic
returns-in_err-parse_bic c =
    let a = c.args in
    rw (exits c.from_residual.ensures.1)
    (refusing a.option _ a.later.lines.text.now c.in_err-parse_bic.field-0.0 (said (goal.at.returns-in_err-parse_bic c).After-parse_bic c.in_err-parse_bic.ensures))

pub returns : goal.returns
unfolding party_of
returns c =
    let a = c.args in
    let at = (goal.at.returns c).After-parse_bic in
    accepting a.option (there at (left at)) a.later.lines.text.now _ (said at c.in_ok-parse_bic.ensures)
    (c.nameless_parts.ensures a.later.lines.text.now ∙ ap (λ (ls : List (List ℕ)). party_of a.option (there at ls)) (sym (line at)))
