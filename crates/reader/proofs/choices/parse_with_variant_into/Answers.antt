-- `choices::parse_with_variant_into` meets its contract: 42, the letter's check, then the first trial that has the letter. Assumes nothing.
use mathlib.Core.Path.{◌≡◌, sym, ◌∙◌, ap}
use mathlib.Core.Bool.{Bool}
use mathlib.Core.List.{List}
use Rattle.errors.specs.Refusals.{must}
use Rattle.reader.specs.Reading.{Reading, leaves, read_into}
use Rattle.reader.specs.declared.choices.Trial.{Trial}
use Rattle.reader.specs.Choices.{parse, options_in, pick_of, parse_with_variant}
use denote.Bor.{Bor}
use Rattle.std.specs.Prelude.{Option}
use Rattle.std.proofs.Common.{rules, tests}
use Rattle.std.proofs.lemmas.Iterator.{first_from_find, YieldsList-from_slice}
use Rattle.reader.proofs.Into.{into_whole}
use Rattle.reader.proofs.Trials.{Has, Lacks, read_by, pick_first, check_refused, check_passed}
use Rattle.reader.proofs.choices.parse_with_variant_into.Goals as goal
use Rattle.reader.proofs.choices.parse_with_variant_into.Goals.{After-find-picked}

pub returns-then-not-is_letter : goal.returns-then-not-is_letter
unfolding parse_with_variant
returns-then-not-is_letter c =
    let d = c.args.«record».now in
    ap (λ (r : Reading). leaves r d) (sym (check_refused _ (ap (λ (t : Bool). must t 14 0) (sym c.is_letter.ensures ∙ c.if-not-is_letter.true)))) ∙ sym (into_whole _ d c.if-record-lt-RECORD_SIZE.false)

-- what the trial that is found makes of the body
module _ (c : After-find-picked) where
  abbrev by : Option (Bor Trial) → Reading
  by = let a = c.args in read_by a.letter a.body.now (parse a.choice a.body.now)

  rule : parse_with_variant c.args.choice c.args.body.now c.args.letter ≡ by c.find-picked.result
  unfolding parse_with_variant
  rule =
      let a = c.args in
      let detects = parse a.choice a.body.now in
      let ts = c.trials_of.result.now in
      let r = c.find-picked.result in
      let first = first_from_find _ _ r (Has a.letter a.body.now detects) (Lacks a.letter a.body.now detects) c.find-picked.ensures.ran (YieldsList-from_slice ts c.iter.ensures.rest) (λ x q k. search (rules, tests)) (λ x q k. search (rules, tests)) in
      check_passed _ (ap (λ (t : Bool). must t 14 0) (sym c.is_letter.ensures ∙ c.if-not-is_letter.false))
      ∙ ap (λ (ts : List Trial). pick_of a.letter (options_in ts) a.body.now detects) (sym c.trials_of.ensures)
      ∙ pick_first a.letter a.body.now detects ts r first

pub returns-in-Some : goal.returns-in-Some
returns-in-Some c =
    let q = (goal.at.returns-in-Some c).After-find-picked in
    c.read_into.ensures ∙ ap (λ (w : Reading). read_into w c.args.«record».now) (sym (rule q ∙ ap (by q) c.in-Some.is))

-- detected where none has it
pub returns-in-None : goal.returns-in-None
returns-in-None c =
    let q = (goal.at.returns-in-None c).After-find-picked in
    c.parse_into.ensures ∙ ap (λ (w : Reading). read_into w c.args.«record».now) (sym (rule q ∙ ap (by q) c.in-None.is))
