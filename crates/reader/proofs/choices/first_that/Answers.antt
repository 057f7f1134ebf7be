-- `choices::first_that` meets its contract: each place that is passed leaves it to those after it, and the bytes as they were. Assumes nothing.
use mathlib.Core.Path.{◌≡◌, refl, sym, ◌∙◌, ap}
use mathlib.Core.Bool.{true}
use mathlib.Core.List.{List, ◌∷◌}
use Prim.Native.Nat.{ℕ, ◌+◌}
use lib.ListN.{drop, get_or, drop_of_length-le}
use Rattle.errors.specs.Refusals.{accepted, refused}
use Rattle.party.specs.declared.PartyOption.TheVariants.{Field50NoOption}
use Rattle.field_utils.specs.Lines.{lines}
use Rattle.reader.specs.Reading.{Reading, leaves}
use Rattle.reader.specs.Options.{body_reply, read_own, read}
use Rattle.reader.proofs.Bodies.{body_passed}
use Rattle.reader.specs.declared.choices.Trial.{Trial}
use Rattle.reader.specs.declared.choices.Test.TheVariants.{Always}
use Rattle.reader.specs.Choices.{try, trials_of, tried_text, wanted, refusing, first_that}
use Rattle.reader.specs.ChoicesCode.{asked_text}
use Rattle.reader.proofs.Trials.{place_at, first_won, first_lost, first_unwanted, first_wanted, first_none}
use Rattle.reader.proofs.Into.{went, failed, into_accepted, accepts, refuses, left}
use Rattle.reader.proofs.Trimmed.{tried_body}
use Rattle.reader.proofs.RuledOut.{open_of, open_that}
use Rattle.reader.proofs.choices.first_that.Goals as goal
use Rattle.reader.proofs.choices.first_that.Goals.{After-trials_of-option-items, After-is_open, else-is_open-via-then-is_open+else-is_ok, else-is_open-via-else-is_open}

-- what was gathered before the loop
module _ (c : After-trials_of-option-items) where
  abbrev text : List ℕ
  text = c.tried_text-text.result.now

  abbrev asked : List (List ℕ)
  asked = lines c.summarize-seen.result.rest.text.now

  abbrev tried : List Trial
  tried = c.trials_of-option-items.result.now

  -- what is left to try from a place on
  abbrev from : List Trial → Reading
  from ts = first_that (open_of text asked ts) text

  -- the rule, by what the calls gave
  rule : let a = c.args in from tried ≡ first_that (wanted (lines a.body.now) (trials_of a.choice)) (tried_text a.choice a.body.now)
  rule =
      let a = c.args in
      ap from c.trials_of-option-items.ensures
      ∙ ap (λ (l : List ℕ). first_that (open_of text (lines l) (trials_of a.choice)) text) (c.summarize-seen.ensures ∙ c.asked_text.ensures)
      ∙ ap (λ (l : List ℕ). first_that (open_of l (lines (asked_text a.choice a.body.now)) (trials_of a.choice)) l) c.tried_text-text.ensures
      ∙ open_that a.choice a.body.now c.requires

  passes : body_reply text ≡ accepted
  passes =
      ap body_reply c.tried_text-text.ensures ∙ tried_body c.args.body.now c.requires c.args.choice

-- the option at the place of the loop, and those after it
module _ (c : After-is_open) where
  abbrev at : After-trials_of-option-items
  at = (goal.at.After-is_open c).After-trials_of-option-items

  abbrev trial : Trial
  trial = get_or (tried at) c.loop-option.option-index (try Field50NoOption Always)

  abbrev others : List Trial
  others = drop (c.loop-option.option-index + 1) (tried at)

  here : from at (tried at) ≡ from at (trial ∷ others)
  here = c.loop-option.invariant.1 ∙ ap (from at) (place_at (tried at) c.loop-option.option-index _ c.loop-option-test.true refl)

-- what the reading of an option that is open is to the rule, by its reply
module _ (now : After-is_open) (is_open : now.is_open.result ≡ true) where
  abbrev all : After-trials_of-option-items
  all = at now

  abbrev w : Reading
  w = read_own (trial now).0 (text all)

  opened : from all (tried all) ≡ first_that ((trial now).0 ∷ open_of (text all) (asked all) (others now)) (text all)
  opened = here now ∙ first_wanted _ _ _ (sym now.is_open.ensures ∙ is_open)

  own : read (trial now).0 (text all) ≡ w
  own = body_passed (trial now).0 (text all) (passes all)

  won : w.reply ≡ accepted → w ≡ from all (tried all)
  won a = sym (opened ∙ first_won (trial now).0 _ (text all) (ap (λ (w : Reading). w.reply) own ∙ a) ∙ own)

  lost : {k n : ℕ} → w.reply ≡ refused k n → from all (tried all) ≡ from all (others now)
  lost a = opened ∙ first_lost (trial now).0 _ (text all) (ap (λ (w : Reading). w.reply) own ∙ a)

pub loop-option-init : goal.loop-option-init
loop-option-init c = (refl, refl)

pub returns-then-is_ok : goal.returns-then-is_ok
returns-then-is_ok c =
    let now = (goal.at.returns-then-is_ok c).After-is_open in
    let t = c.if-is_open.true in
    let e = went c.read_own_into.result (sym c.is_ok.ensures.value ∙ c.if-is_ok.true) in
    into_accepted (w now t) c.loop-option.«record» c.read_own_into.result c.read_own_into.ensures e (won now t (accepts (w now t) c.loop-option.«record» c.read_own_into.result c.read_own_into.ensures e) ∙ rule (all now t)) c.loop-option.invariant.0

pub loop-option-preserved : goal.loop-option-preserved
loop-option-preserved c =
    let now = (goal.at.loop-option-preserved c).After-is_open in
    let d = c.loop-option.«record» in
    elim c.else-is_open.branch [
      | else-is_open-via-then-is_open+else-is_ok v ↦
          let t = v.if-is_open.true in
          let o = v.read_own_into.result in
          let e = failed o (sym v.is_ok.ensures.value ∙ v.if-is_ok.false) in
          (v.record-is ∙ left (w now t) d o v.read_own_into.ensures e.1 ∙ c.loop-option.invariant.0, lost now t (refuses (w now t) d o v.read_own_into.ensures e.1))
      | else-is_open-via-else-is_open v ↦
          (v.record-is ∙ c.loop-option.invariant.0, here now ∙ first_unwanted _ _ _ (sym c.is_open.ensures ∙ v.if-is_open.false))
    ]

pub returns : goal.returns
returns c =
    let at = (goal.at.returns c).After-trials_of-option-items in
    let none = c.loop-option.invariant.1 ∙ ap (from at) (drop_of_length-le (tried at) {i = c.loop-option.option-index} c.loop-option-test.false) ∙ first_none (text at) in
    ap (leaves (refusing 11 0)) c.loop-option.invariant.0 ∙ ap (λ (w : Reading). leaves w c.args.«record».now) (sym none ∙ rule at)
