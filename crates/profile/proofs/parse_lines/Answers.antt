-- `profile::parse_lines` meets its contract: while lines pass, the reply to all is the reply to those left. Assumes nothing.
use mathlib.Core.Path.{◌≡◌, refl, sym, ◌∙◌, ap, subst}
use mathlib.Core.Bool.{Bool, false, ◌||◌}
use mathlib.Core.List.{List, [], ◌∷◌}
use Prim.Native.Nat.{ℕ, suc, ◌+◌}
use native.Mathlib.Numerals.{add-one}
use lib.ListN.{drop}
use Rattle.std.proofs.Common.{rules}
use Rattle.std.specs.Prelude.{Some}
use Rattle.std.specs.Iterator.Adapters.{enumerate_source, enumerate_count}
use Rattle.errors.specs.Refusals.{refused}
use Rattle.party.specs.declared.Party.{Party}
use Rattle.party.specs.Text.{part_in}
use Rattle.field_utils.specs.Lines.{lines}
use Rattle.field_utils.specs.declared.lines.Lines.{Lines}
use Rattle.field_utils.specs.Cursor.{GivesLine}
use Rattle.field_utils.proofs.Places.{found, ended}
use Rattle.profile.specs.Profile.{holds_bic, is_inside, lines_reply, profile_reply}
use Rattle.profile.proofs.Laws.{lines_none, lines_fault, lines_pass}
use Rattle.profile.proofs.parse_lines.Goals as goal
use Rattle.profile.proofs.parse_lines.Goals.{After-is_inside, In-Some}

-- the line that was found
module _ (c : In-Some) where
  abbrev party : Party
  party = c.args.party.now

  abbrev body : List ℕ
  body = c.args.body.now

  abbrev line : List ℕ
  line = part_in body c.in-Some.part

  -- the lines that were left, and those that are
  abbrev before : Lines
  before = enumerate_source c.loop-k.k-iterator

  abbrev after : Lines
  after = enumerate_source c.next.new.self

  step : GivesLine before (Some c.in-Some.part) after
  step = c.in-Some.ensures.steps.0

  fits : lines (drop before.at body) ≡ line ∷ lines (drop after.at body)
  fits = subst (λ (l : List ℕ). lines (drop before.at l) ≡ part_in l c.in-Some.part ∷ lines (drop after.at l)) c.loop-k.invariant.2 (found step refl).line

  number : c.in-Some.k + 1 ≡ suc (enumerate_count c.loop-k.k-iterator)
  number = add-one c.in-Some.k ∙ ap suc c.in-Some.ensures.steps.1

-- what the tests of the line say
module _ (c : After-is_inside) where
  abbrev at : In-Some
  at = (goal.at.After-is_inside c).In-Some

  held : c.holds_bic-holds.result ≡ holds_bic (party at) (line at)
  held = c.holds_bic-holds.ensures ∙ ap (holds_bic (party at)) c.part_of-line.ensures

  tested : {t : Bool} → c.is_inside.result ≡ t → is_inside (suc (enumerate_count c.loop-k.k-iterator)) c.loop-k.after (holds_bic (party at) (line at)) (line at) ≡ t
  tested e = sym (λ i. is_inside (number at i) c.loop-k.after (held i) (c.part_of-line.ensures i)) ∙ sym c.is_inside.ensures ∙ e

pub loop-k-init : goal.loop-k-init
unfolding profile_reply
loop-k-init c =
    let source = ap enumerate_source c.into_iter-k-iterator.ensures.into_iter_gives ∙ c.enumerate-k-items.ensures.source in
    let start = ap (λ (l : Lines). l.at) source ∙ c.lines_of.ensures.at in
    let count = ap enumerate_count c.into_iter-k-iterator.ensures.into_iter_gives ∙ c.enumerate-k-items.ensures.count in (
      search rules,
      search rules,
      ap (λ (l : Lines). l.text.now) source ∙ c.lines_of.ensures.text,
      sym (λ i. lines_reply c.args.party.now (suc (count i)) false (lines (drop (start i) c.args.body.now))),
    )

pub returns-then-not-is_inside : goal.returns-then-not-is_inside
returns-then-not-is_inside c =
    let k = goal.at.returns-then-not-is_inside c in
    ap (refused 32) (number k.In-Some)
    ∙ sym (c.loop-k.invariant.3 ∙ lines_fault (party k.In-Some) _ c.loop-k.after _ _ _ (fits k.In-Some) (tested k.After-is_inside c.if-not-is_inside.true))

pub loop-k-preserved : goal.loop-k-preserved
loop-k-preserved c =
    let k = goal.at.loop-k-preserved c in
    let at = k.In-Some in
    let count : enumerate_count c.next.new.self ≡ suc (enumerate_count c.loop-k.k-iterator) = c.in-Some.ensures.steps.2 ∙ add-one _ in (
      search rules,
      search rules,
      ap (λ x. x.now) (step at).text ∙ c.loop-k.invariant.2,
      c.loop-k.invariant.3
          ∙ lines_pass (party at) _ c.loop-k.after _ _ _ (fits at) (tested k.After-is_inside c.if-not-is_inside.false)
          ∙ sym (λ i. lines_reply (party at) (suc (count i)) (c.loop-k.after || held k.After-is_inside i) (lines (drop (after at).at (body at)))),
    )

pub returns : goal.returns
returns c =
    let a = c.args in
    let left = enumerate_source c.loop-k.k-iterator in
    let none : lines (drop left.at a.body.now) ≡ [] = subst (λ (l : List ℕ). lines (drop left.at l) ≡ []) c.loop-k.invariant.2 (ended c.in-None.ensures.steps.0 refl).0 in
    sym (c.loop-k.invariant.3 ∙ lines_none a.party.now _ c.loop-k.after _ none)
