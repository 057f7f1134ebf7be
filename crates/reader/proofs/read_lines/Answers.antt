-- `reader::read_lines` meets its contract: the count, the first line, then the lines after it. Assumes nothing.
use mathlib.Core.Path.{◌≡◌, refl, sym, ◌∙◌, ap, subst}
use mathlib.Core.Bool.{Bool, true, false}
use mathlib.Core.List.{List, [], ◌∷◌}
use Prim.Native.Nat.{ℕ, suc}
use native.Mathlib.Omega.{arith}
use lib.ListN.{length, drop}
use Rattle.std.specs.Prelude.{Option, Ok}
use Rattle.errors.specs.declared.ParseError.TheVariants.{LineCount}
use Rattle.party.specs.declared.PartyOption.{PartyOption}
use Rattle.party.specs.Limits.{limits_of}
use Rattle.party.specs.Text.{part_in}
use Rattle.field_utils.specs.Lines.{lines}
use Rattle.reader.specs.declared.RestAt.{RestAt}
use Rattle.reader.specs.Reading as reading
use Rattle.reader.specs.Options.{Head, is_counted, head_by, after_head, by_lines}
use Rattle.reader.specs.Code.{IsHead, told_parts, passed_head, lines_before, head_at, reading_of}
use Rattle.reader.proofs.Readings.{refusing}
use Rattle.reader.proofs.Bodies.{lines_count, head_refused, head_there, head_none}
use Rattle.reader.proofs.Into.{exits}
use Rattle.reader.proofs.Walks.{Opened, opened, unopened}
use Rattle.reader.proofs.read_lines.Goals as goal
use Rattle.reader.proofs.read_lines.Goals.{After-counts, Joined-branch-2, In-Some, in-Some-2, in-None}

-- what the line that was found says
first : (c : In-Some) → Opened c.args.body.now c.in-Some.first c.next.new.self
first c = opened c.lines_of-rest.ensures.text c.lines_of-rest.ensures.at c.next.ensures.steps c.in-Some.is

module _ (c : After-counts) where
  abbrev option : PartyOption
  option = c.args.option

  abbrev body : List ℕ
  body = c.args.body.now

  -- the first line, and those after it
  abbrev line : List ℕ
  line = part_in body c.in-Some.first

  abbrev others : List (List ℕ)
  others = lines (drop c.next.new.self.at body)

  known : Opened body c.in-Some.first c.next.new.self
  known = first (goal.at.After-counts c).In-Some

  -- how the lines are counted
  counted : {t : Bool} → c.counts.result ≡ t → is_counted option (length (line ∷ others)) ≡ t
  counted e =
      ap (λ (ls : List (List ℕ)). is_counted option (length ls)) (sym known.all)
      ∙ ap (λ (l : List ℕ). is_counted option (length (lines l))) (sym known.text)
      ∙ sym c.counts.ensures
      ∙ e

-- past the first line, by whether it has an account or identifier
module _ (c : Joined-branch-2) where
  abbrev at : After-counts
  at = (goal.at.Joined-branch-2 c).After-counts

  abbrev head : Head
  head = head_by (limits_of (option at)).first (option at) (line at)

  abbrev rest : RestAt → reading.Found
  rest b = after_head (option at) (suc (lines_before b.account)) (head_at b.lines.text.now b.account) (lines (drop b.lines.at b.lines.text.now))

  made : {o : Option ℕ} → c.in_ok-skip.field-0 ≡ o → IsHead (line at) (Ok o) head
  made e = subst (λ (o : Option ℕ). IsHead (line at) (Ok o) head) e (subst (λ (l : List ℕ). IsHead l (Ok c.in_ok-skip.field-0) (head_by (limits_of (option at)).first (option at) l)) c.part_of.ensures c.in_ok-skip.ensures)

  rest_is : (c.match-branch-2.later.lines.text.now ≡ body at) × (rest c.match-branch-2.later ≡ by_lines (option at) (lines (body at)))
  rest_is =
      elim c.match-branch-2.branch [
        | in-Some-2 w ↦
            let h = made w.in-Some-2.is in (
              ap (λ (b : RestAt). b.lines.text.now) w.later-is ∙ (known at).text,
              ap rest w.later-is
                  ∙ ap (λ (t : List ℕ). after_head (option at) 2 (passed_head true t) (lines (drop c.next.new.self.at c.next.new.self.text.now))) (w.part_behind.ensures c.next.new.self.text.now)
                  ∙ ap (λ (l : List ℕ). after_head (option at) 2 (passed_head true (drop w.in-Some-2.skip (part_in l c.in-Some.first))) (lines (drop c.next.new.self.at l))) (known at).text
                  ∙ sym (ap (by_lines (option at)) (known at).all ∙ head_there (option at) (line at) (others at) refl (counted at c.if-not-counts.false) (ap (λ (g : Head). g.present) h) (ap (λ (g : Head). g.text) h) (ap (λ (g : Head). g.reply) h)),
            )
        | in-None w ↦
            let h = made w.in-None.is in (
              ap (λ (b : RestAt). b.lines.text.now) w.later-is ∙ w.lines_of.ensures.text,
              ap rest w.later-is
                  ∙ (λ i. after_head (option at) 1 (passed_head false []) (lines (drop (w.lines_of.ensures.at i) (w.lines_of.ensures.text i))))
                  ∙ ap (after_head (option at) 1 (passed_head false [])) (known at).all
                  ∙ sym (ap (by_lines (option at)) (known at).all ∙ head_none (option at) (line at) (others at) refl (counted at c.if-not-counts.false) (ap (λ (g : Head). g.present) h) (ap (λ (g : Head). g.text) h) (ap (λ (g : Head). g.reply) h)),
            )
      ]

pub returns-in_default : goal.returns-in_default
returns-in_default c =
    let a = c.args in
    refusing a.option (by_lines a.option (lines a.body.now)) a.body.now LineCount
    (ap (λ (ls : List (List ℕ)). (by_lines a.option ls).reply) (unopened c.lines_of-rest.ensures.text c.lines_of-rest.ensures.at c.next.ensures.steps c.in_default.is))

pub counts-requires : goal.counts-requires
counts-requires c =
    let k = first c in
    subst (λ (l : List ℕ). length (lines l) ≡ suc (length (lines (drop c.next.new.self.at l)))) (sym k.text) (ap length k.all)

pub returns-then-not-counts : goal.returns-then-not-counts
returns-then-not-counts c =
    let at = (goal.at.returns-then-not-counts c).After-counts in
    refusing (option at) (by_lines (option at) (lines (body at))) (body at) LineCount
    (ap (λ (ls : List (List ℕ)). (by_lines (option at) ls).reply) (known at).all ∙ lines_count (option at) (line at) (others at) (counted at c.if-not-counts.true))

pub part_behind-requires : goal.part_behind-requires
part_behind-requires c = omega (arith, (first (goal.at.part_behind-requires c).In-Some).within)

pub returns-in_err-skip : goal.returns-in_err-skip
returns-in_err-skip c =
    let at = (goal.at.returns-in_err-skip c).After-counts in
    rw (exits c.from_residual.ensures.1)
    (refusing (option at) (by_lines (option at) (lines (body at))) (body at) c.in_err-skip.field-0.0
    (ap (λ (ls : List (List ℕ)). (by_lines (option at) ls).reply) (known at).all ∙ head_refused (option at) (line at) (others at) refl (counted at c.if-not-counts.false) (sym (ap (λ (l : List ℕ). (head_by (limits_of (option at)).first (option at) l).reply) c.part_of.ensures) ∙ c.in_err-skip.ensures)))

pub returns : goal.returns
returns c =
    let made = rest_is (goal.at.returns c).Joined-branch-2 in
    sym (ap (λ (l : List ℕ). told_parts l c.read_rest.result) made.0) ∙ c.read_rest.ensures ∙ ap (reading_of c.args.option) made.1
