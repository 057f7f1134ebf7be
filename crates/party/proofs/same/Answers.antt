-- Each test decides a part of what the records say.
use Rattle.std.proofs.Common.{◌≡◌, ◌∙◌, sym, ap}
use Rattle.std.proofs.lemmas.Bool.Decides.{Decides-eqb}
use denote.Enum.Bare.{same_true, same_false}
use Rattle.party.specs.contracts.PartyOption.{the_type}
use Rattle.party.specs.declared.Party.{Party}
use Rattle.party.specs.Decides.{Decides}
use Rattle.party.specs.Limits.{limits_of}
use Rattle.party.specs.Party.{where_limit, Same}
use Rattle.party.proofs.Laws.{decides_as, decides_so, both_then, both_else, equal_decides, where_none, where_same}
use Rattle.party.proofs.Content.{SameHead, SameAccount, SameBic, SameNames, SameDigits, head, account, bic, names, digits, same}
use Rattle.party.proofs.same.Goals as goal
use Rattle.party.proofs.same.Goals.{Joined-same_where-2, then-eq, else-eq, then-p-q, else-p-q, then-p-q-2, else-p-q-2, then-same_where, else-same_where, then-same_where-2, else-same_where-2}

-- what the tests before that of the names decide, in their order
abbrev Kind : Party → Party → Type 0
Kind p q = (p.option ≡ q.option) × (p.present ≡ q.present)

abbrev Counted : Party → Party → Type 0
Counted p q = Kind p q × (p.count ≡ q.count)

abbrev ButNames : Party → Party → Type 0
ButNames p q = ((Counted p q × SameAccount p q) × SameBic p q) × SameDigits p q

headed : (p q : Party) → ButNames p q → SameHead p q
headed p q h = record { option = h.0.0.0.0.0; present = h.0.0.0.0.1; count = h.0.0.0.1 }

but_names : (p q : Party) → Same p q → ButNames p q
but_names p q e =
    let h = head e in
    (((((h.option, h.present), h.count), account h e), bic h e), digits h e)

with_names : (p q : Party) → ButNames p q → SameNames p q → Same p q
with_names p q h n = same (headed p q h) h.0.0.1 h.0.1 n h.1

module _ (c : Joined-same_where-2) where
  abbrev p : Party
  p = c.args.p

  abbrev q : Party
  q = c.args.q

  kind : Decides c.if-eq.value (Kind p q)
  kind =
      let option : Decides c.eq.result (p.option ≡ q.option) = record {
        yes = λ e. same_true the_type tt _ _ (sym c.eq.ensures ∙ e);
        no = λ e. same_false the_type _ _ (sym c.eq.ensures ∙ e);
      } in
      elim c.if-eq.branch [
        | then-eq w ↦ both_then option w.if-eq.true w.value-is (equal_decides _ _)
        | else-eq w ↦ both_else option w.if-eq.false w.value-is
      ]

  counted : Decides c.if-p-q.value (Counted p q)
  counted = elim c.if-p-q.branch [
    | then-p-q w ↦ both_then kind w.if-p-q.true w.value-is (decides_so (Decides-eqb _ _))
    | else-p-q w ↦ both_else kind w.if-p-q.false w.value-is
  ]

  accounted : Decides c.if-p-q-2.value (Counted p q × SameAccount p q)
  accounted = elim c.if-p-q-2.branch [
    | then-p-q-2 w ↦ both_then counted w.if-p-q-2.true w.value-is (rw c.limits_of-limits.ensures at w.same_where.ensures)
    | else-p-q-2 w ↦ both_else counted w.if-p-q-2.false w.value-is
  ]

  with_bic : Decides c.if-same_where.value ((Counted p q × SameAccount p q) × SameBic p q)
  with_bic = elim c.if-same_where.branch [
    | then-same_where w ↦ both_then accounted w.if-same_where.true w.value-is (rw c.limits_of-limits.ensures at w.same_where-then-same_where.ensures)
    | else-same_where w ↦ both_else accounted w.if-same_where.false w.value-is
  ]

  with_digits : Decides c.if-same_where-2.value (ButNames p q)
  with_digits = elim c.if-same_where-2.branch [
    | then-same_where-2 w ↦ both_then with_bic w.if-same_where-2.true w.value-is (rw c.limits_of-limits.ensures at w.same_numbers.ensures)
    | else-same_where-2 w ↦ both_else with_bic w.if-same_where-2.false w.value-is
  ]

pub returns-then-limits-eq0 : goal.returns-then-limits-eq0
returns-then-limits-eq0 c =
    let at = (goal.at.returns-then-limits-eq0 c).Joined-same_where-2 in
    let rest = (with_digits at).yes c.if-same_numbers.true in
    decides_as (λ e. with_names _ _ rest (where_none _ _ _ (rw c.limits_of-limits.ensures at c.if-limits-eq0.true))) (λ e. c.if-limits-eq0.true) (decides_so (Decides-eqb _ _))

pub returns-else-limits-eq0 : goal.returns-else-limits-eq0
returns-else-limits-eq0 c =
    let at = (goal.at.returns-else-limits-eq0 c).Joined-same_where-2 in
    let rest = (with_digits at).yes c.if-same_numbers.true in
    decides_as (λ n. with_names _ _ rest (ap (where_limit (limits_of c.args.p.option).max_names) n))
    (λ e. where_same _ _ _ (rw c.limits_of-limits.ensures at c.if-limits-eq0.false) (names (headed _ _ rest) e)) c.same_names.ensures

pub returns-else-same_numbers : goal.returns-else-same_numbers
returns-else-same_numbers c =
    let d = with_digits (goal.at.returns-else-same_numbers c).Joined-same_where-2 in
    decides_as (λ h. absurd (d.no c.if-same_numbers.false h)) (but_names _ _) d
