-- `writer::Lent::is_counted` meets its contract. Assumes nothing.
use Prim.Native.Nat.{ℕ}
use mathlib.Core.Path.{◌≡◌, refl, sym, ◌∙◌, ap}
use mathlib.Core.Bool.{Bool, true, false, ◌&&◌}
use lib.Dec.{eqb}
use borrow.Author.Tests.{eq-eqb, ne_eqb}
use lib.ListN.{length}
use Rattle.party.specs.declared.Limits.{Limits}
use Rattle.party.specs.declared.Party.{Party}
use Rattle.party.specs.Limits.{limits_of}
use Rattle.party.specs.Party.{content}
use Rattle.field_utils.specs.Names.{parse_count}
use Rattle.record_bytes.specs.RecordBytes.{laid_out}
use Rattle.record_bytes.proofs.Laws.{laid_names}
use Rattle.writer.specs.Given.{passes}
use Rattle.writer.specs.Code.{count_test}
use Rattle.writer.proofs.Names.{content_names, names_length_lem}
use Rattle.writer.proofs.Records.{ok_passes}
use Rattle.writer.proofs.Lent.is_counted.Goals as goal
use Rattle.writer.proofs.Lent.is_counted.Goals.{After-limits}

-- the test of a number of names and a count, by the most that there may be
abbrev count_by : ℕ → ℕ → ℕ → Bool
count_by most n count = eqb n count && elim (eqb most 0) [ true ↦ true | false ↦ passes (parse_count most n) ]

module _ (k : After-limits) where
  abbrev p : Party
  p = laid_out k.args.self.now.bytes.now

  abbrev n : ℕ
  n = k.name_count-n.result

  abbrev most : ℕ
  most = k.limits.result.now.max_names

  counted : length (content p).names ≡ n
  counted =
      let four = laid_names k.args.self.now.bytes.now in
      ap length (content_names p four k.name_count-n.ensures.value) ∙ names_length_lem p four k.name_count-n.ensures.value

  -- the test by what the function knows of the count
  tested : {a b : Bool} → eqb n p.count ≡ a → eqb most 0 ≡ b → (a && elim b as (λ x. Bool) [ true ↦ true | false ↦ passes (parse_count most n) ]) ≡ count_test p
  tested e f =
      rw (← e, ← f)
      (ap (λ (l : Limits). count_by l.max_names n p.count) k.limits.ensures ∙ ap (λ (m : ℕ). count_by (limits_of p.option).max_names m p.count) (sym counted))

-- the count as the function has it
same : (k : After-limits) → k.args.self.now.count ≡ (p k).count
same k = k.args.self.now.count_is

pub returns-else-n-self : goal.returns-else-n-self
returns-else-n-self c =
    let k = (goal.at.returns-else-n-self c).After-limits in
    let other : eqb (n k) (p k).count ≡ false = ne_eqb (n k) (p k).count (rw (same k) at c.if-n-self.false) in
    rw (same k) (other ∙ tested k other refl)

pub returns-then-most-eq0 : goal.returns-then-most-eq0
returns-then-most-eq0 c =
    let k = (goal.at.returns-then-most-eq0 c).After-limits in
    eq-eqb (most k) 0 c.if-most-eq0.true ∙ tested k (eq-eqb (n k) (p k).count (c.if-n-self.true ∙ same k)) (eq-eqb (most k) 0 c.if-most-eq0.true)

pub returns-else-most-eq0 : goal.returns-else-most-eq0
returns-else-most-eq0 c =
    let k = (goal.at.returns-else-most-eq0 c).After-limits in
    ok_passes c.parse_count.result c.parse_count.ensures c.is_ok.ensures.value
    ∙ tested k (eq-eqb (n k) (p k).count (c.if-n-self.true ∙ same k)) (ne_eqb (most k) 0 c.if-most-eq0.false)
