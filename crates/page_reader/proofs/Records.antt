-- A read that gives a record: the field that opens there, its tag and its body; and one that gives the end. Assumes nothing.
use mathlib.Core.Path.{◌≡◌, refl, sym, ◌∙◌, ap, subst}
use mathlib.Core.Bool.{Bool, true, false, false≢true}
use mathlib.Core.List.{List, [], ◌∷◌, ◌++◌}
use Prim.Native.Nat.{ℕ, ◌+◌, ◌≤◌, ◌<◌}
use native.Mathlib.Omega.{arith}
use lib.Dec.{leb, eqb}
use lib.ListN.{length, drop, get_or}
use lib.Seq.{drop-cons}
use borrow.Author.Tests.{eqb-true, eqb-false, leb-true, leb-false}
use Rattle.errors.specs.Refusals.{Reply, accepted, refused}
use Rattle.party.specs.declared.PartyOption.{PartyOption}
use Rattle.party.specs.declared.Party.{Party}
use Rattle.party.specs.Limits.{options}
use Rattle.field_utils.specs.Lines.{upto}
use Rattle.field_utils.specs.Tags.{tag_of}
use Rattle.field_utils.proofs.Tests.{both_left, both_right}
use Rattle.reader.specs.Options.{read}
use Rattle.page_reader.specs.declared.ReadCase.{ReadCase}
use Rattle.page_reader.specs.declared.ReadCase.TheVariants.{TooLong, NoStart, AtLength, Opening, Ending, Stray}
use Rattle.page_reader.specs.Pages.{page_most, line_at, opens, ends_at, runs, past, begins, Tagged, untagged, tagged, tag_in, a_record, the_end, a_refusal, PageRead, outcome_of, read_tagged, read_field, readable, text_in, rest_case, read_case, read_by, read_at, body_in, body_place}
use Rattle.page_reader.proofs.Cases.{case_long, by_case, ends_by}
use Rattle.page_reader.proofs.EndLines.{ends_other}
use Rattle.page_reader.proofs.Bodies.{place_by_lem}
use Rattle.page_reader.proofs.Moves.{field_at}

-- ---- a text that begins with a tag
begins_split : (t s : List ℕ) → begins t s ≡ true → s ≡ t ++ drop (length t) s
unfolding begins
begins_split [] s e = refl
begins_split (a ∷ t) [] e = absurd (false≢true e)
begins_split (a ∷ t) (b ∷ s) e =
    let first : b ≡ a = sym (eqb-true a b (both_left (eqb a b) (begins t s) e)) in
    let later = begins_split t s (both_right (eqb a b) (begins t s) e) in
    λ i. first i ∷ later i

abbrev Splits : List ℕ → Tagged → Type 0
Splits text untagged = Unit {0}
Splits text (tagged o body) = text ≡ tag_of o ++ body

tag_splits : (os : List PartyOption) (text : List ℕ) → Splits text (tag_in os text)
unfolding tag_in
tag_splits [] text = tt
tag_splits (o ∷ os) text = go (begins (tag_of o) text) refl (tag_splits os text)
  where
    go : (t : Bool) → begins (tag_of o) text ≡ t → Splits text (tag_in os text) → Splits text (elim t [ true ↦ tagged o (drop (length (tag_of o)) text) | false ↦ tag_in os text ])
    go true e h = begins_split (tag_of o) text e
    go false e h = h

-- ---- where a field opens, it runs to its LF; and where the page ends, an end line stands
abbrev RunsTo : List ℕ → ℕ → ReadCase → Type 0
RunsTo page at TooLong = Unit {0}
RunsTo page at NoStart = Unit {0}
RunsTo page at AtLength = Unit {0}
RunsTo page at (Opening to) = to ≡ at + runs (drop at page)
RunsTo page at (Ending to) = ends_at (drop at page) ≡ true
RunsTo page at (Stray to) = Unit {0}

runs_to : (page : List ℕ) (at : ℕ) → RunsTo page at (read_case page at)
unfolding read_case
runs_to page at = go (leb (length page) page_most) (readable page at) (drop at page) refl
  where
    line : (s : List ℕ) → drop at page ≡ s → (a b : Bool) → ends_at s ≡ b
        → RunsTo page at (elim a as (λ x. ReadCase) [ true ↦ Opening (at + runs s) | false ↦ elim b as (λ x. ReadCase) [ true ↦ Ending (at + upto 10 s) | false ↦ Stray (at + runs s) ] ])
    line s e true b f = ap (λ (t : List ℕ). at + runs t) (sym e)
    line s e false true f = ap ends_at e ∙ f
    line s e false false f = tt

    go : (a b : Bool) (s : List ℕ) → drop at page ≡ s
        → RunsTo page at (elim a as (λ x. ReadCase) [ true ↦ elim b as (λ x. ReadCase) [ true ↦ rest_case s at | false ↦ NoStart ] | false ↦ TooLong ])
    go false b s e = tt
    go true false s e = tt
    go true true [] e = tt
    go true true (c ∷ s) e = line (c ∷ s) e (opens (line_at (c ∷ s))) (ends_at (c ∷ s)) refl

-- ---- a record
pub record Gave (page : List ℕ) (at : ℕ) (p : Party) : Type 0 where
  pub within : at < length page
  pub option : PartyOption
  pub body : List ℕ
  pub splits : field_at page at ≡ tag_of option ++ body
  pub part : (read_at page at).body ≡ body
  pub next : (read_at page at).next ≡ past page (at + runs (drop at page))
  pub place : body_place page at ≡ body_in (tagged option body) (at + length (field_at page at))
  pub gives : (to : ℕ) → (read_field (field_at page at) to).outcome ≡ a_record p
  pub accepts : (read option body).reply ≡ accepted
  pub party : (read option body).party ≡ p

-- what a read that is no record gives
pub refusal≢record : {k n : ℕ} {p : Party} → a_refusal k n ≡ a_record p → ⊥
refusal≢record e = let z : ◌≡◌ {A = ℕ} 0 1 = cc in omega (arith, z)

pub end≢record : {p : Party} → the_end ≡ a_record p → ⊥
end≢record e = let z : ◌≡◌ {A = ℕ} 0 1 = cc in omega (arith, z)

accepted_by : (r : Reply) (q p : Party) → outcome_of r q ≡ a_record p → (r ≡ accepted) × (q ≡ p)
accepted_by accepted q p e = (refl, cc)
accepted_by (refused k n) q p e = absurd (refusal≢record e)

module _ (page : List ℕ) (at : ℕ) (p : Party) (q : (read_at page at).outcome ≡ a_record p) where
  gives : {x : ReadCase} → read_case page at ≡ x → (read_by x page at).outcome ≡ a_record p
  gives e = ap (λ (r : PageRead). r.outcome) (sym (by_case page at e)) ∙ q

  module _ (e : read_case page at ≡ Opening (at + runs (drop at page))) where
    abbrev text : List ℕ
    text = field_at page at

    abbrev next : ℕ
    next = past page (at + runs (drop at page))

    tagged_gave : (t : Tagged) → tag_in options text ≡ t → Gave page at p
    unfolding read_field
    tagged_gave untagged i = absurd (refusal≢record (ap (λ (t : Tagged). (read_tagged t next).outcome) (sym i) ∙ gives e))
    tagged_gave (tagged o body) i =
        let r : read_at page at ≡ read_tagged (tagged o body) next = by_case page at e ∙ ap (λ (t : Tagged). read_tagged t next) i in
        let a = accepted_by (read o body).reply (read o body).party p (ap (λ (x : PageRead). x.outcome) (sym r) ∙ q) in
        record {
          within = (ends_by page at e).within;
          option = o;
          body = body;
          splits = subst (Splits text) i (tag_splits options text);
          part = ap (λ (x : PageRead). x.body) r;
          next = ap (λ (x : PageRead). x.next) r;
          place = place_by_lem page at e ∙ ap (λ (t : Tagged). body_in t (at + length text)) i;
          gives = λ to. ap (λ (t : Tagged). (read_tagged t to).outcome) i ∙ ap (λ (x : PageRead). x.outcome) (sym r) ∙ q;
          accepts = a.0;
          party = a.1;
        }

  pub record_gave : Gave page at p
  record_gave = go (read_case page at) refl
    where
      go : (x : ReadCase) → read_case page at ≡ x → Gave page at p
      go TooLong e = absurd (refusal≢record (gives e))
      go NoStart e = absurd (refusal≢record (gives e))
      go AtLength e = absurd (refusal≢record (gives e))
      go (Opening to) e =
          let n : to ≡ at + runs (drop at page) = subst (RunsTo page at) e (runs_to page at) in
          let f : read_case page at ≡ Opening (at + runs (drop at page)) = e ∙ ap Opening n in
          tagged_gave f (tag_in options (field_at page at)) refl
      go (Ending to) e = absurd (end≢record (gives e))
      go (Stray to) e = absurd (refusal≢record (gives e))

-- ---- the end
pub record Ended (page : List ℕ) (at : ℕ) : Type 0 where
  pub within : at < length page
  pub most : length page ≤ page_most
  pub line : ends_at (drop at page) ≡ true

refusal≢end : {k n : ℕ} → a_refusal k n ≡ the_end → ⊥
refusal≢end e = let z : ◌≡◌ {A = ℕ} 0 1 = cc in omega (arith, z)

outcome≢end : (r : Reply) (p : Party) → outcome_of r p ≡ the_end → ⊥
outcome≢end accepted p e = end≢record (sym e)
outcome≢end (refused k n) p e = refusal≢end e

tagged≢end : (t : Tagged) (to : ℕ) → (read_tagged t to).outcome ≡ the_end → ⊥
tagged≢end untagged to e = refusal≢end e
tagged≢end (tagged o body) to e = outcome≢end (read o body).reply (read o body).party e

module _ (page : List ℕ) (at : ℕ) (q : (read_at page at).outcome ≡ the_end) where
  ends : {x : ReadCase} → read_case page at ≡ x → (read_by x page at).outcome ≡ the_end
  ends e = ap (λ (r : PageRead). r.outcome) (sym (by_case page at e)) ∙ q

  end_most : length page ≤ page_most
  end_most = go (leb (length page) page_most) refl
    where
      go : (t : Bool) → leb (length page) page_most ≡ t → length page ≤ page_most
      go true e = leb-true (length page) page_most e
      go false e = absurd (refusal≢end (ends (case_long page at (leb-false (length page) page_most e))))

  pub end_gave : Ended page at
  unfolding read_field
  end_gave = go (read_case page at) refl
    where
      go : (x : ReadCase) → read_case page at ≡ x → Ended page at
      go TooLong e = absurd (refusal≢end (ends e))
      go NoStart e = absurd (refusal≢end (ends e))
      go AtLength e = absurd (refusal≢end (ends e))
      go (Opening to) e = absurd (tagged≢end (tag_in options (text_in page at to)) (past page to) (ends e))
      go (Ending to) e = record { within = (ends_by page at e).within; most = end_most; line = subst (RunsTo page at) e (runs_to page at) }
      go (Stray to) e = absurd (refusal≢end (ends e))

  -- its first byte is a hyphen, so that a page which ends in LF has a byte more
  pub end_first : get_or page at 0 ≡ 45
  end_first = go (eqb (get_or page at 0) 45) refl
    where
      go : (t : Bool) → eqb (get_or page at 0) 45 ≡ t → get_or page at 0 ≡ 45
      go true e = eqb-true (get_or page at 0) 45 e
      go false e =
          let first = ap (λ (s : List ℕ). get_or s 0 0) (drop-cons page at 0 end_gave.within) in
          absurd (false≢true (sym (ends_other (drop at page) (λ q. eqb-false (get_or page at 0) 45 e (sym first ∙ q))) ∙ end_gave.line))
