-- Except at 17, 18 and 21, each read moves past at least one byte, and not past the page (document 01, 'Pages (added)'). Assumes nothing.
use mathlib.Core.Path.{◌≡◌, refl, sym, ◌∙◌, ap, subst}
use mathlib.Core.Bool.{Bool, true, false, false≢true}
use mathlib.Core.List.{List}
use Prim.Native.Nat.{ℕ, ◌+◌, ◌≤◌, ◌<◌}
use native.Mathlib.Omega.{arith}
use Rattle.std.proofs.lemmas.List.{get_or_past}
use lib.Dec.{leb, eqb}
use lib.ListN.{length, drop}
use borrow.Author.Tests.{leb-true, leb-false}
use mathlib.Core.Logic.{◌⊎◌, inl, inr, ⊎_elim}
use Rattle.party.specs.declared.PartyOption.{PartyOption}
use Rattle.party.specs.Limits.{options}
use Rattle.reader.specs.Options.{read}
use Rattle.page_reader.specs.declared.ReadCase.{ReadCase}
use Rattle.page_reader.specs.declared.ReadCase.TheVariants.{TooLong, NoStart, AtLength, Opening, Ending, Stray}
use Rattle.page_reader.specs.Pages.{page_most, line_at, opens, runs, past, Tagged, untagged, tagged, tag_in, ReadOutcome, the_end, a_refusal, PageRead, outcome_of, read_tagged, read_field, readable, text_in, read_case, read_by, read_at}
use Rattle.page_reader.proofs.Cases.{opens_by, case_opening, Stands, by_case, ends_by, field_next}

module _ (page : List ℕ) (at : ℕ) where
  -- the read, by its case
  outcome_by_lem : {x : ReadCase} → read_case page at ≡ x → (read_at page at).outcome ≡ (read_by x page at).outcome
  outcome_by_lem e = ap (λ (r : PageRead). r.outcome) (by_case page at e)

  next_by : {x : ReadCase} → read_case page at ≡ x → (read_at page at).next ≡ (read_by x page at).next
  next_by e = ap (λ (r : PageRead). r.next) (by_case page at e)

  -- a read past at least one byte, and not past the page
  pub record Moved : Type 0 where
    pub past : at < (read_at page at).next
    pub within : (read_at page at).next ≤ length page

  moved_to : (to : ℕ) → Stands page at to → (read_at page at).next ≡ past page to → Moved
  moved_to to h e = record { past = omega (arith, e, h.within, h.from); within = omega (arith, e) }

  -- 17, 18 and 21 give back the position that they got; every other read moves
  moves_but : {A : Type 0} → ((read_at page at).outcome ≡ a_refusal 17 0 → A) → ((read_at page at).outcome ≡ a_refusal 18 0 → A) → ((read_at page at).outcome ≡ a_refusal 21 0 → A)
      → (((read_at page at).next ≡ at) × A) ⊎ Moved
  moves_but {A = A} a17 a18 a21 = go (read_case page at) refl
    where
      go : (x : ReadCase) → read_case page at ≡ x → (((read_at page at).next ≡ at) × A) ⊎ Moved
      go TooLong e = inl (next_by e, a18 (outcome_by_lem e))
      go NoStart e = inl (next_by e, a21 (outcome_by_lem e))
      go AtLength e = inl (next_by e, a17 (outcome_by_lem e))
      go (Opening to) e = inr (moved_to to (ends_by page at e) (next_by e ∙ field_next _ _))
      go (Ending to) e = inr (moved_to to (ends_by page at e) (next_by e))
      go (Stray to) e = inr (moved_to to (ends_by page at e) (next_by e))

  pub moves : ((read_at page at).outcome ≡ a_refusal 17 0 → ⊥) → ((read_at page at).outcome ≡ a_refusal 18 0 → ⊥) → ((read_at page at).outcome ≡ a_refusal 21 0 → ⊥) → Moved
  moves not17 not18 not21 = ⊎_elim (λ s. absurd s.1) (λ m. m) (moves_but not17 not18 not21)

  pub stays_or_moves : ((read_at page at).next ≡ at) ⊎ Moved
  stays_or_moves = ⊎_elim (λ s. inl s.0) inr (moves_but {A = Unit {0}} (λ e. tt) (λ e. tt) (λ e. tt))

  -- a read moves past at most as many bytes as a page has
  pub next_most : (read_at page at).next ≤ at + page_most
  unfolding read_case
  next_most = go (leb (length page) page_most) refl
    where
      go : (t : Bool) → leb (length page) page_most ≡ t → (read_at page at).next ≤ at + page_most
      go true e = ⊎_elim (λ s. omega (arith, s)) (λ m. omega (arith, m.within, leb-true (length page) page_most e)) stays_or_moves
      go false e = let x : read_case page at ≡ TooLong = rw (e, read_case) in omega (arith, next_by x)

tagged_read : (t : Tagged) (o : PartyOption) (body : List ℕ) (next : ℕ) → t ≡ tagged o body → let r = read o (read_tagged t next).body in (read_tagged t next).outcome ≡ outcome_of r.reply r.party
tagged_read t o body next e = rw e

-- the text of the field at a position
abbrev pub field_at : List ℕ → ℕ → List ℕ
field_at page at = text_in page at (at + runs (drop at page))

-- where a field opens at a position, and its tag is that of one of the eleven options, the read is that option's of the part handed back
pub read_part : (page : List ℕ) (at : ℕ) (o : PartyOption) (body : List ℕ) → length page ≤ page_most → readable page at ≡ true → opens (line_at (drop at page)) ≡ true
    → tag_in options (field_at page at) ≡ tagged o body → let r = read o (read_at page at).body in (read_at page at).outcome ≡ outcome_of r.reply r.party
unfolding read_field
read_part page at o body m r q e =
    let within : at < length page = go (leb (length page) at) refl in
    subst (λ (x : PageRead). x.outcome ≡ outcome_of (read o x.body).reply (read o x.body).party) (sym (by_case page at (case_opening page at m r within q)))
    (tagged_read (tag_in options (field_at page at)) o body _ e)
  where
    go : (t : Bool) → leb (length page) at ≡ t → at < length page
    go true h = absurd (false≢true (sym (opens_by page at ∙ ap (λ (b : ℕ). eqb b 58) (get_or_past page at 0 (leb-true (length page) at h))) ∙ q))
    go false h = leb-false (length page) at h

-- what holds of what every option reads, of a refusal with no line and of the end, holds of what every read gives
module _
    (P : ReadOutcome → Type 0) (reads : (o : PartyOption) (body : List ℕ) → P (outcome_of (read o body).reply (read o body).party)) (refuses : (k : ℕ) → 1 ≤ k → P (a_refusal k 0)) (ends : P the_end)
  where
    every_tagged : (t : Tagged) (next : ℕ) → P (read_tagged t next).outcome
    every_tagged untagged next = refuses 15 (omega arith)
    every_tagged (tagged o body) next = reads o body

    every_case : (x : ReadCase) (page : List ℕ) (at : ℕ) → P (read_by x page at).outcome
    unfolding read_field
    every_case TooLong page at = refuses 18 (omega arith)
    every_case NoStart page at = refuses 21 (omega arith)
    every_case AtLength page at = refuses 17 (omega arith)
    every_case (Opening to) page at = every_tagged (tag_in options (text_in page at to)) (past page to)
    every_case (Ending to) page at = ends
    every_case (Stray to) page at = refuses 16 (omega arith)

    pub every_read : (page : List ℕ) (at : ℕ) → P (read_at page at).outcome
    unfolding read_at
    every_read page at = every_case (read_case page at) page at
