-- What is tried, one place after the other: by its test, or by its letter. Assumes nothing.
use mathlib.Core.Path.{◌≡◌, refl, sym, ap, ◌∙◌}
use mathlib.Core.Bool.{Bool, true, false}
use mathlib.Core.List.{List, [], ◌∷◌, ◌++◌}
use Prim.Native.Nat.{ℕ, zero, suc, ◌+◌, ◌<◌}
use native.Mathlib.Omega.{arith}
use native.Mathlib.Numerals.{add-one}
use lib.Dec.{eqb}
use lib.ListN.{length, drop, get_or}
use lib.Seq.{drop-cons}
use denote.Bor.{Bor}
use Rattle.std.specs.Prelude.{Option, None, Some, MatchOption}
use Rattle.std.specs.List.{AllWithin, HoldsAt}
use Rattle.errors.specs.Refusals.{Reply, accepted, refused}
use Rattle.party.specs.declared.PartyOption.{PartyOption}
use Rattle.party.specs.Limits.{limits_of}
use Rattle.reader.specs.Reading.{Reading}
use Rattle.reader.specs.Options.{read}
use Rattle.reader.specs.declared.choices.Choice.{Choice}
use Rattle.reader.specs.declared.choices.Choice.TheVariants.{Field50InstructingParty, Field50OrderingCustomerFGH, Field50OrderingCustomerAFK, Field50OrderingCustomerNCF, Field50Creditor, Field59, Field59Debtor}
use Rattle.reader.specs.declared.choices.Trial.{Trial}
use Rattle.reader.specs.Choices.{refusing, when, first_that, after_check, options_in, pick_of}

-- a proof for each choice
pub by_choice : (P : Choice → Type 0) → P Field50InstructingParty → P Field50OrderingCustomerFGH → P Field50OrderingCustomerAFK → P Field50OrderingCustomerNCF
    → P Field50Creditor → P Field59 → P Field59Debtor → (choice : Choice) → P choice
by_choice P a b c d e f g Field50InstructingParty = a
by_choice P a b c d e f g Field50OrderingCustomerFGH = b
by_choice P a b c d e f g Field50OrderingCustomerAFK = c
by_choice P a b c d e f g Field50OrderingCustomerNCF = d
by_choice P a b c d e f g Field50Creditor = e
by_choice P a b c d e f g Field59 = f
by_choice P a b c d e f g Field59Debtor = g

pub place_at : (ts : List Trial) (k : ℕ) (d : Trial) {x : Trial} → k < length ts → get_or ts k d ≡ x → drop k ts ≡ x ∷ drop (k + 1) ts
place_at ts k d h e = rw (add-one, drop-cons ts k d, e)

module _ (o : PartyOption) (os : List PartyOption) (body : List ℕ) where
  -- the option's reading or that of the others, by the reply
  by_reply : Reply → Reading
  by_reply q = elim q [ accepted ↦ read o body | refused k n ↦ first_that os body ]

  pub first_won : (read o body).reply ≡ accepted → first_that (o ∷ os) body ≡ read o body
  unfolding first_that by_reply
  first_won e = ap by_reply e

  pub first_lost : {k n : ℕ} → (read o body).reply ≡ refused k n → first_that (o ∷ os) body ≡ first_that os body
  unfolding first_that by_reply
  first_lost e = ap by_reply e

  -- an option by its test
  pub first_unwanted : {t : Bool} → t ≡ false → first_that (when t o ++ os) body ≡ first_that os body
  first_unwanted e = ap (λ (t : Bool). first_that (when t o ++ os) body) e

  pub first_wanted : {t : Bool} → t ≡ true → first_that (when t o ++ os) body ≡ first_that (o ∷ os) body
  first_wanted e = ap (λ (t : Bool). first_that (when t o ++ os) body) e

pub first_none : (body : List ℕ) → first_that [] body ≡ refusing 11 0
unfolding first_that
first_none body = refl

-- what a letter picks of options, one after the other
module _ (letter : ℕ) (body : List ℕ) (detects : Reading) where
  pick_here : (o : PartyOption) (os : List PartyOption) → eqb letter (limits_of o).letter ≡ true → pick_of letter (o ∷ os) body detects ≡ read o body
  unfolding pick_of
  pick_here o os e = rw (e, pick_of)

  pick_next : (o : PartyOption) (os : List PartyOption) → eqb letter (limits_of o).letter ≡ false
      → pick_of letter (o ∷ os) body detects ≡ pick_of letter os body detects
  unfolding pick_of
  pick_next o os e = rw (e, pick_of)

  pick_none : pick_of letter [] body detects ≡ detects
  unfolding pick_of
  pick_none = refl

  abbrev pub Has : Trial → Type 0
  Has t = true ≡ eqb letter (limits_of t.0).letter

  abbrev pub Lacks : Trial → Type 0
  Lacks t = false ≡ eqb letter (limits_of t.0).letter

  found : (ts : List Trial) (t : Trial) → Has t → (i : ℕ) → i < length ts → HoldsAt (λ u. u ≡ t) ts i → AllWithin Lacks ts 0 i → pick_of letter (options_in ts) body detects ≡ read t.0 body
  found [] t e i h s n = absurd (omega arith)
  found (u ∷ ts) t e zero h s n = pick_here _ _ (ap (λ (u : Trial). eqb letter (limits_of u.0).letter) (s t) ∙ sym e) ∙ ap (λ (u : Trial). read u.0 body) (s t)
  found (u ∷ ts) t e (suc i) h s n = pick_next _ _ (sym (n 0 t (omega arith) (omega arith))) ∙ found ts t e i (omega arith) s (λ k d a b. n (suc k) d (omega arith) (omega arith))

  none : (ts : List Trial) → AllWithin Lacks ts 0 (length ts) → pick_of letter (options_in ts) body detects ≡ detects
  none [] n = pick_none
  none (u ∷ ts) n = pick_next _ _ (sym (n 0 u (omega arith) (omega arith))) ∙ none ts (λ k d a b. n (suc k) d (omega arith) (omega arith))

  -- by the first trial that has it, or where none has
  abbrev pub read_by : Option (Bor Trial) → Reading
  read_by None = detects
  read_by (Some x) = read x.now.0 body

  pub pick_first : (ts : List Trial) (r : Option (Bor Trial)) → MatchOption r (AllWithin Lacks ts 0 (length ts)) (λ x. Has x.now × (i : ℕ) × (i < length ts) × HoldsAt (λ u. u ≡ x.now) ts i × AllWithin Lacks ts 0 i)
      → pick_of letter (options_in ts) body detects ≡ read_by r
  pick_first ts None n = none ts n
  pick_first ts (Some x) (e, i, h, s, n) = found ts x.now e i h s n

-- a check before a reading
module _ {q : Reply} (r : Reading) where
  pub check_refused : {k n : ℕ} → q ≡ refused k n → after_check q r ≡ refusing k n
  check_refused e = ap (λ (q : Reply). after_check q r) e

  pub check_passed : q ≡ accepted → after_check q r ≡ r
  check_passed e = ap (λ (q : Reply). after_check q r) e
