-- What holds of the readings of a choice's options, and of a refusal with no line, holds of the choice's, detected or by a letter. Assumes
-- nothing.
use Prim.Native.Nat.{ℕ, ◌≤◌}
use mathlib.Core.Path.{◌≡◌, refl}
use mathlib.Core.Bool.{Bool, true, false}
use mathlib.Core.List.{List, [], ◌∷◌, ◌++◌}
use native.Mathlib.Omega.{arith}
use lib.Dec.{leb, eqb}
use lib.ListN.{length}
use Rattle.errors.specs.Refusals.{Reply, accepted, refused, must, ◌then◌}
use Rattle.party.specs.declared.PartyOption.{PartyOption}
use Rattle.party.specs.declared.PartyOption.TheVariants.{Field50C, Field50L}
use Rattle.party.specs.Limits.{limits_of}
use Rattle.swift_utils.specs.Bytes.{all}
use Rattle.field_utils.specs.Lines.{lines}
use Rattle.field_utils.specs.Trim.{trimmed}
use Rattle.reader.specs.Reading.{Reading}
use Rattle.reader.specs.Options.{ascii, body_most, body_reply, read}
use Rattle.reader.specs.declared.choices.Choice.{Choice}
use Rattle.reader.specs.declared.choices.Choice.TheVariants.{Field50InstructingParty, Field50OrderingCustomerFGH, Field50OrderingCustomerAFK, Field50OrderingCustomerNCF, Field50Creditor, Field59, Field59Debtor}
use Rattle.reader.specs.declared.choices.Trial.{Trial}
use Rattle.reader.specs.Detection.{holds}
use Rattle.reader.specs.Choices.{trials_of, tried_text, when, wanted, refusing, or_else, first_that, after_check, parse, is_letter, options_in, options_of, pick_of, parse_with_variant}

-- a claim of each option of a list
abbrev pub Each : (PartyOption → Type 0) → List PartyOption → Type 0
Each Q [] = Unit {0}
Each Q (o ∷ os) = Q o × Each Q os

pub each : (Q : PartyOption → Type 0) → ((o : PartyOption) → Q o) → (os : List PartyOption) → Each Q os
each Q h [] = tt
each Q h (o ∷ os) = (h o, each Q h os)

-- the options whose test holds are among the choice's
wanted_each : (Q : PartyOption → Type 0) (ls : List (List ℕ)) (ts : List Trial) → Each Q (options_in ts) → Each Q (wanted ls ts)
wanted_each Q ls [] h = tt
wanted_each Q ls (t ∷ ts) h = go (holds t.1 ls) (wanted_each Q ls ts h.1)
  where
    go : (b : Bool) → Each Q (wanted ls ts) → Each Q (when b t.0 ++ wanted ls ts)
    go true later = (h.0, later)
    go false later = later

module _ (P : Reading → Type 0) (refuses : (k : ℕ) → 1 ≤ k → P (refusing k 0)) where
  or : (r s : Reading) → P r → P s → P (or_else r s)
  or r s h i = go r.reply
    where
      go : (t : Reply) → P (elim t [ accepted ↦ r | refused k n ↦ s ])
      go accepted = h
      go (refused k n) = i

  first : (os : List PartyOption) (text : List ℕ) → Each (λ o. P (read o text)) os → P (first_that os text)
  unfolding first_that
  first [] text h = refuses 11 (omega arith)
  first (o ∷ os) text h = or (read o text) (first_that os text) h.0 (first os text h.1)

  -- detected: the options read what is tried, of a body that passes 12 and 13
  pub parse_by : (choice : Choice) (body : List ℕ) → (body_reply body ≡ accepted → Each (λ o. P (read o (tried_text choice body))) (options_of choice)) → P (parse choice body)
  unfolding parse
  parse_by choice body reads = go (leb (length body) body_most) (all ascii body) reads
    where
      go : (a b : Bool) → ((must a 12 0 then must b 13 0) ≡ accepted → Each (λ o. P (read o (tried_text choice body))) (options_of choice))
          → P (after_check (must a 12 0 then must b 13 0) (first_that (wanted (lines body) (trials_of choice)) (tried_text choice body)))
      go true true h = first (wanted (lines body) (trials_of choice)) (tried_text choice body) (wanted_each (λ o. P (read o (tried_text choice body))) (lines body) (trials_of choice) (h refl))
      go true false h = refuses 13 (omega arith)
      go false b h = refuses 12 (omega arith)

  picked : (letter : ℕ) (os : List PartyOption) (body : List ℕ) (detects : Reading) → Each (λ o. P (read o body)) os → P detects → P (pick_of letter os body detects)
  unfolding pick_of
  picked letter [] body detects r h = h
  picked letter (o ∷ os) body detects r h = go (eqb letter (limits_of o).letter) (picked letter os body detects r.1 h)
    where
      go : (t : Bool) → P (pick_of letter os body detects) → P (elim t [ true ↦ read o body | false ↦ pick_of letter os body detects ])
      go true ih = r.0
      go false ih = ih

  -- by a letter: an option reads the body, or it is detected
  pub variant_by : (choice : Choice) (body : List ℕ) (letter : ℕ) → Each (λ o. P (read o body)) (options_of choice) → P (parse choice body) → P (parse_with_variant choice body letter)
  unfolding parse_with_variant
  variant_by choice body letter reads detects = go (is_letter letter)
    where
      go : (t : Bool) → P (after_check (must t 14 0) (pick_of letter (options_of choice) body (parse choice body)))
      go true = picked letter (options_of choice) body (parse choice body) reads detects
      go false = refuses 14 (omega arith)

-- what holds of the readings of one body, and of those of the trimmed body that `Field50InstructingParty` tries
module _
    (P : Reading → Type 0)
    (refuses : (k : ℕ) → 1 ≤ k → P (refusing k 0))
    (body : List ℕ)
    (reads : (o : PartyOption) → P (read o body))
    (c : P (read Field50C (trimmed body)))
    (l : P (read Field50L (trimmed body)))
  where
    as_it_came : (os : List PartyOption) → Each (λ o. P (read o body)) os
    as_it_came = each (λ o. P (read o body)) reads

    tried : (choice : Choice) → Each (λ o. P (read o (tried_text choice body))) (options_of choice)
    tried Field50InstructingParty = (c, (l, tt))
    tried Field50OrderingCustomerFGH = as_it_came (options_of Field50OrderingCustomerFGH)
    tried Field50OrderingCustomerAFK = as_it_came (options_of Field50OrderingCustomerAFK)
    tried Field50OrderingCustomerNCF = as_it_came (options_of Field50OrderingCustomerNCF)
    tried Field50Creditor = as_it_came (options_of Field50Creditor)
    tried Field59 = as_it_came (options_of Field59)
    tried Field59Debtor = as_it_came (options_of Field59Debtor)

    pub body_parse : (choice : Choice) → P (parse choice body)
    body_parse choice = parse_by P refuses choice body (λ e. tried choice)

    pub body_variant : (choice : Choice) (letter : ℕ) → P (parse_with_variant choice body letter)
    body_variant choice letter = variant_by P refuses choice body letter (as_it_came (options_of choice)) (body_parse choice)

-- what holds of every reading
module _
    (P : Reading → Type 0) (reads : (o : PartyOption) (body : List ℕ) → P (read o body)) (refuses : (k : ℕ) → 1 ≤ k → P (refusing k 0))
  where
    pub every_parse : (choice : Choice) (body : List ℕ) → P (parse choice body)
    every_parse choice body = parse_by P refuses choice body (λ e. each (λ o. P (read o (tried_text choice body))) (λ o. reads o (tried_text choice body)) (options_of choice))

    pub every_variant : (choice : Choice) (body : List ℕ) (letter : ℕ) → P (parse_with_variant choice body letter)
    every_variant choice body letter = variant_by P refuses choice body letter (each (λ o. P (read o body)) (λ o. reads o body) (options_of choice)) (every_parse choice body)
