-- Each choice detects and reads by a letter as the Rust does, but for the bytes of 50H's account and the digits of 50F. Assumes nothing.
use mathlib.Core.Path.{◌≡◌, refl, sym, ◌∙◌, ap}
use mathlib.Core.Bool.{Bool, true, false, ◌&&◌, ◌||◌, and-false, false≢true}
use mathlib.Core.List.{List, [], ◌∷◌, ◌++◌}
use mathlib.Core.Option.{Option, some, none-ne-some, some-injective}
use Prim.Native.Nat.{ℕ}
use native.Mathlib.Omega.{arith}
use lib.Dec.{leb, eqb}
use lib.ListN.{length, drop}
use borrow.Author.Tests.{eqb-true, eqb-false, ne_eqb, leb-true}
use Rattle.errors.specs.Refusals.{Reply, accepted, refused}
use Rattle.party.specs.declared.PartyOption.{PartyOption}
use Rattle.party.specs.declared.PartyOption.TheVariants.{Field50NoOption, Field50A, Field50F, Field50K, Field50C, Field50L, Field50G, Field50H, Field59NoOption, Field59A, Field59F}
use Rattle.party.specs.declared.Party.{Party}
use Rattle.party.specs.Limits.{limits_of, place_of}
use Rattle.party.proofs.Options.{by_option, place_one}
use Rattle.field_utils.specs.Lines.{lines}
use Rattle.field_utils.specs.Trim.{trimmed}
use Rattle.field_utils.specs.Identifier.{is_numbered}
use Rattle.reader.specs.Reading.{Reading}
use Rattle.reader.specs.Options.{body_reply, read}
use Rattle.reader.specs.declared.choices.Choice.{Choice}
use Rattle.reader.specs.declared.choices.Choice.TheVariants.{Field50InstructingParty, Field50OrderingCustomerFGH, Field50OrderingCustomerAFK, Field50OrderingCustomerNCF, Field50Creditor, Field59, Field59Debtor}
use Rattle.reader.specs.Detection.{any_numbered, first_line, test_line}
use Rattle.reader.specs.Choices.{trials_of, tried_text, wanted, refusing, when, or_else, first_that, parse, letter_reply, options_of, pick_of, parse_with_variant}
use Rattle.reader.proofs.Trials.{by_choice, check_passed}
use Rattle.reader.proofs.Trimmed.{trimmed_body}
use Rattle.swift_mt_message.specs.Std.{Str, slash, Result, Ok, Err, Panic, if_ok, arm}
use Rattle.swift_mt_message.specs.Field50 as rust50
use Rattle.swift_mt_message.specs.Field59 as rust59
use Rattle.swift_mt_message.specs.Structs.{Struct}
use Rattle.swift_mt_message.specs.Structs as structs
use Rattle.swift_mt_message.specs.Enums.{Enum}
use Rattle.swift_mt_message.specs.Equal.{told, record_of, record_by, renumber, rust_read, rust_parse, rust_parse_with_variant, illegal_account, FGH}
use Rattle.swift_mt_message.proofs.Results.{by_test}
use Rattle.swift_mt_message.proofs.Lines.{collected}
use Rattle.swift_mt_message.proofs.Std.{started, trims}
use Rattle.swift_mt_message.proofs.Detection.{any_number, first_line_lem, one_line, last_bic, test_line_lem, letters, no_letter}
use Rattle.swift_mt_message.proofs.Field50.{at_50, at_50A, at_50F, at_50K, at_50C, at_50L, at_50G, at_50H}
use Rattle.swift_mt_message.proofs.Field59.{at_59, at_59A, at_59F}
use Rattle.swift_mt_message.proofs.Accounts.{illegal, F-refuses, G-refuses}

-- what the Rust reads by an option, but for 50F's digits: what we do, but for 50H
abbrev pub is_H : PartyOption → Bool
is_H o = eqb (place_of o) (place_of Field50H)

abbrev pub reading : Str → PartyOption → Reading
reading body o = elim (is_H o && illegal_account (lines body)) [ true ↦ refusing 3 1 | false ↦ read o body ]

pub at_option : (o : PartyOption) (body : Str) → body_reply body ≡ accepted → rust_read o body ≡ some (renumber (reading body o))
at_option =
    by_option (λ o. (body : Str) → body_reply body ≡ accepted → rust_read o body ≡ some (renumber (reading body o)))
    at_50 at_50A at_50F at_50K at_50C at_50L at_50G at_50H at_59 at_59A at_59F

pub not_H : (o : PartyOption) (body : Str) → (o ≡ Field50H → ⊥) → reading body o ≡ read o body
not_H o body n = rw (ne_eqb (place_of o) (place_of Field50H) (λ e. n (place_one o Field50H e)), reading)

-- the first option that accepts, and what a letter picks, of any reader's readings
module _ (f : PartyOption → Reading) where
  abbrev first : List PartyOption → Reading
  first [] = refusing 11 0
  first (o ∷ os) = or_else (f o) (first os)

  abbrev pub either : Bool → PartyOption → Reading → Reading
  either t o s = elim t [ true ↦ f o | false ↦ s ]

  abbrev pub pick : ℕ → Reading → List PartyOption → Reading
  pick letter s [] = s
  pick letter s (o ∷ os) = either (eqb letter (limits_of o).letter) o (pick letter s os)

  -- an option that does not accept is passed
  skipped : (t : Bool) (o : PartyOption) (os : List PartyOption) → ((f o).reply ≡ accepted → ⊥) → first (when t o ++ os) ≡ first os
  skipped false o os h = refl
  skipped true o os h = go (f o).reply h
    where
      go : (r : Reply) → (r ≡ accepted → ⊥) → elim r as (λ x. Reading) [ accepted ↦ f o | refused k n ↦ first os ] ≡ first os
      go accepted h = absurd (h refl)
      go (refused k n) h = refl

  -- options in another order, where their letters differ
  swap : (letter : ℕ) (s : Reading) (o p : PartyOption) (os : List PartyOption) → eqb (limits_of o).letter (limits_of p).letter ≡ false
      → pick letter s (o ∷ p ∷ os) ≡ pick letter s (p ∷ o ∷ os)
  swap letter s o p os h = go (eqb letter (limits_of o).letter) (eqb letter (limits_of p).letter) refl refl
    where
      go : (t u : Bool) → eqb letter (limits_of o).letter ≡ t → eqb letter (limits_of p).letter ≡ u
          → either t o (either u p (pick letter s os)) ≡ either u p (either t o (pick letter s os))
      go true true d e = absurd (eqb-false _ _ h (sym (eqb-true letter (limits_of o).letter d) ∙ eqb-true letter (limits_of p).letter e))
      go true false d e = refl
      go false u d e = refl

  turn : (letter : ℕ) (s : Reading) (o p r : PartyOption) → eqb (limits_of o).letter (limits_of p).letter ≡ false → eqb (limits_of o).letter (limits_of r).letter ≡ false
      → pick letter s (o ∷ p ∷ r ∷ []) ≡ pick letter s (p ∷ r ∷ o ∷ [])
  turn letter s o p r h k = swap letter s o p (r ∷ []) h ∙ ap (either (eqb letter (limits_of p).letter) p) (swap letter s o r [] k)

-- document 01's are of its own
first_is : (text : Str) (os : List PartyOption) → first (λ o. read o text) os ≡ first_that os text
unfolding first_that
first_is text [] = refl
first_is text (o ∷ os) = ap (or_else (read o text)) (first_is text os)

pick_is : (body : Str) (letter : ℕ) (s : Reading) (os : List PartyOption) → pick (λ o. read o body) letter s os ≡ pick_of letter os body s
unfolding pick_of
pick_is body letter s [] = refl
pick_is body letter s (o ∷ os) = ap (either (λ o. read o body) (eqb letter (limits_of o).letter) o) (pick_is body letter s os)

-- an option of a choice: make puts its struct into the enum, with the same record
abbrev Within : (c : Choice) (o : PartyOption) → (Struct o → Enum c) → Type 0
Within c o make = (v : Struct o) → record_by c (make v) ≡ record_of o v

made : (c : Choice) (o : PartyOption) (make : Struct o → Enum c) → Within c o make → (v : Struct o) → told (record_by c) (Ok (make v)) ≡ told (record_of o) (Ok v)
made c o make same v = ap {B = Option Reading} (λ (p : Party). some (record { reply = accepted; party = p })) (same v)

-- readings that are told alike have one reply
replied : {r s : Reading} → some r ≡ some s → r.reply ≡ s.reply
replied e = ap (λ (r : Reading). r.reply) (some-injective _ _ e)

-- it is tried before others
tried : (c : Choice) (f : PartyOption → Reading) (o : PartyOption) (make : Struct o → Enum c) → Within c o make
    → (t : Bool) (os : List PartyOption) (x : Result (Struct o)) (y : Result (Enum c)) → told (record_of o) x ≡ some (renumber (f o))
    → told (record_by c) y ≡ some (renumber (first f os)) → told (record_by c) (if_ok t x make y) ≡ some (renumber (first f (when t o ++ os)))
unfolding if_ok
tried c f o make same true os (Ok v) y e g = rw (sym (replied e), or_else) (made c o make same v ∙ e)
tried c f o make same true os (Err k n) y e g = rw (sym (replied e), or_else) g
tried c f o make same true os Panic y e g = absurd (none-ne-some _ e)
tried c f o make same false os x y e g = g

-- its letter is tested before others
picked : (c : Choice) (body : Str) → body_reply body ≡ accepted → (letter : ℕ) (o : PartyOption) (make : Struct o → Enum c) → Within c o make
    → (t : Bool) (y : Result (Enum c)) (s : Reading) → t ≡ eqb letter (limits_of o).letter → told (record_by c) y ≡ some (renumber s)
    → told (record_by c) (arm t (structs.parse o body) make y) ≡ some (renumber (either (reading body) (eqb letter (limits_of o).letter) o s))
unfolding arm
picked c body q letter o make same t y s h g =
    go t (structs.parse o body) (at_option o body q) ∙ ap (λ (b : Bool). some (renumber (either (reading body) b o s))) h
  where
    go : (t : Bool) (x : Result (Struct o)) → told (record_of o) x ≡ some (renumber (reading body o))
        → told (record_by c) (arm t x make y) ≡ some (renumber (either (reading body) t o s))
    go true (Ok v) e = made c o make same v ∙ e
    go true (Err k n) e = e
    go true Panic e = e
    go false x e = g

-- whether 50H is among options
abbrev has_H : List PartyOption → Bool
has_H [] = false
has_H (o ∷ os) = is_H o || has_H os

module _ (body : Str) (q : body_reply body ≡ accepted) where
  -- but for 50F's digits: whether the Rust differs from ours in a choice; what it detects; what it reads by an option
  abbrev pub differing : Choice → Bool
  differing c = has_H (options_of c) && illegal_account (lines body)

  abbrev pub expected : Choice → Reading
  expected c = elim (differing c) [ true ↦ refusing 11 0 | false ↦ parse c body ]

  abbrev reader : Choice → PartyOption → Reading
  reader c o = elim (is_H o && differing c) [ true ↦ refusing 3 1 | false ↦ read o (tried_text c body) ]

  abbrev tries : Choice → (PartyOption → Reading) → Reading
  tries c f = first f (wanted (lines body) (trials_of c))

  detect : (c : Choice) → rust_parse c body ≡ some (renumber (tries c (reader c)))
  unfolding rust50.Field50InstructingParty·parse rust50.Field50OrderingCustomerFGH·parse rust50.Field50OrderingCustomerAFK·parse rust50.Field50OrderingCustomerNCF·parse rust50.Field50Creditor·parse rust59.Field59·parse rust59.Field59Debtor·parse
  detect Field50InstructingParty =
      let t = tried Field50InstructingParty (reader Field50InstructingParty) in
      let p = trimmed_body body q in
      rw (trims body)
      (t Field50C rust50.InstructingParty·C (λ v. refl) true (Field50L ∷ []) _ _ (at_50C (trimmed body) p)
      (t Field50L rust50.InstructingParty·L (λ v. refl) true [] _ _ (at_50L (trimmed body) p) refl))
  detect Field50OrderingCustomerFGH =
      let t = tried FGH (reader FGH) in
      ap (told (record_by FGH)) (collected body _)
      ∙ by_test (leb 2 (length (lines body)))
      (λ b.
      let two = leb-true 2 (length (lines body)) b in
      rw (b, any_number (drop 1 (lines body)), first_line_lem (lines body) (omega arith), started (first_line (lines body)) slash)
      (t Field50F rust50.FGH·F (λ v. refl) _ _ _ _ (at_50F body q)
      (t Field50G rust50.FGH·G (λ v. refl) _ _ _ _ (at_50G body q)
      (t Field50H rust50.FGH·H (λ v. refl) _ [] _ _ (at_50H body q) refl))))
      (λ b. rw b)
  detect Field50OrderingCustomerAFK =
      let t = tried Field50OrderingCustomerAFK (reader Field50OrderingCustomerAFK) in
      ap (told (record_by Field50OrderingCustomerAFK)) (collected body _)
      ∙ rw (any_number (lines body), last_bic (lines body))
      (t Field50F rust50.AFK·F (λ v. refl) _ _ _ _ (at_50F body q)
      (t Field50A rust50.AFK·A (λ v. refl) _ _ _ _ (at_50A body q)
      (t Field50K rust50.AFK·K (λ v. refl) true [] _ _ (at_50K body q) refl)))
  detect Field50OrderingCustomerNCF =
      let t = tried Field50OrderingCustomerNCF (reader Field50OrderingCustomerNCF) in
      ap (told (record_by Field50OrderingCustomerNCF)) (collected body _)
      ∙ rw (one_line (lines body), any_number (lines body))
      (t Field50C rust50.NCF·C (λ v. refl) _ _ _ _ (at_50C body q)
      (t Field50F rust50.NCF·F (λ v. refl) _ _ _ _ (at_50F body q)
      (t Field50NoOption rust50.NCF·NoOption (λ v. refl) true [] _ _ (at_50 body q) refl)))
  detect Field50Creditor =
      let t = tried Field50Creditor (reader Field50Creditor) in
      ap (told (record_by Field50Creditor)) (collected body _)
      ∙ rw (last_bic (lines body))
      (t Field50A rust50.Creditor·A (λ v. refl) _ _ _ _ (at_50A body q)
      (t Field50K rust50.Creditor·K (λ v. refl) true [] _ _ (at_50K body q) refl))
  detect Field59 =
      let t = tried Field59 (reader Field59) in
      t Field59A rust59.Field59·A (λ v. refl) true (when (is_numbered (test_line (lines body))) Field59F ++ (Field59NoOption ∷ [])) _ _ (at_59A body q)
      (ap (told (record_by Field59)) (collected body _)
      ∙ rw (test_line_lem (lines body))
      (t Field59F rust59.Field59·F (λ v. refl) _ _ _ _ (at_59F body q)
      (t Field59NoOption rust59.Field59·NoOption (λ v. refl) true [] _ _ (at_59 body q) refl)))
  detect Field59Debtor =
      let t = tried Field59Debtor (reader Field59Debtor) in
      t Field59A rust59.Debtor·A (λ v. refl) true (Field59NoOption ∷ []) _ _ (at_59A body q)
      (t Field59NoOption rust59.Debtor·NoOption (λ v. refl) true [] _ _ (at_59 body q) refl)

  -- document 01's readings are its own
  parsed : (c : Choice) → tries c (λ o. read o (tried_text c body)) ≡ parse c body
  unfolding parse
  parsed c = first_is _ _ ∙ sym (check_passed _ q)

  -- FGH where the two differ: neither F nor G accepts
  module _ (e : illegal_account (lines body) ≡ true) where
    only_H : (f : PartyOption → Reading) → f Field50F ≡ read Field50F body → f Field50G ≡ read Field50G body → tries FGH f ≡ or_else (f Field50H) (refusing 11 0)
    only_H f F G =
        let i = illegal (lines body) e in
        rw (i.two, i.slashed)
        (skipped f (any_numbered (drop 1 (lines body))) Field50F (when (eqb (length (lines body)) 2) Field50G ++ (Field50H ∷ [])) (rw F (F-refuses body q i))
        ∙ skipped f (eqb (length (lines body)) 2) Field50G (Field50H ∷ []) (rw G (G-refuses body q i)))

    pub fgh_reads : parse FGH body ≡ first_that (Field50H ∷ []) body
    unfolding first_that
    fgh_reads = sym (parsed FGH) ∙ only_H (λ o. read o body) refl refl

  pub detected : (c : Choice) → rust_parse c body ≡ some (renumber (expected c))
  detected c = detect c ∙ ap (λ (r : Reading). some (renumber r)) (by_test (differing c) (there c) elsewhere)
    where
      there : (c : Choice) → differing c ≡ true → tries c (reader c) ≡ expected c
      there =
          by_choice (λ c. differing c ≡ true → tries c (reader c) ≡ expected c) (λ e. absurd (false≢true e)) (λ e. only_H e (reader FGH) refl refl ∙ rw (e, or_else, expected)) (λ e. absurd (false≢true e))
          (λ e. absurd (false≢true e)) (λ e. absurd (false≢true e)) (λ e. absurd (false≢true e)) (λ e. absurd (false≢true e))

      elsewhere : differing c ≡ false → tries c (reader c) ≡ expected c
      elsewhere e = rw (e, expected) ((λ j. tries c (λ o. path e o j)) ∙ parsed c)
        where
          path : differing c ≡ false → (o : PartyOption) → reader c o ≡ read o (tried_text c body)
          path e o = rw (e, and-false (is_H o), reader)

  -- by a letter; the Rust's order of the options is not always that of document 01
  module _ (letter : ℕ) where
    abbrev pub picks : Choice → (PartyOption → Reading) → Reading → Reading
    picks c f s = pick f letter s (options_of c)

    pub by_variant : (c : Choice) → rust_parse_with_variant c body letter ≡ some (renumber (picks c (reading body) (expected c)))
    unfolding rust50.Field50InstructingParty·parse_with_variant rust50.Field50OrderingCustomerFGH·parse_with_variant rust50.Field50OrderingCustomerAFK·parse_with_variant rust50.Field50OrderingCustomerNCF·parse_with_variant rust50.Field50Creditor·parse_with_variant rust59.Field59·parse_with_variant rust59.Field59Debtor·parse_with_variant
    by_variant Field50InstructingParty =
        let p = picked Field50InstructingParty body q letter in
        p Field50C rust50.InstructingParty·C (λ v. refl) _ _ _ (letters letter 67 refl)
        (p Field50L rust50.InstructingParty·L (λ v. refl) _ _ _ (letters letter 76 refl) (detected Field50InstructingParty))
    by_variant Field50OrderingCustomerFGH =
        let p = picked FGH body q letter in
        p Field50F rust50.FGH·F (λ v. refl) _ _ _ (letters letter 70 refl)
        (p Field50G rust50.FGH·G (λ v. refl) _ _ _ (letters letter 71 refl) (p Field50H rust50.FGH·H (λ v. refl) _ _ _ (letters letter 72 refl) (detected FGH)))
    by_variant Field50OrderingCustomerAFK =
        let p = picked Field50OrderingCustomerAFK body q letter in
        p Field50A rust50.AFK·A (λ v. refl) _ _ _ (letters letter 65 refl)
        (p Field50F rust50.AFK·F (λ v. refl) _ _ _ (letters letter 70 refl)
        (p Field50K rust50.AFK·K (λ v. refl) _ _ _ (letters letter 75 refl) (detected Field50OrderingCustomerAFK)))
        ∙ ap (λ (r : Reading). some (renumber r)) (swap (reading body) letter _ Field50A Field50F (Field50K ∷ []) refl)
    by_variant Field50OrderingCustomerNCF =
        let p = picked Field50OrderingCustomerNCF body q letter in
        p Field50NoOption rust50.NCF·NoOption (λ v. refl) _ _ _ (no_letter letter)
        (p Field50C rust50.NCF·C (λ v. refl) _ _ _ (letters letter 67 refl)
        (p Field50F rust50.NCF·F (λ v. refl) _ _ _ (letters letter 70 refl) (detected Field50OrderingCustomerNCF)))
        ∙ ap (λ (r : Reading). some (renumber r)) (turn (reading body) letter _ Field50NoOption Field50C Field50F refl refl)
    by_variant Field50Creditor =
        let p = picked Field50Creditor body q letter in
        p Field50A rust50.Creditor·A (λ v. refl) _ _ _ (letters letter 65 refl)
        (p Field50K rust50.Creditor·K (λ v. refl) _ _ _ (letters letter 75 refl) (detected Field50Creditor))
    by_variant Field59 =
        let p = picked Field59 body q letter in
        p Field59NoOption rust59.Field59·NoOption (λ v. refl) _ _ _ (no_letter letter)
        (p Field59A rust59.Field59·A (λ v. refl) _ _ _ (letters letter 65 refl)
        (p Field59F rust59.Field59·F (λ v. refl) _ _ _ (letters letter 70 refl) (detected Field59)))
        ∙ ap (λ (r : Reading). some (renumber r)) (turn (reading body) letter _ Field59NoOption Field59A Field59F refl refl)
    by_variant Field59Debtor =
        let p = picked Field59Debtor body q letter in
        p Field59NoOption rust59.Debtor·NoOption (λ v. refl) _ _ _ (no_letter letter)
        (p Field59A rust59.Debtor·A (λ v. refl) _ _ _ (letters letter 65 refl) (detected Field59Debtor))
        ∙ ap (λ (r : Reading). some (renumber r)) (swap (reading body) letter _ Field59NoOption Field59A [] refl)

    -- document 01's of its own
    pub parsed_by : letter_reply letter ≡ accepted → (c : Choice) → picks c (λ o. read o body) (parse c body) ≡ parse_with_variant c body letter
    unfolding parse_with_variant
    parsed_by e c = pick_is body letter _ _ ∙ sym (check_passed _ e)
