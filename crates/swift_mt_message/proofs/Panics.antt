-- The theorem: what is told is no panic, and by a variant a choice does what an option does, or detects. Assumes nothing.
use mathlib.Core.Path.{◌≡◌, refl, sym, ◌∙◌, ap}
use mathlib.Core.Bool.{Bool, true, false}
use mathlib.Core.Option.{Option, some, none-ne-some}
use Prim.Native.Nat.{ℕ}
use native.Mathlib.Omega.{arith}
use Rattle.errors.specs.Refusals.{accepted}
use Rattle.party.specs.declared.PartyOption.{PartyOption}
use Rattle.party.specs.declared.PartyOption.TheVariants.{Field50NoOption, Field50A, Field50F, Field50K, Field50C, Field50L, Field50G, Field50H, Field59NoOption, Field59A, Field59F}
use Rattle.party.specs.declared.Party.{Party}
use Rattle.reader.specs.Reading.{Reading}
use Rattle.reader.specs.Options.{body_reply}
use Rattle.reader.specs.declared.choices.Choice.{Choice}
use Rattle.reader.specs.declared.choices.Choice.TheVariants.{Field50InstructingParty, Field50OrderingCustomerFGH, Field50OrderingCustomerAFK, Field50OrderingCustomerNCF, Field50Creditor, Field59, Field59Debtor}
use Rattle.swift_mt_message.specs.Std.{Str, Result, Ok, Err, Panic, arm}
use Rattle.swift_mt_message.specs.Field50 as rust50
use Rattle.swift_mt_message.specs.Field59 as rust59
use Rattle.swift_mt_message.specs.Structs.{parse}
use Rattle.swift_mt_message.specs.Enums as enums
use Rattle.swift_mt_message.specs.Equal.{told, record_of, record_by}
use Rattle.swift_mt_message.specs.Panics.{Returns, ChoiceReturns, NoPanic}
use Rattle.swift_mt_message.proofs.Choices.{at_option, detected}

returns : {A : Type 0} (party : A → Party) {x : Result A} {r : Reading} → told party x ≡ some r → Returns x
returns party e p = none-ne-some _ (ap (told party) (sym p) ∙ e)

arms : {A B : Type 0} (t : Bool) (make : A → B) {x : Result A} {y : Result B} → Returns x → Returns y → Returns (arm t x make y)
unfolding arm
arms true make {x = Ok v} f g e = let z : ◌≡◌ {A = ℕ} 0 1 = cc in omega arith
arms true make {x = Err k n} f g e = let z : ◌≡◌ {A = ℕ} 0 1 = cc in omega arith
arms true make {x = Panic} f g e = f refl
arms false make f g e = g e

module _ (body : Str) (q : body_reply body ≡ accepted) where
  options : (o : PartyOption) → Returns (parse o body)
  options o = returns (record_of o) (at_option o body q)

  choices : (c : Choice) → Returns (enums.parse c body)
  choices c = returns (record_by c) (detected body q c)

  choice : (c : Choice) → ((v : Option Str) → Returns (enums.parse c body) → Returns (enums.rust_parse_with_variant c body v))
      → ChoiceReturns (enums.parse c body) (enums.rust_parse_with_variant c body)
  choice c f = record { detects = choices c; by_variant = λ v. f v (choices c) }

  pub no_panic : NoPanic body
  unfolding rust50.Field50InstructingParty·parse_with_variant rust50.Field50OrderingCustomerFGH·parse_with_variant rust50.Field50OrderingCustomerAFK·parse_with_variant rust50.Field50OrderingCustomerNCF·parse_with_variant rust50.Field50Creditor·parse_with_variant rust59.Field59·parse_with_variant rust59.Field59Debtor·parse_with_variant
  no_panic = record {
    option = options;
    instructing = choice Field50InstructingParty (λ v e. arms _ _ (options Field50C) (arms _ _ (options Field50L) e));
    fgh = choice Field50OrderingCustomerFGH (λ v e. arms _ _ (options Field50F) (arms _ _ (options Field50G) (arms _ _ (options Field50H) e)));
    afk = choice Field50OrderingCustomerAFK (λ v e. arms _ _ (options Field50A) (arms _ _ (options Field50F) (arms _ _ (options Field50K) e)));
    ncf = choice Field50OrderingCustomerNCF (λ v e. arms _ _ (options Field50NoOption) (arms _ _ (options Field50C) (arms _ _ (options Field50F) e)));
    at_creditor = choice Field50Creditor (λ v e. arms _ _ (options Field50A) (arms _ _ (options Field50K) e));
    at_field59 = choice Field59 (λ v e. arms _ _ (options Field59NoOption) (arms _ _ (options Field59A) (arms _ _ (options Field59F) e)));
    at_debtor = choice Field59Debtor (λ v e. arms _ _ (options Field59NoOption) (arms _ _ (options Field59A) e));
  }
