-- The Rust's readers do not panic on an ASCII body of at most 2,048 bytes: no `unwrap`, index, slice or `-` is reached that would. Its
-- writers have none of these, so that they give a text and no `Result`. proofs/Panics.antt has the proof.
use Rattle.std.specs.Prelude.{◌≡◌}
use Rattle.std.proofs.Math.Option.{Option}
use Rattle.party.specs.declared.PartyOption.{PartyOption}
use Rattle.swift_mt_message.specs.Std.{Str, Result, Panic}
use Rattle.swift_mt_message.specs.Field50 as rust50
use Rattle.swift_mt_message.specs.Field59 as rust59
use Rattle.swift_mt_message.specs.Structs.{parse}

-- a value or an error, and no panic
abbrev pub Returns : {A : Type 0} → Result A → Type 0
Returns x = x ≡ Panic → ⊥

-- the same of a choice: detected, and by every variant, which may be any text or none
pub record ChoiceReturns {A : Type 0} (detected : Result A) (by : Option Str → Result A) : Type 0 where
  pub detects : Returns detected
  pub by_variant : (variant : Option Str) → Returns (by variant)

-- what is claimed of a body: the eleven options and the seven choices
pub record NoPanic (body : Str) : Type 0 where
  pub option : (o : PartyOption) → Returns (parse o body)
  pub instructing : ChoiceReturns (rust50.Field50InstructingParty·parse body) (rust50.Field50InstructingParty·parse_with_variant body)
  pub fgh : ChoiceReturns (rust50.Field50OrderingCustomerFGH·parse body) (rust50.Field50OrderingCustomerFGH·parse_with_variant body)
  pub afk : ChoiceReturns (rust50.Field50OrderingCustomerAFK·parse body) (rust50.Field50OrderingCustomerAFK·parse_with_variant body)
  pub ncf : ChoiceReturns (rust50.Field50OrderingCustomerNCF·parse body) (rust50.Field50OrderingCustomerNCF·parse_with_variant body)
  pub at_creditor : ChoiceReturns (rust50.Field50Creditor·parse body) (rust50.Field50Creditor·parse_with_variant body)
  pub at_field59 : ChoiceReturns (rust59.Field59·parse body) (rust59.Field59·parse_with_variant body)
  pub at_debtor : ChoiceReturns (rust59.Field59Debtor·parse body) (rust59.Field59Debtor·parse_with_variant body)
