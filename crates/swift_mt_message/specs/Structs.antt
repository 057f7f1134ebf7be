-- The Rust's structs by their options, and what a value of a struct or an enum holds, in one form.
use Rattle.std.specs.Prelude.{List, []}
use Rattle.std.proofs.Math.Option.{Option, none, some}
use Rattle.party.specs.declared.PartyOption.{PartyOption}
use Rattle.party.specs.declared.PartyOption.TheVariants.{Field50NoOption, Field50A, Field50F, Field50K, Field50C, Field50L, Field50G, Field50H, Field59NoOption, Field59A, Field59F}
use Rattle.swift_mt_message.specs.Std.{Str, Result}
use Rattle.swift_mt_message.specs.Field50 as rust50
use Rattle.swift_mt_message.specs.Field59 as rust59

-- the struct of an option, its reader and its writer
abbrev pub Struct : PartyOption → Type 0
Struct Field50NoOption = rust50.Field50NoOption
Struct Field50A = rust50.Field50A
Struct Field50F = rust50.Field50F
Struct Field50K = rust50.Field50K
Struct Field50C = rust50.Field50C
Struct Field50L = rust50.Field50L
Struct Field50G = rust50.Field50G
Struct Field50H = rust50.Field50H
Struct Field59NoOption = rust59.Field59NoOption
Struct Field59A = rust59.Field59A
Struct Field59F = rust59.Field59F

abbrev pub parse : (o : PartyOption) → Str → Result (Struct o)
parse Field50NoOption = rust50.Field50NoOption·parse
parse Field50A = rust50.Field50A·parse
parse Field50F = rust50.Field50F·parse
parse Field50K = rust50.Field50K·parse
parse Field50C = rust50.Field50C·parse
parse Field50L = rust50.Field50L·parse
parse Field50G = rust50.Field50G·parse
parse Field50H = rust50.Field50H·parse
parse Field59NoOption = rust59.Field59NoOption·parse
parse Field59A = rust59.Field59A·parse
parse Field59F = rust59.Field59F·parse

abbrev pub to_swift_string : (o : PartyOption) → Struct o → Str
to_swift_string Field50NoOption = rust50.Field50NoOption·to_swift_string
to_swift_string Field50A = rust50.Field50A·to_swift_string
to_swift_string Field50F = rust50.Field50F·to_swift_string
to_swift_string Field50K = rust50.Field50K·to_swift_string
to_swift_string Field50C = rust50.Field50C·to_swift_string
to_swift_string Field50L = rust50.Field50L·to_swift_string
to_swift_string Field50G = rust50.Field50G·to_swift_string
to_swift_string Field50H = rust50.Field50H·to_swift_string
to_swift_string Field59NoOption = rust59.Field59NoOption·to_swift_string
to_swift_string Field59A = rust59.Field59A·to_swift_string
to_swift_string Field59F = rust59.Field59F·to_swift_string

-- the option, the account or identifier, the BIC and the names; a text that the option has not is empty
pub record Parts : Type 0 where
  pub option : PartyOption
  pub account : Option Str
  pub bic : Str
  pub names : List Str

-- the parts of a struct
abbrev pub parts_of : (o : PartyOption) → Struct o → Parts
parts_of Field50NoOption v = record { option = Field50NoOption; account = none; bic = []; names = v.name_and_address }
parts_of Field50A v = record { option = Field50A; account = v.party_identifier; bic = v.bic; names = [] }
parts_of Field50F v = record { option = Field50F; account = some v.party_identifier; bic = []; names = v.name_and_address }
parts_of Field50K v = record { option = Field50K; account = v.account; bic = []; names = v.name_and_address }
parts_of Field50C v = record { option = Field50C; account = none; bic = v.bic; names = [] }
parts_of Field50L v = record { option = Field50L; account = some v.party_identifier; bic = []; names = [] }
parts_of Field50G v = record { option = Field50G; account = some v.account; bic = v.bic; names = [] }
parts_of Field50H v = record { option = Field50H; account = some v.account; bic = []; names = v.name_and_address }
parts_of Field59NoOption v = record { option = Field59NoOption; account = v.account; bic = []; names = v.name_and_address }
parts_of Field59A v = record { option = Field59A; account = v.account; bic = v.bic; names = [] }
parts_of Field59F v = record { option = Field59F; account = v.party_identifier; bic = []; names = v.name_and_address }

-- the parts of each enum
abbrev pub of_instructing_party : rust50.Field50InstructingParty → Parts
of_instructing_party (rust50.InstructingParty·C v) = parts_of Field50C v
of_instructing_party (rust50.InstructingParty·L v) = parts_of Field50L v

abbrev pub of_fgh : rust50.Field50OrderingCustomerFGH → Parts
of_fgh (rust50.FGH·F v) = parts_of Field50F v
of_fgh (rust50.FGH·G v) = parts_of Field50G v
of_fgh (rust50.FGH·H v) = parts_of Field50H v

abbrev pub of_afk : rust50.Field50OrderingCustomerAFK → Parts
of_afk (rust50.AFK·A v) = parts_of Field50A v
of_afk (rust50.AFK·F v) = parts_of Field50F v
of_afk (rust50.AFK·K v) = parts_of Field50K v

abbrev pub of_ncf : rust50.Field50OrderingCustomerNCF → Parts
of_ncf (rust50.NCF·NoOption v) = parts_of Field50NoOption v
of_ncf (rust50.NCF·C v) = parts_of Field50C v
of_ncf (rust50.NCF·F v) = parts_of Field50F v

abbrev pub of_creditor : rust50.Field50Creditor → Parts
of_creditor (rust50.Creditor·A v) = parts_of Field50A v
of_creditor (rust50.Creditor·K v) = parts_of Field50K v

abbrev pub of_field59 : rust59.Field59 → Parts
of_field59 (rust59.Field59·A v) = parts_of Field59A v
of_field59 (rust59.Field59·F v) = parts_of Field59F v
of_field59 (rust59.Field59·NoOption v) = parts_of Field59NoOption v

abbrev pub of_debtor : rust59.Field59Debtor → Parts
of_debtor (rust59.Debtor·A v) = parts_of Field59A v
of_debtor (rust59.Debtor·NoOption v) = parts_of Field59NoOption v
