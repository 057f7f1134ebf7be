-- The Rust's enums by their choices, as Structs.antt has its structs by their options.
use Rattle.std.proofs.Math.Option.{Option}
use Rattle.reader.specs.declared.choices.Choice.{Choice}
use Rattle.reader.specs.declared.choices.Choice.TheVariants.{Field50InstructingParty, Field50OrderingCustomerFGH, Field50OrderingCustomerAFK, Field50OrderingCustomerNCF, Field50Creditor, Field59, Field59Debtor}
use Rattle.swift_mt_message.specs.Std.{Str, Result}
use Rattle.swift_mt_message.specs.Field50 as rust50
use Rattle.swift_mt_message.specs.Field59 as rust59
use Rattle.swift_mt_message.specs.Structs.{Parts, of_instructing_party, of_fgh, of_afk, of_ncf, of_creditor, of_field59, of_debtor}

-- the enum of a choice, its two readers and its writer
abbrev pub Enum : Choice → Type 0
Enum Field50InstructingParty = rust50.Field50InstructingParty
Enum Field50OrderingCustomerFGH = rust50.Field50OrderingCustomerFGH
Enum Field50OrderingCustomerAFK = rust50.Field50OrderingCustomerAFK
Enum Field50OrderingCustomerNCF = rust50.Field50OrderingCustomerNCF
Enum Field50Creditor = rust50.Field50Creditor
Enum Field59 = rust59.Field59
Enum Field59Debtor = rust59.Field59Debtor

abbrev pub parse : (c : Choice) → Str → Result (Enum c)
parse Field50InstructingParty = rust50.Field50InstructingParty·parse
parse Field50OrderingCustomerFGH = rust50.Field50OrderingCustomerFGH·parse
parse Field50OrderingCustomerAFK = rust50.Field50OrderingCustomerAFK·parse
parse Field50OrderingCustomerNCF = rust50.Field50OrderingCustomerNCF·parse
parse Field50Creditor = rust50.Field50Creditor·parse
parse Field59 = rust59.Field59·parse
parse Field59Debtor = rust59.Field59Debtor·parse

abbrev pub rust_parse_with_variant : (c : Choice) → Str → Option Str → Result (Enum c)
rust_parse_with_variant Field50InstructingParty = rust50.Field50InstructingParty·parse_with_variant
rust_parse_with_variant Field50OrderingCustomerFGH = rust50.Field50OrderingCustomerFGH·parse_with_variant
rust_parse_with_variant Field50OrderingCustomerAFK = rust50.Field50OrderingCustomerAFK·parse_with_variant
rust_parse_with_variant Field50OrderingCustomerNCF = rust50.Field50OrderingCustomerNCF·parse_with_variant
rust_parse_with_variant Field50Creditor = rust50.Field50Creditor·parse_with_variant
rust_parse_with_variant Field59 = rust59.Field59·parse_with_variant
rust_parse_with_variant Field59Debtor = rust59.Field59Debtor·parse_with_variant

abbrev pub to_swift_string : (c : Choice) → Enum c → Str
to_swift_string Field50InstructingParty = rust50.Field50InstructingParty·to_swift_string
to_swift_string Field50OrderingCustomerFGH = rust50.Field50OrderingCustomerFGH·to_swift_string
to_swift_string Field50OrderingCustomerAFK = rust50.Field50OrderingCustomerAFK·to_swift_string
to_swift_string Field50OrderingCustomerNCF = rust50.Field50OrderingCustomerNCF·to_swift_string
to_swift_string Field50Creditor = rust50.Field50Creditor·to_swift_string
to_swift_string Field59 = rust59.Field59·to_swift_string
to_swift_string Field59Debtor = rust59.Field59Debtor·to_swift_string

-- the parts of an enum's value
abbrev pub parts_in : (c : Choice) → Enum c → Parts
parts_in Field50InstructingParty = of_instructing_party
parts_in Field50OrderingCustomerFGH = of_fgh
parts_in Field50OrderingCustomerAFK = of_afk
parts_in Field50OrderingCustomerNCF = of_ncf
parts_in Field50Creditor = of_creditor
parts_in Field59 = of_field59
parts_in Field59Debtor = of_debtor
