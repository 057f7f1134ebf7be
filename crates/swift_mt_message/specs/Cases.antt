-- A case of the list that tests/README.md describes, and what the transcription answers to it.
use Rattle.std.specs.Prelude.{ℕ, List, map}
use Prim.Native.String as S
use Rattle.std.proofs.Math.Option
use Rattle.std.proofs.Math.Option.{Option, none, some}
use Rattle.party.specs.declared.PartyOption.{PartyOption}
use Rattle.swift_utils.specs.Bytes.{bytes}
use Rattle.swift_mt_message.specs.Std.{Str, Result, Ok, Err, ◌and_then◌}
use Rattle.swift_mt_message.specs.Field50 as rust50
use Rattle.swift_mt_message.specs.Field59 as rust59
use Rattle.swift_mt_message.specs.Structs as structs
use Rattle.swift_mt_message.specs.Structs.{Parts, parts_of, of_instructing_party, of_fgh, of_afk, of_ncf, of_creditor, of_field59, of_debtor}

-- the Rust's value: its parts and what `to_swift_string` writes
pub record Value : Type 0 where
  pub parts : Parts
  pub text : Str

-- a case: none where `parse` is called, else the variant with which `parse_with_variant` is; the body; the Rust's answer
pub record Case : Type 0 where
  pub call : Option (Option Str)
  pub body : Str
  pub answer : Result Value

-- `parse`, `none` and a letter
abbrev pub parse : S.String → Result Value → Case
parse body answer = record { call = none; body = bytes body; answer = answer }

abbrev pub without : S.String → Result Value → Case
without body answer = record { call = some none; body = bytes body; answer = answer }

abbrev pub by : S.String → S.String → Result Value → Case
by letter body answer = record { call = some (some (bytes letter)); body = bytes body; answer = answer }

-- `ok` and `no`
abbrev pub ok : PartyOption → Option S.String → S.String → List S.String → S.String → Result Value
ok o account bic names text =
    let parts : Parts = record { option = o; account = Option.map bytes account; bic = bytes bic; names = map bytes names } in
    Ok (record { parts = parts; text = bytes text })

abbrev pub no : ℕ → ℕ → Result Value
no k n = Err k n

-- a reader: an option, which has `parse` alone, or a choice
pub data Reader : Type 0 where
  option : PartyOption → Reader
  InstructingParty : Reader
  FGH : Reader
  AFK : Reader
  NCF : Reader
  Creditor : Reader
  Field59 : Reader
  Debtor : Reader

-- a result of the transcription as the list has it
abbrev pub valued : {A : Type 0} → (A → Parts) → (A → Str) → Result A → Result Value
valued parts text result = result and_then λ v. Ok (record { parts = parts v; text = text v })

-- what a choice gives for a case
abbrev pub called : {A : Type 0} → (Str → Result A) → (Str → Option Str → Result A) → Case → Result A
called parse rust_parse_with_variant c = elim c.call [ none ↦ parse c.body | some variant ↦ rust_parse_with_variant c.body variant ]

-- what the transcription answers to a case
abbrev pub answered : Reader → Case → Result Value
answered (option o) c = valued (parts_of o) (structs.to_swift_string o) (structs.parse o c.body)
answered InstructingParty c =
    valued of_instructing_party rust50.Field50InstructingParty·to_swift_string
    (called rust50.Field50InstructingParty·parse rust50.Field50InstructingParty·parse_with_variant c)
answered FGH c =
    valued of_fgh rust50.Field50OrderingCustomerFGH·to_swift_string
    (called rust50.Field50OrderingCustomerFGH·parse rust50.Field50OrderingCustomerFGH·parse_with_variant c)
answered AFK c =
    valued of_afk rust50.Field50OrderingCustomerAFK·to_swift_string
    (called rust50.Field50OrderingCustomerAFK·parse rust50.Field50OrderingCustomerAFK·parse_with_variant c)
answered NCF c =
    valued of_ncf rust50.Field50OrderingCustomerNCF·to_swift_string
    (called rust50.Field50OrderingCustomerNCF·parse rust50.Field50OrderingCustomerNCF·parse_with_variant c)
answered Creditor c =
    valued of_creditor rust50.Field50Creditor·to_swift_string (called rust50.Field50Creditor·parse rust50.Field50Creditor·parse_with_variant c)
answered Field59 c = valued of_field59 rust59.Field59·to_swift_string (called rust59.Field59·parse rust59.Field59·parse_with_variant c)
answered Debtor c =
    valued of_debtor rust59.Field59Debtor·to_swift_string (called rust59.Field59Debtor·parse rust59.Field59Debtor·parse_with_variant c)
