-- field50.rs. An error is told by the refusal number of its message and by the body line: 0 where the message names none, 1 for the
-- first line; where the message counts the lines of a part of the body, those before that part and the number that it counts. Words of
-- the message stand beside each. A place in `lines` that the Rust looks at twice is taken once.
use Rattle.std.specs.Prelude.{ℕ, ◌+◌, Bool, true, false, not, ◌&&◌, ◌||◌, List, [], ◌∷◌, ◌++◌, ltb, leb, eqb, length, drop}
use Rattle.std.proofs.Math.Option.{Option, none, some}
use Rattle.swift_utils.specs.Bytes.{bytes}
use Rattle.swift_mt_message.specs.Std.{Str, slash, newline, Result, Ok, Err, ◌and_then◌, ◌then◌, err_if, ◌and◌, minus, if_ok, arm, for_from, for_skip, rust_is_empty, push, all, any, last, nth, is_some_and, equals, at, let_lines, slice_from, same, contains, starts_with, within, is_digit, is_alphanumeric, trim, join, number}
use Rattle.swift_mt_message.specs.SwiftUtils.{rust_parse_swift_chars, rust_parse_bic}
use Rattle.swift_mt_message.specs.FieldUtils.{rust_parse_party_identifier}

-- `Field50NoOption`
pub record Field50NoOption : Type 0 where
  pub name_and_address : List Str

-- `Field50NoOption::parse`: the body of its loop, which keeps nothing
unfoldable pub Field50NoOption·line : Unit {0} → ℕ → Str → Result (Unit {0})
Field50NoOption·line none_kept i line =
    err_if (ltb 35 (length line)) 4 (i + 1)  -- exceeds 35 characters
    then rust_parse_swift_chars line (i + 1)
    then Ok tt

-- `Field50NoOption::parse`
unfoldable pub Field50NoOption·parse : Str → Result Field50NoOption
Field50NoOption·parse input =
    let_lines input λ lines.
    err_if (rust_is_empty lines) 1 0  -- must have at least one line
    then err_if (ltb 4 (length lines)) 1 0  -- cannot have more than 4 lines
    then for_from Field50NoOption·line tt 0 lines
    then Ok (record { name_and_address = lines })

-- `Field50NoOption::to_swift_string`
unfoldable pub Field50NoOption·to_swift_string : Field50NoOption → Str
Field50NoOption·to_swift_string self = bytes ":50:" ++ join self.name_and_address

-- `Field50A`
pub record Field50A : Type 0 where
  pub party_identifier : Option Str
  pub bic : Str

-- `Field50A::parse`, from the BIC on
unfoldable pub Field50A·bic : List Str → Option Str → ℕ → Result Field50A
Field50A·bic lines party_identifier bic_line_idx =
    err_if (leb (length lines) bic_line_idx) 8 0  -- missing BIC code
    then at lines bic_line_idx
    and_then λ bic_line_lem.
    rust_parse_bic bic_line_lem (bic_line_idx + 1)
    and_then λ bic. Ok (record { party_identifier = party_identifier; bic = bic })

-- `Field50A::parse`
unfoldable pub Field50A·parse : Str → Result Field50A
Field50A·parse input =
    let_lines input λ lines.
    err_if (rust_is_empty lines) 1 0  -- cannot be empty
    then at lines 0
    and_then λ first_line_lem.
    rust_parse_party_identifier first_line_lem
    and_then λ found. elim found [ some party_id ↦ Field50A·bic lines (some party_id) 1 | none ↦ Field50A·bic lines none 0 ]

-- `Field50A::to_swift_string`
unfoldable pub Field50A·to_swift_string : Field50A → Str
Field50A·to_swift_string self =
    let lines : List Str = elim self.party_identifier [ some id ↦ (slash ∷ id) ∷ [] | none ↦ [] ] in
    bytes ":50A:" ++ join (push lines self.bic)

-- `Field50F`
pub record Field50F : Type 0 where
  pub party_identifier : Str
  pub name_and_address : List Str

-- `Field50F::parse`: the body of its loop
unfoldable pub Field50F·line : List Str → ℕ → Str → Result (List Str)
Field50F·line name_and_address i line =
    err_if (ltb (length line) 2 || not (is_some_and is_digit (nth 0 line))) 5 (1 + i)  -- must start with line number
    then err_if (not (equals (nth 1 line) slash)) 5 (1 + i)  -- must have '/' after line number
    then slice_from 2 line
    and_then λ text.
    err_if (ltb 33 (length text)) 4 (1 + i)  -- text exceeds 33 characters
    then rust_parse_swift_chars text (1 + i)
    then Ok (push name_and_address text)

-- `Field50F::parse`
unfoldable pub Field50F·parse : Str → Result Field50F
Field50F·parse input =
    let_lines input λ lines.
    err_if (ltb (length lines) 2) 1 0  -- must have at least 2 lines
    then at lines 0
    and_then λ party_identifier.
    err_if (rust_is_empty party_identifier || ltb 35 (length party_identifier)) 2 1  -- must be 1-35 characters
    then rust_parse_swift_chars party_identifier 1
    then for_skip 1 Field50F·line [] lines
    and_then λ name_and_address.
    err_if (rust_is_empty name_and_address) 7 0  -- must have at least one numbered name/address line
    then err_if (ltb 4 (length name_and_address)) 7 0  -- cannot have more than 4 name/address lines
    then Ok (record { party_identifier = party_identifier; name_and_address = name_and_address })

-- `Field50F::to_swift_string`: its numbered lines, from the index i on
unfoldable pub Field50F·numbered : ℕ → List Str → List Str
Field50F·numbered i [] = []
Field50F·numbered i (line ∷ lines) = (number (i + 1) ++ slash ∷ line) ∷ Field50F·numbered (i + 1) lines

-- `Field50F::to_swift_string`
unfoldable pub Field50F·to_swift_string : Field50F → Str
Field50F·to_swift_string self = bytes ":50F:" ++ join (self.party_identifier ∷ Field50F·numbered 0 self.name_and_address)

-- `Field50K`
pub record Field50K : Type 0 where
  pub account : Option Str
  pub name_and_address : List Str

-- `Field50K::parse`: the body of its loop
unfoldable pub Field50K·line : ℕ → List Str → ℕ → Str → Result (List Str)
Field50K·line start_index name_and_address i line =
    minus i start_index
    and_then λ index.
    err_if (ltb 35 (length line)) 4 (start_index + (index + 1))  -- exceeds 35 characters
    then rust_parse_swift_chars line (start_index + (index + 1))
    then Ok (push name_and_address line)

-- `Field50K::parse`, from the names on
unfoldable pub Field50K·names : List Str → Option Str → ℕ → Result Field50K
Field50K·names lines account start_index =
    for_skip start_index (Field50K·line start_index) [] lines
    and_then λ name_and_address.
    err_if (rust_is_empty name_and_address) 7 0  -- must have at least one name/address line
    then err_if (ltb 4 (length name_and_address)) 7 0  -- cannot have more than 4 name/address lines
    then Ok (record { account = account; name_and_address = name_and_address })

-- `Field50K::parse`
unfoldable pub Field50K·parse : Str → Result Field50K
Field50K·parse input =
    let_lines input λ lines.
    err_if (rust_is_empty lines) 1 0  -- must have at least one line
    then at lines 0
    and_then λ first_line_lem.
    elim (starts_with first_line_lem slash) [
      | true ↦
          slice_from 1 first_line_lem
          and_then λ acc.
          err_if (ltb 34 (length acc)) 2 1  -- account exceeds 34 characters
          then rust_parse_swift_chars acc 1
          then Field50K·names lines (some acc) 1
      | false ↦ Field50K·names lines none 0
    ]

-- `Field50K::to_swift_string`
unfoldable pub Field50K·to_swift_string : Field50K → Str
Field50K·to_swift_string self =
    let result : List Str = elim self.account [ some acc ↦ (slash ∷ acc) ∷ [] | none ↦ [] ] in
    bytes ":50K:" ++ join (result ++ self.name_and_address)

-- `Field50C`
pub record Field50C : Type 0 where
  pub bic : Str

-- `Field50C::parse`
unfoldable pub Field50C·parse : Str → Result Field50C
Field50C·parse input = rust_parse_bic input 1 and_then λ bic. Ok (record { bic = bic })

-- `Field50C::to_swift_string`
unfoldable pub Field50C·to_swift_string : Field50C → Str
Field50C·to_swift_string self = bytes ":50C:" ++ self.bic

-- `Field50L`
pub record Field50L : Type 0 where
  pub party_identifier : Str

-- `Field50L::parse`
unfoldable pub Field50L·parse : Str → Result Field50L
Field50L·parse input =
    err_if (contains input newline) 1 0  -- must be single line
    then err_if (rust_is_empty input || ltb 35 (length input)) 2 1  -- must be 1-35 characters
    then rust_parse_swift_chars input 1
    then Ok (record { party_identifier = input })

-- `Field50L::to_swift_string`
unfoldable pub Field50L·to_swift_string : Field50L → Str
Field50L·to_swift_string self = bytes ":50L:" ++ self.party_identifier

-- `Field50G`
pub record Field50G : Type 0 where
  pub account : Str
  pub bic : Str

-- `Field50G::parse`
unfoldable pub Field50G·parse : Str → Result Field50G
Field50G·parse input =
    let_lines input λ lines.
    err_if (not (eqb (length lines) 2)) 1 0  -- must have exactly 2 lines
    then at lines 0
    and_then λ first_line_lem.
    err_if (not (starts_with first_line_lem slash)) 2 1  -- account must start with '/'
    then slice_from 1 first_line_lem
    and_then λ account.
    err_if (rust_is_empty account || ltb 34 (length account)) 2 1  -- account must be 1-34 characters
    then rust_parse_swift_chars account 1
    then at lines 1
    and_then λ bic_line_lem.
    rust_parse_bic bic_line_lem 2
    and_then λ bic. Ok (record { account = account; bic = bic })

-- `Field50G::to_swift_string`
unfoldable pub Field50G·to_swift_string : Field50G → Str
Field50G·to_swift_string self = bytes ":50G:/" ++ self.account ++ newline ∷ self.bic

-- `Field50H`
pub record Field50H : Type 0 where
  pub account : Str
  pub name_and_address : List Str

-- `Field50H::parse`: the body of its loop
unfoldable pub Field50H·line : List Str → ℕ → Str → Result (List Str)
Field50H·line name_and_address i line =
    err_if (ltb 35 (length line)) 4 (1 + i)  -- exceeds 35 characters
    then rust_parse_swift_chars line (1 + i)
    then Ok (push name_and_address line)

-- `Field50H::parse`; it tests the account's bytes
unfoldable pub Field50H·parse : Str → Result Field50H
Field50H·parse input =
    let_lines input λ lines.
    err_if (ltb (length lines) 2) 1 0  -- must have at least 2 lines
    then at lines 0
    and_then λ first_line_lem.
    err_if (not (starts_with first_line_lem slash)) 2 1  -- account must start with '/'
    then slice_from 1 first_line_lem
    and_then λ account.
    err_if (rust_is_empty account || ltb 34 (length account)) 2 1  -- account must be 1-34 characters
    then rust_parse_swift_chars account 1
    then for_skip 1 Field50H·line [] lines
    and_then λ name_and_address.
    err_if (ltb 4 (length name_and_address)) 7 0  -- cannot have more than 4 name/address lines
    then Ok (record { account = account; name_and_address = name_and_address })

-- `Field50H::to_swift_string`
unfoldable pub Field50H·to_swift_string : Field50H → Str
Field50H·to_swift_string self = bytes ":50H:" ++ join ((slash ∷ self.account) ∷ self.name_and_address)

-- the test of a numbered line, which the Rust writes in each choice that has F
unfoldable pub numbered : Str → Bool
numbered line = leb 2 (length line) && is_some_and is_digit (nth 0 line) && equals (nth 1 line) slash

-- the test of the last line for a BIC, which the Rust writes in each choice that has A
unfoldable pub rust_last_is_bic : List Str → Bool
rust_last_is_bic lines =
    elim (last lines) [
      | some last_Line ↦
          let trimmed = trim last_Line in
          (eqb (length trimmed) 8 || eqb (length trimmed) 11) && all is_alphanumeric trimmed
      | none ↦ false
    ]

-- the pattern `Some(".")` of a variant
unfoldable pub is_variant : Option Str → Str → Bool
is_variant variant letter = is_some_and (λ v. same v letter) variant

-- the pattern `None` of a variant
abbrev pub no_variant : Option Str → Bool
no_variant none = true
no_variant (some letter) = false

-- `Field50InstructingParty`
pub data Field50InstructingParty : Type 0 where
  InstructingParty·C : Field50C → Field50InstructingParty
  InstructingParty·L : Field50L → Field50InstructingParty

-- `Field50InstructingParty::parse`
unfoldable pub Field50InstructingParty·parse : Str → Result Field50InstructingParty
Field50InstructingParty·parse input =
    let trimmed = trim input in
    if_ok true (Field50C·parse trimmed) InstructingParty·C
    (if_ok true (Field50L·parse trimmed) InstructingParty·L
    (Err 11 0))  -- could not be parsed as option C or L

-- `Field50InstructingParty::parse_with_variant`
unfoldable pub Field50InstructingParty·parse_with_variant : Str → Option Str → Result Field50InstructingParty
Field50InstructingParty·parse_with_variant value variant =
    arm (is_variant variant (bytes "C")) (Field50C·parse value) InstructingParty·C
    (arm (is_variant variant (bytes "L")) (Field50L·parse value) InstructingParty·L
    (Field50InstructingParty·parse value))

-- `Field50InstructingParty::to_swift_string`
unfoldable pub Field50InstructingParty·to_swift_string : Field50InstructingParty → Str
Field50InstructingParty·to_swift_string (InstructingParty·C field) = Field50C·to_swift_string field
Field50InstructingParty·to_swift_string (InstructingParty·L field) = Field50L·to_swift_string field

-- `Field50OrderingCustomerFGH`
pub data Field50OrderingCustomerFGH : Type 0 where
  FGH·F : Field50F → Field50OrderingCustomerFGH
  FGH·G : Field50G → Field50OrderingCustomerFGH
  FGH·H : Field50H → Field50OrderingCustomerFGH

-- `Field50OrderingCustomerFGH::parse`
unfoldable pub Field50OrderingCustomerFGH·parse : Str → Result Field50OrderingCustomerFGH
Field50OrderingCustomerFGH·parse input =
    let_lines input λ lines.
    elim (leb 2 (length lines)) [
      | true ↦
          if_ok (any numbered (drop 1 lines)) (Field50F·parse input) FGH·F
          (at lines 0
          and_then λ first_line_lem.
          if_ok (starts_with first_line_lem slash && eqb (length lines) 2) (Field50G·parse input) FGH·G
          (if_ok (starts_with first_line_lem slash) (Field50H·parse input) FGH·H
          (Err 11 0)))  -- could not be parsed as option F, G or H
      | false ↦ Err 11 0  -- could not be parsed as option F, G or H
    ]

-- `Field50OrderingCustomerFGH::parse_with_variant`
unfoldable pub Field50OrderingCustomerFGH·parse_with_variant : Str → Option Str → Result Field50OrderingCustomerFGH
Field50OrderingCustomerFGH·parse_with_variant value variant =
    arm (is_variant variant (bytes "F")) (Field50F·parse value) FGH·F
    (arm (is_variant variant (bytes "G")) (Field50G·parse value) FGH·G
    (arm (is_variant variant (bytes "H")) (Field50H·parse value) FGH·H
    (Field50OrderingCustomerFGH·parse value)))

-- `Field50OrderingCustomerFGH::to_swift_string`
unfoldable pub Field50OrderingCustomerFGH·to_swift_string : Field50OrderingCustomerFGH → Str
Field50OrderingCustomerFGH·to_swift_string (FGH·F field) = Field50F·to_swift_string field
Field50OrderingCustomerFGH·to_swift_string (FGH·G field) = Field50G·to_swift_string field
Field50OrderingCustomerFGH·to_swift_string (FGH·H field) = Field50H·to_swift_string field

-- `Field50OrderingCustomerAFK`
pub data Field50OrderingCustomerAFK : Type 0 where
  AFK·A : Field50A → Field50OrderingCustomerAFK
  AFK·F : Field50F → Field50OrderingCustomerAFK
  AFK·K : Field50K → Field50OrderingCustomerAFK

-- `Field50OrderingCustomerAFK::parse`
unfoldable pub Field50OrderingCustomerAFK·parse : Str → Result Field50OrderingCustomerAFK
Field50OrderingCustomerAFK·parse input =
    let_lines input λ lines.
    if_ok (any numbered lines) (Field50F·parse input) AFK·F
    (if_ok (rust_last_is_bic lines) (Field50A·parse input) AFK·A
    (if_ok true (Field50K·parse input) AFK·K
    (Err 11 0)))  -- could not be parsed as option A, F or K

-- `Field50OrderingCustomerAFK::parse_with_variant`
unfoldable pub Field50OrderingCustomerAFK·parse_with_variant : Str → Option Str → Result Field50OrderingCustomerAFK
Field50OrderingCustomerAFK·parse_with_variant value variant =
    arm (is_variant variant (bytes "A")) (Field50A·parse value) AFK·A
    (arm (is_variant variant (bytes "F")) (Field50F·parse value) AFK·F
    (arm (is_variant variant (bytes "K")) (Field50K·parse value) AFK·K
    (Field50OrderingCustomerAFK·parse value)))

-- `Field50OrderingCustomerAFK::to_swift_string`
unfoldable pub Field50OrderingCustomerAFK·to_swift_string : Field50OrderingCustomerAFK → Str
Field50OrderingCustomerAFK·to_swift_string (AFK·A field) = Field50A·to_swift_string field
Field50OrderingCustomerAFK·to_swift_string (AFK·F field) = Field50F·to_swift_string field
Field50OrderingCustomerAFK·to_swift_string (AFK·K field) = Field50K·to_swift_string field

-- `Field50OrderingCustomerNCF`
pub data Field50OrderingCustomerNCF : Type 0 where
  NCF·NoOption : Field50NoOption → Field50OrderingCustomerNCF
  NCF·C : Field50C → Field50OrderingCustomerNCF
  NCF·F : Field50F → Field50OrderingCustomerNCF

-- `Field50OrderingCustomerNCF::parse`
unfoldable pub Field50OrderingCustomerNCF·parse : Str → Result Field50OrderingCustomerNCF
Field50OrderingCustomerNCF·parse input =
    let_lines input λ lines.
    (Ok (eqb (length lines) 1) and (at lines 0 and_then λ line. Ok (within 8 11 (length line))))
    and_then λ one_line.
    if_ok one_line (Field50C·parse input) NCF·C
    (if_ok (any numbered lines) (Field50F·parse input) NCF·F
    (if_ok true (Field50NoOption·parse input) NCF·NoOption
    (Err 11 0)))  -- could not be parsed as No Option, C or F

-- `Field50OrderingCustomerNCF::parse_with_variant`
unfoldable pub Field50OrderingCustomerNCF·parse_with_variant : Str → Option Str → Result Field50OrderingCustomerNCF
Field50OrderingCustomerNCF·parse_with_variant value variant =
    arm (no_variant variant) (Field50NoOption·parse value) NCF·NoOption
    (arm (is_variant variant (bytes "C")) (Field50C·parse value) NCF·C
    (arm (is_variant variant (bytes "F")) (Field50F·parse value) NCF·F
    (Field50OrderingCustomerNCF·parse value)))

-- `Field50OrderingCustomerNCF::to_swift_string`
unfoldable pub Field50OrderingCustomerNCF·to_swift_string : Field50OrderingCustomerNCF → Str
Field50OrderingCustomerNCF·to_swift_string (NCF·NoOption field) = Field50NoOption·to_swift_string field
Field50OrderingCustomerNCF·to_swift_string (NCF·C field) = Field50C·to_swift_string field
Field50OrderingCustomerNCF·to_swift_string (NCF·F field) = Field50F·to_swift_string field

-- `Field50Creditor`
pub data Field50Creditor : Type 0 where
  Creditor·A : Field50A → Field50Creditor
  Creditor·K : Field50K → Field50Creditor

-- `Field50Creditor::parse`
unfoldable pub Field50Creditor·parse : Str → Result Field50Creditor
Field50Creditor·parse input =
    let_lines input λ lines.
    if_ok (rust_last_is_bic lines) (Field50A·parse input) Creditor·A
    (if_ok true (Field50K·parse input) Creditor·K
    (Err 11 0))  -- could not be parsed as option A or K

-- `Field50Creditor::parse_with_variant`
unfoldable pub Field50Creditor·parse_with_variant : Str → Option Str → Result Field50Creditor
Field50Creditor·parse_with_variant value variant =
    arm (is_variant variant (bytes "A")) (Field50A·parse value) Creditor·A
    (arm (is_variant variant (bytes "K")) (Field50K·parse value) Creditor·K
    (Field50Creditor·parse value))

-- `Field50Creditor::to_swift_string`
unfoldable pub Field50Creditor·to_swift_string : Field50Creditor → Str
Field50Creditor·to_swift_string (Creditor·A field) = Field50A·to_swift_string field
Field50Creditor·to_swift_string (Creditor·K field) = Field50K·to_swift_string field
