-- field59.rs. Errors are told as in Field50.antt.
use Rattle.std.specs.Prelude.{ℕ, ◌+◌, Bool, true, false, not, ◌&&◌, ◌||◌, List, [], ◌∷◌, ◌++◌, ltb, leb, eqb, length}
use Rattle.std.proofs.Math.Option.{Option, none, some}
use Rattle.swift_utils.specs.Bytes.{bytes}
use Rattle.swift_mt_message.specs.Std.{Str, slash, newline, Result, Ok, Err, ◌and_then◌, ◌then◌, err_if, ◌and◌, ◌or◌, minus, if_ok, arm, for_skip, rust_is_empty, push, nth, is_some, equals, unwrap, at, let_lines, slice_from, starts_with, is_digit, to_digit}
use Rattle.swift_mt_message.specs.SwiftUtils.{rust_parse_swift_chars, rust_parse_bic}
use Rattle.swift_mt_message.specs.FieldUtils.{rust_parse_party_identifier, rust_parse_name_and_address}
use Rattle.swift_mt_message.specs.Field50.{is_variant, no_variant}

-- `Field59F`
pub record Field59F : Type 0 where
  pub party_identifier : Option Str
  pub name_and_address : List Str

-- `Field59A`
pub record Field59A : Type 0 where
  pub account : Option Str
  pub bic : Str

-- `Field59NoOption`
pub record Field59NoOption : Type 0 where
  pub account : Option Str
  pub name_and_address : List Str

-- `Field59`
pub data Field59 : Type 0 where
  Field59·A : Field59A → Field59
  Field59·F : Field59F → Field59
  Field59·NoOption : Field59NoOption → Field59

-- `Field59F::parse`: the body of its loop
unfoldable pub Field59F·line : ℕ → List Str → ℕ → Str → Result (List Str)
Field59F·line start_idx name_and_address i line =
    let first_char = nth 0 line in
    let second_char = nth 1 line in
    (Ok (ltb (length line) 2) or (unwrap first_char and_then λ c. Ok (not (is_digit c))) or Ok (not (equals second_char slash)))
    and_then λ unnumbered.
    minus i start_idx
    and_then λ index.
    err_if unnumbered 5 (start_idx + (index + 1))  -- must start with line number and slash
    then (unwrap first_char and_then λ c. unwrap (to_digit c))
    and_then λ line_num.
    let expected_line_num = index + 1 in
    err_if (not (eqb line_num expected_line_num)) 6 (start_idx + expected_line_num)  -- doesn't match expected
    then slice_from 2 line
    and_then λ content.
    err_if (ltb 33 (length content)) 4 (start_idx + line_num)  -- content exceeds 33 characters
    then rust_parse_swift_chars content (start_idx + line_num)
    then Ok (push name_and_address line)

-- `Field59F::parse`, from the names on
unfoldable pub Field59F·names : List Str → Option Str → ℕ → Result Field59F
Field59F·names lines party_identifier start_idx =
    for_skip start_idx (Field59F·line start_idx) [] lines
    and_then λ name_and_address.
    err_if (rust_is_empty name_and_address) 7 0  -- must have at least one name/address line
    then err_if (ltb 4 (length name_and_address)) 7 0  -- cannot have more than 4 name/address lines
    then Ok (record { party_identifier = party_identifier; name_and_address = name_and_address })

-- `Field59F::parse`
unfoldable pub Field59F·parse : Str → Result Field59F
Field59F·parse input =
    let_lines input λ lines.
    err_if (rust_is_empty lines) 1 0  -- cannot be empty
    then at lines 0
    and_then λ first_line_lem.
    rust_parse_party_identifier first_line_lem
    and_then λ found. elim found [ some party_id ↦ Field59F·names lines (some party_id) 1 | none ↦ Field59F·names lines none 0 ]

-- the loop of `Field59F::to_swift_string` and of `Field59NoOption::to_swift_string`, from the index i on: a line, and before it a
-- newline where a test of the index says so
unfoldable pub written : (ℕ → Bool) → ℕ → List Str → Str
written parted i [] = []
written parted i (line ∷ lines) = elim (parted i) [ true ↦ newline ∷ line ++ written parted (i + 1) lines | false ↦ line ++ written parted (i + 1) lines ]

-- `Field59F::to_swift_string`
unfoldable pub Field59F·to_swift_string : Field59F → Str
Field59F·to_swift_string self =
    let identifier : Str = elim self.party_identifier [ some id ↦ slash ∷ id ++ (newline ∷ []) | none ↦ [] ] in
    bytes ":59F:" ++ identifier ++ written (λ i. ltb 0 i || is_some self.party_identifier) 0 self.name_and_address

-- `Field59A::parse`, from the BIC on
unfoldable pub Field59A·bic : List Str → Option Str → ℕ → Result Field59A
Field59A·bic lines account bic_line_idx =
    err_if (leb (length lines) bic_line_idx) 8 0  -- missing BIC code
    then at lines bic_line_idx
    and_then λ bic_line_lem.
    rust_parse_bic bic_line_lem (bic_line_idx + 1)
    and_then λ bic. Ok (record { account = account; bic = bic })

-- `Field59A::parse`
unfoldable pub Field59A·parse : Str → Result Field59A
Field59A·parse input =
    let_lines input λ lines.
    err_if (rust_is_empty lines) 1 0  -- cannot be empty
    then at lines 0
    and_then λ first_line_lem.
    elim (starts_with first_line_lem slash) [
      | true ↦
          slice_from 1 first_line_lem
          and_then λ identifier.
          elim (leb (length identifier) 34) [
            | true ↦ rust_parse_swift_chars identifier 1 then Field59A·bic lines (some identifier) 1
            | false ↦ Field59A·bic lines none 0
          ]
      | false ↦ Field59A·bic lines none 0
    ]

-- `Field59A::to_swift_string`
unfoldable pub Field59A·to_swift_string : Field59A → Str
Field59A·to_swift_string self =
    let account : Str = elim self.account [ some acc ↦ slash ∷ acc ++ (newline ∷ []) | none ↦ [] ] in
    bytes ":59A:" ++ account ++ self.bic

-- `Field59NoOption::parse`, from the names on
unfoldable pub Field59NoOption·names : List Str → Option Str → ℕ → Result Field59NoOption
Field59NoOption·names lines account start_idx =
    rust_parse_name_and_address lines start_idx
    and_then λ name_and_address. Ok (record { account = account; name_and_address = name_and_address })

-- `Field59NoOption::parse`
unfoldable pub Field59NoOption·parse : Str → Result Field59NoOption
Field59NoOption·parse input =
    let_lines input λ lines.
    err_if (rust_is_empty lines) 1 0  -- cannot be empty
    then at lines 0
    and_then λ first_line_lem.
    elim (starts_with first_line_lem slash) [
      | true ↦
          slice_from 1 first_line_lem
          and_then λ identifier.
          elim (leb (length identifier) 34) [
            | true ↦ rust_parse_swift_chars identifier 1 then Field59NoOption·names lines (some identifier) 1
            | false ↦ Field59NoOption·names lines none 0
          ]
      | false ↦ Field59NoOption·names lines none 0
    ]

-- `Field59NoOption::to_swift_string`
unfoldable pub Field59NoOption·to_swift_string : Field59NoOption → Str
Field59NoOption·to_swift_string self =
    let account : Str = elim self.account [ some acc ↦ slash ∷ acc | none ↦ [] ] in
    bytes ":59:" ++ account ++ written (λ i. ltb 0 i || eqb i 0 && is_some self.account) 0 self.name_and_address

-- the test of `Field59::parse` for the line number format, at check_start
unfoldable pub Field59·numbered_at : List Str → ℕ → Result Bool
Field59·numbered_at lines check_start =
    Ok (ltb check_start (length lines))
    and (at lines check_start
    and_then λ test_line_lem.
    Ok (leb 2 (length test_line_lem)) and (unwrap (nth 0 test_line_lem) and_then λ c. Ok (is_digit c)) and Ok (equals (nth 1 test_line_lem) slash))

-- the same, in the lines of a body
unfoldable pub Field59·numbered : List Str → Result Bool
Field59·numbered lines =
    Ok (not (rust_is_empty lines))
    and (at lines 0
    and_then λ first_line_lem.
    Field59·numbered_at lines (elim (starts_with first_line_lem slash) [ true ↦ 1 | false ↦ 0 ]))

-- `Field59::parse`
unfoldable pub Field59·parse : Str → Result Field59
Field59·parse input =
    if_ok true (Field59A·parse input) Field59·A
    (let_lines input λ lines.
    Field59·numbered lines
    and_then λ numbered.
    if_ok numbered (Field59F·parse input) Field59·F
    (if_ok true (Field59NoOption·parse input) Field59·NoOption
    (Err 11 0)))  -- could not be parsed as option A, F, or No Option

-- `Field59::parse_with_variant`
unfoldable pub Field59·parse_with_variant : Str → Option Str → Result Field59
Field59·parse_with_variant value variant =
    arm (no_variant variant) (Field59NoOption·parse value) Field59·NoOption
    (arm (is_variant variant (bytes "A")) (Field59A·parse value) Field59·A
    (arm (is_variant variant (bytes "F")) (Field59F·parse value) Field59·F
    (Field59·parse value)))

-- `Field59::to_swift_string`
unfoldable pub Field59·to_swift_string : Field59 → Str
Field59·to_swift_string (Field59·A field) = Field59A·to_swift_string field
Field59·to_swift_string (Field59·F field) = Field59F·to_swift_string field
Field59·to_swift_string (Field59·NoOption field) = Field59NoOption·to_swift_string field

-- `Field59Debtor`
pub data Field59Debtor : Type 0 where
  Debtor·A : Field59A → Field59Debtor
  Debtor·NoOption : Field59NoOption → Field59Debtor

-- `Field59Debtor::parse`
unfoldable pub Field59Debtor·parse : Str → Result Field59Debtor
Field59Debtor·parse input =
    if_ok true (Field59A·parse input) Debtor·A
    (if_ok true (Field59NoOption·parse input) Debtor·NoOption
    (Err 11 0))  -- could not be parsed as option A or No Option

-- `Field59Debtor::parse_with_variant`
unfoldable pub Field59Debtor·parse_with_variant : Str → Option Str → Result Field59Debtor
Field59Debtor·parse_with_variant value variant =
    arm (no_variant variant) (Field59NoOption·parse value) Debtor·NoOption
    (arm (is_variant variant (bytes "A")) (Field59A·parse value) Debtor·A
    (Field59Debtor·parse value))

-- `Field59Debtor::to_swift_string`
unfoldable pub Field59Debtor·to_swift_string : Field59Debtor → Str
Field59Debtor·to_swift_string (Debtor·A field) = Field59A·to_swift_string field
Field59Debtor·to_swift_string (Debtor·NoOption field) = Field59NoOption·to_swift_string field
