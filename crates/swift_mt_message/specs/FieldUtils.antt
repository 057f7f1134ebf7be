-- field_utils.rs: the functions that fields 50 and 59 use. An error of an identifier is one of body line 1.
use Rattle.std.specs.Prelude.{ℕ, ◌+◌, true, false, not, ◌&&◌, ◌||◌, List, [], ◌∷◌, ◌++◌, ltb, leb, eqb, length}
use Rattle.std.proofs.Math.Option.{Option, none, some}
use Rattle.swift_mt_message.specs.Std.{Str, slash, Result, Ok, Err, ◌and_then◌, ◌then◌, err_if, minus, for_skip, rust_is_empty, push, all, slice_from, slice_to, starts_with, strip_prefix, find, within, is_alphabetic, is_digit}
use Rattle.swift_mt_message.specs.SwiftUtils.{rust_parse_swift_chars}

-- `parse_party_identifier`, where a later slash parts a code and an identifier
unfoldable pub parse_code : Str → Str → Result (Option Str)
parse_code code id =
    -- a code of one letter
    elim (eqb (length code) 1 && all is_alphabetic code) [
      | true ↦
          err_if (ltb 34 (length id)) 2 1  -- exceeds 34 characters
          then rust_parse_swift_chars id 1
          then Ok (some (code ++ slash ∷ id))
      -- or of one or two letters or digits
      | false ↦ elim (within 1 2 (length code) && all (λ c. is_alphabetic c || is_digit c) code) [
        | true ↦
            err_if (ltb 34 (length id)) 2 1  -- exceeds 34 characters
            then rust_parse_swift_chars id 1
            then Ok (some (code ++ slash ∷ id))
        | false ↦ Err 2 1  -- Invalid party identifier format
      ]
    ]

-- `parse_party_identifier`, from what remains after the first slash on
unfoldable pub rust_parse_remaining : Str → Result (Option Str)
rust_parse_remaining remaining =
    elim (strip_prefix remaining slash) [
      -- a second slash right after the first
      | some special_code ↦ elim (not (rust_is_empty special_code) && leb (length special_code) 34) [
        | true ↦ rust_parse_swift_chars special_code 1 then Ok (some (slash ∷ special_code))
        | false ↦ Err 2 1  -- Invalid special party identifier format
      ]
      | none ↦ elim (find remaining slash) [
        | some slash_pos ↦
            slice_to slash_pos remaining
            and_then λ code.
            slice_from (slash_pos + 1) remaining
            and_then λ id. parse_code code id
        -- no second slash
        | none ↦ elim (leb (length remaining) 34) [
          | true ↦ rust_parse_swift_chars remaining 1 then Ok (some remaining)
          | false ↦ Err 2 1  -- Invalid party identifier format
        ]
      ]
    ]

-- `parse_party_identifier`
unfoldable pub rust_parse_party_identifier : Str → Result (Option Str)
rust_parse_party_identifier input =
    elim (not (starts_with input slash)) [ true ↦ Ok none | false ↦ slice_from 1 input and_then λ remaining. rust_parse_remaining remaining ]

-- `parse_name_and_address`: the body of its loop
unfoldable pub name_line : ℕ → List Str → ℕ → Str → Result (List Str)
name_line start_idx name_and_address i line =
    minus i start_idx
    and_then λ index.
    err_if (ltb 35 (length line)) 4 (start_idx + (index + 1))  -- exceeds 35 characters
    then rust_parse_swift_chars line (start_idx + (index + 1))
    then Ok (push name_and_address line)

-- `parse_name_and_address`; its messages count the lines from start_idx on
unfoldable pub rust_parse_name_and_address : List Str → ℕ → Result (List Str)
rust_parse_name_and_address lines start_idx =
    for_skip start_idx (name_line start_idx) [] lines
    and_then λ name_and_address.
    err_if (rust_is_empty name_and_address) 7 0  -- must have at least one name/address line
    then err_if (ltb 4 (length name_and_address)) 7 0  -- cannot have more than 4 name/address lines
    then Ok name_and_address
