-- swift_utils.rs: the functions that fields 50 and 59 use. line is the body line of what an error's message names.
use Rattle.std.specs.Prelude.{ℕ, not, ◌&&◌, ◌||◌, eqb, length}
use Rattle.swift_utils.specs.Bytes.{bytes}
use Rattle.swift_mt_message.specs.Std.{Str, Result, Ok, ◌and_then◌, ◌then◌, err_if, ◌and◌, all, contains, slice, is_alphabetic, is_alphanumeric}

-- `SWIFT_SPECIAL`
unfoldable pub swift_special : Str
swift_special = bytes "/-?:().,'+{} \r\n%&*;<=>@[]_$!\"#|"

-- `parse_swift_chars`
unfoldable pub rust_parse_swift_chars : Str → ℕ → Result Str
rust_parse_swift_chars input line =
    err_if (not (all (λ c. is_alphanumeric c || contains swift_special c) input)) 3 line  -- contains invalid characters
    then Ok input

-- `parse_bic`
unfoldable pub rust_parse_bic : Str → ℕ → Result Str
rust_parse_bic input line =
    err_if (not (eqb (length input) 8) && not (eqb (length input) 11)) 9 line  -- must be 8 or 11 characters
    then slice 0 4 input
    and_then λ bank_code.
    err_if (not (all is_alphabetic bank_code)) 10 line  -- BIC bank code (first 4 chars) must be letters
    then slice 4 6 input
    and_then λ country_code.
    err_if (not (all is_alphabetic country_code)) 10 line  -- BIC country code (chars 5-6) must be letters
    then slice 6 8 input
    and_then λ location_code.
    err_if (not (all is_alphanumeric location_code)) 10 line  -- BIC location code (chars 7-8) must be alphanumeric
    then (Ok (eqb (length input) 11) and (slice 8 11 input and_then λ branch_code. Ok (not (all is_alphanumeric branch_code))))
    and_then λ wrong_branch.
    err_if wrong_branch 10 line  -- BIC branch code (chars 9-11) must be alphanumeric
    then Ok input
