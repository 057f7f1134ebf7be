-- parse_swift_chars, parse_account and parse_bic (document 01, swift_utils.rs). n is the body line that a refusal names.
use Rattle.std.specs.Prelude.{ℕ, Bool, ◌||◌, List, eqb, length, take, drop}
use Rattle.errors.specs.Refusals.{Reply, must, ◌then◌}
use Rattle.swift_utils.specs.Bytes.{between, all, letter, alphanumeric, legal}

-- 3: an illegal byte outside a BIC
unfoldable pub parse_swift_chars : ℕ → List ℕ → Reply
parse_swift_chars n l = must (all legal l) 3 n

-- 2: an account or identifier of a length that is not from shortest to longest
abbrev pub parse_length : ℕ → ℕ → ℕ → List ℕ → Reply
parse_length shortest longest n l = must (between shortest longest (length l)) 2 n

-- an account or identifier: its length, then legal bytes
unfoldable pub parse_account : ℕ → ℕ → ℕ → List ℕ → Reply
parse_account shortest longest n l = parse_length shortest longest n l then parse_swift_chars n l

-- BIC: length 8 ..
abbrev pub bic_short : ℕ
bic_short = 8

-- .. or 11
abbrev pub bic_long : ℕ
bic_long = 11

unfoldable pub bic_length : ℕ → Bool
bic_length n = eqb n bic_short || eqb n bic_long

-- BIC: 9 for another length; bytes 1 to 6 letters, the rest letters or digits, else 10
unfoldable pub parse_bic : ℕ → List ℕ → Reply
parse_bic n l =
    must (bic_length (length l)) 9 n
    then must (all letter (take 6 l)) 10 n
    then must (all alphanumeric (drop 6 l)) 10 n
