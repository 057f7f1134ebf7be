-- Numbered lines and identifiers (document 01, field_utils.rs). n is the body line that a refusal names.
use Rattle.std.specs.Prelude.{ℕ, suc, Bool, true, false, ◌&&◌, List, [], ◌∷◌, length, take, drop, ◌==◌, nat_le, nat_lt, Option, None, Some, Result, Ok, Err}
use denote.Ref.{Bor}
use Rattle.errors.specs.declared.ParseError.{ParseError}
use Rattle.errors.specs.Refusals.{Reply, accepted, told_error, must, ◌then◌}
use Rattle.party.specs.declared.PartyOption.{PartyOption}
use Rattle.party.specs.Limits.{limits_of}
use Rattle.swift_utils.specs.Bytes.{digit, alphanumeric, all}
use Rattle.swift_utils.specs.Checks.{parse_account}
use Rattle.field_utils.specs.Lines.{upto}

-- a numbered line has a digit, then `/`
unfoldable pub is_numbered : List ℕ → Bool
is_numbered [] = false
is_numbered (d ∷ []) = false
is_numbered (d ∷ s ∷ l) = digit d && s == 47

-- a second slash, where k bytes stand between it and the first: `//` needs 1 to 34 legal bytes after it; in `/` code `/` id
-- the code is 1 or 2 letters or digits, the id 0 to 34 legal bytes
unfoldable pub second_slash : ℕ → ℕ → List ℕ → ℕ → Reply
second_slash longest n l k =
    elim (k == 0) [
      | true ↦ parse_account 1 longest n (drop 1 l)
      | false ↦ must (nat_le k 2 && all alphanumeric (take k l)) 2 n then parse_account 0 longest n (drop (suc k) l)
    ]

-- after the first slash: a second one; with no second one, 0 to 34 legal bytes
unfoldable pub identifier_reply : ℕ → ℕ → List ℕ → Reply
identifier_reply longest n l =
    elim (nat_lt (upto 47 l) (length l)) [ true ↦ second_slash longest n l (upto 47 l) | false ↦ parse_account 0 longest n l ]

-- what a line says of an identifier: none, or its value, the line without its first slash, and whether that passes
pub data Identifier : Type 0 where
  absent : Identifier
  given : List ℕ → Reply → Identifier

-- a line without leading `/` has none; the longest text is the option's, 34 in 50A and 59F
unfoldable pub parse_party_identifier : PartyOption → ℕ → List ℕ → Identifier
parse_party_identifier o n [] = absent
parse_party_identifier o n (b ∷ l) = elim (b == 47) [ true ↦ given l (identifier_reply (limits_of o).account_max n l) | false ↦ absent ]

-- an answer for a line in document 01's terms
abbrev pub told_identifier : List ℕ → Result (Option (Bor (List ℕ))) ParseError → Identifier
told_identifier l (Ok None) = absent
told_identifier l (Ok (Some remaining)) = given remaining.now accepted
told_identifier l (Err e) = given (drop 1 l) (told_error e)
