-- Document 01's definitions equal the Rust, but for the account of 50H and the digits of 50F: for every ASCII body of at most 2,048 bytes,
-- the eleven options and the seven choices, refusals included. proofs/Equal.antt has the proof.
use Rattle.std.specs.Prelude.{ℕ, ◌≡◌, Bool, true, false, not, ◌&&◌, List, [], ◌∷◌, map, leb, eqb, length, take, drop}
use Rattle.std.proofs.Math.Option.{Option, none, some, get_or}
use Rattle.errors.specs.Refusals.{accepted, refused}
use Rattle.party.specs.declared.PartyOption.{PartyOption}
use Rattle.party.specs.declared.PartyOption.TheVariants.{Field50F, Field50H}
use Rattle.party.specs.declared.Party.{Party}
use Rattle.party.specs.declared.Numbering.{Numbering}
use Rattle.party.specs.declared.Numbering.TheVariants.{Unnumbered, Numbered, InTurn}
use Rattle.party.specs.Limits.{limits_of, place_of}
use Rattle.party.specs.Text.{four}
use Rattle.party.specs.Party.{blank, where_numbered}
use Rattle.swift_utils.specs.Bytes.{bytes, between, all, among, legal}
use Rattle.field_utils.specs.Lines.{lines, starts}
use Rattle.field_utils.specs.Names.{parse_name_and_address}
use Rattle.reader.specs.Reading.{Reading, giving, party_of}
use Rattle.reader.specs.Options.{read}
use Rattle.reader.specs.declared.choices.Choice.{Choice}
use Rattle.reader.specs.declared.choices.Choice.TheVariants.{Field50OrderingCustomerFGH}
use Rattle.reader.specs.Detection.{first_line}
use Rattle.reader.specs.Choices.{refusing, first_that, parse, letter_reply, options_of, parse_with_variant}
use Rattle.swift_mt_message.specs.Std.{Str, Result, Ok, Err, Panic, is_some}
use Rattle.swift_mt_message.specs.Structs.{Struct, Parts, parts_of}
use Rattle.swift_mt_message.specs.Structs as structs
use Rattle.swift_mt_message.specs.Enums.{Enum, parts_in}
use Rattle.swift_mt_message.specs.Enums as enums

-- a result of the Rust in document 01's terms, by the record of its value; a panic is none
abbrev pub told : {A : Type 0} → (A → Party) → Result A → Option Reading
told party (Ok v) = some (record { reply = accepted; party = party v })
told party (Err k n) = some (record { reply = refused k n; party = blank })
told party Panic = none

-- the digits that the Rust writes before 50F's names: it keeps none (document 02, Seven)
abbrev pub one_to_four : List ℕ
one_to_four = bytes "1234"

-- the record of an account or identifier, a BIC and names, 50F's with those digits; a text that the option has not is empty
abbrev pub as_party : PartyOption → Option Str → Str → List Str → Party
as_party o account bic names =
    party_of o (record {
      reply = accepted;
      present = is_some account;
      account = get_or account [];
      bic = bic;
      names = names;
      digits = where_numbered (limits_of o).numbering (take (length names) one_to_four);
    })

-- the record of a value's parts: of each of the Rust's structs, and of each of its enums
abbrev pub record_in : Parts → Party
record_in p = as_party p.option p.account p.bic p.names

abbrev pub record_of : (o : PartyOption) → Struct o → Party
record_of o v = record_in (parts_of o v)

abbrev pub record_by : (c : Choice) → Enum c → Party
record_by c v = record_in (parts_in c v)

-- a record of ours 'after our digits are set to 1, 2, 3, 4': 50F's used digits; any other record is as it was (`renumbered_others`)
abbrev pub renumbered_by : Numbering → Party → Party
renumbered_by Unnumbered p = p
renumbered_by Numbered p = record {
  option = p.option;
  present = p.present;
  account = p.account;
  bic = p.bic;
  count = p.count;
  name_and_address = p.name_and_address;
  digits = four 0 (take p.count one_to_four);
}
renumbered_by InTurn p = p

abbrev pub renumbered : Party → Party
renumbered p = renumbered_by (limits_of p.option).numbering p

-- a reading, its record so
abbrev pub renumber : Reading → Reading
renumber r = record { reply = r.reply; party = renumbered r.party }

-- a letter as the Rust has it: 0 stands for none
abbrev pub variant : ℕ → Option Str
variant letter = elim (eqb letter 0) [ true ↦ none | false ↦ some (letter ∷ []) ]

-- what the Rust gives for a body: by an option, by a choice that detects, and by a choice and a letter
abbrev pub rust_read : PartyOption → Str → Option Reading
rust_read o body = told (record_of o) (structs.parse o body)

abbrev pub rust_parse : Choice → Str → Option Reading
rust_parse c body = told (record_by c) (enums.parse c body)

abbrev pub rust_parse_with_variant : Choice → Str → ℕ → Option Reading
rust_parse_with_variant c body letter = told (record_by c) (enums.rust_parse_with_variant c body (variant letter))

-- the lines on which the two differ: two or more, the first of them `/` and 1 to 34 bytes, one of which is not legal
unfoldable pub illegal_account : List Str → Bool
illegal_account ls =
    let account = drop 1 (first_line ls) in
    leb 2 (length ls) && starts 47 (first_line ls) && between 1 34 (length account) && not (all legal account)

-- a reading of a body with those lines, and another of all others
abbrev pub by_account : Str → Reading → Reading → Reading
by_account body r s = elim (illegal_account (lines body)) [ true ↦ r | false ↦ s ]

-- whether a choice has 50F
abbrev pub has50_f : Choice → Bool
has50_f c = among (map place_of (options_of c)) (place_of Field50F)

-- the choice that has 50H
abbrev pub FGH : Choice
FGH = Field50OrderingCustomerFGH

-- what is claimed of a body: each result of the Rust, and what it equals by document 01's definitions
pub record Equal (body : Str) : Type 0 where
  -- the options but 50H and 50F; the Rust tests the bytes of 50H's account, and of 50F all but the digits is equal
  pub option : (o : PartyOption) → (o ≡ Field50H → ⊥) → (o ≡ Field50F → ⊥) → rust_read o body ≡ some (read o body)
  pub at_50F : rust_read Field50F body ≡ some (renumber (read Field50F body))
  pub at_50H : rust_read Field50H body ≡ some (by_account body (refusing 3 1) (read Field50H body))
  -- the choices that have neither: detected, and by a letter, none or A to Z
  pub detected : (c : Choice) → has50_f c ≡ false → rust_parse c body ≡ some (parse c body)
  pub by_letter : (c : Choice) → has50_f c ≡ false → (letter : ℕ) → letter_reply letter ≡ accepted
      → rust_parse_with_variant c body letter ≡ some (parse_with_variant c body letter)
  -- those that have 50F, but for its digits; FGH has 50H besides
  pub detected_50F : (c : Choice) → (c ≡ FGH → ⊥) → rust_parse c body ≡ some (renumber (parse c body))
  pub by_letter_50F : (c : Choice) → (c ≡ FGH → ⊥) → (letter : ℕ) → letter_reply letter ≡ accepted
      → rust_parse_with_variant c body letter ≡ some (renumber (parse_with_variant c body letter))
  -- FGH: detected; by F, G and H; and by all other letters, which detect
  pub fgh : rust_parse FGH body ≡ some (by_account body (refusing 11 0) (renumber (parse FGH body)))
  pub fgh_by_F : rust_parse_with_variant FGH body 70 ≡ some (renumber (parse_with_variant FGH body 70))
  pub fgh_by_G : rust_parse_with_variant FGH body 71 ≡ some (parse_with_variant FGH body 71)
  pub fgh_by_H : rust_parse_with_variant FGH body 72 ≡ some (by_account body (refusing 3 1) (parse_with_variant FGH body 72))
  pub fgh_by_other : (letter : ℕ) → letter_reply letter ≡ accepted → between 70 72 letter ≡ false
      → rust_parse_with_variant FGH body letter ≡ some (by_account body (refusing 11 0) (renumber (parse_with_variant FGH body letter)))
  -- where the two differ, 50H goes on to the names and never gives what the Rust gives; FGH, detected, is 50H or none
  pub reads_on : illegal_account (lines body) ≡ true
      → read Field50H body
      ≡ giving (parse_name_and_address Field50H 2 (drop 1 (lines body))) (as_party Field50H (some (drop 1 (first_line (lines body)))) [] (drop 1 (lines body)))
  pub differs : illegal_account (lines body) ≡ true → (read Field50H body).reply ≡ refused 3 1 → ⊥
  pub fgh_reads : illegal_account (lines body) ≡ true → parse FGH body ≡ first_that (Field50H ∷ []) body
