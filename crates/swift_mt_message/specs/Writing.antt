-- What the Rust writes: of every record that a reader can give, and of every value that the Rust's readers give for a body, the text that
-- ours writes after 50F's digits are set to 1, 2, 3, 4, with one LF more in 59F with an identifier. proofs/Writing.antt and proofs/Values.antt
-- have the proofs.
use Rattle.std.specs.Prelude.{ℕ, suc, ◌≡◌, Bool, true, false, List, [], ◌∷◌, map, eqb, length}
use Rattle.std.proofs.Math.Option.{Option, none, some}
use Rattle.errors.specs.Refusals.{accepted}
use Rattle.party.specs.declared.PartyOption.{PartyOption}
use Rattle.party.specs.declared.PartyOption.TheVariants.{Field50NoOption, Field50A, Field50F, Field50K, Field50C, Field50L, Field50G, Field50H, Field59NoOption, Field59A, Field59F}
use Rattle.party.specs.declared.Party.{Party}
use Rattle.party.specs.Text.{Used, used}
use Rattle.party.specs.Party.{Content, names_of, content, Same}
use Rattle.reader.specs.Reading.{Reading}
use Rattle.reader.specs.Options.{read}
use Rattle.reader.specs.declared.choices.Choice.{Choice}
use Rattle.reader.specs.Choices.{parse, letter_reply, parse_with_variant}
use Rattle.writer.specs.Writing.{written_field, identified59_f}
use Rattle.writer.specs.Given.{Given}
use Rattle.swift_mt_message.specs.Std.{Str, Result, Ok}
use Rattle.swift_mt_message.specs.Structs.{Struct, to_swift_string}
use Rattle.swift_mt_message.specs.Structs as structs
use Rattle.swift_mt_message.specs.Enums as enums
use Rattle.swift_mt_message.specs.Equal.{record_of, renumbered, variant}

-- the struct of a record's texts
abbrev pub optional : Bool → Str → Option Str
optional true text = some text
optional false text = none

abbrev pub struct_of : (o : PartyOption) → Bool → Str → Str → List Str → Struct o
struct_of Field50NoOption present account bic names = record { name_and_address = names }
struct_of Field50A present account bic names = record { party_identifier = optional present account; bic = bic }
struct_of Field50F present account bic names = record { party_identifier = account; name_and_address = names }
struct_of Field50K present account bic names = record { account = optional present account; name_and_address = names }
struct_of Field50C present account bic names = record { bic = bic }
struct_of Field50L present account bic names = record { party_identifier = account }
struct_of Field50G present account bic names = record { account = account; bic = bic }
struct_of Field50H present account bic names = record { account = account; name_and_address = names }
struct_of Field59NoOption present account bic names = record { account = optional present account; name_and_address = names }
struct_of Field59A present account bic names = record { account = optional present account; bic = bic }
struct_of Field59F present account bic names = record { party_identifier = optional present account; name_and_address = names }

abbrev pub struct_in : (p : Party) → Struct p.option
struct_in p =
    struct_of p.option p.present (used p.account).bytes (used p.bic).bytes (map (λ (u : Used). u.bytes) (names_of p.count p))

-- a text without an LF at its start
unfoldable pub less_lf : Str → Str
less_lf [] = []
less_lf (b ∷ text) = elim (eqb b 10) [ true ↦ text | false ↦ b ∷ text ]

-- a text without an empty second line: the LF that stands right after its first LF is removed
unfoldable pub less_empty : Str → Str
less_empty [] = []
less_empty (b ∷ text) = b ∷ elim (eqb b 10) [ true ↦ less_lf text | false ↦ less_empty text ]

-- a text of the Rust and ours of a record (document 02, Six): equal; but of 59F with an identifier, which is in the first line, the Rust's has
-- an empty line after it, so one LF more than ours, and with that LF removed it is ours
pub record Agrees (s : Content) (text : Str) : Type 0 where
  pub equal : identified59_f s ≡ false → text ≡ written_field s
  pub less : identified59_f s ≡ true → less_empty text ≡ written_field s
  pub longer : identified59_f s ≡ true → length text ≡ suc (length (written_field s))

-- with its digits set to 1, 2, 3, 4 where it is a 50F (document 02, Seven), a reader can give a record too, so that 22 does not refuse it
-- (`given_exact`); the Rust's struct has the same record, and of it the Rust writes what ours writes, but for that LF
pub record Writes (p : Party) : Type 0 where
  pub given : Given (renumbered p)
  pub same : Same (record_of p.option (struct_in p)) (renumbered p)
  pub text : Agrees (content (renumbered p)) (to_swift_string p.option (struct_in p))

-- our reading and a text of the Rust: ours accepts, a reader can give its record, as it is and so renumbered, and of the latter ours writes
-- that text, but for that LF
pub record WrittenAs (r : Reading) (text : Str) : Type 0 where
  pub accepts : r.reply ≡ accepted
  pub given : Given r.party
  pub renumbered_given : Given (renumbered r.party)
  pub agrees : Agrees (content (renumbered r.party)) text

-- where the Rust gives a value, what it writes of that value is what ours writes of our record, but for those digits and that LF
abbrev pub ValueWritten : {A : Type 0} → (A → Str) → Result A → Reading → Type 0
ValueWritten {A} text result r = (v : A) → result ≡ Ok v → WrittenAs r (text v)

-- Demand 2, 'all eleven options, all seven choices among options .. our readers and writers equal the Rust', of a body that is read and
-- then written: by an option; by a choice that detects; and by a choice and a letter, A to Z or none. A body that passes 12 and 13 is an
-- 'ASCII body of at most 2,048 bytes'. 'Refusals included' is Equal's part, and it says where the Rust gives no value for 50H's account
-- and ours gives a record.
pub record ReadsAndWrites (body : Str) : Type 0 where
  pub option : (o : PartyOption) → ValueWritten (to_swift_string o) (structs.parse o body) (read o body)
  pub detected : (c : Choice) → ValueWritten (enums.to_swift_string c) (enums.parse c body) (parse c body)
  pub by_letter : (c : Choice) (letter : ℕ) → letter_reply letter ≡ accepted
      → ValueWritten (enums.to_swift_string c) (enums.rust_parse_with_variant c body (variant letter)) (parse_with_variant c body letter)
