-- What the answers of the reader's private functions mean, and the readings that they make.
use Rattle.std.specs.Prelude.{ℕ, ◌≡◌, Bool, true, false, ◌&&◌, List, [], leb, length, drop, Option, Some, None, Result, Ok, Err}
use Rattle.errors.specs.declared.ParseError.{ParseError}
use Rattle.errors.specs.Refusals.{accepted, told_error}
use Rattle.party.specs.declared.PartyOption.{PartyOption}
use Rattle.party.specs.Limits.{limits_of}
use Rattle.party.specs.Text.{part_in}
use Rattle.party.specs.declared.Part.{Part}
use Rattle.party.specs.declared.Parts.{Parts}
use Rattle.party.specs.Party.{blank, party_in}
use Rattle.party.specs.declared.First.{First}
use Rattle.party.specs.declared.First.TheVariants.{NoAccount, Identified, Account, ShortAccount, SlashAccount, AnyAccount, WholeLine}
use Rattle.field_utils.specs.Lines.{starts}
use Rattle.reader.specs.Reading.{Reading, giving, Found, party_of}
use Rattle.reader.specs.Options.{Head, no_head, head, account_reply}

-- what the code found in a body, as a reading of it: its parts make the record
abbrev pub told_parts : List ℕ → Result Parts ParseError → Reading
told_parts body (Ok parts) = record { reply = accepted; party = party_in body parts }
told_parts body (Err e) = record { reply = told_error e; party = blank }

-- a head whose checks passed
abbrev pub passed_head : Bool → List ℕ → Head
passed_head present text = record { present = present; text = text; reply = accepted }

-- what the code made of a line is its head: none, or the line without its first skip bytes, or a refusal
abbrev pub IsHead : List ℕ → Result (Option ℕ) ParseError → Head → Type 0
IsHead l (Ok None) h = h ≡ no_head
IsHead l (Ok (Some skip)) h = h ≡ passed_head true (drop skip l)
IsHead l (Err e) h = h.reply ≡ told_error e

-- the head at a part of a body, or none
abbrev pub head_at : List ℕ → Option Part → Head
head_at body None = no_head
head_at body (Some p) = passed_head true (part_in body p)

-- how many lines precede the others: that of a head, or none
abbrev pub lines_before : Option Part → ℕ
lines_before None = 0
lines_before (Some p) = 1

-- whether a first line has an account, by what it is to the option: not a long one in 59 and 59A
abbrev pub has_account : First → PartyOption → List ℕ → Bool
has_account NoAccount o l = starts 47 l
has_account Identified o l = starts 47 l
has_account Account o l = starts 47 l
has_account ShortAccount o l = starts 47 l && leb (length (drop 1 l)) (limits_of o).account_max
has_account SlashAccount o l = starts 47 l
has_account AnyAccount o l = starts 47 l
has_account WholeLine o l = starts 47 l

-- the account, or none
unfoldable pub account_by : First → PartyOption → List ℕ → Head
account_by f o l = elim (has_account f o l) [ true ↦ head (drop 1 l) (account_reply o (drop 1 l)) | false ↦ no_head ]

-- what is found where there are no names and the checks passed
abbrev pub nameless : Head → List ℕ → Found
nameless h bic = record { reply = accepted; present = h.present; account = h.text; bic = bic; names = []; digits = [] }

-- the reading of what an option finds
abbrev pub reading_of : PartyOption → Found → Reading
reading_of o f = giving f.reply (party_of o f)
