-- Pages: lines, fields, and a read at a position (document 01, 'Pages (added)'; CR and `-}`, document 02, One). What follows a position is
-- the rest of the page from there.
use Rattle.std.specs.Prelude.{ℕ, zero, suc, ◌+◌, ◌-◌, min, Bool, true, false, ◌&&◌, ◌||◌, List, [], ◌∷◌, Option, Some, None, Result, Ok, Err, ltb, leb, eqb, length, take, drop, get_or}
use Rattle.errors.specs.declared.ParseError.{ParseError}
use Rattle.errors.specs.Refusals.{Reply, accepted, refused, refusal_of}
use Rattle.party.specs.declared.Part.{Part}
use Rattle.party.specs.declared.PartyOption.{PartyOption}
use Rattle.party.specs.declared.Party.{Party}
use Rattle.party.specs.Limits.{options}
use Rattle.party.specs.Party.{blank}
use Rattle.swift_utils.specs.Bytes.{among}
use Rattle.field_utils.specs.Lines.{upto, starts, is_empty, without_cr}
use Rattle.field_utils.specs.Tags.{tag_of}
use Rattle.record_bytes.specs.RecordBytes.{stored}
use Rattle.reader.specs.Reading.{room_reply}
use Rattle.reader.specs.Options.{read}
use Rattle.page_reader.specs.declared.PageRead.{PageRead as ReadAt}
use Rattle.page_reader.specs.declared.ReadCase.{ReadCase}
use Rattle.page_reader.specs.declared.ReadCase.TheVariants.{TooLong, NoStart, AtLength, Opening, Ending, Stray}

-- at most 32,768 bytes
abbrev pub page_most : ℕ
page_most = 32768

-- the first line of a rest: a page line ends at LF only
unfoldable pub line_at : List ℕ → List ℕ
line_at s = take (upto 10 s) s

-- a line starting with `:` opens a field
abbrev pub opens : List ℕ → Bool
opens l = starts 58 l

-- whether an LF closes the first line of a rest
abbrev pub has_lf : List ℕ → Bool
has_lf s = among s 10

-- a text without one CR directly before the LF that closes it; where none closes it, a CR stays
abbrev pub less_cr : Bool → List ℕ → List ℕ
less_cr true l = without_cr l
less_cr false l = l

-- `-` or `-}`
unfoldable pub is_end : List ℕ → Bool
is_end [] = false
is_end (b ∷ []) = eqb b 45
is_end (b ∷ c ∷ []) = eqb b 45 && eqb c 125
is_end (b ∷ c ∷ d ∷ l) = false

-- a line that is just one of these ends the page; where an LF closes it, also with one CR before that LF
unfoldable pub ends_page : Bool → List ℕ → Bool
ends_page lf l = is_end (less_cr lf l)

-- an opening or end line
abbrev pub is_boundary : Bool → List ℕ → Bool
is_boundary lf l = opens l || ends_page lf l

-- the first line of a rest ends the page
abbrev pub ends_at : List ℕ → Bool
ends_at s = ends_page (has_lf s) (line_at s)

-- how far a field runs: to before the LF that precedes the next opening or end line; where none follows, to the page's length, less a
-- last LF
unfoldable pub runs : List ℕ → ℕ
runs [] = 0
runs (b ∷ s) = elim (eqb b 10 && (is_empty s || is_boundary (has_lf s) (line_at s))) [ true ↦ 0 | false ↦ suc (runs s) ]

-- the position past an LF, at most the page's length
abbrev pub past : List ℕ → ℕ → ℕ
past page lf = min (length page) (suc lf)

-- a list starts with another
unfoldable pub begins : List ℕ → List ℕ → Bool
begins [] s = true
begins (a ∷ l) [] = false
begins (a ∷ l) (b ∷ s) = eqb a b && begins l s

-- a field's text by its tag: an option and the rest, which is the body, or none of the eleven
pub data Tagged : Type 0 where
  untagged : Tagged
  tagged : PartyOption → List ℕ → Tagged

-- the first of some options whose tag the text begins with
unfoldable pub tag_in : List PartyOption → List ℕ → Tagged
tag_in [] text = untagged
tag_in (o ∷ os) text = elim (begins (tag_of o) text) [ true ↦ tagged o (drop (length (tag_of o)) text) | false ↦ tag_in os text ]

-- a read gives a record, the end, or a refusal with its number and body line
pub data ReadOutcome : Type 0 where
  a_record : Party → ReadOutcome
  the_end : ReadOutcome
  a_refusal : ℕ → ℕ → ReadOutcome

-- with the part of the page that is the body, and the next position
pub record PageRead : Type 0 where
  pub outcome : ReadOutcome
  pub body : List ℕ
  pub next : ℕ

-- an empty part at 15 to 18, 21 and the end
abbrev pub bodiless : ReadOutcome → ℕ → PageRead
bodiless outcome next = record { outcome = outcome; body = []; next = next }

-- what an option's reader gives: its record, or its refusal
abbrev pub outcome_of : Reply → Party → ReadOutcome
outcome_of accepted p = a_record p
outcome_of (refused k n) p = a_refusal k n

-- a field: 15 where its tag is none of the eleven, else what the tag's option reads of the body
abbrev pub read_tagged : Tagged → ℕ → PageRead
read_tagged untagged next = bodiless (a_refusal 15 0) next
read_tagged (tagged o body) next = record { outcome = outcome_of (read o body).reply (read o body).party; body = body; next = next }

-- by the tags of the eleven
unfoldable pub read_field : List ℕ → ℕ → PageRead
read_field text next = read_tagged (tag_in options text) next

-- a position that is 0, or after an LF
abbrev pub starts_line : List ℕ → ℕ → Bool
starts_line page zero = true
starts_line page (suc at) = eqb (get_or page at 0) 10

-- a position to read at, else 21: within the page, and 0, the length or after an LF
abbrev pub readable : List ℕ → ℕ → Bool
readable page at = leb at (length page) && (eqb at (length page) || starts_line page at)

-- the first line of a rest from a position on opens a field, ends the page, or does neither; with the position to which the field, the
-- line or what is stray runs
abbrev pub line_case : List ℕ → ℕ → ReadCase
line_case s at =
    elim (opens (line_at s)) [
      | true ↦ Opening (at + runs s)
      | false ↦ elim (ends_at s) [ true ↦ Ending (at + upto 10 s) | false ↦ Stray (at + runs s) ]
    ]

-- there is none at the page's length
abbrev pub rest_case : List ℕ → ℕ → ReadCase
rest_case [] at = AtLength
rest_case (b ∷ s) at = line_case (b ∷ s) at

-- which case a read is: a page over 32,768, no position to read at, the page's length, or a line
unfoldable pub read_case : List ℕ → ℕ → ReadCase
read_case page at =
    elim (leb (length page) page_most) [
      | true ↦ elim (readable page at) [ true ↦ rest_case (drop at page) at | false ↦ NoStart ]
      | false ↦ TooLong
    ]

-- a field's text: the page from one position to another, without one CR directly before the LF there
abbrev pub text_in : List ℕ → ℕ → ℕ → List ℕ
text_in page at to = less_cr (ltb to (length page)) (take (to - at) (drop at page))

-- what each case reads: 18, 21, 17; a field, the end, or 16
abbrev pub read_by : ReadCase → List ℕ → ℕ → PageRead
read_by TooLong page at = bodiless (a_refusal 18 0) at
read_by NoStart page at = bodiless (a_refusal 21 0) at
read_by AtLength page at = bodiless (a_refusal 17 0) at
read_by (Opening to) page at = read_field (text_in page at to) (past page to)
read_by (Ending to) page at = bodiless the_end (past page to)
read_by (Stray to) page at = bodiless (a_refusal 16 0) (past page to)

-- a read at a position: 18, 21, 17 or 16, 15, then the body's
unfoldable pub read_at : List ℕ → ℕ → PageRead
read_at page at = read_by (read_case page at) page at

-- no body: no field, or a tag that is none of the eleven
abbrev pub no_body : Part
no_body = record { start = 0; len = 0 }

-- where a body stands in the page, by its field's tag and the position where the field's text ends: the rest after the tag
abbrev pub body_in : Tagged → ℕ → Part
body_in untagged to = no_body
body_in (tagged o body) to = record { start = to - length body; len = length body }

-- by the case of the read: only a field has a body
abbrev pub place_by : ReadCase → List ℕ → ℕ → Part
place_by TooLong page at = no_body
place_by NoStart page at = no_body
place_by AtLength page at = no_body
place_by (Opening to) page at = let text = text_in page at to in body_in (tag_in options text) (at + length text)
place_by (Ending to) page at = no_body
place_by (Stray to) page at = no_body

-- that of the field at a position; proofs/Bodies.antt has `body_there`: the bytes there are the read's body
unfoldable pub body_place : List ℕ → ℕ → Part
body_place page at = place_by (read_case page at) page at

-- ---- a read into lent bytes
-- by the refusal that applies to them, which moves past no byte
abbrev pub lent_by : Reply → PageRead → ℕ → PageRead
lent_by accepted r at = r
lent_by (refused k n) r at = bodiless (a_refusal k n) at

-- 42 where under 241 bytes are lent for the record, before everything else
abbrev pub read_lent : List ℕ → ℕ → List ℕ → PageRead
read_lent page at bytes = lent_by (room_reply (length bytes)) (read_at page at) at

-- the bytes after it: a record is stored at their start; the end and a refusal change none
abbrev pub read_bytes : ReadOutcome → List ℕ → List ℕ
read_bytes (a_record p) bytes = stored p bytes
read_bytes the_end bytes = bytes
read_bytes (a_refusal k n) bytes = bytes

-- ---- what the code's answers say
-- the record beside an outcome: blank but for a record
abbrev pub party_beside : ReadOutcome → Party
party_beside (a_record p) = p
party_beside the_end = blank
party_beside (a_refusal k n) = blank

-- an outcome without its record
pub data Kind : Type 0 where
  a_record_given : Kind
  the_end_given : Kind
  a_refusal_given : ℕ → ℕ → Kind

abbrev pub kind_of : ReadOutcome → Kind
kind_of (a_record p) = a_record_given
kind_of the_end = the_end_given
kind_of (a_refusal k n) = a_refusal_given k n

-- a read without its record and its body, which the answer has not
pub record Outline : Type 0 where
  pub kind : Kind
  pub next : ℕ

abbrev pub outline : PageRead → Outline
outline r = record { kind = kind_of r.outcome; next = r.next }

-- the code's refusal
abbrev pub refusal_given : ParseError → Kind
refusal_given e = a_refusal_given (refusal_of e).number (refusal_of e).line

-- the code's outcome
abbrev pub told_kind : {T : Type 0} → Result (Option T) ParseError → Kind
told_kind (Ok (Some t)) = a_record_given
told_kind (Ok None) = the_end_given
told_kind (Err e) = refusal_given e

-- its answer to a read into lent bytes, and to one by value
abbrev pub told_read_into : ReadAt (Unit {0}) → Outline
told_read_into r = record { kind = told_kind r.outcome; next = r.next }

abbrev pub told_read : ReadAt Party → Outline
told_read r = record { kind = told_kind r.outcome; next = r.next }

-- the record that an outcome by value has, else the blank one
abbrev pub told_party : Result (Option Party) ParseError → Party
told_party (Ok (Some p)) = p
told_party (Ok None) = blank
told_party (Err e) = blank
