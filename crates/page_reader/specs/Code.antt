-- The working forms of the private functions of page_reader.
use Rattle.std.specs.Prelude.{ℕ, ◌+◌, ◌%◌, ◌≡◌, Bool, true, false, ◌&&◌, ◌||◌, List, Option, Some, None, Result, Ok, Err, eqb, length, get_or}
use Rattle.std.specs.List.{find}
use Rattle.errors.specs.declared.ParseError.{ParseError}
use Rattle.errors.specs.declared.ParseError.TheVariants.{Position}
use Rattle.errors.specs.Refusals.{refusal_of}
use Rattle.party.specs.declared.PartyOption.{PartyOption}
use Rattle.party.specs.Limits.{limits_of, options}
use Rattle.page_reader.specs.declared.Tag.{Tag}
use Rattle.page_reader.specs.declared.ReadCase.{ReadCase}
use Rattle.page_reader.specs.declared.ReadCase.TheVariants.{Opening}
use Rattle.page_reader.specs.declared.index.Entry.{Entry as HeldEntry}
use Rattle.page_reader.specs.declared.index.Place.{Place}
use Rattle.page_reader.specs.Pages.{Tagged, untagged, tagged, tag_in, text_in, read_case}
use Rattle.page_reader.specs.Reads.{read_here}
use Rattle.page_reader.specs.Index.{Entry, met_by, is_there, found, not_found, look_up}

-- nothing is left of the first line of a rest: it is empty, or starts with an LF, or with a CR and then an LF
abbrev pub is_over : List ℕ → Bool
is_over s = eqb (length s) 0 || eqb (get_or s 0 0) 10 || (eqb (get_or s 0 0) 13 && eqb (get_or s 1 0) 10)

-- a tag found in a text
abbrev pub told_tag : Option Tag → Tagged
told_tag None = untagged
told_tag (Some t) = tagged t.option t.body.now

-- an option's tag has this last digit of its field and this letter, 0 for none
abbrev pub has_tag : PartyOption → ℕ → ℕ → Bool
has_tag o digit letter = eqb (48 + (limits_of o).field % 10) digit && eqb (limits_of o).letter letter

-- the first option of such a tag
abbrev pub known : ℕ → ℕ → Option PartyOption
known digit letter = find (λ o. has_tag o digit letter) options

-- a field that opens at a place and runs to its end, by its tag
pub record IsField (x : ReadCase) (page : List ℕ) (p : Place) : Type 0 where
  pub case : x ≡ Opening p.to
  pub tag : tag_in options (text_in page p.at p.to) ≡ tagged p.tag.option p.tag.body.now

-- an entry as the code holds it
abbrev pub held_entry : HeldEntry → Entry
held_entry e = record { tag = e.tag; position = e.position; len = e.len }

-- by the case of the read at an entry's position: the field there, if it is the entry's, else 21
abbrev pub HoldsBy : ReadCase → List ℕ → Entry → Result Place ParseError → Type 0
HoldsBy x page e (Ok p) = (p.at ≡ e.position) × IsField x page p × (is_there (met_by x page e.position) e ≡ true)
HoldsBy x page e (Err r) = (r ≡ Position) × (is_there (met_by x page e.position) e ≡ false)

-- where a field that is looked up stands, or the refusal of the lookup
abbrev pub Finds : List ℕ → List ℕ → ℕ → Result Place ParseError → Type 0
Finds page index k (Ok p) = IsField (read_case page p.at) page p × (look_up page index k ≡ found (read_here page p.at))
Finds page index k (Err e) = look_up page index k ≡ not_found (refusal_of e).number (refusal_of e).line
