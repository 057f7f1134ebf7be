-- The index beside a page, and looking a field up in it (document 02, Three).
use Rattle.std.specs.Prelude.{ℕ, ◌+◌, ◌*◌, ◌-◌, Bool, false, ◌&&◌, List, [], ◌∷◌, Result, Ok, Err, leb, eqb, length, take, get_or}
use Rattle.errors.specs.declared.ParseError.{ParseError}
use Rattle.errors.specs.Refusals.{Reply, accepted, refused, must, ◌then◌, refusal_of}
use Rattle.party.specs.declared.Party.{Party}
use Rattle.party.specs.Limits.{options, place_of}
use Rattle.party.specs.Party.{blank}
use Rattle.reader.specs.Reading.{room_reply}
use Rattle.page_reader.specs.declared.ReadCase.{ReadCase}
use Rattle.page_reader.specs.declared.ReadCase.TheVariants.{TooLong, NoStart, AtLength, Opening, Ending, Stray}
use Rattle.page_reader.specs.declared.index.FieldRead.{FieldRead}
use Rattle.page_reader.specs.Pages.{page_most, Tagged, untagged, tagged, tag_in, text_in, read_case, read_bytes, party_beside, Kind, a_record_given, Outline, outline, refusal_given}
use Rattle.page_reader.specs.Reads.{Read, read_here, reads}

-- ---- the index
-- an entry: a field's tag, as its option's place in the table, 0 to 10; its first position; and its length, tag and body without the LF
pub record Entry : Type 0 where
  pub tag : ℕ
  pub position : ℕ
  pub len : ℕ

-- at most 256 entries
abbrev pub index_most : ℕ
index_most = 256

-- an index is 769 numbers: how many entries it has, and three numbers for each of 256
abbrev pub index_size : ℕ
index_size = 3 * index_most + 1

-- numbers as entries, each three: tag, position, length
unfoldable pub entries_in : List ℕ → List Entry
entries_in [] = []
entries_in (t ∷ []) = []
entries_in (t ∷ p ∷ []) = []
entries_in (t ∷ p ∷ n ∷ l) = record { tag = t; position = p; len = n } ∷ entries_in l

-- the entries that an index has, as many as it says, or all 256 where it says more
unfoldable pub entries_of : List ℕ → List Entry
entries_of [] = []
entries_of (count ∷ numbers) = take count (entries_in numbers)

-- ---- the fields of a page
-- what a page has at a position: a field, by its entry, or none
pub data Met : Type 0 where
  no_field : Met
  a_field : Entry → Met

-- a field by its tag, position and length; none where the tag is none of the eleven, which is 15
abbrev pub tagged_as : Tagged → ℕ → ℕ → Met
tagged_as untagged at n = no_field
tagged_as (tagged o body) at n = a_field (record { tag = place_of o; position = at; len = n })

-- by the case of the read: only an opening line has a field
abbrev pub met_by : ReadCase → List ℕ → ℕ → Met
met_by TooLong page at = no_field
met_by NoStart page at = no_field
met_by AtLength page at = no_field
met_by (Opening to) page at = let text = text_in page at to in tagged_as (tag_in options text) at (length text)
met_by (Ending to) page at = no_field
met_by (Stray to) page at = no_field

-- the field that a read at a position meets
unfoldable pub field_at : List ℕ → ℕ → Met
field_at page at = met_by (read_case page at) page at

-- a field, if there is one, before later ones
abbrev pub met_before : Met → List Entry → List Entry
met_before no_field later = later
met_before (a_field e) later = e ∷ later

-- the fields that reads of a page meet, in their order
unfoldable pub fields_in : List ℕ → List Read → List Entry
fields_in page [] = []
fields_in page (r ∷ rs) = met_before (field_at page r.at) (fields_in page rs)

-- the list of the fields that reading a page from 0 meets
abbrev pub fields_met : List ℕ → List Entry
fields_met page = fields_in page (reads page)

-- ---- looking a field up
-- what a lookup gives: what the reader says at a position, or a refusal by its number and line, which carries no position
pub data Looked : Type 0 where
  found : Read → Looked
  not_found : ℕ → ℕ → Looked

-- by the refusal that applies
abbrev pub looking : Reply → Read → Looked
looking accepted r = found r
looking (refused k n) r = not_found k n

-- an entry is what the page has there: tag, position and length
abbrev pub is_there : Met → Entry → Bool
is_there no_field e = false
is_there (a_field f) e = eqb f.tag e.tag && eqb f.position e.position && eqb f.len e.len

-- the index has field k, counted from 1, else 31
abbrev pub has_entry : List ℕ → ℕ → Bool
has_entry index k = leb 1 k && leb k (length (entries_of index))

-- the entry where there is none
abbrev pub no_entry : Entry
no_entry = record { tag = 0; position = 0; len = 0 }

-- the entry of field k
abbrev pub entry_of : List ℕ → ℕ → Entry
entry_of index k = get_or (entries_of index) (k - 1) no_entry

-- a refusal that applies to a lookup: 18, 31, 21
abbrev pub look_reply : List ℕ → List ℕ → ℕ → Reply
look_reply page index k =
    let e = entry_of index k in
    must (leb (length page) page_most) 18 0 then must (has_entry index k) 31 0 then must (is_there (field_at page e.position) e) 21 0

-- looking up field k: the refusal that applies, else what the reader says at the position that entry k gives
unfoldable pub look_up : List ℕ → List ℕ → ℕ → Looked
look_up page index k = looking (look_reply page index k) (read_here page (entry_of index k).position)

-- the body that it hands back, an empty part at 18, 31 and 21
abbrev pub body_of : Looked → List ℕ
body_of (found r) = r.gave.body
body_of (not_found k n) = []

-- ---- a lookup into lent bytes
-- by the refusal that applies to them
abbrev pub looked_by : Reply → Looked → Looked
looked_by accepted x = x
looked_by (refused k n) x = not_found k n

-- 42 where under 241 bytes are lent for the record, before everything else
abbrev pub look_lent : List ℕ → List ℕ → ℕ → List ℕ → Looked
look_lent page index k bytes = looked_by (room_reply (length bytes)) (look_up page index k)

-- the bytes after it: those of the read; 42, 18, 31 and 21 change none
abbrev pub look_bytes : Looked → List ℕ → List ℕ
look_bytes (found r) bytes = read_bytes r.gave.outcome bytes
look_bytes (not_found k n) bytes = bytes

-- ---- what the code's answers say
-- the record beside a lookup: blank but for a record
abbrev pub party_looked : Looked → Party
party_looked (found r) = party_beside r.gave.outcome
party_looked (not_found k n) = blank

-- a lookup without the record and the body of its read
pub data LookOutline : Type 0 where
  found_at : ℕ → Outline → LookOutline
  not_found_for : ℕ → ℕ → LookOutline

abbrev pub look_outline : Looked → LookOutline
look_outline (found r) = found_at r.at (outline r.gave)
look_outline (not_found k n) = not_found_for k n

-- what the code says of a field's body
abbrev pub told_body : {T : Type 0} → Result T ParseError → Kind
told_body (Ok t) = a_record_given
told_body (Err e) = refusal_given e

-- the code's answer
abbrev pub told_looked : {T : Type 0} → Result (FieldRead T) ParseError → LookOutline
told_looked (Ok f) = found_at f.at (record { kind = told_body f.outcome; next = f.next })
told_looked (Err e) = not_found_for (refusal_of e).number (refusal_of e).line

-- the record that an answer by value has, else the blank one
abbrev pub party_or_blank : Result Party ParseError → Party
party_or_blank (Ok p) = p
party_or_blank (Err e) = blank

abbrev pub told_found : Result (FieldRead Party) ParseError → Party
told_found (Ok f) = party_or_blank f.outcome
told_found (Err e) = blank
