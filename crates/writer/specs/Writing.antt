-- The written field (document 01, field50.rs, field59.rs and 'Rust forms': bytes into a lent buffer).
use Rattle.std.specs.Prelude.{ℕ, ◌+◌, Bool, true, false, ◌&&◌, List, [], ◌∷◌, ◌++◌, map, leb, eqb, length, get_or, drop}
use Rattle.std.proofs.Math.Seq.{paste}
use Rattle.party.specs.declared.PartyOption.{PartyOption}
use Rattle.party.specs.declared.PartyOption.TheVariants.{Field59F}
use Rattle.party.specs.Text.{Used}
use Rattle.party.specs.Party.{Content}
use Rattle.party.specs.declared.Numbering.{Numbering}
use Rattle.party.specs.declared.Numbering.TheVariants.{Unnumbered, Numbered, InTurn}
use Rattle.party.specs.Limits.{limits_of, place_of}
use Rattle.swift_utils.specs.Bytes.{bytes}
use Rattle.field_utils.specs.Lines.{onto}
use Rattle.field_utils.specs.Tags.{tag_of}

-- what stands before an account or identifier: `/`, but for 50F and 50L (field50.rs)
abbrev pub slash_of : PartyOption → List ℕ
slash_of o = elim (limits_of o).slash [ true ↦ bytes "/" | false ↦ [] ]

-- what is written before a name: in 50F the digit of its line and `/` (document 02, Seven); 59F's names have their numbers
abbrev pub number_of : Numbering → ℕ → List ℕ
number_of Unnumbered digit = []
number_of Numbered digit = digit ∷ bytes "/"
number_of InTurn digit = []

-- the lines of names, each with its digit
unfoldable pub name_lines : Numbering → List ℕ → List Used → List (List ℕ)
name_lines f digits [] = []
name_lines f digits (u ∷ us) = (number_of f (get_or digits 0 0) ++ u.bytes) ∷ name_lines f (drop 1 digits) us

-- the line of an account or identifier, where it is there; no empty one follows 59F's (document 02, Six)
abbrev pub head_lines : PartyOption → Bool → List Used → List (List ℕ)
head_lines o true us = map (λ (u : Used). slash_of o ++ u.bytes) us
head_lines o false us = []

-- the written lines: account or identifier, BIC, names
unfoldable pub written_lines : Content → List (List ℕ)
written_lines s =
    head_lines s.option s.present s.account
    ++ map (λ (u : Used). u.bytes) s.bic
    ++ name_lines (limits_of s.option).numbering s.digits s.names

-- lines with an LF between them
unfoldable pub joined : List (List ℕ) → List ℕ
joined [] = []
joined (l ∷ []) = l
joined (l ∷ m ∷ ls) = l ++ 10 ∷ joined (m ∷ ls)

-- the written body: its lines with an LF between them
unfoldable pub written_body : Content → List ℕ
written_body s = joined (written_lines s)

-- tag and body
unfoldable pub written_field : Content → List ℕ
written_field s = tag_of s.option ++ written_body s

-- the longest written field is 187 bytes (document 02, Six); proofs/Theorems.antt has `written_most`
abbrev pub field_most : ℕ
field_most = 187

-- 59F with an identifier, the form whose field can pass 184 bytes (document 02, Six, 'this form'); `written_less` is of all others
unfoldable pub identified59_f : Content → Bool
identified59_f s = eqb (place_of s.option) (place_of Field59F) && s.present

-- the pieces of a text between LFs ('written lines being the pieces of its written body between LFs')
unfoldable pub pieces : List ℕ → List (List ℕ)
pieces [] = [] ∷ []
pieces (b ∷ l) = elim (eqb b 10) [ true ↦ [] ∷ pieces l | false ↦ onto b (pieces l) ]

-- a buffer with a text put at a place
abbrev pub put : List ℕ → ℕ → List ℕ → List ℕ
put buffer at text = paste buffer at text (length text)

-- a text fits from a place on, else 24: it does not pass the buffer
abbrev pub fits : List ℕ → ℕ → List ℕ → Bool
fits buffer at text = leb (at + length text) (length buffer)

-- a buffer after a text was put at a place, where it fits; else it is as it was
abbrev pub placed : List ℕ → ℕ → List ℕ → List ℕ
placed buffer at text = elim (fits buffer at text) [ true ↦ put buffer at text | false ↦ buffer ]
