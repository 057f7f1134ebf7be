-- What filing a page leaves where some of its records are refused: the page of those whose answers tell a filing (document 01 has the read and
-- the add, 'Pages (added)'; that one follows the other is ours). The theorem is `filed_records`, proofs/FiledRecords.antt.
use Rattle.std.specs.Prelude.{ℕ, Bool, true, false, List, [], ◌∷◌, ltb}
use Rattle.party.specs.declared.Party.{Party}
use Rattle.page_reader.specs.Reads.{Read, reads}
use Rattle.page_writer.specs.Demand3.{ListedPage}
use Rattle.yewdome.specs.Filing.{record_of}
use Rattle.yewdome.specs.Interface.{pack_unit, file_numbers}

-- an answer of filing that is no refusal: that of a record that was filed, or of the end, which has no record
abbrev pub tells_filing : ℕ → Bool
tells_filing answer = ltb answer pack_unit

-- the records of the reads whose answers tell a filing, in their order
unfoldable pub filed_in : List Read → List ℕ → List Party
filed_in [] answers = []
filed_in (r ∷ rs) [] = []
filed_in (r ∷ rs) (a ∷ answers) = elim (tells_filing a) [ true ↦ record_of r.gave.outcome (filed_in rs answers) | false ↦ filed_in rs answers ]

-- the page that filing leaves, and closes, has just these records: all of demand 3 holds of it
abbrev pub FiledRecords : List ℕ → List ℕ → Type 0
FiledRecords page buffer = let w = file_numbers page buffer in ListedPage w.state (filed_in (reads page) w.answers) buffer
