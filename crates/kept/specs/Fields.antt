-- The same of a field of a page, as it came (document 01, 'Pages (added)'; the CR before its closing LF, document 02, One).
use Rattle.std.specs.Prelude.{ℕ, ◌+◌, Bool, true, false, ◌&&◌, List, ltb, eqb, take, drop, get_or}
use Rattle.party.specs.declared.PartyOption.{PartyOption}
use Rattle.page_reader.specs.Pages.{runs, ReadOutcome, a_record, the_end, a_refusal, read_at, body_place}
use Rattle.kept.specs.declared.Causes.{Causes}
use Rattle.kept.specs.Kept.{causes_of, no_causes, is_none}

-- the field at a position as it came: tag and body up to the LF that closes it, or to the page's length
abbrev pub came_at : List ℕ → ℕ → List ℕ
came_at page at = take (runs (drop at page)) (drop at page)

-- of a field: a CR stands between its body and the LF that closes it; where no LF closes it, nothing stands after the body. A body stands
-- after its tag, so that one at 0 is none: no field, or a tag that is none of the eleven
abbrev pub is_closing_cr : List ℕ → ℕ → Bool
is_closing_cr page at = let b = body_place page at in ltb 0 b.start && eqb (get_or page (b.start + b.len) 0) 13

-- the causes in the field at a position, that an option read with or without an account or identifier; a page trims nothing, and where no
-- field with a known tag is, there is none
abbrev pub field_causes : PartyOption → Bool → List ℕ → ℕ → Causes
field_causes o present page at = causes_of o present (read_at page at).body false (is_closing_cr page at)

-- by what a read there, or the filing of its record, answers: only a record has a field that may be kept
abbrev pub causes_by : List ℕ → ℕ → ReadOutcome → Causes
causes_by page at (a_record p) = field_causes p.option p.present page at
causes_by page at the_end = no_causes
causes_by page at (a_refusal k n) = no_causes

-- it gives a record
abbrev pub is_record : ReadOutcome → Bool
is_record (a_record p) = true
is_record the_end = false
is_record (a_refusal k n) = false

-- the field at a position is kept: a read there gives a record, and there is no cause
abbrev pub is_kept_at : List ℕ → ℕ → Bool
is_kept_at page at = is_record (read_at page at).outcome && is_none (causes_by page at (read_at page at).outcome)
