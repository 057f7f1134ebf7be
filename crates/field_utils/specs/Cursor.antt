-- The lines by their places, as the iterator of the code gives them, a working form of `lines`; and where the names of document 01's field50.rs and
-- field59.rs stand among them.
use Rattle.std.specs.Prelude.{◌≡◌, ℕ, zero, suc, ◌+◌, ◌-◌, true, false, List, [], ◌∷◌, map, length, take, drop, nat_lt, Option, None, Some, MatchOption}
use Rattle.errors.specs.Refusals.{Reply, accepted, refused}
use Rattle.party.specs.declared.Part.{Part}
use Rattle.party.specs.Text.{four}
use Rattle.field_utils.specs.declared.lines.Lines.{Lines}
use Rattle.field_utils.specs.Lines.{upto, without_cr}

-- a line as the part of a text that it is, and the place after it
pub record NextLine : Type 0 where
  pub part : Part
  pub rest : ℕ

-- a line from a place on whose LF stands n bytes further; where that is the end, no LF closes it
unfoldable pub line_of : List ℕ → ℕ → ℕ → NextLine
line_of s at n =
    elim (nat_lt (at + n) (length s)) [
      | true ↦ record { part = record { start = at; len = length (without_cr (take n (drop at s))) }; rest = at + n + 1 }
      | false ↦ record { part = record { start = at; len = n }; rest = at + n }
    ]

-- the next line from a place on: the part that it is, and the place after it; or none
unfoldable pub next_line : List ℕ → ℕ → Option NextLine
next_line s at = elim (nat_lt at (length s)) [ true ↦ Some (line_of s at (upto 10 (drop at s))) | false ↦ None ]

-- a call of the iterator gives the next line and goes on after it, or gives none and stays; the text stays
pub record GivesLine (s : Lines) (r : Option Part) (t : Lines) : Type 0 where
  pub text : t.text ≡ s.text
  pub next : MatchOption r ((next_line s.text.now s.at ≡ None) × (t.at ≡ s.at)) (λ p. next_line s.text.now s.at ≡ Some (record { part = p; rest = t.at }))

-- the places of the first n lines from a place on
unfoldable pub places_of : ℕ → List ℕ → ℕ → List Part
places_of zero s at = []
places_of (suc n) s at = elim (next_line s at) [ Some l ↦ l.part ∷ places_of n s l.rest | None ↦ [] ]

-- the places of all of them: there are no more than bytes
abbrev pub line_places : List ℕ → ℕ → List Part
line_places s at = places_of (length s) s at

-- no place
abbrev pub no_place : Part
no_place = record { start = 0; len = 0 }

-- the place of what is kept of a line of names, without its first k bytes
abbrev pub kept_place : ℕ → Part → Part
kept_place k p = record { start = p.start + k; len = p.len - k }

-- the places of the first four names, as they are kept; none where they are refused
abbrev pub name_places : Reply → ℕ → List Part → List Part
name_places accepted k ps = four no_place (map (kept_place k) ps)
name_places (refused r n) k ps = four no_place []
