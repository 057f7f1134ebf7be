-- Trimming (document 01, 'Choices').
use Rattle.std.specs.Prelude.{ℕ, Bool, true, false, ◌||◌, List, [], ◌∷◌, ◌==◌}
use Rattle.swift_utils.specs.Bytes.{between}

-- bytes 9 to 13 and 32
unfoldable pub white : ℕ → Bool
white b = between 9 13 b || b == 32

-- without those at the start
unfoldable pub trimmed_start : List ℕ → List ℕ
trimmed_start [] = []
trimmed_start (b ∷ l) = elim (white b) [ true ↦ trimmed_start l | false ↦ b ∷ l ]

-- a byte in front of a trimmed rest: left out where nothing is left of the rest
unfoldable pub keep : ℕ → List ℕ → List ℕ
keep b [] = elim (white b) [ true ↦ [] | false ↦ b ∷ [] ]
keep b (a ∷ l) = b ∷ a ∷ l

-- without those at the end
unfoldable pub trimmed_end : List ℕ → List ℕ
trimmed_end [] = []
trimmed_end (b ∷ l) = keep b (trimmed_end l)

-- without those at both ends
unfoldable pub trimmed : List ℕ → List ℕ
trimmed l = trimmed_end (trimmed_start l)
