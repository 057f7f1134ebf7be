-- Lines (document 01, field_utils.rs).
use Rattle.std.specs.Prelude.{ℕ, suc, Bool, true, false, ◌&&◌, List, [], ◌∷◌, ◌==◌}

-- how many bytes stand before the first b, or how many there are
unfoldable pub upto : ℕ → List ℕ → ℕ
upto b [] = 0
upto b (a ∷ l) = elim (a == b) [ true ↦ 0 | false ↦ suc (upto b l) ]

-- a byte in front of the first line, or a line of its own where there is none
unfoldable pub onto : ℕ → List (List ℕ) → List (List ℕ)
onto b [] = (b ∷ []) ∷ []
onto b (l ∷ ls) = (b ∷ l) ∷ ls

-- a list starts with a byte
unfoldable pub starts : ℕ → List ℕ → Bool
starts b [] = false
starts b (a ∷ l) = a == b

-- a line is empty
abbrev pub is_empty : List ℕ → Bool
is_empty [] = true
is_empty (b ∷ l) = false

-- The lines of Rust's `lines`: each ends at LF, with one CR just before that LF dropped; text after the last LF is a line if not
-- empty. Other CRs stay.
unfoldable pub lines : List ℕ → List (List ℕ)
lines [] = []
lines (b ∷ l) =
    elim (b == 10) [
      | true ↦ [] ∷ lines l
      | false ↦ elim (b == 13 && starts 10 l) [ true ↦ lines l | false ↦ onto b (lines l) ]
    ]

-- what is left of a line where one CR just before its LF is dropped
unfoldable pub without_cr : List ℕ → List ℕ
without_cr [] = []
without_cr (b ∷ []) = elim (b == 13) [ true ↦ [] | false ↦ b ∷ [] ]
without_cr (b ∷ a ∷ l) = b ∷ without_cr (a ∷ l)
