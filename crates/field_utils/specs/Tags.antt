-- The tags of the eleven options (document 01, 'Pages (added)').
use Rattle.std.specs.Prelude.{ℕ, ◌+◌, ◌/◌, ◌%◌, true, false, List, [], ◌∷◌, ◌++◌, ◌==◌}
use Rattle.party.specs.declared.PartyOption.{PartyOption}
use Rattle.party.specs.Limits.{limits_of}
use Rattle.swift_utils.specs.Bytes.{bytes}

-- a tag's capital, which is optional: 0 stands for none
abbrev pub capital : ℕ → List ℕ
capital letter = elim (letter == 0) [ true ↦ [] | false ↦ letter ∷ [] ]

-- an option's tag ('Its tag is `:50` or `:59`, an optional capital, `:`')
unfoldable pub tag_of : PartyOption → List ℕ
tag_of o =
    bytes ":" ++ (48 + (limits_of o).field / 10) ∷ (48 + (limits_of o).field % 10) ∷ capital (limits_of o).letter ++ bytes ":"
