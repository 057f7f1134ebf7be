-- Working forms of the private functions' contracts.
use Rattle.std.specs.Prelude.{ℕ, Bool, List, ◌∷◌, set}
use Rattle.party.specs.declared.PartyOption.{PartyOption}
use Rattle.party.specs.declared.Part.{Part}
use Rattle.party.specs.declared.Parts.{Parts}
use Rattle.party.specs.Limits.{place_of}
use Rattle.record_bytes.specs.RecordBytes.{byte_of, bit}

-- a buffer with the three bytes before the texts
abbrev pub head_put : PartyOption → Bool → ℕ → List ℕ → List ℕ
head_put option present count buffer = set (set (set buffer 0 (place_of option)) 1 (bit present)) 2 (byte_of count)

-- the six parts, in the order of the texts
abbrev pub parts_of : Parts → List Part
parts_of q = q.account ∷ q.bic ∷ q.name_and_address
