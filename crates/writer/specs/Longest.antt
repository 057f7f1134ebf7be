-- The longest written field (document 02, Six). The theorem, `longest_field` in proofs/Longest.antt, is `IsLongest field_most`.
use Rattle.std.specs.Prelude.{ℕ, ◌+◌, ◌≤◌, ◌≡◌, true, List, [], ◌∷◌, ◌++◌, map, length, replicate}
use Rattle.errors.specs.Refusals.{accepted}
use Rattle.party.specs.declared.PartyOption.TheVariants.{Field59F}
use Rattle.party.specs.declared.Party.{Party}
use Rattle.party.specs.Party.{content}
use Rattle.swift_utils.specs.Bytes.{bytes}
use Rattle.reader.specs.Reading.{party_of}
use Rattle.writer.specs.Writing.{written_field}
use Rattle.writer.specs.Given.{Given}

-- a 59F with an identifier, each text as long as it may be: a code of 2 and an id of 34, and four names of 33
abbrev pub longest : Party
longest =
    let names : List (List ℕ) = map (λ (k : ℕ). (48 + k) ∷ bytes "/" ++ replicate 33 65) (1 ∷ 2 ∷ 3 ∷ 4 ∷ []) in
    party_of Field59F (record { reply = accepted; present = true; account = bytes "AA/" ++ replicate 34 65; bic = []; names = names; digits = [] })

-- the longest written field has n bytes: that of a record which is shown has, and that of no record which a reader can give has more
pub record IsLongest (n : ℕ) : Type 0 where
  pub shown : Party
  pub given : Given shown
  pub reached : length (written_field (content shown)) ≡ n
  pub most : (p : Party) → Given p → length (written_field (content p)) ≤ n
