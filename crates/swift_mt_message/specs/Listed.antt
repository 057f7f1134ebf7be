-- The transcription answers as the Rust did: the 5,836 of the 6,000 cases of crates/replay/stdin whose body is ASCII and at most 2,048
-- bytes. The modules below are these cases, by reader; tests/rust/listed makes them. proofs/Listed.antt has the proof.
use Rattle.std.specs.Prelude.{ℕ, ◌+◌, ◌≡◌, List, [], ◌∷◌, map, length}
use Rattle.party.specs.declared.PartyOption.TheVariants.{Field50NoOption, Field50A, Field50F, Field50K, Field50C, Field50L, Field50G, Field50H, Field59NoOption, Field59A, Field59F}
use Rattle.swift_mt_message.specs.Cases.{Case, Reader, option, InstructingParty, FGH, AFK, NCF, Creditor, Field59, Debtor, answered}
pub mod Cases50
pub mod Cases50A
pub mod Cases50F
pub mod Cases50K
pub mod Cases50C
pub mod Cases50L
pub mod Cases50G
pub mod Cases50H
pub mod Cases59
pub mod Cases59A
pub mod Cases59F
pub mod CasesInstructingParty
pub mod CasesFGH
pub mod CasesAFK
pub mod CasesNCF
pub mod CasesCreditor
pub mod CasesField59
pub mod CasesDebtor

-- the cases of a reader
abbrev pub cases_of : Reader → List Case
cases_of (option Field50NoOption) = Cases50.cases
cases_of (option Field50A) = Cases50A.cases
cases_of (option Field50F) = Cases50F.cases
cases_of (option Field50K) = Cases50K.cases
cases_of (option Field50C) = Cases50C.cases
cases_of (option Field50L) = Cases50L.cases
cases_of (option Field50G) = Cases50G.cases
cases_of (option Field50H) = Cases50H.cases
cases_of (option Field59NoOption) = Cases59.cases
cases_of (option Field59A) = Cases59A.cases
cases_of (option Field59F) = Cases59F.cases
cases_of InstructingParty = CasesInstructingParty.cases
cases_of FGH = CasesFGH.cases
cases_of AFK = CasesAFK.cases
cases_of NCF = CasesNCF.cases
cases_of Creditor = CasesCreditor.cases
cases_of Field59 = CasesField59.cases
cases_of Debtor = CasesDebtor.cases

-- the readers, and the count of their cases
abbrev pub readers : List Reader
readers =
    option Field50NoOption ∷ option Field50A ∷ option Field50F ∷ option Field50K ∷ option Field50C ∷ option Field50L ∷ option Field50G ∷ option Field50H
    ∷ option Field59NoOption ∷ option Field59A ∷ option Field59F ∷ InstructingParty ∷ FGH ∷ AFK ∷ NCF ∷ Creditor ∷ Field59 ∷ Debtor ∷ []

abbrev pub count : List Reader → ℕ
count [] = 0
count (r ∷ rs) = length (cases_of r) + count rs

-- the answers to a reader's cases are those listed: each value by its parts and its written text, each refusal by its number and line
abbrev pub Listed : Reader → Type 0
Listed r = map (answered r) (cases_of r) ≡ map (λ (c : Case). c.answer) (cases_of r)
