-- What the answers of the private functions mean: which lines are asked, and what they rule out.
use Rattle.std.specs.Prelude.{ℕ, Bool, true, false, not, ◌&&◌, List, [], length, drop}
use Rattle.party.specs.declared.PartyOption.{PartyOption}
use Rattle.party.specs.declared.PartyOption.TheVariants.{Field50NoOption, Field50A, Field50F, Field50K, Field50C, Field50L, Field50G, Field50H, Field59NoOption, Field59A, Field59F}
use Rattle.party.specs.declared.First.TheVariants.{ShortAccount}
use Rattle.swift_utils.specs.Checks.{bic_length}
use Rattle.reader.specs.Code.{has_account}
use Rattle.reader.specs.declared.choices.Choice.{Choice}
use Rattle.reader.specs.declared.choices.Choice.TheVariants.{Field50InstructingParty, Field50OrderingCustomerFGH, Field50OrderingCustomerAFK, Field50OrderingCustomerNCF, Field50Creditor, Field59, Field59Debtor}
use Rattle.reader.specs.declared.choices.Test.{Test}
use Rattle.reader.specs.Detection.{first_line, test_line, holds}

-- ---- what is asked
-- the text whose lines a choice's tests ask: no line in the choice that has no test
abbrev pub asked_text : Choice → List ℕ → List ℕ
asked_text Field50InstructingParty body = []
asked_text Field50OrderingCustomerFGH body = body
asked_text Field50OrderingCustomerAFK body = body
asked_text Field50OrderingCustomerNCF body = body
asked_text Field50Creditor body = body
asked_text Field59 body = body
asked_text Field59Debtor body = body

-- ---- what is ruled out
-- the line that 59A takes for its BIC: the second where the first is an account
unfoldable pub short_bic_line : List (List ℕ) → List ℕ
short_bic_line ls = elim (has_account ShortAccount Field59A (first_line ls)) [ true ↦ first_line (drop 1 ls) | false ↦ first_line ls ]

-- what an option takes for its BIC is neither 8 nor 11 bytes long: all of the text in 50C, else a line
abbrev pub ruled_out : PartyOption → List ℕ → List (List ℕ) → Bool
ruled_out Field50NoOption text ls = false
ruled_out Field50A text ls = not (bic_length (length (test_line ls)))
ruled_out Field50F text ls = false
ruled_out Field50K text ls = false
ruled_out Field50C text ls = not (bic_length (length text))
ruled_out Field50L text ls = false
ruled_out Field50G text ls = not (bic_length (length (first_line (drop 1 ls))))
ruled_out Field50H text ls = false
ruled_out Field59NoOption text ls = false
ruled_out Field59A text ls = not (bic_length (length (short_bic_line ls)))
ruled_out Field59F text ls = false

-- an option is tried: its test holds, and it is not ruled out
abbrev pub is_open : PartyOption → Test → List ℕ → List (List ℕ) → Bool
is_open o t text ls = not (ruled_out o text ls) && holds t ls
