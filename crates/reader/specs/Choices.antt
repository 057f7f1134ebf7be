-- The seven choices among options (document 01, 'Choices'): by a letter, or detected.
use Rattle.std.specs.Prelude.{ℕ, Bool, true, false, ◌||◌, List, [], ◌∷◌, ◌++◌, eqb}
use Rattle.errors.specs.Refusals.{Reply, accepted, refused, must}
use Rattle.party.specs.declared.PartyOption.{PartyOption}
use Rattle.party.specs.declared.PartyOption.TheVariants.{Field50NoOption, Field50A, Field50F, Field50K, Field50C, Field50L, Field50G, Field50H, Field59NoOption, Field59A, Field59F}
use Rattle.party.specs.Limits.{limits_of}
use Rattle.party.specs.Party.{blank}
use Rattle.swift_utils.specs.Bytes.{between}
use Rattle.field_utils.specs.Lines.{lines}
use Rattle.field_utils.specs.Trim.{trimmed}
use Rattle.reader.specs.Reading.{Reading}
use Rattle.reader.specs.Options.{body_reply, read}
use Rattle.reader.specs.declared.choices.Choice.{Choice}
use Rattle.reader.specs.declared.choices.Choice.TheVariants.{Field50InstructingParty, Field50OrderingCustomerFGH, Field50OrderingCustomerAFK, Field50OrderingCustomerNCF, Field50Creditor, Field59, Field59Debtor}
use Rattle.reader.specs.declared.choices.Test.{Test}
use Rattle.reader.specs.declared.choices.Test.TheVariants.{Always, LaterNumbered, SlashFirstOfTwo, SlashFirst, AnyNumbered, LastIsBic, BicSized, FirstNumbered}
use Rattle.reader.specs.declared.choices.Trial.{Trial}
use Rattle.reader.specs.Detection.{holds}

-- an option with its test
abbrev pub try : PartyOption → Test → Trial
try o t = record { 0 = o; 1 = t }

-- a choice's options in the order in which they are tried, each with its test
abbrev pub trials_of : Choice → List Trial
-- trim bytes 9 to 13 and 32 at both ends (`tried_text`), then C, L
trials_of Field50InstructingParty = try Field50C Always ∷ try Field50L Always ∷ []
-- with 2 lines or more: F if a line after the first is numbered; G if the first has `/` and there are 2; H if the first has `/`
trials_of Field50OrderingCustomerFGH = try Field50F LaterNumbered ∷ try Field50G SlashFirstOfTwo ∷ try Field50H SlashFirst ∷ []
-- F if any line is numbered; A if the last line, trimmed, is 8 or 11 letters or digits; K
trials_of Field50OrderingCustomerAFK = try Field50F AnyNumbered ∷ try Field50A LastIsBic ∷ try Field50K Always ∷ []
-- C if one line of 8 to 11 bytes; F if any is numbered; 50
trials_of Field50OrderingCustomerNCF = try Field50C BicSized ∷ try Field50F AnyNumbered ∷ try Field50NoOption Always ∷ []
-- A tested as in AFK; K
trials_of Field50Creditor = try Field50A LastIsBic ∷ try Field50K Always ∷ []
-- A; F if the first line (the second, where the first has `/`) is numbered; 59
trials_of Field59 = try Field59A Always ∷ try Field59F FirstNumbered ∷ try Field59NoOption Always ∷ []
-- A; 59
trials_of Field59Debtor = try Field59A Always ∷ try Field59NoOption Always ∷ []

-- what is tried: the body, trimmed in `Field50InstructingParty`
abbrev pub tried_text : Choice → List ℕ → List ℕ
tried_text Field50InstructingParty body = trimmed body
tried_text Field50OrderingCustomerFGH body = body
tried_text Field50OrderingCustomerAFK body = body
tried_text Field50OrderingCustomerNCF body = body
tried_text Field50Creditor body = body
tried_text Field59 body = body
tried_text Field59Debtor body = body

-- an option, where its test holds
abbrev pub when : Bool → PartyOption → List PartyOption
when true o = o ∷ []
when false o = []

-- the options whose test holds of a body's lines
abbrev pub wanted : List (List ℕ) → List Trial → List PartyOption
wanted ls [] = []
wanted ls (t ∷ ts) = when (holds t.1 ls) t.0 ++ wanted ls ts

-- a refusal, with the blank record beside it
abbrev pub refusing : ℕ → ℕ → Reading
refusing k n = record { reply = refused k n; party = blank }

-- a reading, or another where it is refused
abbrev pub or_else : Reading → Reading → Reading
or_else r s = elim r.reply [ accepted ↦ r | refused k n ↦ s ]

-- the first option that accepts wins; 11 where none does
unfoldable pub first_that : List PartyOption → List ℕ → Reading
first_that [] body = refusing 11 0
first_that (o ∷ os) body = or_else (read o body) (first_that os body)

-- a reading after a check
abbrev pub after_check : Reply → Reading → Reading
after_check accepted r = r
after_check (refused k n) r = refusing k n

-- `parse` detects: 12 and 13 of the body as it came, then the options whose test holds
unfoldable pub parse : Choice → List ℕ → Reading
parse choice body = after_check (body_reply body) (first_that (wanted (lines body) (trials_of choice)) (tried_text choice body))

-- A to Z, or 0, which stands for none
abbrev pub is_letter : ℕ → Bool
is_letter letter = eqb letter 0 || between 65 90 letter

-- 14: a letter that is neither
abbrev pub letter_reply : ℕ → Reply
letter_reply letter = must (is_letter letter) 14 0

-- the options among trials
abbrev pub options_in : List Trial → List PartyOption
options_in [] = []
options_in (t ∷ ts) = t.0 ∷ options_in ts

-- a choice's options
abbrev pub options_of : Choice → List PartyOption
options_of choice = options_in (trials_of choice)

-- a letter an option has picks that option, as no letter picks the option without one; another letter detects
unfoldable pub pick_of : ℕ → List PartyOption → List ℕ → Reading → Reading
pick_of letter [] body detects = detects
pick_of letter (o ∷ os) body detects = elim (eqb letter (limits_of o).letter) [ true ↦ read o body | false ↦ pick_of letter os body detects ]

-- by a letter: 14 first
unfoldable pub parse_with_variant : Choice → List ℕ → ℕ → Reading
parse_with_variant choice body letter = after_check (letter_reply letter) (pick_of letter (options_of choice) body (parse choice body))

-- whether a letter picks one of some options
unfoldable pub is_picked : ℕ → List PartyOption → Bool
is_picked letter [] = false
is_picked letter (o ∷ os) = eqb letter (limits_of o).letter || is_picked letter os

-- what is read of a body by a letter: all of it where the letter picks an option, else what is tried
abbrev pub read_text : Choice → List ℕ → ℕ → List ℕ
read_text choice body letter = elim (is_picked letter (options_of choice)) [ true ↦ body | false ↦ tried_text choice body ]
