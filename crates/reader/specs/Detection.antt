-- The tests by which a choice detects (document 01, 'Choices'), on the lines of a body.
use Rattle.std.specs.Prelude.{ℕ, Bool, true, false, ◌&&◌, ◌||◌, List, [], ◌∷◌, leb, eqb, length, drop}
use Rattle.swift_utils.specs.Bytes.{between, all, alphanumeric}
use Rattle.swift_utils.specs.Checks.{bic_short, bic_long, bic_length}
use Rattle.field_utils.specs.Lines.{starts}
use Rattle.field_utils.specs.Identifier.{is_numbered}
use Rattle.field_utils.specs.Trim.{trimmed}
use Rattle.reader.specs.declared.choices.Test.{Test}
use Rattle.reader.specs.declared.choices.Test.TheVariants.{Always, LaterNumbered, SlashFirstOfTwo, SlashFirst, AnyNumbered, LastIsBic, BicSized, FirstNumbered}

-- a line is numbered
unfoldable pub any_numbered : List (List ℕ) → Bool
any_numbered [] = false
any_numbered (l ∷ ls) = is_numbered l || any_numbered ls

-- the first line, empty where there is none
unfoldable pub first_line : List (List ℕ) → List ℕ
first_line [] = []
first_line (l ∷ ls) = l

-- the last line, empty where there is none
unfoldable pub last_line : List (List ℕ) → List ℕ
last_line [] = []
last_line (l ∷ []) = l
last_line (l ∷ m ∷ ls) = last_line (m ∷ ls)

-- 8 or 11 letters or digits
unfoldable pub bic_like : List ℕ → Bool
bic_like l = bic_length (length l) && all alphanumeric l

-- the last line, trimmed, is 8 or 11 letters or digits
abbrev pub last_is_bic : List (List ℕ) → Bool
last_is_bic ls = bic_like (trimmed (last_line ls))

-- the first line (the second, where the first has `/`)
unfoldable pub test_line : List (List ℕ) → List ℕ
test_line ls = elim (starts 47 (first_line ls)) [ true ↦ first_line (drop 1 ls) | false ↦ first_line ls ]

-- with 2 lines or more, the first has `/`
abbrev pub slash_first : List (List ℕ) → Bool
slash_first ls = leb 2 (length ls) && starts 47 (first_line ls)

-- what each test asks
abbrev pub holds : Test → List (List ℕ) → Bool
holds Always ls = true
-- of FGH, with 2 lines or more: a line after the first is numbered; the first has `/` and there are 2; the first has `/`
holds LaterNumbered ls = leb 2 (length ls) && any_numbered (drop 1 ls)
holds SlashFirstOfTwo ls = slash_first ls && eqb (length ls) 2
holds SlashFirst ls = slash_first ls
holds AnyNumbered ls = any_numbered ls
holds LastIsBic ls = last_is_bic ls
-- one line of 8 to 11 bytes
holds BicSized ls = eqb (length ls) 1 && between bic_short bic_long (length (first_line ls))
holds FirstNumbered ls = is_numbered (test_line ls)
