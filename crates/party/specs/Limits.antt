-- The limits of the eleven options (document 01, field50.rs and field59.rs), in the order of document 01.
use Rattle.std.specs.Prelude.{ℕ, true, false, List, [], ◌∷◌, get_or}
use Rattle.party.specs.declared.PartyOption.{PartyOption}
use Rattle.party.specs.declared.PartyOption.TheVariants.{Field50NoOption, Field50A, Field50F, Field50K, Field50C, Field50L, Field50G, Field50H, Field59NoOption, Field59A, Field59F}
use Rattle.party.specs.declared.Limits.{Limits}
use Rattle.party.specs.declared.Layout.TheVariants.{BicOnly, TextOnly, ByLines}
use Rattle.party.specs.declared.First.TheVariants.{NoAccount, Identified, Account, ShortAccount, SlashAccount, AnyAccount, WholeLine}
use Rattle.party.specs.declared.Numbering.TheVariants.{Unnumbered, Numbered, InTurn}

-- The table ('The limits of the eleven options stand in one constant table'; field50.rs and field59.rs): the field of the tag, its letter
-- (0 for none); the lines counted first, at least and at most (0 where any more will do); what the body is, and its first line; the account's length,
-- or the identifier's after its slashes (50F and 50L: all of it), whether a slash is written before it; how many BICs and names there
-- are; the length of a name's text, and how the lines of names are numbered.
abbrev pub limits_of : PartyOption → Limits
limits_of Field50NoOption = record { field = 50; letter = 0; min_lines = 1; max_lines = 4; layout = ByLines; first = NoAccount; account_min = 0; account_max = 0; slash = false; bic_count = 0; max_names = 4; name_max = 35; numbering = Unnumbered }
limits_of Field50A = record { field = 50; letter = 65; min_lines = 1; max_lines = 0; layout = ByLines; first = Identified; account_min = 0; account_max = 34; slash = true; bic_count = 1; max_names = 0; name_max = 0; numbering = Unnumbered }
limits_of Field50F = record { field = 50; letter = 70; min_lines = 2; max_lines = 0; layout = ByLines; first = WholeLine; account_min = 1; account_max = 35; slash = false; bic_count = 0; max_names = 4; name_max = 33; numbering = Numbered }
limits_of Field50K = record { field = 50; letter = 75; min_lines = 1; max_lines = 0; layout = ByLines; first = Account; account_min = 0; account_max = 34; slash = true; bic_count = 0; max_names = 4; name_max = 35; numbering = Unnumbered }
limits_of Field50C = record { field = 50; letter = 67; min_lines = 0; max_lines = 0; layout = BicOnly; first = NoAccount; account_min = 0; account_max = 0; slash = false; bic_count = 1; max_names = 0; name_max = 0; numbering = Unnumbered }
limits_of Field50L = record { field = 50; letter = 76; min_lines = 0; max_lines = 0; layout = TextOnly; first = WholeLine; account_min = 1; account_max = 35; slash = false; bic_count = 0; max_names = 0; name_max = 0; numbering = Unnumbered }
limits_of Field50G = record { field = 50; letter = 71; min_lines = 2; max_lines = 2; layout = ByLines; first = SlashAccount; account_min = 1; account_max = 34; slash = true; bic_count = 1; max_names = 0; name_max = 0; numbering = Unnumbered }
limits_of Field50H = record { field = 50; letter = 72; min_lines = 2; max_lines = 0; layout = ByLines; first = AnyAccount; account_min = 1; account_max = 34; slash = true; bic_count = 0; max_names = 4; name_max = 35; numbering = Unnumbered }
limits_of Field59NoOption = record { field = 59; letter = 0; min_lines = 1; max_lines = 0; layout = ByLines; first = ShortAccount; account_min = 0; account_max = 34; slash = true; bic_count = 0; max_names = 4; name_max = 35; numbering = Unnumbered }
limits_of Field59A = record { field = 59; letter = 65; min_lines = 1; max_lines = 0; layout = ByLines; first = ShortAccount; account_min = 0; account_max = 34; slash = true; bic_count = 1; max_names = 0; name_max = 0; numbering = Unnumbered }
limits_of Field59F = record { field = 59; letter = 70; min_lines = 1; max_lines = 0; layout = ByLines; first = Identified; account_min = 0; account_max = 34; slash = true; bic_count = 0; max_names = 4; name_max = 33; numbering = InTurn }

-- the eleven options, in the order of the table and of document 01
abbrev pub options : List PartyOption
options =
    Field50NoOption ∷ Field50A ∷ Field50F ∷ Field50K ∷ Field50C ∷ Field50L ∷ Field50G ∷ Field50H ∷ Field59NoOption ∷ Field59A ∷
    Field59F ∷ []

-- an option's place in the table
abbrev pub place_of : PartyOption → ℕ
place_of Field50NoOption = 0
place_of Field50A = 1
place_of Field50F = 2
place_of Field50K = 3
place_of Field50C = 4
place_of Field50L = 5
place_of Field50G = 6
place_of Field50H = 7
place_of Field59NoOption = 8
place_of Field59A = 9
place_of Field59F = 10

-- the option at a place in the table, the first where there is none
unfoldable pub option_at : ℕ → PartyOption
option_at place = get_or options place Field50NoOption
