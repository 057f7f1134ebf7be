-- Worked examples of lines, identifiers and names (document 01, field_utils.rs), each by computation. Body line 1 stands first.
use Rattle.std.specs.Prelude.{◌≡◌, ℕ, List, [], ◌∷◌, ◌++◌, replicate, refl}
use Rattle.errors.specs.Refusals.{Reply, accepted, refused}
use Rattle.party.specs.declared.PartyOption.{PartyOption}
use Rattle.party.specs.declared.PartyOption.TheVariants.{Field50A, Field50F, Field50K, Field59F}
use Rattle.swift_utils.specs.Bytes.{bytes, letter, digit, alphanumeric, signs, legal}
use Rattle.swift_utils.specs.Checks.{parse_swift_chars, parse_account}
use Rattle.field_utils.specs.Lines.{upto, onto, starts, lines}
use Rattle.field_utils.specs.Identifier.{Identifier, absent, given, is_numbered, second_slash, identifier_reply, parse_party_identifier}
use Rattle.field_utils.specs.Names.{parse_line, parse_lines, parse_name_and_address}

pub record LineExamples : Type 0 where
  -- an empty text has no line
  pub none : lines (bytes "") ≡ []
  -- text after the last LF is a line
  pub after : lines (bytes "a\nb") ≡ bytes "a" ∷ bytes "b" ∷ []
  -- an LF at the end opens no other
  pub closed : lines (bytes "a\n") ≡ bytes "a" ∷ []
  -- one CR just before an LF is dropped, and another stays; a line may be empty
  pub crs : lines (bytes "a\r\r\n\nb") ≡ bytes "a\r" ∷ [] ∷ bytes "b" ∷ []
  -- a CR with no LF after it stays
  pub alone : lines (bytes "a\rb\r") ≡ bytes "a\rb\r" ∷ []

pub line_examples : LineExamples
unfolding onto starts lines
line_examples = record { none = refl; after = refl; closed = refl; crs = refl; alone = refl }

-- what line 1 of 50A says of an identifier
abbrev of50_a : List ℕ → Identifier
of50_a = parse_party_identifier Field50A 1

pub record IdentifierExamples : Type 0 where
  -- no slash, no identifier
  pub none : of50_a (bytes "ABC") ≡ absent
  -- one slash alone: given, and empty
  pub empty : of50_a (bytes "/") ≡ given [] accepted
  -- two slashes need a byte after them
  pub slashes : of50_a (bytes "//") ≡ given (bytes "/") (refused 2 1)
  pub clearing : of50_a (bytes "//AB") ≡ given (bytes "/AB") accepted
  -- a code of 1 or 2 bytes, and an id that may be empty
  pub code : of50_a (bytes "/C/") ≡ given (bytes "C/") accepted
  pub long : of50_a (bytes "/ABC/1") ≡ given (bytes "ABC/1") (refused 2 1)
  -- an illegal byte
  pub illegal : of50_a (bytes "/A~") ≡ given (bytes "A~") (refused 3 1)
  -- 34 bytes, and 35
  pub most : of50_a (47 ∷ replicate 34 65) ≡ given (replicate 34 65) accepted
  pub more : of50_a (47 ∷ replicate 35 65) ≡ given (replicate 35 65) (refused 2 1)

pub identifier_examples : IdentifierExamples
unfolding letter digit alphanumeric signs legal parse_swift_chars parse_account upto second_slash identifier_reply parse_party_identifier
identifier_examples = record { none = refl; empty = refl; slashes = refl; clearing = refl; code = refl; long = refl; illegal = refl; most = refl; more = refl }

-- what a text's lines say of an option's names
abbrev names : PartyOption → List ℕ → Reply
names o s = parse_name_and_address o 1 (lines s)

pub record NameExamples : Type 0 where
  -- four names; five, and none
  pub four : names Field50K (bytes "A\nB\nC\nD") ≡ accepted
  pub five : names Field50K (bytes "A\nB\nC\nD\nE") ≡ refused 7 0
  pub none : names Field50K [] ≡ refused 7 0
  -- 36 bytes, though one is illegal
  pub long : names Field50K (bytes "A\n~" ++ replicate 35 65) ≡ refused 4 2
  -- the lines are tested before they are counted
  pub illegal : names Field50K (bytes "A\nB\nC\nD\n~") ≡ refused 3 5
  -- 59F counts from 1, 50F takes any digit
  pub turn : names Field59F (bytes "2/A") ≡ refused 6 1
  pub any : names Field50F (bytes "7/A") ≡ accepted

pub name_examples : NameExamples
unfolding letter digit alphanumeric signs legal parse_swift_chars onto starts lines is_numbered parse_line parse_lines parse_name_and_address
name_examples = record { four = refl; five = refl; none = refl; long = refl; illegal = refl; turn = refl; any = refl }
