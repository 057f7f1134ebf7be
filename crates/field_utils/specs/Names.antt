-- Names (document 01, field50.rs, 'Checks in this order', and field59.rs). n is a body line, k its place among the names from 1.
use Rattle.std.specs.Prelude.{ℕ, suc, ◌+◌, List, [], ◌∷◌, map, length, drop, ◌==◌, nat_le, slice_index, Result, Ok, Err}
use Rattle.errors.specs.declared.ParseError.{ParseError}
use Rattle.errors.specs.Refusals.{Reply, accepted, refused, told_error, must, ◌then◌}
use Rattle.party.specs.declared.PartyOption.{PartyOption}
use Rattle.party.specs.declared.Text.{Text}
use Rattle.party.specs.Limits.{limits_of}
use Rattle.party.specs.Text.{texts_in, four, four_texts}
use Rattle.party.specs.declared.Numbering.{Numbering}
use Rattle.party.specs.declared.Numbering.TheVariants.{Unnumbered, Numbered, InTurn}
use Rattle.swift_utils.specs.Bytes.{between}
use Rattle.swift_utils.specs.Checks.{parse_swift_chars}
use Rattle.field_utils.specs.declared.Names.{Names}
use Rattle.field_utils.specs.Identifier.{is_numbered}

-- how many bytes stand before the text of a line: a numbered one has its digit and slash
abbrev pub skip_of : Numbering → ℕ
skip_of Unnumbered = 0
skip_of Numbered = 2
skip_of InTurn = 2

-- 50F: each line is numbered, else 5; 59F: 1, 2, 3 .. in order, else 6
abbrev pub parse_number : Numbering → ℕ → ℕ → List ℕ → Reply
parse_number Unnumbered n k l = accepted
parse_number Numbered n k l = must (is_numbered l) 5 n
parse_number InTurn n k l = must (is_numbered l) 5 n then must (slice_index l 0 == 48 + k) 6 n

-- a line of names: its number, the length of its text (4), then its bytes
unfoldable pub parse_line : Numbering → ℕ → ℕ → ℕ → List ℕ → Reply
parse_line f longest n k l =
    parse_number f n k l
    then must (nat_le (length (drop (skip_of f) l)) longest) 4 n
    then parse_swift_chars n (drop (skip_of f) l)

-- the lines of names, tested in order
unfoldable pub parse_lines : Numbering → ℕ → ℕ → ℕ → List (List ℕ) → Reply
parse_lines f longest n k [] = accepted
parse_lines f longest n k (l ∷ ls) = parse_line f longest n k l then parse_lines f longest (suc n) (suc k) ls

-- 7: names, counted last, are none or over 4
abbrev pub parse_count : ℕ → ℕ → Reply
parse_count most count = must (between 1 most count) 7 0

-- names: the lines from body line n on, tested in order and counted last
unfoldable pub parse_name_and_address : PartyOption → ℕ → List (List ℕ) → Reply
parse_name_and_address o n ls = parse_lines (limits_of o).numbering (limits_of o).name_max n 1 ls then parse_count (limits_of o).max_names (length ls)

-- how many of a line's first bytes are not kept in its text: 50F's digit and slash are not, 59F's are
abbrev pub dropped_prefix : Numbering → ℕ
dropped_prefix Unnumbered = 0
dropped_prefix Numbered = 2
dropped_prefix InTurn = 0

-- what is kept of a line of names
abbrev pub kept : Numbering → List ℕ → List ℕ
kept f l = drop (dropped_prefix f) l

-- the digit that is held beside what is kept of a line: 50F's, as it came (document 02, Seven); 0 where there is none
abbrev pub digit_of : Numbering → List ℕ → ℕ
digit_of Unnumbered l = 0
digit_of Numbered l = slice_index l 0
digit_of InTurn l = 0

-- what the names give: the reply, how many there are, and the first four with their digits by value; none where they are refused
pub record NamesRead : Type 0 where
  pub reply : Reply
  pub count : ℕ
  pub texts : List Text
  pub digits : List ℕ

abbrev pub names_or : Reply → List (List ℕ) → List ℕ → NamesRead
names_or accepted ns ds = record { reply = accepted; count = length ns; texts = four_texts ns; digits = four 0 ds }
names_or (refused k n) ns ds = record { reply = refused k n; count = 0; texts = four_texts []; digits = four 0 [] }

-- names from body line n on, as they are kept, with their digits
unfoldable pub read_names : PartyOption → ℕ → List (List ℕ) → NamesRead
read_names o n ls = names_or (parse_name_and_address o n ls) (map (kept (limits_of o).numbering) ls) (map (digit_of (limits_of o).numbering) ls)

-- the names that the code gives as parts of a body, in document 01's terms
abbrev pub told_names : List ℕ → Result Names ParseError → NamesRead
told_names body (Ok w) = record { reply = accepted; count = w.count; texts = texts_in body w.parts; digits = w.digits }
told_names body (Err e) = names_or (told_error e) [] []
