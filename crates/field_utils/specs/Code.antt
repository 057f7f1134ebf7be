-- Working forms of the private functions' contracts.
use Rattle.std.specs.Prelude.{ℕ, List, [], length, drop, nat_le}
use Rattle.errors.specs.Refusals.{Reply, accepted, refused, must, ◌then◌}
use Rattle.party.specs.declared.Text.{Text}
use Rattle.party.specs.Text.{four, four_texts}
use Rattle.party.specs.declared.Numbering.{Numbering}
use Rattle.field_utils.specs.Names.{skip_of, parse_number, NamesRead}

-- a line of names before its bytes: its number, then the length of its text
abbrev pub parse_shape : Numbering → ℕ → ℕ → ℕ → List ℕ → Reply
parse_shape f longest n k l = parse_number f n k l then must (nat_le (length (drop (skip_of f) l)) longest) 4 n

-- a count, texts and digits, or none where the names are refused
abbrev pub given_names : Reply → ℕ → List Text → List ℕ → NamesRead
given_names accepted count texts digits = record { reply = accepted; count = count; texts = texts; digits = digits }
given_names (refused k n) count texts digits = record { reply = refused k n; count = 0; texts = four_texts []; digits = four 0 [] }
