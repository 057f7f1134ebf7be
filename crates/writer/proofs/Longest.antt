-- The longest written field has 187 bytes. Assumes nothing.
use mathlib.Core.Path.{refl}
use Rattle.party.specs.Text.{padded, text_of, four}
use Rattle.party.specs.Party.{content}
use Rattle.swift_utils.specs.Bytes.{letter, digit, alphanumeric, signs, legal}
use Rattle.swift_utils.specs.Checks.{parse_swift_chars, parse_account}
use Rattle.field_utils.specs.Lines.{upto, starts}
use Rattle.field_utils.specs.Identifier.{is_numbered, second_slash, identifier_reply}
use Rattle.field_utils.specs.Names.{parse_line, parse_lines, parse_name_and_address}
use Rattle.field_utils.specs.Tags.{tag_of}
use Rattle.reader.specs.Reading.{party_of}
use Rattle.writer.specs.Writing.{name_lines, written_lines, joined, written_body, written_field, field_most}
use Rattle.writer.specs.Given.{is_line, are_names, is_given}
use Rattle.writer.specs.Longest.{longest, IsLongest}
use Rattle.writer.proofs.Theorems.{given_exact, written_most}

pub longest_field : IsLongest field_most
unfolding padded text_of content letter digit alphanumeric signs legal parse_swift_chars parse_account upto starts is_numbered second_slash identifier_reply parse_line parse_lines parse_name_and_address four party_of name_lines written_lines joined written_body written_field is_line are_names is_given tag_of
longest_field = record { shown = longest; given = (given_exact longest).yes refl; reached = refl; most = written_most }
