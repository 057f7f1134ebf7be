-- What is removed of the Rust's text of 59F with an identifier (document 02, Six), what 50F's digits are set to before its text is compared
-- (document 02, Seven), and the choices that have 50F, by computation.
use Rattle.std.specs.Prelude.{◌≡◌, refl, true, false, [], ◌∷◌, map}
use Rattle.party.specs.declared.PartyOption.TheVariants.{Field50F, Field59F}
use Rattle.party.specs.declared.Party.{Party}
use Rattle.party.specs.Text.{padded, text_of, four}
use Rattle.party.specs.Party.{content}
use Rattle.swift_utils.specs.Bytes.{bytes, letter, digit, alphanumeric, legal}
use Rattle.swift_utils.specs.Checks.{parse_swift_chars, parse_account}
use Rattle.field_utils.specs.Lines.{onto, lines}
use Rattle.field_utils.specs.Identifier.{is_numbered}
use Rattle.field_utils.specs.Names.{parse_line, parse_lines, parse_name_and_address}
use Rattle.field_utils.specs.Tags.{tag_of}
use Rattle.reader.specs.Reading.{party_of}
use Rattle.reader.specs.Options.{after_head, read}
use Rattle.reader.specs.declared.choices.Choice.TheVariants.{Field50InstructingParty, Field50OrderingCustomerFGH, Field50OrderingCustomerAFK, Field50OrderingCustomerNCF, Field50Creditor, Field59, Field59Debtor}
use Rattle.writer.specs.Writing.{name_lines, written_lines, joined, written_body, written_field}
use Rattle.swift_mt_message.specs.Std.{Ok, ◌and_then◌}
use Rattle.swift_mt_message.specs.Std as std
use Rattle.swift_mt_message.specs.SwiftUtils as swift
use Rattle.swift_mt_message.specs.Field50 as rust50
use Rattle.swift_mt_message.specs.Field59.{written, Field59F·to_swift_string}
use Rattle.swift_mt_message.specs.Structs.{parse, to_swift_string}
use Rattle.swift_mt_message.specs.Equal.{renumbered, has50_f}
use Rattle.swift_mt_message.specs.Writing.{struct_of, less_lf, less_empty}

-- the record that 50F reads of a body with the digit 7 twice
abbrev sevens : Party
sevens = (read Field50F (bytes "X\n7/A\n7/B")).party

pub record WritingExamples : Type 0 where
  -- the smallest record of the form: the Rust's text, and that text without the LF
  pub smallest : to_swift_string Field59F (struct_of Field59F true [] [] (bytes "1/" ∷ [])) ≡ bytes ":59F:/\n\n1/"
  pub removed : less_empty (bytes ":59F:/\n\n1/") ≡ bytes ":59F:/\n1/"
  -- one LF alone is removed; no other byte; and no LF after a later line
  pub one : less_empty (bytes "A\n\n\nB") ≡ bytes "A\n\nB"
  pub other : less_empty (bytes "A\nB") ≡ bytes "A\nB"
  pub later : less_empty (bytes "A\nB\n\nC") ≡ bytes "A\nB\n\nC"
  -- the digits as they came, and as they are set: the used ones, and the others are left zero
  pub came : sevens.digits ≡ 55 ∷ 55 ∷ 0 ∷ 0 ∷ []
  pub set : (renumbered sevens).digits ≡ 49 ∷ 50 ∷ 0 ∷ 0 ∷ []
  -- ours writes them as they came; set, they are written as the Rust writes what it reads of that body
  pub kept : written_field (content sevens) ≡ bytes ":50F:X\n7/A\n7/B"
  pub after : written_field (content (renumbered sevens)) ≡ bytes ":50F:X\n1/A\n2/B"
  pub rust : (parse Field50F (bytes "X\n7/A\n7/B") and_then λ v. Ok (to_swift_string Field50F v)) ≡ Ok (bytes ":50F:X\n1/A\n2/B")
  -- FGH, AFK and NCF have 50F, and the others have not
  pub having : map has50_f (Field50OrderingCustomerFGH ∷ Field50OrderingCustomerAFK ∷ Field50OrderingCustomerNCF ∷ []) ≡ true ∷ true ∷ true ∷ []
  pub others : map has50_f (Field50InstructingParty ∷ Field50Creditor ∷ Field59 ∷ Field59Debtor ∷ []) ≡ false ∷ false ∷ false ∷ false ∷ []

pub writing_examples : WritingExamples
unfolding written Field59F·to_swift_string less_lf less_empty padded text_of content letter digit alphanumeric legal parse_swift_chars parse_account onto lines is_numbered parse_line parse_lines parse_name_and_address four party_of after_head read name_lines written_lines joined written_body written_field tag_of std.for_from std.in_front std.split_inclusive std.strip_suffix std.line_of std.let_lines std.is_alphabetic std.is_digit std.is_alphanumeric std.digits swift.rust_parse_swift_chars rust50.Field50F·line rust50.Field50F·parse rust50.Field50F·numbered rust50.Field50F·to_swift_string
writing_examples = record {
  smallest = refl;
  removed = refl;
  one = refl;
  other = refl;
  later = refl;
  came = refl;
  set = refl;
  kept = refl;
  after = refl;
  rust = refl;
  having = refl;
  others = refl;
}
