-- Wrong programs that the line digits of 50F rule out (document 02, Seven), each by computation.
use Rattle.std.specs.Prelude.{◌≡◌, refl, true, false, List, [], ◌∷◌, ◌++◌, map, ℕ, ◌*◌, eqb, get_or, take, drop, replicate}
use Rattle.std.proofs.Common.{ap, true≢false}
use Rattle.party.specs.declared.PartyOption.{PartyOption}
use Rattle.party.specs.declared.PartyOption.TheVariants.{Field50F, Field50K, Field59F}
use Rattle.party.specs.declared.Party.{Party}
use Rattle.party.specs.Limits.{option_at}
use Rattle.party.specs.Text.{padded, text_of, four}
use Rattle.party.specs.Party.{Content, content, Same}
use Rattle.swift_utils.specs.Bytes.{bytes, letter, digit, alphanumeric, signs, legal}
use Rattle.swift_utils.specs.Checks.{parse_swift_chars, parse_account}
use Rattle.field_utils.specs.Lines.{onto, upto, starts, lines, without_cr}
use Rattle.field_utils.specs.Identifier.{is_numbered, parse_party_identifier}
use Rattle.field_utils.specs.Names.{parse_line, parse_lines, parse_name_and_address}
use Rattle.field_utils.specs.Tags.{tag_of}
use Rattle.reader.specs.Reading.{party_of}
use Rattle.reader.specs.Options.{after_head, read}
use Rattle.writer.specs.Writing.{name_lines, written_lines, joined, written_body, written_field, pieces}
use Rattle.writer.specs.Given.{is_line, are_names, is_given}
use Rattle.writer.specs.Placing.{length_is, refused_with, measure, place}
use Rattle.writer.specs.ReadBack.{ends_cr, last_empty}
use Rattle.page_reader.specs.Pages.{is_end, ends_page}
use Rattle.page_writer.specs.IndexState.{no_index}
use Rattle.page_writer.specs.Adding.{any_line, later_boundary, is_carried, writable, refusal, asked, record_reply, add_reply, add, add_index}
use Rattle.page_writer.specs.Fold.{run}
use Rattle.page_writer.specs.Demand3.{adds}
use Rattle.record_bytes.specs.RecordBytes.{encoded_texts, encoded, stored, text_at, holds_record, party_from, decoded}
use Rattle.yewdome.specs.Interface.{party_measure, party_place, page_add}

-- a record of an option with the identifier X, one name, and any four digits
abbrev numbered : PartyOption → List ℕ → List ℕ → Party
numbered o name digits = record {
  option = o;
  present = true;
  account = text_of (bytes "X");
  bic = text_of [];
  count = 1;
  name_and_address = text_of name ∷ text_of [] ∷ text_of [] ∷ text_of [] ∷ [];
  digits = digits;
}

-- a 50F of one name, A, whose line has a digit
abbrev with : ℕ → Party
with digit = numbered Field50F (bytes "A") (digit ∷ 0 ∷ 0 ∷ 0 ∷ [])

-- and one whose unused digits are no digits
abbrev stale : Party
stale = numbered Field50F (bytes "A") (55 ∷ 58 ∷ 255 ∷ 10 ∷ [])

pub record DigitsRuledOut : Type 0 where
  -- a reader that drops the digits, holds them one name too late or too early, in one order, or as numbers; or that leaves unused ones
  pub held : (read Field50F (bytes "X\n9/A\n0/B\n9/C")).party.digits ≡ bytes "909" ++ 0 ∷ []
  -- one that holds 59F's, which stand in its texts
  pub not_59F : (read Field59F (bytes "1/A\n2/B")).party.digits ≡ replicate 4 0
  -- a writer that numbers 1, 2, 3, 4, shifts the digits by a name, or adds 48 to what is a byte already
  pub written : written_field (content (read Field50F (bytes "X\n9/A\n0/B\n9/C")).party) ≡ bytes ":50F:X\n9/A\n0/B\n9/C"
  pub placed : place (content (with 55)) (replicate 11 0) ≡ record { answer = length_is 10; buffer = bytes ":50F:X\n7/A" ++ 0 ∷ [] }
  -- a test for 22 that takes digits 1 to 4 alone, or in their order
  pub any : map (λ (d : ℕ). is_given (content (with d))) (bytes "0123456789") ≡ replicate 10 true
  -- or a byte that is none: the one before `0`, the one after `9`, a zero, the number 7, an LF, 255
  pub none : map (λ (d : ℕ). is_given (content (with d))) (47 ∷ 58 ∷ 0 ∷ 7 ∷ 10 ∷ 255 ∷ []) ≡ replicate 6 false
  pub refused : place (content (with 58)) (bytes "abcdefghijk") ≡ record { answer = refused_with 22 0; buffer = bytes "abcdefghijk" }
  -- one that tests unused digits, or writes them
  pub unused : measure (content stale) ≡ length_is 10
  -- sameness that leaves the digits out
  pub told_apart : Same (with 55) (with 56) → ⊥
  -- or compares unused ones: those that the count leaves out, and all of another option
  pub same : Same stale (with 55)
  pub same_50K : Same (numbered Field50K (bytes "A") (bytes "1234")) (numbered Field50K (bytes "A") (bytes "5678"))
  pub same_59F : Same (numbered Field59F (bytes "1/A") (bytes "1234")) (numbered Field59F (bytes "1/A") (bytes "5678"))
  -- a page on which two that differ in a digit are one, or that files one over again
  pub filed : (adds no_index (with 55 ∷ with 58 ∷ with 56 ∷ []) (replicate 24 0)).state.buffer ≡ bytes ":50F:X\n7/A\n:50F:X\n8/A\n" ++ 0 ∷ 0 ∷ []
  pub answered : (add (replicate 24 0) 0 no_index (content (with 58))).answer ≡ refusal 22 0
  -- bytes of a record that have the digits elsewhere than last, or not at all
  pub stored_last : drop 237 (stored (read Field50F (bytes "X\n9/A\n0/B\n9/C")).party (replicate 242 9)) ≡ bytes "909" ++ 0 ∷ 9 ∷ []
  pub loaded : decoded (encoded stale) ≡ stale
  -- a record of 240 bytes that is taken for one; one with a used digit 58 that C can measure, place or add
  pub short : party_measure (take 240 (encoded (with 55))) ≡ 42 * 65536
  pub unmeasured : party_measure (encoded (with 58)) ≡ 22 * 65536
  pub unplaced : party_place (encoded (with 58)) (bytes "abcdefghijk") ≡ record { code = 22 * 65536; bytes = bytes "abcdefghijk" }
  pub unadded : (page_add (encoded (with 58)) (replicate 24 0) 0 no_index).code ≡ 22 * 65536

pub digits_ruled_out : DigitsRuledOut
unfolding padded text_of content letter digit alphanumeric signs legal parse_swift_chars parse_account upto onto starts lines is_numbered parse_party_identifier parse_line parse_lines parse_name_and_address four party_of after_head read name_lines written_lines joined written_body written_field pieces is_line are_names is_given measure place ends_cr last_empty without_cr is_end ends_page any_line later_boundary is_carried writable asked record_reply add_reply add add_index run encoded_texts encoded stored option_at text_at holds_record party_from decoded tag_of
digits_ruled_out = record {
  held = refl;
  not_59F = refl;
  written = refl;
  placed = refl;
  any = refl;
  none = refl;
  refused = refl;
  unused = refl;
  told_apart = λ e. true≢false (ap (λ (s : Content). eqb (get_or s.digits 0 0) 55) e);
  same = refl;
  same_50K = refl;
  same_59F = refl;
  filed = refl;
  answered = refl;
  stored_last = refl;
  loaded = refl;
  short = refl;
  unmeasured = refl;
  unplaced = refl;
  unadded = refl;
}
