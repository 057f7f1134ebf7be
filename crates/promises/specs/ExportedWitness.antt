-- Demand 3 through the C interface, and filing a page, used: each theorem at an instance that a weaker one does not reach.
use Rattle.std.specs.Prelude.{◌≡◌, refl, true, List, [], ◌∷◌, ◌++◌, map, ℕ, suc, ◌+◌, ◌*◌, length, take, drop, replicate}
use Rattle.std.proofs.Common.{arith}
use Rattle.party.specs.declared.Party.{Party}
use Rattle.party.specs.Limits.{option_at}
use Rattle.party.specs.Text.{padded, text_of, four}
use Rattle.party.specs.Party.{content, Same}
use Rattle.swift_utils.specs.Bytes.{bytes, letter, digit, alphanumeric, signs, legal}
use Rattle.swift_utils.specs.Checks.{parse_swift_chars, parse_account}
use Rattle.field_utils.specs.Lines.{upto, onto, starts, lines, without_cr}
use Rattle.field_utils.specs.Names.{parse_line, parse_lines, parse_name_and_address}
use Rattle.field_utils.specs.Tags.{tag_of}
use Rattle.record_bytes.specs.RecordBytes.{encoded_texts, encoded, stored, text_at, holds_record, party_from, decoded}
use Rattle.reader.specs.Reading.{party_of}
use Rattle.reader.specs.Options.{account_head, after_head, read}
use Rattle.writer.specs.Writing.{name_lines, written_lines, joined, written_body, written_field, pieces}
use Rattle.writer.specs.Given.{is_line, are_names, is_given}
use Rattle.writer.specs.ReadBack.{ends_cr, last_empty}
use Rattle.page_reader.specs.Pages.{line_at, is_end, ends_page, runs, begins, tag_in, a_refusal, bodiless, read_field, read_case, read_at, body_place}
use Rattle.page_reader.specs.Reads.{reads_from}
use Rattle.page_reader.specs.Index.{entries_in, entries_of, field_at, fields_in, look_up}
use Rattle.page_writer.specs.IndexState.{no_index, noted}
use Rattle.page_writer.specs.Adding.{any_line, later_boundary, is_carried, writable, asked, record_reply, add_reply, add, add_index, close}
use Rattle.page_writer.specs.Fold.{run, accepted_of}
use Rattle.page_writer.specs.WholePage.{OpenPage, closing_of, closed_page, kept, Gives, ReadsAs, MayOverwrite, Overwrites, page_of}
use Rattle.kept.specs.Kept.{has_cr_lf, ends_lf, causes_of}
use Rattle.yewdome.specs.Interface.{Called, page_read, page_look_up, file_numbers}
use Rattle.yewdome.specs.Demand3.{is_position, adds, closing, Reads, answers_of, ExportedPage}
use Rattle.yewdome.specs.FiledRecords.{filed_in}
use Rattle.yewdome.proofs.Demand3.{exported_page}
use Rattle.yewdome.proofs.FiledRecords.{filed_records}
use Rattle.promises.specs.PageWitness.{a, b, uncarried, buffer, empty, page, ended, numbers, new_bytes, fields, damaged}

-- records lent: one, bytes that are too few, bytes of no option, one that is 23, and another with a byte more
abbrev lents : List (List ℕ)
lents = encoded a ∷ replicate 240 0 ∷ (11 ∷ replicate 240 0) ∷ encoded uncarried ∷ (encoded b ++ 9 ∷ []) ∷ []

abbrev left : OpenPage
left = (adds empty lents buffer).state

-- bytes lent to be read into: a byte more than a record
abbrev into : List ℕ
into = replicate 242 9

-- what a call gives is a record's, in bytes that hold it
abbrev Stores : Called → Party → Type 0
Stores c p = (is_position c.code ≡ true) × Same (decoded c.bytes) p

exported : ExportedPage empty lents buffer
unfolding entries_of
exported = exported_page empty (refl, refl) lents buffer

pub record ExportedWitness : Type 0 where
  -- the adds answer as those of the records do, and 42 and 41 of bytes that are none
  pub answers : (adds empty lents buffer).answers ≡ 7 ∷ 42 * 65536 ∷ 41 * 65536 ∷ 23 * 65536 ∷ 14 ∷ []
  -- the open page is the fields of those that gave a position, and no byte after it changes
  pub open_bytes : take 14 left.buffer ≡ page
  pub open_after : drop 14 left.buffer ≡ replicate 26 7
  pub open_17 : read_at page 14 ≡ bodiless (a_refusal 17 0) 14
  -- the second record is stored by its read, and by its lookup, before the page is closed and after; then the end
  pub second : Stores (page_read ended 7 into) b
  pub then_end : page_read ended 14 into ≡ record { code = 65538; bytes = into }
  pub looked : Stores (page_look_up page numbers 2 into) b
  pub looked_closed : Stores (page_look_up ended numbers 2 into) b
  -- two bytes are enough to close in
  pub closes : is_position (closing no_index [] (7 ∷ 7 ∷ [])).code ≡ true

pub exported_witness : ExportedWitness
unfolding option_at padded text_of content letter digit alphanumeric signs legal parse_swift_chars parse_account upto onto starts lines parse_line parse_lines parse_name_and_address four encoded_texts encoded stored text_at holds_record party_from decoded party_of account_head after_head read name_lines written_lines joined written_body written_field pieces is_line are_names is_given ends_cr last_empty without_cr line_at is_end ends_page runs begins tag_in read_field read_case read_at reads_from entries_in entries_of field_at fields_in look_up noted any_line later_boundary is_carried writable asked record_reply add_reply add add_index close run accepted_of tag_of page_of ReadsAs Overwrites Reads answers_of filed_in
exported_witness =
    let r = (exported.reads refl into (omega arith)).1 into (omega arith) in
    record {
      answers = exported.answers;
      open_bytes = exported.listed.opened.bytes;
      open_after = exported.listed.opened.after;
      open_17 = exported.listed.opened.reads.1.1;
      second = r.0;
      then_end = (r.1 into (omega arith)).1;
      looked = exported.open_looks.gives (a ∷ []) b [] refl into (omega arith);
      looked_closed = (exported.looks refl).gives (a ∷ []) b [] refl into (omega arith);
      closes = (exported_page no_index tt [] (7 ∷ 7 ∷ [])).closes (omega arith);
    }

-- ---- damage
pub record ExportedDamage : Type 0 where
  pub first : page_read damaged 0 into ≡ record { code = 15 * 65536 * 4294967296 + 2; bytes = into }
  pub second : Stores (page_read damaged 2 into) b
  pub third : page_read damaged 9 into ≡ record { code = 13 * 65536 * 4294967296 + 14; bytes = into }
  pub fourth : Stores (page_read damaged 23 into) b
  pub then_end : page_read damaged 30 into ≡ record { code = 65538; bytes = into }

pub exported_damage : ExportedDamage
unfolding option_at padded text_of content letter digit alphanumeric signs legal parse_swift_chars parse_account upto onto starts lines parse_line parse_lines parse_name_and_address four encoded_texts encoded stored text_at holds_record party_from decoded party_of account_head after_head read name_lines written_lines joined written_body written_field pieces is_line are_names is_given ends_cr last_empty without_cr line_at is_end ends_page runs begins tag_in read_field read_case read_at reads_from entries_in entries_of field_at fields_in look_up noted any_line later_boundary is_carried writable asked record_reply add_reply add add_index close run accepted_of tag_of page_of ReadsAs Overwrites Reads answers_of filed_in
exported_damage =
    let no_byte : MayOverwrite [] = record { opening = refl; ending = refl } in
    let bytes_200 : MayOverwrite new_bytes = record { opening = refl; ending = refl } in
    let four_lents = encoded a ∷ encoded b ∷ encoded a ∷ encoded b ∷ [] in
    let r1 = (exported_page no_index tt four_lents buffer).overwritten fields (no_byte, (refl, (bytes_200, (refl, tt)))) (omega arith) into (omega arith) in
    let r2 = r1.1 into (omega arith) in
    let r3 = r2.1 into (omega arith) in
    let r4 = r3.1 into (omega arith) in
    record { first = r1.0; second = r2.0; third = r3.0; fourth = r4.0; then_end = (r4.1 into (omega arith)).1 }

-- ---- filing a page of which some is refused
-- a line before the first field, a record, one that no page carries, a tag of none, a record, the end
abbrev came : List ℕ
came = bytes "x\n:50K:A\n:50K:A\n\n\n:51K:A\n:50K:B\r\n-}\n"

pub record FiledWitness : Type 0 where
  -- two answers tell a filing, and the new page is their fields, in their order
  pub filed : closed_page (file_numbers came buffer).state 16 ≡ ended
  pub second : Gives (read_at ended 7) (kept b)
  pub after : drop 16 (closing_of (file_numbers came buffer).state).buffer ≡ replicate 24 7
  pub records_filed : map content (filed_in (reads_from (suc (length came)) came 0) (file_numbers came buffer).answers) ≡ content a ∷ content b ∷ []

pub filed_witness : FiledWitness
unfolding option_at padded text_of content letter digit alphanumeric signs legal parse_swift_chars parse_account upto onto starts lines parse_line parse_lines parse_name_and_address four encoded_texts encoded stored text_at holds_record party_from decoded party_of account_head after_head read name_lines written_lines joined written_body written_field pieces is_line are_names is_given ends_cr last_empty without_cr line_at is_end ends_page runs begins tag_in read_field read_case read_at reads_from entries_in entries_of field_at fields_in look_up noted any_line later_boundary is_carried writable asked record_reply add_reply add add_index close run accepted_of tag_of page_of ReadsAs Overwrites Reads answers_of filed_in body_place has_cr_lf ends_lf causes_of
filed_witness =
    let w = (filed_records came buffer).closed {to = 16} refl in
    record { filed = w.bytes; second = w.reads.1.0; after = w.after; records_filed = refl }
