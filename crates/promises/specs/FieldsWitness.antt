-- Where the fields of a page stand, and which a page carries, used: each theorem at an instance that a weaker one does not reach, down to
-- single reads.
use Rattle.std.specs.Prelude.{◌≡◌, refl, true, List, [], ◌∷◌, ◌++◌, ℕ, ◌+◌, length, take, drop, replicate}
use Rattle.std.proofs.Common.{arith}
use Rattle.party.specs.declared.PartyOption.TheVariants.{Field50K}
use Rattle.party.specs.declared.Party.{Party}
use Rattle.party.specs.Text.{padded, text_of, four}
use Rattle.party.specs.Party.{content}
use Rattle.swift_utils.specs.Bytes.{bytes, letter, digit, alphanumeric, signs, legal}
use Rattle.swift_utils.specs.Checks.{parse_swift_chars, parse_account}
use Rattle.field_utils.specs.Lines.{upto, onto, starts, lines, without_cr}
use Rattle.field_utils.specs.Names.{parse_line, parse_lines, parse_name_and_address}
use Rattle.field_utils.specs.Tags.{tag_of}
use Rattle.reader.specs.Reading.{party_of}
use Rattle.reader.specs.Options.{account_head, after_head, read}
use Rattle.writer.specs.Writing.{name_lines, written_lines, joined, written_body, written_field, pieces}
use Rattle.writer.specs.Given.{is_line, are_names, is_given}
use Rattle.writer.specs.ReadBack.{ends_cr, last_empty}
use Rattle.writer.proofs.Relined.{All}
use Rattle.writer.proofs.Theorems.{given_exact}
use Rattle.page_reader.specs.Pages.{line_at, is_end, ends_page, runs, begins, tag_in, ReadOutcome, a_record, the_end, a_refusal, PageRead, bodiless, read_field, read_case, read_at}
use Rattle.page_reader.specs.Reads.{Read}
use Rattle.page_reader.specs.Index.{entries_in, entries_of, no_field, a_field, field_at, found, look_up}
use Rattle.page_writer.specs.IndexState.{noted}
use Rattle.page_writer.specs.Adding.{any_line, later_boundary, is_carried, writable, asked, record_reply, add_reply, add, add_index}
use Rattle.page_writer.specs.Fold.{run, accepted_of}
use Rattle.page_writer.specs.WholePage.{Field, kept, new, page_of, Gives, ReadsAs}
use Rattle.page_writer.specs.Demand3.{adds}
use Rattle.page_writer.proofs.Structure.{Sound, Structure, nothing, ending, whole, structure}
use Rattle.page_writer.proofs.Alone.{alone_exact}
use Rattle.page_writer.proofs.Theorems.{open_page_lem}
use Rattle.promises.specs.Starred.{gives}
use Rattle.promises.specs.Filing.{of}
use Rattle.promises.specs.Delivered.{end_lines}
use Rattle.promises.specs.PageWitness.{a, b, uncarried, buffer, empty, page, numbers}

-- the definitions compute where this is unfolded
computes : Unit {0}
unfolding padded text_of content letter digit alphanumeric signs legal parse_swift_chars parse_account upto onto starts lines without_cr parse_line parse_lines parse_name_and_address four party_of account_head after_head read name_lines written_lines joined written_body written_field pieces is_line are_names is_given ends_cr last_empty line_at is_end ends_page runs begins tag_in read_field read_case read_at any_line later_boundary is_carried tag_of page_of ReadsAs entries_in entries_of look_up noted writable asked record_reply add_reply add add_index run accepted_of
computes = tt

-- ---- alone on a page
-- a 50K with an account and two names, and one whose second line would open a field
abbrev carried : Party
carried = (gives Field50K true (bytes "12") [] (bytes "ACME" ∷ bytes "-BERLIN" ∷ [])).party

abbrev colon : Party
colon = of (bytes "A" ∷ bytes ":B" ∷ [])

abbrev alone : List ℕ
alone = bytes ":50K:/12\nACME\n-BERLIN\n-\n"

pub record AloneWitness : Type 0 where
  -- what a page carries reads back as its record, and then the end
  pub reads : Gives (read_at alone 0) (kept carried)
  pub then_end : read_at alone 22 ≡ bodiless the_end 24
  -- what it does not carry reads as another record, or its end does not follow
  pub another : Gives (read_at (bytes ":50K:A\n\n-\n") 0) (kept uncarried) → ⊥
  pub no_end : Gives (read_at (bytes ":50K:A\n:B\n-\n") 0) (kept colon) → read_at (bytes ":50K:A\n:B\n-\n") 7 ≡ bodiless the_end 12 → ⊥

pub alone_witness : AloneWitness
unfolding computes
alone_witness =
    let w = (alone_exact carried ((given_exact carried).yes refl)).yes refl in
    record {
      reads = w.0;
      then_end = w.1;
      another = λ g. (alone_exact uncarried ((given_exact uncarried).yes refl)).no refl (g, refl);
      no_end = λ g e. (alone_exact colon ((given_exact colon).yes refl)).no refl (g, e);
    }

-- ---- fields and a tail
-- the second field has two lines, of which the second begins like an end line, and a CR before its LF
abbrev second : List ℕ
second = bytes "50K:X\n-Y\r"

abbrev fields : List Field
fields = kept a ∷ new second ∷ kept b ∷ []

abbrev text : List ℕ
text = bytes ":50K:A\n:50K:X\n-Y\r\n:50K:B\n"

-- what the reads of the second and the third give, wherever the page goes on, and what stands after them
pub record At (page : List ℕ) (last : PageRead) : Type 0 where
  pub second_read : read_at page 7 ≡ record { outcome = a_record (of (bytes "X" ∷ bytes "-Y" ∷ [])); body = bytes "X\n-Y"; next = 18 }
  pub third_read : read_at page 18 ≡ record { outcome = a_record b; body = bytes "B"; next = 25 }
  pub second_met : field_at page 7 ≡ a_field (record { tag = 3; position = 7; len = 9 })
  pub third_met : field_at page 18 ≡ a_field (record { tag = 3; position = 18; len = 6 })
  pub after : read_at page 25 ≡ last
  pub none : field_at page 25 ≡ no_field

pub record StructureWitness : Type 0 where
  -- nothing, our end line and more, and another end line
  pub unended : At text (bodiless (a_refusal 17 0) 25)
  pub going_on : At (text ++ bytes "-\n:50K:C\n") (bodiless the_end 27)
  pub ended : At (text ++ bytes "-}\r\n") (bodiless the_end 29)

sound : All Sound fields
unfolding computes
sound = (
  record {
    lined = record { first = bytes ":50K:A"; later = []; joins = refl; lines = (refl, tt); opening = refl };
    bounded = refl;
    gives = λ next. (a, refl, refl);
  },
  (
    record {
      lined = record { first = bytes ":50K:X"; later = bytes "-Y\r" ∷ []; joins = refl; lines = (refl, (refl, tt)); opening = refl };
      bounded = refl;
      gives = λ next. refl;
    },
    (
      record {
        lined = record { first = bytes ":50K:B"; later = []; joins = refl; lines = (refl, tt); opening = refl };
        bounded = refl;
        gives = λ next. (b, refl, refl);
      },
      tt,
    ),
  ),
)

-- of any tail
at : (tail : List ℕ) (last : ReadOutcome) (n : ℕ) → Structure fields tail last n → At (text ++ tail) (bodiless last (25 + n))
unfolding computes
at tail last n s = record {
  second_read = s.field (kept a ∷ []) (new second) (kept b ∷ []) refl;
  third_read = s.field (kept a ∷ new second ∷ []) (kept b) [] refl;
  second_met = s.met (kept a ∷ []) (new second) (kept b ∷ []) refl;
  third_met = s.met (kept a ∷ new second ∷ []) (kept b) [] refl;
  after = s.after;
  none = s.none;
}

pub structure_witness : StructureWitness
unfolding computes
structure_witness = record {
  unended = at [] (a_refusal 17 0) 0 (structure nothing fields sound (omega arith));
  going_on = at (bytes "-\n:50K:C\n") the_end 2 (structure (ending (bytes ":50K:C\n")) fields sound (omega arith));
  ended = at (bytes "-}\r\n") the_end 4 (structure (whole (bytes "-}\r\n") end_lines.brace_cr) fields sound (omega arith));
}

-- ---- an open page, after three adds of which the second is refused, beside an index
pub record OpenPageWitness : Type 0 where
  pub page_bytes : take 14 (adds empty (a ∷ uncarried ∷ b ∷ []) buffer).state.buffer ≡ page
  pub second_read : Gives (read_at page 7) (kept b)
  pub then_17 : read_at page 14 ≡ bodiless (a_refusal 17 0) 14
  pub looked : (r : Read) × (look_up page numbers 2 ≡ found r) × Gives r.gave (kept b)
  pub rest : drop 14 (adds empty (a ∷ uncarried ∷ b ∷ []) buffer).state.buffer ≡ replicate 26 7
  pub size : length (adds empty (a ∷ uncarried ∷ b ∷ []) buffer).state.buffer ≡ 40

pub open_page_witness : OpenPageWitness
unfolding computes
open_page_witness =
    let w = open_page_lem empty (refl, refl) (a ∷ uncarried ∷ b ∷ []) buffer in
    record { page_bytes = w.bytes; second_read = w.reads.1.0; then_17 = w.reads.1.1; looked = w.indexed.gives (a ∷ []) b [] refl; rest = w.after; size = w.size }
