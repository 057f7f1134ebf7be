-- Demand 3's claims, used: each theorem at an instance that a weaker one does not reach, down to what single reads and calls give.
use Rattle.std.specs.Prelude.{◌≡◌, refl, List, [], ◌∷◌, ◌++◌, ℕ, ◌≤◌, length, take, drop, replicate}
use Rattle.std.proofs.Common.{sym, ⊎_elim, arith}
use Rattle.party.specs.declared.Party.{Party}
use Rattle.party.specs.Text.{padded, text_of, four}
use Rattle.party.specs.Party.{content}
use Rattle.swift_utils.specs.Bytes.{bytes, letter, digit, alphanumeric, signs, legal}
use Rattle.swift_utils.specs.Checks.{parse_swift_chars, parse_account}
use Rattle.field_utils.specs.Lines.{upto, onto, starts, lines, without_cr}
use Rattle.field_utils.specs.Identifier.{is_numbered, second_slash, identifier_reply}
use Rattle.field_utils.specs.Names.{parse_line, parse_lines, parse_name_and_address}
use Rattle.field_utils.specs.Tags.{tag_of}
use Rattle.reader.specs.Reading.{party_of}
use Rattle.reader.specs.Options.{account_head, after_head, read}
use Rattle.writer.specs.Writing.{name_lines, written_lines, joined, written_body, written_field, identified59_f, pieces}
use Rattle.writer.specs.Given.{is_line, are_names, is_given}
use Rattle.writer.specs.ReadBack.{ends_cr, last_empty}
use Rattle.writer.specs.Longest.{longest}
use Rattle.writer.proofs.Theorems.{given_exact}
use Rattle.page_reader.specs.Pages.{line_at, is_end, ends_page, runs, begins, tag_in, the_end, a_refusal, bodiless, read_field, read_case, read_at}
use Rattle.page_reader.specs.Reads.{Read, read_here, reads_from}
use Rattle.page_reader.specs.Index.{entries_in, entries_of, field_at, fields_in, fields_met, found, not_found, look_up}
use Rattle.page_writer.specs.IndexState.{IndexState, no_index, an_index, noted}
use Rattle.page_writer.specs.Adding.{any_line, later_boundary, is_carried, writable, end_line, position_after, refusal, asked, record_reply, add_reply, add, add_index, close}
use Rattle.page_writer.specs.Fold.{run, accepted_of}
use Rattle.page_writer.specs.WholePage.{OpenPage, closing_of, closed_page, kept, new, Field, page_of, Gives, ReadsAs, Alone, MayOverwrite, Overwrites}
use Rattle.page_writer.specs.Demand3.{adds, model, identified_in, WholePage}
use Rattle.page_writer.specs.Delivered.{crlf}
use Rattle.page_writer.proofs.Addings.{position≢refusal}
use Rattle.page_writer.proofs.Theorems.{whole_page, delivered_page}
use Rattle.promises.specs.Filing.{of, long50_f}
use Rattle.promises.specs.Delivered.{end_lines}

-- a 50K of one name: 7 bytes with its LF
abbrev pub a : Party
a = of (bytes "A" ∷ [])

abbrev pub b : Party
b = of (bytes "B" ∷ [])

-- 50Ks that are 23 and 22
abbrev pub uncarried : Party
uncarried = of (bytes "A" ∷ [] ∷ [])

abbrev nameless : Party
nameless = of []

-- adds, two of them refused, in a buffer of stale bytes, and beside it an empty index whose other numbers are stale
abbrev ps : List Party
ps = a ∷ uncarried ∷ b ∷ nameless ∷ []

abbrev pub buffer : List ℕ
buffer = replicate 40 7

abbrev pub empty : IndexState
empty = an_index (0 ∷ replicate 768 7)

abbrev left : OpenPage
left = (adds empty ps buffer).state

-- what they leave
abbrev pub page : List ℕ
page = bytes ":50K:A\n:50K:B\n"

whole : WholePage empty ps buffer
unfolding entries_of
whole = whole_page empty (refl, refl) ps buffer

-- the numbers of the index that they leave
abbrev pub numbers : List ℕ
numbers = 2 ∷ 3 ∷ 0 ∷ 6 ∷ 3 ∷ 7 ∷ 6 ∷ replicate 762 7

-- a lookup gives a record
abbrev Looks : List ℕ → ℕ → Party → Type 0
Looks page k p = (r : Read) × (look_up page numbers k ≡ found r) × Gives r.gave (kept p)

-- ---- the open page, and the closed one
pub record OpenWitness : Type 0 where
  pub page_bytes : take 14 left.buffer ≡ page
  -- the record of the second accepted add in its turn, then 17
  pub second : Gives (read_at page 7) (kept b)
  pub then_17 : read_at page 14 ≡ bodiless (a_refusal 17 0) 14
  -- no other byte
  pub after : drop 14 left.buffer ≡ replicate 26 7
  pub size : length left.buffer ≡ 40
  -- the index has both fields, and looking up the second is the reader's second step and gives its record; there is no third
  pub entries : record { tag = 3; position = 0; len = 6 } ∷ record { tag = 3; position = 7; len = 6 } ∷ [] ≡ fields_met page
  pub number : length (entries_of numbers) ≡ 2
  pub step : look_up page numbers 2 ≡ found (read_here page 7)
  pub looked : Looks page 2 b
  pub past : look_up page numbers 3 ≡ not_found 31 0
  pub zeroth : look_up page numbers 0 ≡ not_found 31 0

pub open_witness : OpenWitness
unfolding padded text_of content letter digit alphanumeric signs legal parse_swift_chars parse_account upto onto starts lines is_numbered second_slash identifier_reply parse_line parse_lines parse_name_and_address four party_of account_head after_head read name_lines written_lines joined written_body written_field identified59_f pieces is_line are_names is_given ends_cr last_empty without_cr line_at is_end ends_page runs begins tag_in read_field read_case read_at reads_from entries_in entries_of field_at fields_in look_up noted any_line later_boundary is_carried writable asked record_reply add_reply add add_index close run accepted_of tag_of page_of ReadsAs Overwrites crlf identified_in
open_witness =
    let w = whole.listed.opened in
    record {
      page_bytes = w.bytes;
      second = w.reads.1.0;
      then_17 = w.reads.1.1;
      after = w.after;
      size = w.size;
      entries = w.indexed.equals;
      number = w.indexed.number;
      step = w.indexed.step (read_here page 0 ∷ []) (read_here page 7) (read_here page 14 ∷ []) refl (omega arith);
      looked = w.indexed.gives (a ∷ []) b [] refl;
      past = w.indexed.past 3 (omega arith);
      zeroth = w.indexed.zeroth;
    }

-- with the end line
abbrev pub ended : List ℕ
ended = page ++ end_line

-- two of the longest fields, and two of the longest without the form of 59F that has an identifier
abbrev long : List Party
long = longest ∷ longest ∷ []

abbrev shorter : List Party
shorter = long50_f ∷ long50_f ∷ []

abbrev room : List ℕ
room = replicate 380 7

pub record ClosedWitness : Type 0 where
  pub page_bytes : take 16 (closing_of left).buffer ≡ ended
  pub second : Gives (read_at ended 7) (kept b)
  pub then_end : read_at ended 14 ≡ bodiless the_end 16
  pub after : drop 16 (closing_of left).buffer ≡ replicate 24 7
  pub looked : Looks ended 2 b
  -- both bounds, at pages that meet them
  pub bound_all : length (closed_page (adds no_index long room).state 378) ≤ 378
  pub meets_all : length (closed_page (adds no_index long room).state 378) ≡ 378
  pub bound : length (closed_page (adds no_index shorter room).state 372) ≤ 372
  pub meets : length (closed_page (adds no_index shorter room).state 372) ≡ 372
  -- two bytes are enough to close in, and one is not
  pub closes : (closing_of (adds no_index [] (7 ∷ 7 ∷ [])).state).answer ≡ position_after 2
  pub unclosed : closing_of (adds no_index (a ∷ []) (7 ∷ [])).state ≡ record { answer = refusal 24 0; buffer = 7 ∷ [] }

pub closed_witness : ClosedWitness
unfolding padded text_of content letter digit alphanumeric signs legal parse_swift_chars parse_account upto onto starts lines is_numbered second_slash identifier_reply parse_line parse_lines parse_name_and_address four party_of account_head after_head read name_lines written_lines joined written_body written_field identified59_f pieces is_line are_names is_given ends_cr last_empty without_cr line_at is_end ends_page runs begins tag_in read_field read_case read_at reads_from entries_in entries_of field_at fields_in look_up noted any_line later_boundary is_carried writable asked record_reply add_reply add add_index close run accepted_of tag_of page_of ReadsAs Overwrites crlf identified_in
closed_witness =
    let w = whole.listed.closed {to = 16} refl in
    record {
      page_bytes = w.bytes;
      second = w.reads.1.0;
      then_end = w.reads.1.1;
      after = w.after;
      looked = w.indexed.gives (a ∷ []) b [] refl;
      bound_all = ((whole_page no_index tt long room).listed.closed {to = 378} refl).bound_all;
      meets_all = refl;
      bound = ((whole_page no_index tt shorter room).listed.closed {to = 372} refl).bound refl;
      meets = refl;
      closes = (whole_page no_index tt [] (7 ∷ 7 ∷ [])).listed.closes (omega arith);
      unclosed = ((whole_page no_index tt (a ∷ []) (7 ∷ [])).listed.unclosed refl).0;
    }

-- ---- the run
pub record RunWitness : Type 0 where
  -- the second add and the later ones answer in the run what they answer in their turn
  pub in_turn_lem : (adds empty ps buffer).answers ≡ (adds empty (a ∷ []) buffer).answers ++ refusal 23 0 ∷ position_after 14 ∷ refusal 22 0 ∷ []
  -- a record that is refused with 23 at the second add, with an index, would not read back alone; one that is taken at the third would
  pub not_alone : Alone uncarried → ⊥
  pub alone : Alone b
  -- the model answers as the run does, refusals too, and has its position and its list
  pub answers : position_after 7 ∷ refusal 23 0 ∷ position_after 14 ∷ refusal 22 0 ∷ [] ≡ (model empty ps 40).answers
  pub position : 14 ≡ (model empty ps 40).state.tally.position
  pub list : a ∷ b ∷ [] ≡ (model empty ps 40).state.list

pub run_witness : RunWitness
unfolding padded text_of content letter digit alphanumeric signs legal parse_swift_chars parse_account upto onto starts lines is_numbered second_slash identifier_reply parse_line parse_lines parse_name_and_address four party_of account_head after_head read name_lines written_lines joined written_body written_field identified59_f pieces is_line are_names is_given ends_cr last_empty without_cr line_at is_end ends_page runs begins tag_in read_field read_case read_at reads_from entries_in entries_of field_at fields_in look_up noted any_line later_boundary is_carried writable asked record_reply add_reply add add_index close run accepted_of tag_of page_of ReadsAs Overwrites crlf identified_in
run_witness = record {
  in_turn_lem = whole.in_turn_lem (a ∷ []) uncarried (b ∷ nameless ∷ []) refl;
  not_alone =
      ⊎_elim (λ x. absurd (position≢refusal (sym x.1))) (λ y. y.0)
      (whole.exactly (a ∷ []) uncarried (b ∷ nameless ∷ []) refl ((given_exact uncarried).yes refl) refl refl);
  alone =
      ⊎_elim (λ x. x.0) (λ y. absurd (position≢refusal y.1))
      (whole.exactly (a ∷ uncarried ∷ []) b (nameless ∷ []) refl ((given_exact b).yes refl) refl refl);
  answers = whole.answers;
  position = whole.position;
  list = whole.list;
}

-- ---- damage
-- four fields, of which the first is overwritten with no byte, and the third with an empty line, one that begins like an end line, a CR and a
-- byte above 127
abbrev pub new_bytes : List ℕ
new_bytes = bytes "50K:X\n\n-x\r\n" ++ 200 ∷ []

abbrev pub fields : List Field
fields = new [] ∷ kept b ∷ new new_bytes ∷ kept b ∷ []

abbrev pub damaged : List ℕ
damaged = bytes ":\n:50K:B\n:50K:X\n\n-x\r\n" ++ 200 ∷ bytes "\n:50K:B\n-\n"

-- one that makes the page just as long as a page may be
abbrev pub long_damage : List Field
long_damage = new (replicate 32757 65) ∷ kept b ∷ []

pub record DamageWitness : Type 0 where
  pub first : read_at damaged 0 ≡ bodiless (a_refusal 15 0) 2
  pub second : Gives (read_at damaged 2) (kept b)
  pub third : read_at damaged 9 ≡ record { outcome = a_refusal 13 0; body = bytes "X\n\n-x\r\n" ++ 200 ∷ []; next = 23 }
  pub fourth : Gives (read_at damaged 23) (kept b)
  pub then_end : read_at damaged 30 ≡ bodiless the_end 32
  -- in a page of 32,768 bytes
  pub at_the_most : length (page_of long_damage end_line) ≡ 32768
  pub reads_on : ReadsAs (page_of long_damage end_line) 0 long_damage the_end

pub damage_witness : DamageWitness
unfolding padded text_of content letter digit alphanumeric signs legal parse_swift_chars parse_account upto onto starts lines is_numbered second_slash identifier_reply parse_line parse_lines parse_name_and_address four party_of account_head after_head read name_lines written_lines joined written_body written_field identified59_f pieces is_line are_names is_given ends_cr last_empty without_cr line_at is_end ends_page runs begins tag_in read_field read_case read_at reads_from entries_in entries_of field_at fields_in look_up noted any_line later_boundary is_carried writable asked record_reply add_reply add add_index close run accepted_of tag_of page_of ReadsAs Overwrites crlf identified_in
damage_witness =
    let no_byte : MayOverwrite [] = record { opening = refl; ending = refl } in
    let bytes_200 : MayOverwrite new_bytes = record { opening = refl; ending = refl } in
    let w = (whole_page no_index tt (a ∷ b ∷ a ∷ b ∷ []) buffer).listed.overwritten fields (no_byte, (refl, (bytes_200, (refl, tt)))) (omega arith) in
    let many : MayOverwrite (replicate 32757 65) = record { opening = refl; ending = refl } in
    let l = (whole_page no_index tt (a ∷ b ∷ []) buffer).listed.overwritten long_damage (many, (refl, tt)) (omega arith) in
    record { first = w.0; second = w.1.0; third = w.1.1.0; fourth = w.1.1.1.0; then_end = w.1.1.1.1; at_the_most = refl; reads_on = l }

-- ---- the page as the line delivers it
abbrev sent : List ℕ
sent = bytes ":50K:A\r\n:50K:B\r\n-}\r\n"

pub record DeliveredWitness : Type 0 where
  pub second : Gives (read_at sent 8) (kept b)
  pub then_end : read_at sent 16 ≡ bodiless the_end 20

pub delivered_witness : DeliveredWitness
unfolding padded text_of content letter digit alphanumeric signs legal parse_swift_chars parse_account upto onto starts lines is_numbered second_slash identifier_reply parse_line parse_lines parse_name_and_address four party_of account_head after_head read name_lines written_lines joined written_body written_field identified59_f pieces is_line are_names is_given ends_cr last_empty without_cr line_at is_end ends_page runs begins tag_in read_field read_case read_at reads_from entries_in entries_of field_at fields_in look_up noted any_line later_boundary is_carried writable asked record_reply add_reply add add_index close run accepted_of tag_of page_of ReadsAs Overwrites crlf identified_in
delivered_witness =
    let w = delivered_page empty (refl, refl) ps buffer (bytes "-}\r\n") end_lines.brace_cr (omega arith) in
    record { second = w.1.0; then_end = w.1.1 }
