-- What is said of bytes that are kept, used: each theorem at an instance that a weaker one does not reach, down to written bodies, fields as
-- they came, and what filing leaves and answers.
use Rattle.std.specs.Prelude.{◌≡◌, refl, true, false, List, [], ◌++◌, ℕ, ◌/◌, ◌%◌, ◌<◌, length, take, drop, replicate}
use Rattle.std.proofs.Common.{ap, ◌∙◌, arith}
use Rattle.party.specs.declared.PartyOption.TheVariants.{Field50A, Field50K, Field59A}
use Rattle.party.specs.declared.Party.{Party}
use Rattle.party.specs.Text.{padded, text_of, four}
use Rattle.party.specs.Party.{content}
use Rattle.swift_utils.specs.Bytes.{bytes, letter, digit, alphanumeric, signs, legal}
use Rattle.swift_utils.specs.Checks.{parse_swift_chars, parse_account, bic_length, parse_bic}
use Rattle.field_utils.specs.Lines.{upto, onto, starts, lines, without_cr}
use Rattle.field_utils.specs.Trim.{white, trimmed_start, keep, trimmed_end, trimmed}
use Rattle.field_utils.specs.Identifier.{is_numbered, second_slash, identifier_reply, parse_party_identifier}
use Rattle.field_utils.specs.Names.{parse_line, parse_lines, parse_name_and_address}
use Rattle.field_utils.specs.Tags.{tag_of}
use Rattle.reader.specs.Reading.{party_of}
use Rattle.reader.specs.Options.{account_head, short_account_head, after_head, read}
use Rattle.reader.specs.declared.choices.Choice.TheVariants.{Field50InstructingParty, Field50OrderingCustomerAFK}
use Rattle.reader.specs.Detection.{any_numbered, last_line, bic_like}
use Rattle.reader.specs.Choices.{first_that, parse, pick_of, parse_with_variant, is_picked}
use Rattle.writer.specs.Writing.{name_lines, written_lines, joined, written_body, written_field, pieces}
use Rattle.writer.specs.Given.{is_line, are_names, is_given}
use Rattle.writer.specs.ReadBack.{ends_cr, last_empty}
use Rattle.page_reader.specs.Pages.{line_at, is_end, ends_page, runs, begins, tag_in, read_field, read_case, read_at, body_place}
use Rattle.page_reader.specs.Reads.{read_here, reads_from}
use Rattle.page_reader.specs.Index.{entries_in, entries_of}
use Rattle.page_writer.specs.IndexState.{no_index, noted}
use Rattle.page_writer.specs.Adding.{any_line, later_boundary, is_carried, writable, asked, record_reply, add_reply, add, add_index, close}
use Rattle.page_writer.specs.Fold.{run}
use Rattle.page_writer.specs.WholePage.{OpenPage}
use Rattle.page_writer.specs.Demand3.{closing}
use Rattle.kept.specs.declared.Causes.{Causes}
use Rattle.kept.specs.Kept.{has_cr_lf, ends_lf, causes_of, no_causes, kept_of}
use Rattle.kept.specs.Fields.{came_at}
use Rattle.kept.proofs.Exact.{kept_exact}
use Rattle.kept.proofs.FieldExact.{field_exact}
use Rattle.yewdome.specs.Interface.{filed_code, causes_code, number_step, Filing, page_file}
use Rattle.yewdome.specs.Filing.{records_in, records_of}
use Rattle.yewdome.specs.KeptPage.{are_kept, last_at, are_plain}
use Rattle.yewdome.proofs.KeptPage.{filed_exact, kept_page, kept_space, told_page}
use Rattle.yewdome.proofs.WholePages.{filed_page, filed_code_lem}
use Rattle.yewdome.proofs.Causes.{causes_one}
use Rattle.promises.specs.Starred.{gives}
use Rattle.promises.specs.PageWitness.{b, empty, buffer}

-- the definitions compute where this is unfolded
computes : Unit {0}
unfolding padded text_of content letter digit alphanumeric signs legal parse_swift_chars parse_account bic_length parse_bic upto onto starts lines white trimmed_start keep trimmed_end trimmed is_numbered parse_line parse_lines parse_name_and_address four party_of account_head short_account_head after_head read any_numbered last_line bic_like first_that pick_of parse parse_with_variant is_picked has_cr_lf ends_lf causes_of kept_of second_slash identifier_reply parse_party_identifier name_lines written_lines joined written_body written_field pieces is_line are_names is_given ends_cr last_empty without_cr line_at is_end ends_page runs begins tag_in read_field read_case read_at body_place entries_in entries_of noted any_line later_boundary is_carried writable asked record_reply add_reply add add_index tag_of reads_from close run records_in are_kept last_at are_plain
computes = tt

-- ---- a body
abbrev plain : List ℕ
plain = bytes "/12\nACME\nBERLIN"

abbrev with_cr : List ℕ
with_cr = bytes "/12\nACME\r\nBERLIN"

abbrev after_bic : List ℕ
after_bic = bytes "/1\nABCDEFGH\nX"

abbrev blanks : List ℕ
blanks = bytes " A"

pub record BodyWitness : Type 0 where
  -- by an option: a body that is written as it came, and two that are not, by a line after a BIC and by a CR
  pub option : written_body (content (read Field50K plain).party) ≡ plain
  pub option_bic : written_body (content (read Field59A after_bic).party) ≡ after_bic → ⊥
  pub option_cr : written_body (content (read Field50K with_cr).party) ≡ with_cr → ⊥
  -- by a choice that detects: the same, and blanks that are trimmed
  pub detected : written_body (content (parse Field50OrderingCustomerAFK plain).party) ≡ plain
  pub detected_cr : written_body (content (parse Field50OrderingCustomerAFK with_cr).party) ≡ with_cr → ⊥
  pub detected_blanks : written_body (content (parse Field50InstructingParty blanks).party) ≡ blanks → ⊥
  -- by a letter: one that picks, which trims nothing, and one that detects
  pub picked : written_body (content (parse_with_variant Field50InstructingParty blanks 76).party) ≡ blanks
  pub not_picked : written_body (content (parse_with_variant Field50InstructingParty blanks 75).party) ≡ blanks → ⊥

pub body_witness : BodyWitness
unfolding computes
body_witness = record {
  option = ((kept_exact plain).option Field50K refl).yes refl;
  option_bic = ((kept_exact after_bic).option Field59A refl).no refl;
  option_cr = ((kept_exact with_cr).option Field50K refl).no refl;
  detected = ((kept_exact plain).detected Field50OrderingCustomerAFK refl).yes refl;
  detected_cr = ((kept_exact with_cr).detected Field50OrderingCustomerAFK refl).no refl;
  detected_blanks = ((kept_exact blanks).detected Field50InstructingParty refl).no refl;
  picked = ((kept_exact blanks).by_letter Field50InstructingParty 76 refl).yes refl;
  not_picked = ((kept_exact blanks).by_letter Field50InstructingParty 75 refl).no refl;
}

-- ---- a field of a page, and a step of filing it
-- the second field is a 50A with a line after its BIC and a CR before its LF, and the third a 50K that is kept
abbrev page : List ℕ
page = bytes ":50K:A\n:50A:ABCDEFGH\nX\r\n:50K:B\n-\n"

abbrev bic : Party
bic = (gives Field50A false [] (bytes "ABCDEFGH") []).party

-- a new page that has a field already, beside an index
abbrev state : OpenPage
state = record { buffer = bytes ":50K:A\n" ++ replicate 30 7; position = 7; index = empty }

pub record StepWitness : Type 0 where
  pub field_no : written_field (content bic) ≡ bytes ":50A:ABCDEFGH\nX\r" → ⊥
  pub field_yes : written_field (content b) ≡ bytes ":50K:B"
  -- what is put, after what was there; what is told, which is 4 and 16; and that it is not the field as it came
  pub puts : (number_step page state (read_here page 7)).state.buffer ≡ bytes ":50K:A\n:50A:ABCDEFGH\n" ++ replicate 16 7
  pub tells : (number_step page state (read_here page 7)).answer / 131072 ≡ 20
  pub differs : written_field (content bic) ≡ came_at page 7 → ⊥
  -- of the field that is kept it tells 0, and puts that
  pub puts_kept : (number_step page state (read_here page 24)).state.buffer ≡ bytes ":50K:A\n:50K:B\n" ++ replicate 23 7
  pub tells_none : (number_step page state (read_here page 24)).answer / 131072 ≡ 0
  pub same : written_field (content b) ≡ came_at page 24

pub step_witness : StepWitness
unfolding computes
step_witness =
    let w = filed_exact page state 7 bic refl in
    let k = filed_exact page state 24 b refl in
    record {
      field_no = (field_exact page 7 bic refl).no refl;
      field_yes = (field_exact page 24 b refl).yes refl;
      puts = w.puts;
      tells = w.tells;
      differs = w.exact.no refl;
      puts_kept = k.puts;
      tells_none = k.tells;
      same = k.exact.yes refl;
    }

-- ---- a page
-- two fields, a line before them, `-}`, and more after the end line
abbrev came : List ℕ
came = bytes "{4:\n:50K:A\nB\n:50L: C\n-}\nrest\n"

-- a page whose end line is the last, and whose bytes are all filed
abbrev tight : List ℕ
tight = bytes ":50K:A\nB\n:50L: C\n-\n"

-- one whose end line has no LF, so that the new page is longer
abbrev unended : List ℕ
unended = bytes "x\n:50K:/1\nA\n:59A:ABCDEFGH\n-"

-- what `yewdome_page_file` leaves
abbrev leaves : List ℕ → List ℕ → List ℕ
leaves page buffer = (page_file page buffer (replicate 40 7)).bytes

left : (page buffer : List ℕ) → length page < 40 → leaves page buffer ≡ (closing no_index (records_of page) buffer).buffer
left page buffer h = ap (λ (f : Filing). f.bytes) (filed_page page buffer (replicate 40 7) h)

pub record KeptPageWitness : Type 0 where
  -- the very bytes, then our end line, then the buffer as it was
  pub bytes_kept : take 19 (leaves came buffer) ≡ bytes ":50K:A\nB\n:50L: C\n-\n"
  pub after : drop 19 (leaves came buffer) ≡ replicate 21 7
  pub answer : (page_file came buffer (replicate 40 7)).code % 4294967296 ≡ 19
  -- in a buffer with just enough
  pub exact : take 19 (leaves came (replicate 19 7)) ≡ bytes ":50K:A\nB\n:50L: C\n-\n"
  -- which one as long as the page is, where it ends in LF
  pub as_long : take 19 (leaves tight (replicate 19 7)) ≡ tight
  -- and where the answers tell it, also of a page without a last LF
  pub told : take 26 (leaves unended buffer) ≡ bytes ":50K:/1\nA\n:59A:ABCDEFGH\n-\n"
  pub told_answer_lem : (page_file unended buffer (replicate 40 7)).code % 4294967296 ≡ 26
  pub told_after : drop 26 (leaves unended buffer) ≡ replicate 14 7
  pub told_exact : take 26 (leaves unended (replicate 26 7)) ≡ bytes ":50K:/1\nA\n:59A:ABCDEFGH\n-\n"

pub kept_page_witness : KeptPageWitness
unfolding computes
kept_page_witness =
    let w = kept_page came buffer refl refl in
    let t = told_page unended buffer refl (omega arith) in
    let space = kept_space tight (replicate 19 7) refl refl (omega arith) in
    record {
      bytes_kept = ap (take 19) (left came buffer (omega arith)) ∙ w.bytes;
      after = ap (drop 19) (left came buffer (omega arith)) ∙ w.after;
      answer = filed_code_lem came buffer (replicate 40 7) (omega arith) ∙ ap filed_code w.answer;
      exact = ap (take 19) (left came (replicate 19 7) (omega arith)) ∙ (kept_page came (replicate 19 7) refl refl).bytes;
      as_long = ap (take 19) (left tight (replicate 19 7) (omega arith)) ∙ (kept_page tight (replicate 19 7) refl space).bytes;
      told = ap (take 26) (left unended buffer (omega arith)) ∙ t.bytes;
      told_answer_lem = filed_code_lem unended buffer (replicate 40 7) (omega arith) ∙ ap filed_code t.answer;
      told_after = ap (drop 26) (left unended buffer (omega arith)) ∙ t.after;
      told_exact = ap (take 26) (left unended (replicate 26 7) (omega arith)) ∙ (told_page unended (replicate 26 7) refl (omega arith)).bytes;
    }

-- ---- causes
pub record CausesWitness : Type 0 where
  -- a number is that of one set of causes
  pub none : (c : Causes) → causes_code c ≡ 0 → c ≡ no_causes
  pub two : (c : Causes) → causes_code c ≡ 20 → c ≡ record { inner_cr = false; last_lf = false; after_bic = true; blanks = false; closing_cr = true }
  pub all : (c : Causes) → causes_code c ≡ 31 → c ≡ record { inner_cr = true; last_lf = true; after_bic = true; blanks = true; closing_cr = true }

pub causes_witness : CausesWitness
causes_witness = record { none = λ c e. causes_one c _ e; two = λ c e. causes_one c _ e; all = λ c e. causes_one c _ e }
