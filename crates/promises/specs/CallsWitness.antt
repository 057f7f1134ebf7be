-- Filing a page whole and the calls of the C interface, used: each theorem at an instance that a weaker one does not reach, down to bytes and
-- numbers.
use Rattle.std.specs.Prelude.{◌≡◌, refl, true, List, [], ◌∷◌, ◌++◌, ℕ, ◌+◌, ◌*◌, ◌/◌, ◌%◌, ◌≤◌, length, take, drop, replicate}
use Rattle.std.proofs.Common.{sym, ap, ◌∙◌, arith}
use Rattle.errors.specs.Refusals.{accepted}
use Rattle.party.specs.declared.PartyOption.TheVariants.{Field50K}
use Rattle.party.specs.Limits.{option_at}
use Rattle.party.specs.Text.{padded, text_of, four}
use Rattle.party.specs.Party.{content}
use Rattle.swift_utils.specs.Bytes.{bytes, letter, digit, alphanumeric, signs, legal}
use Rattle.swift_utils.specs.Checks.{parse_swift_chars, parse_account, bic_length, parse_bic}
use Rattle.field_utils.specs.Lines.{upto, onto, starts, lines, without_cr}
use Rattle.field_utils.specs.Names.{parse_line, parse_lines, parse_name_and_address}
use Rattle.field_utils.specs.Tags.{tag_of}
use Rattle.record_bytes.specs.RecordBytes.{encoded_texts, encoded, text_at, holds_record, party_from, decoded}
use Rattle.reader.specs.Reading.{party_of}
use Rattle.reader.specs.Options.{account_head, after_head, read}
use Rattle.writer.specs.Writing.{name_lines, written_lines, joined, written_body, written_field, pieces}
use Rattle.writer.specs.Given.{is_line, are_names, is_given}
use Rattle.writer.specs.ReadBack.{ends_cr, last_empty}
use Rattle.writer.specs.Placing.{length_is, measure, place}
use Rattle.page_reader.specs.Pages.{line_at, is_end, ends_page, runs, begins, tag_in, read_field, read_case, read_at, body_place}
use Rattle.page_reader.specs.Reads.{reads_from}
use Rattle.page_writer.specs.IndexState.{no_index}
use Rattle.page_writer.specs.Adding.{any_line, later_boundary, is_carried, writable, position_after, asked, record_reply, add_reply, add, add_index, close}
use Rattle.page_writer.specs.Fold.{run}
use Rattle.page_writer.specs.WholePage.{OpenPage}
use Rattle.kept.specs.Kept.{has_cr_lf, ends_lf, causes_of}
use Rattle.yewdome.specs.Filing.{records_in, file_all}
use Rattle.yewdome.specs.Interface.{party_measure, party_place, page_read, page_body, page_file}
use Rattle.yewdome.specs.Interface as interface
use Rattle.yewdome.proofs.Whole.{filed_run, filed_closing}
use Rattle.yewdome.proofs.WholePages.{filed_page, listed_reads, filed_count, filed_code_lem, filed_within}
use Rattle.yewdome.proofs.Theorems.{page_loads, write_accepts, measure_accepts, page_body_lem}
use Rattle.promises.specs.Starred.{gives}
use Rattle.promises.specs.PageWitness.{b, buffer, ended}

-- the definitions compute where this is unfolded
computes : Unit {0}
unfolding padded text_of content letter digit alphanumeric signs legal parse_swift_chars parse_account bic_length parse_bic upto onto starts lines parse_line parse_lines parse_name_and_address four party_of account_head after_head read name_lines written_lines joined written_body written_field pieces is_line are_names is_given ends_cr last_empty without_cr line_at is_end ends_page runs begins tag_in read_field read_case read_at body_place reads_from any_line later_boundary is_carried writable asked record_reply add_reply add add_index close run tag_of has_cr_lf ends_lf causes_of records_in option_at encoded_texts encoded text_at holds_record party_from decoded measure
computes = tt

-- ---- filing
-- a line before the first field, a record, one that is refused, one that no page carries, another record with a CR, the end and more
abbrev page : List ℕ
page = bytes "{4:\n:50K:A\n:50C:B\n:50K:A\n\n\n:50K:B\r\n-}\nrest"

-- numbers for its answers, and the answers: 16, a record, 9 in line 1, 23, a record whose CR is told, the end
abbrev lent : List ℕ
lent = replicate 50 7

abbrev told : List ℕ
told =
    (16 * 65536 * 4294967296 + 4) ∷ 7 ∷ ((9 * 65536 + 1) * 4294967296 + 7) ∷ (23 * 65536 * 4294967296 + 9) ∷ (16 * 131072 + 8) ∷ (65536 + 3) ∷ []

-- the page that is left open
abbrev left : OpenPage
left = record { buffer = bytes ":50K:A\n:50K:B\n" ++ replicate 26 7; position = 14; index = no_index }

pub record FilingWitness : Type 0 where
  pub state : (file_all page buffer).state ≡ left
  pub closing : close left.buffer 14 ≡ record { answer = position_after 16; buffer = ended ++ replicate 24 7 }
  -- its number, the bytes and all numbers after it
  pub filed : page_file page buffer lent ≡ record { code = 6 * 4294967296 + 16; bytes = ended ++ replicate 24 7; answers = told ++ replicate 44 7 }

pub record NumberWitness : Type 0 where
  pub count : (page_file page buffer lent).code / 4294967296 ≡ 6
  pub code : (page_file page buffer lent).code % 4294967296 ≡ 16
  -- where no field fits, and closing just does; and where closing does not: 24 × 65,536
  pub tight : (page_file page (7 ∷ 7 ∷ []) lent).code % 4294967296 ≡ 2
  pub unclosed : (page_file page (7 ∷ []) lent).code % 4294967296 ≡ 1572864
  -- of every page in two bytes, with just one number more than it has bytes
  pub within : (page answers : List ℕ) → length answers ≡ length page + 1 → let f = page_file page (7 ∷ 7 ∷ []) answers in
      (f.code / 4294967296 ≤ length f.answers) × (f.code % 4294967296 ≤ length f.bytes)

pub filing_witness : FilingWitness
unfolding computes
filing_witness = record {
  state = filed_run page buffer;
  closing = filed_closing page buffer left refl;
  filed = filed_page page buffer lent (omega arith);
}

pub number_witness : NumberWitness
unfolding computes
number_witness = record {
  count = filed_count page buffer lent (omega arith);
  code = filed_code_lem page buffer lent (omega arith);
  tight = filed_code_lem page (7 ∷ 7 ∷ []) lent (omega arith);
  unclosed = filed_code_lem page (7 ∷ []) lent (omega arith);
  within = λ page answers e. filed_within page (7 ∷ 7 ∷ []) answers (omega (arith, e)) (omega arith);
}

-- ---- reading
abbrev into : List ℕ
into = replicate 241 9

pub record ReadingWitness : Type 0 where
  -- the numbers that listing gives are those of the reads, one by one
  pub listed : (16 * 65536 * 4294967296 + 4) ∷ 7 ∷ ((9 * 65536 + 1) * 4294967296 + 7) ∷ 9 ∷ 8 ∷ (65536 + 3) ∷ []
      ≡ (page_read page 0 into).code ∷ (page_read page 4 into).code ∷ (page_read page 11 into).code ∷ (page_read page 18 into).code ∷ (page_read page 27 into).code ∷ (page_read page 35 into).code ∷ []
  -- a record that is stored loads, in just enough bytes
  pub loads : decoded (page_read page 27 into).bytes ≡ b
  -- a body's place: of a field with a CR, of one with an empty line, of one that is refused, and none before the first field
  pub body_cr : take (page_body page 27 % 4294967296) (drop (page_body page 27 / 4294967296) page) ≡ bytes "B"
  pub body_empty_line : take (page_body page 18 % 4294967296) (drop (page_body page 18 / 4294967296) page) ≡ bytes "A\n\n"
  pub body_refused : take (page_body page 11 % 4294967296) (drop (page_body page 11 / 4294967296) page) ≡ bytes "B"
  pub body_none : take (page_body page 0 % 4294967296) (drop (page_body page 0 / 4294967296) page) ≡ []

pub reading_witness : ReadingWitness
unfolding computes
reading_witness = record {
  listed = listed_reads page into (omega arith);
  loads = page_loads page 27 into b (omega arith) refl;
  body_cr = page_body_lem page 27;
  body_empty_line = page_body_lem page 18;
  body_refused = page_body_lem page 11;
  body_none = page_body_lem page 0;
}

-- ---- writing
-- a 50K with an account and two names: its field has 20 bytes; lent with a byte more than a record
abbrev field : List ℕ
field = bytes ":50K:/12\nACME\nBERLIN"

abbrev record_bytes : List ℕ
record_bytes = encoded (gives Field50K true (bytes "12") [] (bytes "ACME" ∷ bytes "BERLIN" ∷ [])).party ++ 9 ∷ []

pub record WritingWitness : Type 0 where
  -- of every lent record and buffer, up to the greatest number that is no refusal's
  pub passes : (record_bytes buffer : List ℕ) → (party_place record_bytes buffer).code ≡ 65535 → interface.argument_reply record_bytes ≡ accepted
  pub accepts : (record_bytes buffer : List ℕ) → (party_place record_bytes buffer).code ≡ 65535 → (place (content (decoded record_bytes)) buffer).answer ≡ length_is 65535
  pub measured : (record_bytes : List ℕ) → party_measure record_bytes ≡ 65535 → (interface.argument_reply record_bytes ≡ accepted) × (65535 ≡ length (written_field (content (decoded record_bytes))))
  -- a buffer with just enough, with more, and one byte short
  pub enough : party_place record_bytes (replicate 20 7) ≡ record { code = 20; bytes = field }
  pub more : party_place record_bytes (replicate 23 7) ≡ record { code = 20; bytes = field ++ 7 ∷ 7 ∷ 7 ∷ [] }
  pub short : party_place record_bytes (replicate 19 7) ≡ record { code = 24 * 65536; bytes = replicate 19 7 }

pub writing_witness : WritingWitness
unfolding computes
writing_witness =
    let n : party_measure record_bytes ≡ 20 = refl in
    record {
      passes = λ record_bytes buffer e. (write_accepts record_bytes buffer (omega (arith, e))).passes;
      accepts = λ record_bytes buffer e. (write_accepts record_bytes buffer (omega (arith, e))).accepts ∙ ap length_is e;
      measured = λ record_bytes e. let m = measure_accepts record_bytes [] (omega (arith, e)) in (m.passes, sym e ∙ m.exact);
      enough = (measure_accepts record_bytes (replicate 20 7) (omega (arith, n))).enough (omega (arith, n));
      more = (measure_accepts record_bytes (replicate 23 7) (omega (arith, n))).enough (omega (arith, n));
      short = (measure_accepts record_bytes (replicate 19 7) (omega (arith, n))).short (omega (arith, n));
    }
