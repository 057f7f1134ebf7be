-- What the functions for other languages answer, which document 01 leaves to us: a number, with the lent bytes as the call left them.
use Rattle.std.specs.Prelude.{ℕ, ◌+◌, ◌*◌, ◌-◌, Bool, true, false, List, [], ◌∷◌, map, leb, ltb, length, get_or}
use Rattle.errors.specs.Refusals.{Reply, accepted, refused, must, ◌then◌}
use Rattle.party.specs.declared.Party.{Party}
use Rattle.party.specs.Limits.{option_at}
use Rattle.party.specs.Party.{content}
use Rattle.reader.specs.Reading.{Reading, room_reply}
use Rattle.reader.specs.Options.{read}
use Rattle.reader.specs.declared.choices.Choice.{Choice}
use Rattle.reader.specs.declared.choices.Choice.TheVariants.{Field50InstructingParty, Field50OrderingCustomerFGH, Field50OrderingCustomerAFK, Field50OrderingCustomerNCF, Field50Creditor, Field59, Field59Debtor}
use Rattle.reader.specs.Choices.{parse, parse_with_variant}
use Rattle.profile.specs.Profile.{read_profiled, parse_profiled, parse_with_variant_profiled}
use Rattle.writer.specs.Writing.{put}
use Rattle.writer.specs.Placing.{Measured, length_is, refused_with, Placing, measure, place}
use Rattle.page_reader.specs.Pages.{ReadOutcome, a_record, the_end, a_refusal, PageRead, outcome_of, read_at, body_place, read_lent, read_bytes}
use Rattle.page_reader.specs.Reads.{Read, read_here, reads}
use Rattle.page_reader.specs.Index.{Looked, found, not_found, look_lent}
use Rattle.page_writer.specs.IndexState.{IndexState}
use Rattle.page_writer.specs.Adding.{Filed, position_after, refusal, Call, add, add_index, close}
use Rattle.page_writer.specs.Fold.{Step, Run, run}
use Rattle.page_writer.specs.WholePage.{OpenPage}
use Rattle.kept.specs.declared.Causes.{Causes}
use Rattle.kept.specs.Kept.{Kept, kept_read, kept_parse, kept_parse_with_variant}
use Rattle.kept.specs.Fields.{causes_by}
use Rattle.record_bytes.specs.RecordBytes.{decoded}
use Rattle.yewdome.specs.Filing.{file_step, open_page}

-- what a call gives: its number, and the lent bytes after it
pub record Called : Type 0 where
  pub code : ℕ
  pub bytes : List ℕ

-- a position, a line of a body and how many bytes a read moved past are below this
abbrev pub position_room : ℕ
position_room = 65536

-- beside these bytes, and the bit of the end, stand the causes of a field
abbrev pub causes_unit : ℕ
causes_unit = 2 * position_room

-- and beside all of it a refusal, a place or a count: two numbers of 32 bits in one
abbrev pub pack_unit : ℕ
pack_unit = 4294967296

abbrev pub packed : ℕ → ℕ → ℕ
packed high low = high * pack_unit + low

-- a refusal's number × 65,536, and its line; 0 where accepted
abbrev pub code_of : Reply → ℕ
code_of accepted = 0
code_of (refused k n) = k * position_room + n

-- ---- a lent record
-- the interface's own numbers, which document 01 has not and which are tested before its own: 42 where a lent record has under 241 bytes
-- (`room_reply`), 41 where there is no such option or choice
abbrev pub arguments_reply : ℕ → Bool → Reply
arguments_reply len known = room_reply len then must known 41 0

-- a record lent to be measured, placed or added: its first byte is the option's place, 0 to 10
abbrev pub argument_reply : List ℕ → Reply
argument_reply bytes = arguments_reply (length bytes) (leb (get_or bytes 0 0) 10)

-- a call that passes these tests answers; one that does not changes no byte
abbrev pub after_checks : Reply → Called → List ℕ → Called
after_checks accepted c bytes = c
after_checks (refused k n) c bytes = record { code = code_of (refused k n); bytes = bytes }

-- ---- reading
-- what a reader gives, in these terms
abbrev pub stored_call : Reply → Party → List ℕ → Called
stored_call r p bytes = record { code = code_of r; bytes = read_bytes (outcome_of r p) bytes }

-- a reading into a lent record, by an option or choice that is known or not
abbrev pub given : Bool → Reading → List ℕ → Called
given known r bytes = after_checks (arguments_reply (length bytes) known) (stored_call r.reply r.party bytes) bytes

-- `yewdome_party_read`: the option by its place in the table, 0 to 10
abbrev pub party_read : ℕ → List ℕ → List ℕ → Called
party_read option body bytes = given (leb option 10) (read (option_at option) body) bytes

-- the choices in document 01's order
abbrev pub choices : List Choice
choices =
    Field50InstructingParty ∷ Field50OrderingCustomerFGH ∷ Field50OrderingCustomerAFK ∷ Field50OrderingCustomerNCF ∷ Field50Creditor ∷ Field59 ∷ Field59Debtor ∷ []

-- the choice at a place, 0 to 6; the first where there is none
abbrev pub choice_at : ℕ → Choice
choice_at place = get_or choices place Field50InstructingParty

-- `yewdome_party_parse`
abbrev pub party_parse : ℕ → List ℕ → List ℕ → Called
party_parse choice body bytes = given (leb choice 6) (parse (choice_at choice) body) bytes

-- `yewdome_party_parse_with_variant`
abbrev pub party_parse_with_variant : ℕ → List ℕ → ℕ → List ℕ → Called
party_parse_with_variant choice body letter bytes = given (leb choice 6) (parse_with_variant (choice_at choice) body letter) bytes

-- `yewdome_profile_read` (document 02, Five)
abbrev pub profile_read : ℕ → List ℕ → List ℕ → Called
profile_read option body bytes = given (leb option 10) (read_profiled (option_at option) body) bytes

-- `yewdome_profile_parse` (document 02, Five)
abbrev pub profile_parse : ℕ → List ℕ → List ℕ → Called
profile_parse choice body bytes = given (leb choice 6) (parse_profiled (choice_at choice) body) bytes

-- `yewdome_profile_parse_with_variant` (document 02, Five)
abbrev pub profile_parse_with_variant : ℕ → List ℕ → ℕ → List ℕ → Called
profile_parse_with_variant choice body letter bytes = given (leb choice 6) (parse_with_variant_profiled (choice_at choice) body letter) bytes

-- ---- writing
-- measuring and placing answer the length of the field, or the refusal
abbrev pub measured_code : Measured → ℕ
measured_code (length_is n) = n
measured_code (refused_with k n) = code_of (refused k n)

-- the number of a call that is lent nothing to write: the refusal of the lent record, or what the call gives
abbrev pub code_or : Reply → ℕ → ℕ
code_or accepted code = code
code_or (refused k n) code = code_of (refused k n)

-- `yewdome_party_measure` (document 02, Two)
abbrev pub party_measure : List ℕ → ℕ
party_measure bytes = code_or (argument_reply bytes) (measured_code (measure (content (decoded bytes))))

-- what placing gives, in these terms
abbrev pub placed_call : Placing → Called
placed_call c = record { code = measured_code c.answer; bytes = c.buffer }

-- `yewdome_party_place` (document 02, Two)
abbrev pub party_place : List ℕ → List ℕ → Called
party_place bytes buffer = after_checks (argument_reply bytes) (placed_call (place (content (decoded bytes)) buffer)) buffer

-- ---- pages
-- a read of a page as a number: a refusal's × 4,294,967,296, or 65,536 at the end, and how many bytes it moved past
abbrev pub read_code : ReadOutcome → ℕ → ℕ
read_code (a_record p) moved = moved
read_code the_end moved = position_room + moved
read_code (a_refusal k n) moved = packed (code_of (refused k n)) moved

-- a read at a position, in these terms
abbrev pub read_call : PageRead → ℕ → List ℕ → Called
read_call r at bytes = record { code = read_code r.outcome (r.next - at); bytes = read_bytes r.outcome bytes }

-- `yewdome_page_read`
abbrev pub page_read : List ℕ → ℕ → List ℕ → Called
page_read page at bytes = read_call (read_lent page at bytes) at bytes

-- a lookup, in these terms: the read at the field's position, or a refusal, which moves past no byte
abbrev pub looked_into : Looked → List ℕ → Called
looked_into (found r) bytes = read_call r.gave r.at bytes
looked_into (not_found k n) bytes = record { code = packed (code_of (refused k n)) 0; bytes = bytes }

-- `yewdome_page_look_up` (document 02, Three)
abbrev pub page_look_up : List ℕ → List ℕ → ℕ → List ℕ → Called
page_look_up page index k bytes = looked_into (look_lent page index k bytes) bytes

-- `yewdome_page_body`: the body's place in the page × 4,294,967,296, and its length
abbrev pub page_body : List ℕ → ℕ → ℕ
page_body page at = packed (body_place page at).start (body_place page at).len

-- adding and closing answer the position after, or the refusal
abbrev pub filed_code : Filed → ℕ
filed_code (position_after n) = n
filed_code (refusal k n) = code_of (refused k n)

-- what they give, in these terms
abbrev pub filed : Call → Called
filed c = record { code = filed_code c.answer; bytes = c.buffer }

-- `yewdome_page_add`, without an index, and `yewdome_page_add_indexed`, with one (document 02, Three)
abbrev pub page_add : List ℕ → List ℕ → ℕ → IndexState → Called
page_add bytes buffer at b = after_checks (argument_reply bytes) (filed (add buffer at b (content (decoded bytes)))) buffer

-- what stands beside a page after a call that passes these tests; one that does not changes no number
abbrev pub index_after_checks : Reply → IndexState → IndexState → IndexState
index_after_checks accepted after b = after
index_after_checks (refused k n) after b = b

-- what stands beside the page after `yewdome_page_add_indexed`
abbrev pub page_add_index : List ℕ → List ℕ → ℕ → IndexState → IndexState
page_add_index bytes buffer at b = index_after_checks (argument_reply bytes) (add_index buffer at b (content (decoded bytes))) b

-- `yewdome_page_close`
abbrev pub page_close : List ℕ → ℕ → Called
page_close buffer at = filed (close buffer at)

-- ---- what is kept
-- a cause's number, where it is told
abbrev pub cause : Bool → ℕ → ℕ
cause true n = n
cause false n = 0

-- the causes as a number, a bit for each
abbrev pub causes_code : Causes → ℕ
causes_code c = cause c.inner_cr 1 + cause c.last_lf 2 + cause c.after_bic 4 + cause c.blanks 8 + cause c.closing_cr 16

-- what is told of a body by an option or choice that is known or not: 41, the reading's refusal, or the causes
abbrev pub kept_code : Bool → Kept → ℕ
kept_code known k = code_or (must known 41 0 then k.reply) (causes_code k.causes)

-- `yewdome_kept_read`
abbrev pub kept_read_code : ℕ → List ℕ → ℕ
kept_read_code option body = kept_code (leb option 10) (kept_read (option_at option) body)

-- `yewdome_kept_parse`
abbrev pub kept_parse_code : ℕ → List ℕ → ℕ
kept_parse_code choice body = kept_code (leb choice 6) (kept_parse (choice_at choice) body)

-- `yewdome_kept_parse_with_variant`
abbrev pub kept_variant_code : ℕ → List ℕ → ℕ → ℕ
kept_variant_code choice body letter = kept_code (leb choice 6) (kept_parse_with_variant (choice_at choice) body letter)

-- a read of a page, or the filing of its record, as a number: a record has its field's causes × 131,072 beside the bytes moved past
abbrev pub caused_code : ReadOutcome → ℕ → Causes → ℕ
caused_code (a_record p) moved c = causes_code c * causes_unit + moved
caused_code the_end moved c = read_code the_end moved
caused_code (a_refusal k n) moved c = read_code (a_refusal k n) moved

-- an answer to a read with these causes
abbrev pub caused_number : List ℕ → Read → ReadOutcome → ℕ
caused_number page r x = caused_code x (r.gave.next - r.at) (causes_by page r.at x)

-- `yewdome_page_kept`
abbrev pub page_kept : List ℕ → ℕ → ℕ
page_kept page at = caused_number page (read_here page at) (read_at page at).outcome

-- ---- whole pages
-- the interface's own number, tested before all else: 43 where no more numbers are lent for the answers than the page has bytes
abbrev pub answers_reply : List ℕ → List ℕ → Reply
answers_reply page answers = must (ltb (length page) (length answers)) 43 0

-- an answer to a read as a number, with the bytes that the read moved past
abbrev pub answer_number : Read → ReadOutcome → ℕ
answer_number r x = read_code x (r.gave.next - r.at)

-- the read's own, as `yewdome_page_read` gives it
abbrev pub read_number : Read → ℕ
read_number r = answer_number r r.gave.outcome

-- what listing a page gives: how many answers it has, or the refusal, and the lent numbers after it
pub record Listing : Type 0 where
  pub code : ℕ
  pub answers : List ℕ

-- the answers are put at the start, and no other number changes; a refusal changes none
abbrev pub listing : Reply → List ℕ → List ℕ → Listing
listing accepted numbers answers = record { code = length numbers; answers = put answers 0 numbers }
listing (refused k n) numbers answers = record { code = code_of (refused k n); answers = answers }

-- `yewdome_page_answers`: the reads of a page, from its start to the last
abbrev pub page_answers : List ℕ → List ℕ → Listing
page_answers page answers = listing (answers_reply page answers) (map read_number (reads page)) answers

-- filing a read's record, as a step with its answer as a number, which tells of a filed field by which causes it is other bytes than came
abbrev pub number_step : List ℕ → OpenPage → Read → Step OpenPage ℕ
number_step page s r =
    let c = file_step s r in
    record { state = c.state; answer = caused_number page r c.answer }

-- the reads of a page as a run of these, from an empty page in a buffer
abbrev pub file_numbers : List ℕ → List ℕ → Run OpenPage ℕ
file_numbers page buffer = run (number_step page) (open_page buffer 0) (reads page)

-- what filing a page gives: its number, and the lent bytes and numbers after it
pub record Filing : Type 0 where
  pub code : ℕ
  pub bytes : List ℕ
  pub answers : List ℕ

-- the new page is closed: how many answers there are × 4,294,967,296, and the page's length or the refusal to close it; 43 changes nothing
abbrev pub filing : Reply → Run OpenPage ℕ → List ℕ → List ℕ → Filing
filing accepted w buffer answers =
    let c = page_close w.state.buffer w.state.position in
    record { code = packed (length w.answers) c.code; bytes = c.bytes; answers = put answers 0 w.answers }
filing (refused k n) w buffer answers = record { code = code_of (refused k n); bytes = buffer; answers = answers }

-- `yewdome_page_file`: the records that a page's reads give, filed on a new page in a buffer
abbrev pub page_file : List ℕ → List ℕ → List ℕ → Filing
page_file page buffer answers = filing (answers_reply page answers) (file_numbers page buffer) buffer answers
