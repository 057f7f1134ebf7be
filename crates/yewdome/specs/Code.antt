-- The working forms of the private functions: what keeps a number within 32 bits, and the loop over a page.
use Rattle.std.specs.Prelude.{ℕ, ◌+◌, ◌≤◌, ◌<◌, ◌≡◌, Bool, true, false, ◌||◌, List, Option, Some, None, Result, Ok, Err, leb, eqb, ok_or}
use Rattle.errors.specs.declared.ParseError.{ParseError}
use Rattle.errors.specs.Refusals.{Reply, accepted, refused, told_error}
use Rattle.reader.specs.Options.{body_most}
use Rattle.writer.specs.Writing.{field_most}
use Rattle.writer.specs.Placing.{Measured, length_is, refused_with}
use Rattle.writer.specs.Code.{Puts}
use Rattle.page_reader.specs.Pages.{page_most, ReadOutcome, Kind, a_record_given, the_end_given, a_refusal_given, Outline}
use Rattle.page_reader.specs.Reads.{Read, reads}
use Rattle.page_writer.specs.Adding.{Filed, position_after, refusal}
use Rattle.page_writer.specs.Fold.{Step, Run, run}
use Rattle.page_writer.specs.WholePage.{OpenPage}
use Rattle.record_bytes.specs.RecordBytes.{record_size}
use Rattle.yewdome.specs.declared.CallError.{CallError}
use Rattle.yewdome.specs.declared.CallError.TheVariants.{NoneSuch, ShortAnswers, Refused}
use Rattle.yewdome.specs.Filing.{file_outcome, open_page}
use Rattle.yewdome.specs.Interface.{position_room, packed, code_of, answer_number, caused_number}

-- ---- the tests of what is lent
-- a call's refusal: the interface's own, or that of the crates below
abbrev pub told_call_error : CallError → Reply
told_call_error NoneSuch = refused 41 0
told_call_error ShortAnswers = refused 43 0
told_call_error (Refused e) = told_error e

-- what they gave
abbrev pub told_check : {T : Type 0} → Result T CallError → Result T Reply
told_check (Ok x) = Ok x
told_check (Err e) = Err (told_call_error e)

-- what passes them, or their refusal
abbrev pub allowed : {T : Type 0} → Reply → T → Result T Reply
allowed accepted x = Ok x
allowed (refused k n) x = Err (refused k n)

-- what is asked for by a place that names it or nothing, where a lent record has so many bytes
abbrev pub checked : {T : Type 0} → ℕ → Option T → Result T Reply
checked len o = elim (leb record_size len) [ true ↦ ok_or o (refused 41 0) | false ↦ Err (refused 42 0) ]

-- ---- numbers within 32 bits
-- a refusal has a number from 1 on, and a line of at most 2,048
abbrev pub Named : Reply → Type 0
Named accepted = Unit {0}
Named (refused k n) = (1 ≤ k) × (n ≤ body_most)

-- and a length is at most that of the longest field
abbrev pub Measurable : Measured → Type 0
Measurable (length_is n) = n ≤ field_most
Measurable (refused_with k n) = Named (refused k n)

-- or a position is at most 32,768
abbrev pub Within : Filed → Type 0
Within (position_after n) = n ≤ page_most
Within (refusal k n) = Named (refused k n)

-- a value is below 65,536
abbrev pub Small : Result ℕ ParseError → Type 0
Small (Ok n) = n < position_room
Small (Err e) = Named (told_error e)

-- the answer as a number
abbrev pub answer_code : Result ℕ ParseError → ℕ
answer_code (Ok n) = n
answer_code (Err e) = code_of (told_error e)

-- a read of a page: its refusal is named, and it moves past at most 32,768 bytes
abbrev pub IsMove : Kind → ℕ → Type 0
IsMove a_record_given moved = moved ≤ page_most
IsMove the_end_given moved = moved ≤ page_most
IsMove (a_refusal_given k n) moved = Named (refused k n) × (moved ≤ page_most)

-- as a number
abbrev pub move_code : Kind → ℕ → ℕ
move_code a_record_given moved = moved
move_code the_end_given moved = position_room + moved
move_code (a_refusal_given k n) moved = packed (code_of (refused k n)) moved

-- ---- the loop over a page
-- a read as the loop takes it: its record is filed, or it is read alone
abbrev pub outcome_by : Bool → OpenPage → ReadOutcome → Step OpenPage ReadOutcome
outcome_by true s x = file_outcome s x
outcome_by false s x = record { state = s; answer = x }

-- its answer as a number: with the causes where its record is filed
abbrev pub answer_by : Bool → List ℕ → Read → ReadOutcome → ℕ
answer_by true page r x = caused_number page r x
answer_by false page r x = answer_number r x

-- with its answer as a number
abbrev pub step_by : Bool → List ℕ → OpenPage → Read → Step OpenPage ℕ
step_by files page s r =
    let c = outcome_by files s r.gave.outcome in
    record { state = c.state; answer = answer_by files page r c.answer }

-- the whole loop
abbrev pub walk_by : Bool → List ℕ → List ℕ → Run OpenPage ℕ
walk_by files page buffer = run (step_by files page) (open_page buffer 0) (reads page)

-- a read that gives a record
abbrev pub is_record : Kind → Bool
is_record a_record_given = true
is_record the_end_given = false
is_record (a_refusal_given k n) = false

-- a read that gives the end
abbrev pub ends : Kind → Bool
ends a_record_given = false
ends the_end_given = true
ends (a_refusal_given k n) = false

-- where the read after one is: nowhere after the end, or after one that does not move on
abbrev pub follows : Outline → ℕ → Option ℕ
follows r at = elim (ends r.kind || eqb r.next at) [ true ↦ None | false ↦ Some r.next ]

-- a step of the code: its answer, with the buffer and the position that it left
abbrev pub told_step : ℕ → List ℕ → ℕ → Step OpenPage ℕ
told_step answer buffer position = record { state = open_page buffer position; answer = answer }

-- the loop leaves the open page of the definition, and its answers at the start of the lent numbers
pub record Walks (files : Bool) (page buffer answers : List ℕ) (count position : ℕ) (bytes numbers : List ℕ) : Type 0 where
  pub state : open_page bytes position ≡ (walk_by files page buffer).state
  pub puts : Puts answers 0 (walk_by files page buffer).answers numbers count
