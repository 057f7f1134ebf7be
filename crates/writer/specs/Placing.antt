-- Measuring a record's field and placing it in a buffer: 22, then 24 (document 02, Two).
use Rattle.std.specs.Prelude.{ℕ, ◌≤◌, ◌<◌, ◌≡◌, List, ◌++◌, Result, Ok, Err, length, drop}
use Rattle.errors.specs.declared.ParseError.{ParseError}
use Rattle.errors.specs.Refusals.{Reply, accepted, refused, must, ◌then◌, refusal_of}
use Rattle.party.specs.Party.{Content}
use Rattle.writer.specs.Writing.{written_field, field_most, put, fits}
use Rattle.writer.specs.Given.{is_given}

-- measuring and placing answer the length of the field, or a refusal with its number and line
pub data Measured : Type 0 where
  length_is : ℕ → Measured
  refused_with : ℕ → ℕ → Measured

-- a placing: its answer, and the buffer as it left it
pub record Placing : Type 0 where
  pub answer : Measured
  pub buffer : List ℕ

-- accepted, the answer is the length of a text
abbrev pub measuring : Reply → List ℕ → Measured
measuring accepted text = length_is (length text)
measuring (refused k n) text = refused_with k n

-- and the text is put at the start, and no other byte changes; a refusal changes none
abbrev pub placing : Reply → List ℕ → List ℕ → Placing
placing accepted text buffer = record { answer = measuring accepted text; buffer = put buffer 0 text }
placing (refused k n) text buffer = record { answer = measuring (refused k n) text; buffer = buffer }

-- measuring: 22, and no other
unfoldable pub measure : Content → Measured
measure s = measuring (must (is_given s) 22 0) (written_field s)

-- placing: 22, then 24 where the field passes the buffer
unfoldable pub place : Content → List ℕ → Placing
place s buffer = placing (must (is_given s) 22 0 then must (fits buffer 0 (written_field s)) 24 0) (written_field s) buffer

-- what the code's answer says
abbrev pub told_measured : Result ℕ ParseError → Measured
told_measured (Ok n) = length_is n
told_measured (Err e) = refused_with (refusal_of e).number (refusal_of e).line

-- with the buffer that it left
abbrev pub told_placing : Result ℕ ParseError → List ℕ → Placing
told_placing r buffer = record { answer = told_measured r; buffer = buffer }

-- a length n that was measured: the field has n bytes; n bytes of space are enough, and the first n are the field then; fewer are 24
pub record Space (s : Content) (n : ℕ) (buffer : List ℕ) : Type 0 where
  pub exact : n ≡ length (written_field s)
  pub enough : n ≤ length buffer → place s buffer ≡ record { answer = length_is n; buffer = written_field s ++ drop n buffer }
  pub short : length buffer < n → place s buffer ≡ record { answer = refused_with 24 0; buffer = buffer }

-- the pair: what placing does in a buffer, by what measuring answers
pub record Pair (s : Content) (buffer : List ℕ) : Type 0 where
  pub measured : {n : ℕ} → measure s ≡ length_is n → Space s n buffer
  -- a refusal to measure is 22, and that of placing, whatever the buffer
  pub unmeasured : {k l : ℕ} → measure s ≡ refused_with k l → (k ≡ 22) × (l ≡ 0) × (place s buffer ≡ record { answer = refused_with k l; buffer = buffer })
  -- a buffer of 187 bytes is large enough: there both answer the same
  pub agrees : field_most ≤ length buffer → (place s buffer).answer ≡ measure s
