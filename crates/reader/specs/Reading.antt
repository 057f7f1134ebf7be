-- What a reader gives: a record or a refusal (document 01, 'From the input' and 'Rust forms and their Rattle stand-ins').
use Rattle.std.specs.Prelude.{ℕ, Bool, List, leb, length, Result, Ok, Err}
use Rattle.errors.specs.Refusals.{Reply, accepted, refused, must, ◌then◌, told_error, told}
use Rattle.errors.specs.declared.ParseError.{ParseError}
use Rattle.party.specs.declared.PartyOption.{PartyOption}
use Rattle.party.specs.declared.Party.{Party}
use Rattle.party.specs.Text.{text_of, four, four_texts}
use Rattle.party.specs.Party.{blank}
use Rattle.record_bytes.specs.RecordBytes.{record_size, stored, decoded}

-- accepted with a record, or refused; the record beside a refusal is the blank one
pub record Reading : Type 0 where
  pub reply : Reply
  pub party : Party

-- the record, where the checks pass
abbrev pub giving : Reply → Party → Reading
giving accepted p = record { reply = accepted; party = p }
giving (refused k n) p = record { reply = refused k n; party = blank }

-- an answer of the code in document 01's terms
abbrev pub told_answer : Result Party ParseError → Reading
told_answer (Ok p) = record { reply = accepted; party = p }
told_answer (Err e) = record { reply = told_error e; party = blank }

-- a reading into lent bytes: what was said of the body, and the bytes after it
pub record Into : Type 0 where
  pub reply : Reply
  pub bytes : List ℕ

-- the record is stored at their start; a refusal changes no byte
abbrev pub storing : Reply → Party → List ℕ → Into
storing accepted p bytes = record { reply = accepted; bytes = stored p bytes }
storing (refused k n) p bytes = record { reply = refused k n; bytes = bytes }

-- what a reading leaves in bytes that are as many as a record's
abbrev pub leaves : Reading → List ℕ → Into
leaves r bytes = storing r.reply r.party bytes

-- 42, which document 01 has not: under 241 bytes are lent for the record
abbrev pub room_reply : ℕ → Reply
room_reply len = must (leb record_size len) 42 0

-- what a reading leaves in lent bytes: 42 comes before everything else
abbrev pub read_into : Reading → List ℕ → Into
read_into r bytes = storing (room_reply (length bytes) then r.reply) r.party bytes

-- an answer of the code with the bytes that it left
abbrev pub told_into : Result (Unit {0}) ParseError → List ℕ → Into
told_into outcome bytes = record { reply = told outcome; bytes = bytes }

-- the answer of an outcome, with the record that bytes hold
abbrev pub answer_from : Result (Unit {0}) ParseError → List ℕ → Result Party ParseError
answer_from (Ok t) bytes = Ok (decoded bytes)
answer_from (Err e) bytes = Err e

-- what an option finds in a body: what its checks say in their order, whether the body gave an account or identifier, that text, the
-- BIC, and the names, each with its digit, 0 but in 50F; a text that the option has not is empty
pub record Found : Type 0 where
  pub reply : Reply
  pub present : Bool
  pub account : List ℕ
  pub bic : List ℕ
  pub names : List (List ℕ)
  pub digits : List ℕ

-- the record of what an option found
unfoldable pub party_of : PartyOption → Found → Party
party_of o f = record {
  option = o;
  present = f.present;
  account = text_of f.account;
  bic = text_of f.bic;
  count = length f.names;
  name_and_address = four_texts f.names;
  digits = four 0 f.digits;
}
