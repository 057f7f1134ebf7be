-- Refusals as document 01 numbers them ('From the input' and 'From the state').
use Rattle.std.specs.Prelude.{ℕ, Bool, true, false, Result, Ok, Err}
use Rattle.errors.specs.declared.ParseError.{ParseError}
use Rattle.errors.specs.declared.ParseError.TheVariants.{LineCount, PartyIdentifier, IllegalByte, TooLong, NotNumbered, OutOfTurn, NameCount, BicMissing, BicLength, BicByte, NoOption, BodyTooLong, NotAscii, NotALetter, UnknownTag, StrayLine, PageLength, PageTooLong, Position, NoSuchRecord, NotCarried, NoSpace, NoEntry, OutsideProfile, ShortRecord}
use Rattle.errors.specs.declared.Refusal.{Refusal}

-- an answer in document 01's terms: accepted, or refused with a number and a body line or 0
pub data Reply : Type 0 where
  accepted : Reply
  refused : ℕ → ℕ → Reply

-- one check of the rules: what must hold, else the refusal with this number and line
abbrev pub must : Bool → ℕ → ℕ → Reply
must true k n = accepted
must false k n = refused k n

-- checks in their order: the first refusal
infixr 20 ◌then◌
abbrev pub ◌then◌ : Reply → Reply → Reply
accepted then r = r
refused k n then r = refused k n

-- a refusal's number and line
abbrev pub refusal_at : ℕ → ℕ → Refusal
refusal_at k n = record { number = k; line = n }

-- the number and line of each case; the line is 0 for 1, 7, 8 and from 11 on, but for 32 (document 02, Five); 42 is ours
abbrev pub refusal_of : ParseError → Refusal
refusal_of LineCount = refusal_at 1 0
refusal_of (PartyIdentifier n) = refusal_at 2 n
refusal_of (IllegalByte n) = refusal_at 3 n
refusal_of (TooLong n) = refusal_at 4 n
refusal_of (NotNumbered n) = refusal_at 5 n
refusal_of (OutOfTurn n) = refusal_at 6 n
refusal_of NameCount = refusal_at 7 0
refusal_of BicMissing = refusal_at 8 0
refusal_of (BicLength n) = refusal_at 9 n
refusal_of (BicByte n) = refusal_at 10 n
refusal_of NoOption = refusal_at 11 0
refusal_of BodyTooLong = refusal_at 12 0
refusal_of NotAscii = refusal_at 13 0
refusal_of NotALetter = refusal_at 14 0
refusal_of UnknownTag = refusal_at 15 0
refusal_of StrayLine = refusal_at 16 0
refusal_of PageLength = refusal_at 17 0
refusal_of PageTooLong = refusal_at 18 0
refusal_of Position = refusal_at 21 0
refusal_of NoSuchRecord = refusal_at 22 0
refusal_of NotCarried = refusal_at 23 0
refusal_of NoSpace = refusal_at 24 0
refusal_of NoEntry = refusal_at 31 0
refusal_of (OutsideProfile n) = refusal_at 32 n
refusal_of ShortRecord = refusal_at 42 0

-- a refusal in document 01's terms
abbrev pub told_error : ParseError → Reply
told_error e = refused (refusal_of e).number (refusal_of e).line

-- an answer with nothing beside it, in document 01's terms
abbrev pub told : Result (Unit {0}) ParseError → Reply
told (Ok t) = accepted
told (Err e) = told_error e
