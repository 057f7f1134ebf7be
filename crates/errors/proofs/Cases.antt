-- No two answers of the code say the same in document 01's terms, so a promise in those terms fixes the answer. Assumes nothing.
use mathlib.Core.Path.{◌≡◌, refl, sym, ◌∙◌, ap}
use mathlib.Core.Bool.{true, false}
use mathlib.Core.List.{List, [], ◌∷◌}
use Prim.Native.Nat.{ℕ}
use lib.Dec.{eqb}
use Rattle.errors.specs.declared.ParseError.{ParseError}
use Rattle.errors.specs.declared.ParseError.TheVariants.{LineCount, PartyIdentifier, IllegalByte, TooLong, NotNumbered, OutOfTurn, NameCount, BicMissing, BicLength, BicByte, NoOption, BodyTooLong, NotAscii, NotALetter, UnknownTag, StrayLine, PageLength, PageTooLong, Position, NoSuchRecord, NotCarried, NoSpace, NoEntry, OutsideProfile, ShortRecord}
use Rattle.std.specs.Prelude.{Result, Ok, Err}
use Rattle.errors.specs.Refusals.{Reply, accepted, refused, refusal_of, told}

-- the case with a number, at a line: the first row that has it
record Row : Type 0 where
  number : ℕ
  case : ParseError

abbrev find : ℕ → List Row → ParseError
find k [] = LineCount
find k (r ∷ rs) = elim (eqb k r.number) [ true ↦ r.case | false ↦ find k rs ]

abbrev rows : ℕ → List Row
rows n =
    record { number = 1; case = LineCount }
    ∷ record { number = 2; case = PartyIdentifier n }
    ∷ record { number = 3; case = IllegalByte n }
    ∷ record { number = 4; case = TooLong n }
    ∷ record { number = 5; case = NotNumbered n }
    ∷ record { number = 6; case = OutOfTurn n }
    ∷ record { number = 7; case = NameCount }
    ∷ record { number = 8; case = BicMissing }
    ∷ record { number = 9; case = BicLength n }
    ∷ record { number = 10; case = BicByte n }
    ∷ record { number = 11; case = NoOption }
    ∷ record { number = 12; case = BodyTooLong }
    ∷ record { number = 13; case = NotAscii }
    ∷ record { number = 14; case = NotALetter }
    ∷ record { number = 15; case = UnknownTag }
    ∷ record { number = 16; case = StrayLine }
    ∷ record { number = 17; case = PageLength }
    ∷ record { number = 18; case = PageTooLong }
    ∷ record { number = 21; case = Position }
    ∷ record { number = 22; case = NoSuchRecord }
    ∷ record { number = 23; case = NotCarried }
    ∷ record { number = 24; case = NoSpace }
    ∷ record { number = 31; case = NoEntry }
    ∷ record { number = 32; case = OutsideProfile n }
    ∷ record { number = 42; case = ShortRecord }
    ∷ []

case_found : (e : ParseError) → find (refusal_of e).number (rows (refusal_of e).line) ≡ e
case_found LineCount = refl
case_found (PartyIdentifier n) = refl
case_found (IllegalByte n) = refl
case_found (TooLong n) = refl
case_found (NotNumbered n) = refl
case_found (OutOfTurn n) = refl
case_found NameCount = refl
case_found BicMissing = refl
case_found (BicLength n) = refl
case_found (BicByte n) = refl
case_found NoOption = refl
case_found BodyTooLong = refl
case_found NotAscii = refl
case_found NotALetter = refl
case_found UnknownTag = refl
case_found StrayLine = refl
case_found PageLength = refl
case_found PageTooLong = refl
case_found Position = refl
case_found NoSuchRecord = refl
case_found NotCarried = refl
case_found NoSpace = refl
case_found NoEntry = refl
case_found (OutsideProfile n) = refl
case_found ShortRecord = refl

back : Reply → Result (Unit {0}) ParseError
back accepted = Ok tt
back (refused k n) = Err (find k (rows n))

back_told : (r : Result (Unit {0}) ParseError) → back (told r) ≡ r
unfolding back
back_told (Ok t) = refl
back_told (Err e) = ap Err (case_found e)

-- what two answers say is the same only if they are
pub told_one : (o p : Result (Unit {0}) ParseError) → told o ≡ told p → o ≡ p
told_one o p e = sym (back_told o) ∙ ap back e ∙ back_told p
