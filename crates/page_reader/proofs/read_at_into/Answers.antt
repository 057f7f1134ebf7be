-- `page_reader::read_at_into` meets its contract: 42, then by what stands at the position. Assumes nothing.
use mathlib.Core.Path.{◌≡◌, refl, sym, ◌∙◌, ap, subst}
use mathlib.Core.List.{List, ◌++◌}
use Prim.Native.Nat.{ℕ}
use lib.ListN.{drop}
use Rattle.std.specs.Prelude.{Option, Result, Ok, None, Err}
use Rattle.errors.specs.declared.ParseError.{ParseError}
use Rattle.errors.specs.declared.ParseError.TheVariants.{PageTooLong, Position, PageLength, StrayLine}
use Rattle.record_bytes.specs.RecordBytes.{record_size}
use Rattle.page_reader.specs.declared.PageRead.{PageRead as ReadAt}
use Rattle.page_reader.specs.declared.ReadCase.{ReadCase}
use Rattle.page_reader.specs.Pages.{PageRead, past, read_field, text_in, read_case, read_by, read_lent, read_bytes, outline, told_kind, told_read_into}
use Rattle.page_reader.proofs.Cases.{ends_by, Leaves, Tells, tells_by, field_tells, tells_front, lent_whole}
use Rattle.page_reader.proofs.read_at_into.Goals as goal
use Rattle.page_reader.proofs.read_at_into.Goals.{After-read_case}

abbrev gave : Result (Option (Unit {0})) ParseError → ℕ → ReadAt (Unit {0})
gave o n = record { outcome = o; next = n }

-- which case it is, and the bytes that were lent
module _ (k : After-read_case) where
  abbrev page : List ℕ
  page = k.args.page.now

  abbrev at : ℕ
  at = k.args.at

  abbrev lent : List ℕ
  lent = k.args.«record».now

  abbrev room : List ℕ
  room = k.in-Some.room.now

  case_of : {x : ReadCase} → k.read_case.result ≡ x → read_case page at ≡ x
  case_of e = sym k.read_case.ensures ∙ e

  told_by : {x : ReadCase} → k.read_case.result ≡ x → (r : ReadAt (Unit {0})) {e : List ℕ} → Tells r (read_by x page at) room e
      → (record { result_value : told_read_into r ≡ outline (read_lent page at lent); bytes : e ++ drop record_size lent ≡ read_bytes (read_lent page at lent).outcome lent })
  told_by {x} q r {e} h =
      let size = k.in-Some.ensures.cases.enough in
      let t = subst (λ (y : PageRead). Tells r y lent (e ++ drop record_size lent)) (sym (lent_whole page at lent size)) (tells_by page at (case_of q) r lent (tells_front r (read_by x page at) lent k.in-Some.ensures.cases h)) in
      record { result_value = t.0; bytes = t.1 }

pub text_in-requires : goal.text_in-requires
text_in-requires c =
    let k = (goal.at.text_in-requires c).After-read_case in
    let s = ends_by (page k) (at k) (case_of k c.in-Opening.is) in (s.from, s.most)

pub returns-in-TooLong : goal.returns-in-TooLong
returns-in-TooLong c = told_by (goal.at.returns-in-TooLong c).After-read_case c.in-TooLong.is (gave (Err PageTooLong) c.args.at) (refl, refl)

pub returns-in-NoStart : goal.returns-in-NoStart
returns-in-NoStart c = told_by (goal.at.returns-in-NoStart c).After-read_case c.in-NoStart.is (gave (Err Position) c.args.at) (refl, refl)

pub returns-in-AtLength : goal.returns-in-AtLength
returns-in-AtLength c = told_by (goal.at.returns-in-AtLength c).After-read_case c.in-AtLength.is (gave (Err PageLength) c.args.at) (refl, refl)

pub returns-in-Opening : goal.returns-in-Opening
returns-in-Opening c =
    let k = (goal.at.returns-in-Opening c).After-read_case in
    let w = c.read_field_into-outcome.result in
    let h = c.read_field_into-outcome.ensures in
    told_by k c.in-Opening.is (gave w c.past.result)
    (field_tells (text_in (page k) (at k) c.in-Opening.to) (past (page k) c.in-Opening.to) (gave w c.past.result) (room k) c.past.ensures
    (subst (λ (l : List ℕ). Leaves (told_kind w) (read_field l 0).outcome (room k) c.read_field_into-outcome.new.record) c.text_in.ensures (h.result_value, h.bytes)))

pub returns-in-Ending : goal.returns-in-Ending
returns-in-Ending c =
    told_by (goal.at.returns-in-Ending c).After-read_case c.in-Ending.is (gave (Ok None) c.past-in-Ending.result) (ap (λ (n : ℕ). told_read_into (gave (Ok None) n)) c.past-in-Ending.ensures, refl)

pub returns-in-Stray : goal.returns-in-Stray
returns-in-Stray c =
    told_by (goal.at.returns-in-Stray c).After-read_case c.in-Stray.is (gave (Err StrayLine) c.past-in-Stray.result) (ap (λ (n : ℕ). told_read_into (gave (Err StrayLine) n)) c.past-in-Stray.ensures, refl)
