-- `page_reader::read_case` meets its contract. Assumes nothing.
use mathlib.Core.Path.{◌≡◌, sym, ◌∙◌, ap}
use mathlib.Core.Bool.{Bool, true}
use mathlib.Core.List.{List}
use Prim.Native.Nat.{ℕ}
use native.Mathlib.Omega.{arith}
use lib.ListN.{drop}
use Rattle.page_reader.specs.declared.ReadCase.TheVariants.{Opening, Ending, Stray}
use Rattle.page_reader.specs.Pages.{line_at, opens, ends_at, readable}
use Rattle.page_reader.proofs.Cases.{case_long, case_none, case_length, case_opening, case_ending, case_stray}
use Rattle.page_reader.proofs.read_case.Goals as goal
use Rattle.page_reader.proofs.read_case.Goals.{After-ends_at, After-opens_at, Else-not-is_readable}

-- the position is one to read at
readable_at : (e : Else-not-is_readable) → let a = e.args in readable a.page.now a.at ≡ true
readable_at e = sym e.is_readable.ensures ∙ e.if-not-is_readable.false

-- what the tests on the line there say
module _ (n : After-ends_at) where
  abbrev page : List ℕ
  page = n.args.page.now

  abbrev at : ℕ
  at = n.args.at

  ending : {t : Bool} → n.ends_at.result ≡ t → ends_at (drop at page) ≡ t
  ending q = sym n.ends_at.ensures ∙ q

opening : (o : After-opens_at) {t : Bool} → o.opens_at.result ≡ t → opens (line_at (drop (at (goal.at.After-opens_at o).After-ends_at) (page (goal.at.After-opens_at o).After-ends_at))) ≡ t
opening o q = sym o.opens_at.ensures ∙ q

pub returns-then-page-gt-PAGE_MOST : goal.returns-then-page-gt-PAGE_MOST
returns-then-page-gt-PAGE_MOST c =
    let a = c.args in sym (case_long a.page.now a.at (omega arith))

pub returns-then-not-is_readable : goal.returns-then-not-is_readable
returns-then-not-is_readable c =
    let a = c.args in sym (case_none a.page.now a.at (omega arith) (sym c.is_readable.ensures ∙ c.if-not-is_readable.true))

pub returns-then-page-at : goal.returns-then-page-at
returns-then-page-at c =
    let a = c.args in sym (case_length a.page.now a.at (omega arith) (readable_at (goal.at.returns-then-page-at c).Else-not-is_readable) (omega arith))

pub returns-then-ends_at : goal.returns-then-ends_at
returns-then-ends_at c =
    let g = goal.at.returns-then-ends_at c in
    ap Ending c.find_lf-to.ensures ∙ sym (case_ending (page g.After-ends_at) (at g.After-ends_at) (omega arith) (readable_at g.Else-not-is_readable) (omega arith) (ending g.After-ends_at c.if-ends_at.true))

pub returns-then-opens_at : goal.returns-then-opens_at
returns-then-opens_at c =
    let g = goal.at.returns-then-opens_at c in
    ap Opening c.field_end-to.ensures ∙ sym (case_opening (page g.After-ends_at) (at g.After-ends_at) (omega arith) (readable_at g.Else-not-is_readable) (omega arith) (opening g.After-opens_at c.if-opens_at.true))

pub returns : goal.returns
returns c =
    let g = goal.at.returns c in
    ap Stray c.field_end-to.ensures ∙ sym (case_stray (page g.After-ends_at) (at g.After-ends_at) (omega arith) (readable_at g.Else-not-is_readable) (omega arith) (opening g.After-opens_at c.if-opens_at.false) (ending g.After-ends_at c.if-ends_at.false))
