-- `page_reader::index::find` meets its contract, by the tests of a lookup. Assumes nothing.
use mathlib.Core.Path.{◌≡◌, sym, ◌∙◌, ap, subst}
use mathlib.Core.Bool.{true}
use mathlib.Core.List.{List}
use Prim.Native.Nat.{ℕ, ◌≤◌}
use lib.ListN.{length}
use Rattle.std.specs.Prelude.{Result, Ok, Err}
use Rattle.errors.specs.declared.ParseError.{ParseError}
use Rattle.errors.specs.Refusals.{refusal_of}
use Rattle.page_reader.specs.declared.index.Place.{Place}
use Rattle.page_reader.specs.Pages.{page_most, read_case}
use Rattle.page_reader.specs.Reads.{read_here}
use Rattle.page_reader.specs.Index.{Entry, has_entry, entry_of, found, not_found, look_up}
use Rattle.page_reader.specs.Code.{IsField, HoldsBy, Finds}
use Rattle.page_reader.proofs.Entries.{look_long, look_no_entry, look_by}
use Rattle.page_reader.proofs.index.find.Goals as goal

-- by what stands at the entry's position
module _ (page index : List ℕ) (k : ℕ) (fits : length page ≤ page_most) where
  finds : {e : Entry} → has_entry index k ≡ true → entry_of index k ≡ e → (r : Result Place ParseError) → HoldsBy (read_case page e.position) page e r → Finds page index k r
  finds m q (Ok p) h = subst (λ (x : ℕ). IsField (read_case page x) page p × (look_up page index k ≡ found (read_here page x))) (sym h.0) (h.1, look_by page index k fits m q h.2)
  finds m q (Err x) h = look_by page index k fits m q h.1 ∙ ap (λ (y : ParseError). not_found (refusal_of y).number (refusal_of y).line) (sym h.0)

pub returns-then-page-gt-PAGE_MOST : goal.returns-then-page-gt-PAGE_MOST
returns-then-page-gt-PAGE_MOST c = look_long c.args.page.now c.args.index.now c.args.k c.if-page-gt-PAGE_MOST.true

pub returns-in_default : goal.returns-in_default
returns-in_default c = look_no_entry c.args.page.now c.args.index.now c.args.k c.if-page-gt-PAGE_MOST.false c.in_default.ensures

pub returns : goal.returns
returns c =
    let a = c.args in finds a.page.now a.index.now a.k c.if-page-gt-PAGE_MOST.false c.in-Some.ensures.0 c.in-Some.ensures.1 c.field_here.result c.field_here.ensures
