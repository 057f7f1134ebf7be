-- `kept::has_cr_lf` meets its contract: some pair of neighbours is CR and LF. Assumes nothing.
use mathlib.Core.Path.{◌∙◌}
use borrow.Author.Tests.{tests}
use Rattle.std.proofs.Common.{rules}
use Rattle.std.proofs.lemmas.Iterator.Search.{any_from_yields_List}
use Rattle.kept.proofs.Laws.{is_cr_lf, yields_pairs, crlf_pairs}
use Rattle.kept.proofs.has_cr_lf.Goals as goal

pub returns : goal.returns
returns c =
    let s = c.args.s.now in
    any_from_yields_List is_cr_lf _ _ _ c.any.ensures.ran (yields_pairs s c.windows.ensures.rest c.windows.ensures.size) (λ x b q k. search (rules, tests))
    ∙ crlf_pairs s
