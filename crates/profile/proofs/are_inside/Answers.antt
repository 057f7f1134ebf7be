-- `profile::are_inside` meets its contract: what is asked of each byte is what is asked of the line. Assumes nothing.
use mathlib.Core.Path.{◌∙◌}
use borrow.Author.Tests.{tests}
use Rattle.std.proofs.Common.{rules}
use Rattle.std.proofs.lemmas.Iterator.{YieldsList-from_slice}
use Rattle.std.proofs.lemmas.Iterator.Search.{all_from_yields_List}
use Rattle.profile.proofs.Laws.{byte_inside, bytes_inside}
use Rattle.profile.proofs.are_inside.Goals as goal

pub returns : goal.returns
returns c =
    let a = c.args in
    all_from_yields_List (byte_inside a.holds) _ _ _ c.all.ensures.ran (YieldsList-from_slice a.line.now cc) (λ x b q k. search (rules, tests))
    ∙ bytes_inside a.holds a.line.now
