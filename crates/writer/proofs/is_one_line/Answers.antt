-- `writer::is_one_line` meets its contract: a finder that reaches the end finds no LF. Assumes nothing.
use mathlib.Core.Path.{◌∙◌, ap}
use native.Mathlib.Nat.{zero-add}
use lib.Dec.{leb}
use lib.ListN.{length}
use Rattle.writer.proofs.Texts.{no_lf}
use Rattle.writer.proofs.is_one_line.Goals as goal

pub returns : goal.returns
returns c =
    let x = c.args.text.now in
    ap (leb (length x)) (c.find_lf.ensures ∙ zero-add _) ∙ no_lf x
