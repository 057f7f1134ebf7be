-- `page_reader::body_in` meets its contract. Assumes nothing.
use mathlib.Core.Path.{sym, ◌∙◌, ap}
use native.Mathlib.Omega.{arith}
use Rattle.page_reader.specs.Code.{told_tag}
use Rattle.page_reader.proofs.Bodies.{body_short}
use Rattle.page_reader.proofs.body_in.Goals as goal

pub overflow_sub-result : goal.overflow_sub-result
overflow_sub-result c = omega (arith, body_short c.args.text.now (ap told_tag (sym c.in-Some.is) ∙ c.parse_tag.ensures))
