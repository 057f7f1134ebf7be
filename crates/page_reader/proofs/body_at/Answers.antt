-- `page_reader::body_at` meets its contract: the part at the body's place is the body. Assumes nothing.
use native.Mathlib.Omega.{arith}
use Rattle.page_reader.proofs.Bodies.{part_there, place_there}
use Rattle.page_reader.proofs.body_at.Goals as goal

pub overflow_add-result : goal.overflow_add-result
overflow_add-result c = omega (arith, (place_there c.args.page.now c.args.at c.body_place-start.ensures).within)

pub slice_bounds-result-end : goal.slice_bounds-result-end
slice_bounds-result-end c = omega (arith, (place_there c.args.page.now c.args.at c.body_place-start.ensures).within)

pub returns : goal.returns
returns c = part_there (place_there c.args.page.now c.args.at c.body_place-start.ensures)
