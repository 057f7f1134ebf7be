-- `page_reader::index::field_here` meets its contract, by what stands at the position. Assumes nothing.
use mathlib.Core.Path.{sym, ◌∙◌}
use Rattle.page_reader.proofs.Cases.{ends_by}
use Rattle.page_reader.proofs.index.field_here.Goals as goal

pub field_in-requires : goal.field_in-requires
field_in-requires c =
    let s = ends_by c.args.page.now c.args.entry.position (sym c.read_case.ensures ∙ c.in-Opening.is) in (s.from, s.most)
