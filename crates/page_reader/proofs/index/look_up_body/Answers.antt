-- `page_reader::index::look_up_body` meets its contract, by where the field stands. Assumes nothing.
use mathlib.Core.Path.{sym, ◌∙◌, ap}
use Rattle.page_reader.specs.Pages.{PageRead}
use Rattle.page_reader.specs.Index.{body_of}
use Rattle.page_reader.proofs.Entries.{field_read}
use Rattle.page_reader.proofs.index.look_up_body.Goals as goal

pub returns-in-Ok : goal.returns-in-Ok
returns-in-Ok c = ap (λ (r : PageRead). r.body) (sym (field_read c.args.page.now c.in-Ok.ensures.0)) ∙ ap body_of (sym c.in-Ok.ensures.1)
