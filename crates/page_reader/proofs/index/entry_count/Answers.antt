-- `page_reader::index::entry_count` meets its contract. Assumes nothing.
use mathlib.Core.Path.{sym, ◌∙◌}
use Rattle.page_reader.proofs.Entries.{entries_length}
use Rattle.page_reader.proofs.index.entry_count.Goals as goal

pub returns-clause-value : goal.returns-clause-value
returns-clause-value c = c.min.ensures ∙ sym (entries_length c.args.index.now c.told-index)
