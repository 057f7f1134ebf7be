-- `writer::Lent::all_names` meets its contract: each name's test is asked by its place. Assumes nothing.
use mathlib.Core.Path.{◌∙◌, sym, ap}
use mathlib.Core.List.{List}
use borrow.Author.Tests.{tests}
use Rattle.std.proofs.Common.{rules, arith}
use Rattle.std.proofs.lemmas.Iterator.{YieldsList-from_range}
use Rattle.std.proofs.lemmas.Iterator.Search.{all_from_yields_List}
use Rattle.party.specs.Limits.{limits_of}
use Rattle.party.specs.Text.{Used}
use Rattle.record_bytes.specs.RecordBytes.{laid_out}
use Rattle.record_bytes.proofs.Laws.{laid_names}
use Rattle.writer.specs.Code.{all_names}
use Rattle.writer.proofs.Names.{name_passes, content_names, all_places}
use Rattle.writer.proofs.Lent.all_names.Goals as goal

pub returns : goal.returns
returns c =
    let p = laid_out c.args.self.now.bytes.now in
    let four = laid_names c.args.self.now.bytes.now in
    let count = c.name_count.ensures.value in
    let f = (limits_of p.option).numbering in
    let longest = (limits_of p.option).name_max in
    all_from_yields_List (name_passes p f longest) _ _ _ c.all.ensures.ran
    (YieldsList-from_range 0 c.name_count.result c.name_count.result (cc) (omega arith)) (λ x b q k. search (rules, tests))
    ∙ all_places p four count f longest 0 c.name_count.result (omega arith)
    ∙ ap (λ (us : List Used). all_names f longest 1 p.digits us) (sym (content_names p four count))
