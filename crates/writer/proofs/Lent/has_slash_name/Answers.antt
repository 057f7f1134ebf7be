-- `writer::Lent::has_slash_name` meets its contract. Assumes nothing.
use mathlib.Core.Path.{◌≡◌, sym, ◌∙◌, ap}
use native.Mathlib.Omega.{arith}
use Rattle.party.specs.Party.{content}
use Rattle.field_utils.specs.Lines.{starts}
use Rattle.record_bytes.specs.RecordBytes.{laid_out}
use Rattle.record_bytes.proofs.Laws.{laid_names}
use Rattle.writer.specs.Code.{slash_name}
use Rattle.writer.proofs.Names.{names_in, content_names, names_next}
use Rattle.writer.proofs.Lent.has_slash_name.Goals as goal
use Rattle.writer.proofs.Lent.has_slash_name.Goals.{After-name_count}

names : (k : After-name_count) → let p = laid_out k.args.self.now.bytes.now in (content p).names ≡ names_in k.name_count.result p
names k = content_names (laid_out k.args.self.now.bytes.now) (laid_names k.args.self.now.bytes.now) k.name_count.ensures.value

pub returns-then-name_count-ne0 : goal.returns-then-name_count-ne0
returns-then-name_count-ne0 c =
    let p = laid_out c.args.self.now.bytes.now in
    c.starts_with_slash.ensures ∙ ap (starts 47) c.name.ensures
    ∙ sym (ap slash_name (names (goal.at.returns-then-name_count-ne0 c).After-name_count ∙ names_next p (laid_names c.args.self.now.bytes.now) c.name_count.ensures.value 0 (omega arith)))

pub returns-else-name_count-ne0 : goal.returns-else-name_count-ne0
returns-else-name_count-ne0 c = rw (names (goal.at.returns-else-name_count-ne0 c).After-name_count, c.if-name_count-ne0.false)
