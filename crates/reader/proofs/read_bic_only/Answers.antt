-- `reader::read_bic_only` meets its contract. Assumes nothing.
use mathlib.Core.Path.{sym, ◌∙◌, ap}
use mathlib.Core.List.{List}
use Prim.Native.Nat.{ℕ}
use Rattle.reader.specs.Reading.{party_of}
use Rattle.reader.specs.Options.{no_head, bic_only}
use Rattle.reader.specs.Code.{nameless}
use Rattle.reader.proofs.Readings.{accepting, whole_part}
use Rattle.reader.proofs.read_bic_only.Goals as goal

pub returns : goal.returns
unfolding party_of
returns c =
    let a = c.args in
    accepting a.option (bic_only a.body.now) a.body.now _ (sym c.in_ok-parse_bic.ensures)
    (c.nameless_parts.ensures a.body.now ∙ ap (λ (l : List ℕ). party_of a.option (nameless no_head l)) (whole_part a.body.now c.whole.ensures))
