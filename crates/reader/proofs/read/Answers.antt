-- `reader::read` meets its contract: the record that the room holds. Assumes nothing.
use mathlib.Core.Path.{◌∙◌, ap}
use native.Mathlib.Omega.{arith}
use lib.ListN.{replicate}
use Rattle.record_bytes.specs.RecordBytes.{record_size}
use Rattle.reader.specs.Reading.{told_answer}
use Rattle.reader.specs.Options.{read}
use Rattle.reader.proofs.Loading.{read_back, answered}
use Rattle.reader.proofs.read.Goals as goal

pub returns : goal.returns
returns c =
    let a = c.args in
    ap told_answer c.answer_from.ensures
    ∙ answered (read a.option a.body.now) c.read_into-outcome.result (replicate record_size 0) _ (read_back a.option a.body.now) (omega arith) c.read_into-outcome.ensures
