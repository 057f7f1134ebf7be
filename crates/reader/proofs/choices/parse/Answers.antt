-- `choices::parse` meets its contract: the record that the room holds. Assumes nothing.
use mathlib.Core.Path.{◌∙◌, ap}
use native.Mathlib.Omega.{arith}
use lib.ListN.{replicate}
use Rattle.record_bytes.specs.RecordBytes.{record_size}
use Rattle.reader.specs.Reading.{told_answer}
use Rattle.reader.specs.Choices.{parse}
use Rattle.reader.proofs.ByValue.{parse_back}
use Rattle.reader.proofs.Loading.{answered}
use Rattle.reader.proofs.choices.parse.Goals as goal

pub returns : goal.returns
returns c =
    let a = c.args in
    ap told_answer c.answer_from.ensures
    ∙ answered (parse a.choice a.body.now) c.parse_into-outcome.result (replicate record_size 0) _ (parse_back a.choice a.body.now) (omega arith) c.parse_into-outcome.ensures
