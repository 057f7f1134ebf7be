-- `choices::parse_with_variant` meets its contract: the record that the room holds. Assumes nothing.
use mathlib.Core.Path.{◌∙◌, ap}
use native.Mathlib.Omega.{arith}
use lib.ListN.{replicate}
use Rattle.record_bytes.specs.RecordBytes.{record_size}
use Rattle.reader.specs.Reading.{told_answer}
use Rattle.reader.specs.Choices.{parse_with_variant}
use Rattle.reader.proofs.ByValue.{variant_back}
use Rattle.reader.proofs.Loading.{answered}
use Rattle.reader.proofs.choices.parse_with_variant.Goals as goal

pub returns : goal.returns
returns c =
    let a = c.args in
    ap told_answer c.answer_from.ensures
    ∙ answered (parse_with_variant a.choice a.body.now a.letter) c.parse_with_variant_into-outcome.result (replicate record_size 0) _ (variant_back a.choice a.body.now a.letter) (omega arith) c.parse_with_variant_into-outcome.ensures
