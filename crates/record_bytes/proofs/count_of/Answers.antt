-- `record_bytes::count_of` meets its contract, by the test of the bytes. Assumes nothing.
use Rattle.std.proofs.Common.{arith}
use Rattle.std.proofs.lemmas.Grind.{common_steps}
use Rattle.record_bytes.specs.RecordBytes.{party_from}
use Rattle.record_bytes.proofs.count_of.Goals as goal

pub returns : goal.returns
unfolding party_from
returns c = grind (arith, common_steps)
