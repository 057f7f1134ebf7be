-- `record_bytes::holds_record` meets its contract: each test is one of the definition's. Assumes nothing.
use Rattle.record_bytes.specs.RecordBytes.{holds_record}
use Rattle.record_bytes.proofs.holds_record.Goals as goal
use Rattle.std.proofs.Common.{rules}

pub returns-then-has_option : goal.returns-then-has_option
unfolding holds_record
returns-then-has_option c = search rules

pub returns-else-has_option : goal.returns-else-has_option
unfolding holds_record
returns-else-has_option c = search rules
