-- `record_bytes::text_at` meets its contract: a part of 38 bytes fills a text.
-- Assumes nothing.
use native.Mathlib.Omega.{arith}
use Rattle.record_bytes.proofs.Laws.{text_here}
use Rattle.record_bytes.proofs.text_at.Goals as goal

pub returns : goal.returns
returns c = text_here c.args.record.now c.args.n c.text_of.result (omega arith) c.slot-slot.ensures c.text_of.ensures
