-- `record_bytes::put_record` meets its contract: the first three bytes, the texts and the digits are the record's bytes.
-- Assumes nothing.
use mathlib.Core.Path.{◌∙◌}
use native.Mathlib.Omega.{arith}
use Rattle.party.proofs.Values.{is_party}
use Rattle.record_bytes.proofs.Laws.{store_all, sizes}
use Rattle.record_bytes.proofs.put_record.Goals as goal

pub returns : goal.returns
returns c =
    let p = c.args.p in
    let whole = is_party p _ c.well_formed.0 in
    c.put_texts.ensures ∙ rw c.put_fields.ensures (store_all p c.args.record.now whole.size whole.digits (sizes p whole) (omega arith))
