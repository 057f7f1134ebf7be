-- `record_bytes::used_text` meets its contract.
-- Assumes nothing.
use mathlib.Core.Path.{◌≡◌}
use mathlib.Core.List.{[]}
use Rattle.std.proofs.lemmas.Option.{MatchOption-at_none}
use Rattle.party.specs.declared.Text.{Text}
use Rattle.party.specs.Text.{used}
use Rattle.record_bytes.proofs.Laws.{chunk_used, text_short, text_past}
use Rattle.record_bytes.proofs.used_text.Goals as goal
use Rattle.record_bytes.proofs.used_text.Goals.{in_default-via-in-Some+else-n-lt6, in_default-via-in_default}

empty : (t : Text) → t.len ≡ 0 → [] ≡ (used t).bytes
empty t e = rw e

pub returns-in-Some : goal.returns-in-Some
returns-in-Some c = chunk_used c.in-Some.ensures.cases c.args.n c.if-n-lt6.true c.slot-slot.ensures c.min-len.ensures

pub returns-in_default : goal.returns-in_default
returns-in_default c =
    let s = c.args.s.now in
    let n = c.args.n in
    elim c.in_default.branch [
      | in_default-via-in-Some+else-n-lt6 w ↦ rw (text_past s n w.if-n-lt6.false)
      | in_default-via-in_default w ↦ empty _ (text_short s n (MatchOption-at_none _ _ w.in_default.is c.first_chunk.ensures.cases))
    ]
