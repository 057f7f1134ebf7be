-- `record_bytes::text_length` meets its contract.
-- Assumes nothing.
use mathlib.Core.Path.{sym, ap}
use Rattle.std.proofs.lemmas.Option.{MatchOption-at_none}
use Rattle.party.specs.declared.Text.{Text}
use Rattle.record_bytes.proofs.Laws.{chunk_length, text_short, text_past}
use Rattle.record_bytes.proofs.text_length.Goals as goal

pub returns-in-Some : goal.returns-in-Some
returns-in-Some c = sym (chunk_length c.in-Some.ensures.cases c.args.n c.if-n-lt6.true c.slot.ensures)

pub returns-in_default : goal.returns-in_default
returns-in_default c = sym (ap (λ (t : Text). t.len) (text_past c.args.s.now c.args.n c.if-n-lt6.false))

pub returns-in_default-2 : goal.returns-in_default-2
returns-in_default-2 c = sym (text_short c.args.s.now c.args.n (MatchOption-at_none _ _ c.in_default.is c.first_chunk.ensures.cases))
