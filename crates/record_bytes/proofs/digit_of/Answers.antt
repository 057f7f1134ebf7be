-- `record_bytes::digit_of` meets its contract.
-- Assumes nothing.
use mathlib.Core.Path.{sym}
use Rattle.std.proofs.lemmas.Option.{MatchOption-at_none}
use Rattle.record_bytes.proofs.Laws.{chunk_digit, digit_short, digit_past}
use Rattle.record_bytes.proofs.digit_of.Goals as goal

pub returns-in-Some : goal.returns-in-Some
returns-in-Some c = sym (chunk_digit c.in-Some.ensures.cases c.args.i c.if-i-lt4.true)

pub returns-in_default : goal.returns-in_default
returns-in_default c = sym (digit_past c.args.s.now c.args.i c.if-i-lt4.false)

pub returns-in_default-2 : goal.returns-in_default-2
returns-in_default-2 c = sym (digit_short c.args.s.now c.args.i (MatchOption-at_none _ _ c.in_default.is c.first_chunk.ensures.cases))
