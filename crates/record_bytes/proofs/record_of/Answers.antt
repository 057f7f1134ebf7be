-- `record_bytes::record_of` meets its contract, by the test of the bytes. Assumes nothing.
use Prim.Native.Nat.{ℕ, ◌<◌}
use mathlib.Core.Path.{◌≡◌, sym, ◌∙◌}
use mathlib.Core.Bool.{true}
use mathlib.Core.List.{List}
use native.Mathlib.Omega.{arith}
use lib.ListN.{length}
use Rattle.std.specs.Prelude.{Option, Some, None, MatchOption}
use Rattle.std.specs.Array.{IsFirstChunk}
use Rattle.party.specs.Party.{blank}
use Rattle.record_bytes.specs.RecordBytes.{record_size, holds_record, party_from, decoded}
use Rattle.record_bytes.proofs.Laws.{loaded_not, holds_size, held_laid, chunk_party}
use Rattle.record_bytes.proofs.record_of.Goals as goal

by_chunk : {A : Type 0} (s : List ℕ) (f : A → List ℕ) (o : Option A) → MatchOption o (length s < record_size) (λ r. IsFirstChunk s (f r) record_size) → holds_record s ≡ true
    → MatchOption o (decoded s ≡ blank) (λ r. decoded s ≡ party_from (f r))
by_chunk s f None few e = absurd (omega (arith, few, holds_size s e))
by_chunk s f (Some r) chunk e = held_laid s e ∙ chunk_party chunk

pub returns-then-holds_record : goal.returns-then-holds_record
returns-then-holds_record c = by_chunk c.args.s.now (λ r. r.now) c.first_chunk.result c.first_chunk.ensures.cases (sym c.holds_record.ensures ∙ c.if-holds_record.true)

pub returns-else-holds_record : goal.returns-else-holds_record
returns-else-holds_record c = loaded_not _ (sym c.holds_record.ensures ∙ c.if-holds_record.false)
