-- `record_bytes::store` meets its contract: the record's bytes stand before those that were there after them.
-- Assumes nothing.
use mathlib.Core.Path.{◌∙◌, sym, ap}
use mathlib.Core.List.{List, ◌++◌}
use Prim.Native.Nat.{ℕ}
use lib.ListN.{drop}
use Rattle.std.proofs.lemmas.Option.{MatchOption-at_none}
use Rattle.record_bytes.specs.RecordBytes.{record_size}
use Rattle.record_bytes.proofs.Laws.{stored_whole, stored_none}
use Rattle.record_bytes.proofs.store.Goals as goal

pub returns-in_default-clause-out_after : goal.returns-in_default-clause-out_after
returns-in_default-clause-out_after c = sym (stored_none c.args.p c.args.out.now (MatchOption-at_none _ _ c.in_default.is c.first_chunk_mut.ensures.cases))

pub returns-clause-out_after : goal.returns-clause-out_after
returns-clause-out_after c =
    let d = c.args.out.now in
    ap (λ (l : List ℕ). l ++ drop record_size d) c.put_record.ensures ∙ sym (stored_whole c.args.p d c.in-Some.ensures.cases.enough)
