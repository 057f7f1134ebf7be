-- `writer::Lent::names_length` meets its contract: the lengths of the lines, added up, are that of the names. Assumes nothing.
use Prim.Native.Nat.{ℕ, ◌+◌, ◌^◌}
use mathlib.Core.Path.{◌∙◌}
use native.Mathlib.Omega.{arith}
use lib.ListN.{length}
use Rattle.std.proofs.Common.{rules}
use Rattle.std.proofs.lemmas.Iterator.{YieldsList-from_range, YieldsList-from_map}
use Rattle.std.proofs.lemmas.Iterator.Adapters.{fits_from_length, at_most_from_yields_List, total_from_yields_List}
use Rattle.std.proofs.lemmas.List.FromFn.{length-range_with_len}
use Rattle.record_bytes.specs.RecordBytes.{laid_out}
use Rattle.record_bytes.proofs.Laws.{laid_names}
use Rattle.writer.specs.Code.{name_on}
use Rattle.writer.specs.Lent.{lent_head}
use Rattle.writer.proofs.Names.{name_most, content_lines, lengths_sum, lengths_most}
use Rattle.writer.proofs.Lent.names_length.Goals as goal

pub sum-requires-clause-fits : goal.sum-requires-clause-fits
sum-requires-clause-fits c =
    let n = c.name_count.result in
    fits_from_length _ _ 4 (2 ^ 64)
    (at_most_from_yields_List (YieldsList-from_range 0 n n (cc) (omega arith)) (omega (arith, length-range_with_len 0 n)))
    c.map.ensures.closure (omega arith) (λ x r q k. search rules)

pub returns : goal.returns
returns c =
    let s = c.args.self.now.bytes.now in
    let p = laid_out s in
    let n = c.name_count.result in
    let head = lent_head c.args.self.now in
    let four = laid_names s in
    let count = c.name_count.ensures.value in
    let added =
    total_from_yields_List (λ (a x : ℕ). a + x) 0 c.sum.result c.sum.ensures.ran
    (YieldsList-from_map _ (λ (k : ℕ). length (name_on head k p)) (YieldsList-from_range 0 n n (cc) (omega arith)) c.map.ensures.closure (λ x r q k. search rules))
    ∙ lengths_sum p four count head 0 0 n (omega arith) in
    rw (content_lines p four count)
    (record { is = omega (arith, added); most = omega (arith, added, lengths_most p four count head (name_most s head) 0 n (omega arith)) })
