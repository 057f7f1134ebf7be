-- `writer::Lent::put_rest` meets its contract. Assumes nothing.
use mathlib.Core.Path.{◌≡◌}
use Prim.Native.Nat.{◌+◌, ◌≤◌}
use lib.ListN.{length}
use Rattle.party.specs.Text.{used}
use Rattle.record_bytes.specs.RecordBytes.{laid_out}
use mathlib.Core.List.{◌++◌}
use Rattle.writer.specs.Code.{lead, names_on, rest_on}
use Rattle.writer.specs.Lent.{lent_head}
use Rattle.writer.proofs.Fields.{rest_names, rest_bic}
use Rattle.writer.proofs.Puts.{space, space_first, moves_both, moves_as}
use Rattle.writer.proofs.Lent.put_rest.Goals as goal
use Rattle.writer.proofs.Lent.put_rest.Goals.{Else-limits-eq0, Then-limits-eq0}

-- the names, where the option has no BIC
names :
    (t : Then-limits-eq0) → let p = laid_out t.args.self.now.bytes.now in
    rest_on (lent_head t.args.self.now) p ≡ names_on (lent_head t.args.self.now) p
names t = rest_names (lent_head t.args.self.now) (laid_out t.args.self.now.bytes.now) (rw t.limits.ensures at t.if-limits-eq0.true)

-- or the BIC
bic :
    (e : Else-limits-eq0) → let p = laid_out e.args.self.now.bytes.now in
    rest_on (lent_head e.args.self.now) p ≡ lead (lent_head e.args.self.now) ++ (used p.bic).bytes
bic e = rest_bic (lent_head e.args.self.now) (laid_out e.args.self.now.bytes.now) (rw e.limits.ensures at e.if-limits-eq0.false)

room :
    (e : Else-limits-eq0) → let a = e.args in
    a.out.now.at + length (lead (lent_head a.self.now) ++ (used (laid_out a.self.now.bytes.now).bic).bytes) ≤ length a.out.now.buf.now
room e = rw (bic e) at e.requires

pub put_names-requires : goal.put_names-requires
put_names-requires c = rw (names (goal.at.put_names-requires c).Then-limits-eq0) at c.requires

pub returns-then-limits-eq0 : goal.returns-then-limits-eq0
returns-then-limits-eq0 c = rw (names (goal.at.returns-then-limits-eq0 c).Then-limits-eq0) c.put_names.ensures

pub put_lf-requires : goal.put_lf-requires
put_lf-requires c =
    let a = c.args in
    rw c.has_head.ensures
    (space_first a.out.now.buf.now a.out.now.at (lead (lent_head a.self.now)) (used (laid_out a.self.now.bytes.now).bic).bytes (room (goal.at.put_lf-requires c).Else-limits-eq0))

pub put_bytes-requires : goal.put_bytes-requires
put_bytes-requires c =
    let a = c.args in
    rw c.bic.ensures (space (lead (lent_head a.self.now)) (used (laid_out a.self.now.bytes.now).bic).bytes (rw c.has_head.ensures at c.put_lf.ensures.puts) (room (goal.at.put_bytes-requires c).Else-limits-eq0))

pub returns-else-limits-eq0 : goal.returns-else-limits-eq0
returns-else-limits-eq0 c =
    let e = (goal.at.returns-else-limits-eq0 c).Else-limits-eq0 in
    let a = c.args in
    rw (bic e) (moves_both (lead (lent_head a.self.now)) (used (laid_out a.self.now.bytes.now).bic).bytes (rw c.has_head.ensures at c.put_lf.ensures) (room e) (moves_as c.bic.ensures c.put_bytes.ensures))
