-- `page_writer::note` meets its contract: four numbers are stored. Assumes nothing.
use native.Mathlib.Omega.{arith}
use Prim.Native.Nat.{ℕ, ◌+◌, ◌*◌, ◌-◌}
use lib.ListN.{set}
use mathlib.Core.Path.{◌∙◌, ap}
use Rattle.party.specs.Limits.{place_of}
use Rattle.page_writer.proofs.Noting.{stored}
use Rattle.page_writer.proofs.note.Goals as goal

pub returns : goal.returns
returns c =
    let a = c.args in
    let h = c.requires in
    let d = a.index.now in
    let e = stored d a.count (place_of a.option) a.at (a.next - a.at - 1) (omega (arith, h.size, h.free)) h.entries in
    ap (λ (t : ℕ). set (set (set (set d (3 * a.count + 1) t) (3 * a.count + 2) a.at) (3 * a.count + 3) (a.next - a.at - 1)) 0 (a.count + 1)) c.index_of.ensures ∙ e
