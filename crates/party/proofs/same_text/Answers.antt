-- Texts of one length hold the same where the bytes that they use are.
use Rattle.std.proofs.Common.{ap}
use Rattle.std.proofs.lemmas.Bool.Decides.{Decides-eqb}
use Rattle.std.proofs.lemmas.Slice.Eq.{slice_eq-Decides}
use Rattle.party.specs.Text.{Used, used}
use Rattle.party.proofs.Laws.{decides_as, decides_so, used_same}
use Rattle.party.proofs.same_text.Goals as goal

pub returns-then-t-u : goal.returns-then-t-u
returns-then-t-u c =
    let t = c.args.t.now in
    let u = c.args.u.now in
    used_same t u c.if-t-u.true (decides_so (slice_eq-Decides Decides-eqb (used t).bytes (used u).bytes _ (rw (c.used.ensures, c.used-then-t-u.ensures) at c.eq.ensures)))

pub returns-else-t-u : goal.returns-else-t-u
returns-else-t-u c = decides_as (λ e. absurd (c.if-t-u.false e)) (ap (λ (w : Used). w.len)) (decides_so (Decides-eqb _ _))
