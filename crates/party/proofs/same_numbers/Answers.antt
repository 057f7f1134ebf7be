-- The digits up to the count decide.
use Rattle.std.proofs.Common.{◌≡◌, length, arith}
use Rattle.party.proofs.Laws.{decides_taken}
use Rattle.party.proofs.same_numbers.Goals as goal

pub returns-in-Numbered : goal.returns-in-Numbered
returns-in-Numbered c =
    let p = c.args.p.now.digits in
    let q = c.args.q.now.digits in
    let h : length p ≡ 4 = omega arith in
    let k : length q ≡ 4 = omega arith in
    rw (c.in-Numbered.is) (decides_taken p q c.args.count 4 c.min-n.result h k c.min-n.ensures c.eq.ensures)
