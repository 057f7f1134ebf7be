-- The bytes are those of the slice, and zeros.
use Rattle.std.proofs.Common.{◌≡◌, ◌∙◌, ℕ, ◌-◌, take, length, replicate, min, drop, arith}
use Rattle.std.proofs.lemmas.List.{length-take, drop-replicate}
use Rattle.party.specs.Text.{padded}
use Rattle.party.proofs.Laws.{padded_all}
use Rattle.party.proofs.text_of.Goals as goal

pub returns : goal.returns
unfolding padded
returns c =
    let s = c.args.s.now in
    let n = c.min-len.result in
    let least : n ≡ min 38 (length s) = omega arith in
    let zeros : drop {A = ℕ} n (replicate {A = ℕ} 38 0) ≡ replicate {A = ℕ} (38 - n) 0 = drop-replicate n 38 0 in
    let long : length (take n s) ≡ n = rw (length-take n s) (omega arith) in
    let rest : drop {A = ℕ} n (replicate {A = ℕ} 38 0) ≡ replicate {A = ℕ} (38 - length (take n s)) 0 = zeros ∙ rw long in
    rw (c.copy_from_slice.ensures.after, rest) (padded_all s n least)
