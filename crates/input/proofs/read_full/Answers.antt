-- `read_full` puts what the input loses, and no more than the room has. Assumes nothing.
use Rattle.std.proofs.Common.{◌≡◌, ℕ, ◌+◌, ◌≤◌, List, [], ◌++◌, rules, length, take, Option, Result, Ok, Err, sym, ap, ◌∙◌, subst, le_refl, drop_at, length-take-le}
use Rattle.std.proofs.lemmas.Slice.{take-put_mid_below}
use Rattle.std.specs.Io.{ReadsAtMost}
use Rattle.std.specs.Io.KnownBytes.{Consumes, ReadConsumes}
use Rattle.std.specs.Result.{result_unwrap_or}
use Rattle.std.proofs.KnownBytes.{Consumes-nil, Consumes-trans, Consumes-kept}
use borrow.Rule.Slice.PartMut.{put_mid, post_of}
use lib.Seq.{take-add, take-append-le}
use Rattle.input.proofs.read_full.Goals as goal

-- the first of the room and then the first of what a read put after them are the first of the room as it is then
joined : (a k n : ℕ) (xs ys : List ℕ) → a ≤ length xs → n ≤ length ys → take a xs ++ take n ys ≡ take (a + n) (put_mid a k xs ys)
joined a k n xs ys within fits =
    let room = put_mid a k xs ys in
    let front = ap (λ l. l ++ take n ys) (sym (take-put_mid_below a k xs ys a (le_refl a) within)) in
    let part = drop_at (take a xs) (ys ++ post_of a k xs) a (length-take-le a xs within) in
    front ∙ ap (λ l. take a room ++ l) (sym (ap (take n) part ∙ take-append-le n ys _ fits)) ∙ sym (take-add a n room)

-- what a read gives, a failure as 0, is no more than it had room for, and what it put there is what the input loses
given : {E : Type 0} (a b : Option (List ℕ)) (r : Result ℕ E) (ys : List ℕ) → ReadsAtMost r ys → ReadConsumes a b r ys
    → (result_unwrap_or r 0 ≤ length ys) × Consumes a b (take (result_unwrap_or r 0) ys)
given a b (Ok n) ys p q = (p.0, q.0)
given a b (Err e) ys p q = (search rules, Consumes-kept a a b [] (Consumes-nil a) q)

-- what is put so far is what the input has lost, after a read too
more : {E : Type 0} (a b c : Option (List ℕ)) (r : Result ℕ E) (at k n : ℕ) (xs ys : List ℕ) → at ≤ length xs → Consumes a b (take at xs)
    → ReadsAtMost r ys → ReadConsumes b c r ys → n ≡ result_unwrap_or r 0 → Consumes a c (take (at + n) (put_mid at k xs ys))
more a b c r at k n xs ys within before p q e =
    let new = given b c r ys p q in
    let m = result_unwrap_or r 0 in
    subst (λ i. Consumes a c (take (at + i) (put_mid at k xs ys))) (sym e)
    (subst (Consumes a c) (joined at k m xs ys within new.0) (Consumes-trans a b c _ _ before new.1))

pub loop-n-preserved : goal.loop-n-preserved
loop-n-preserved g c =
    let before = c.loop-n.invariant in
    let read = c.read.ensures in
    let fits = given _ _ c.read.result _ read.bound read.bytes in
    (search (rules, fits.0, c.unwrap_or.ensures), more _ _ _ _ _ _ _ _ _ before.0 before.1 read.bound read.bytes c.unwrap_or.ensures)
