-- `writer::Cursor::put_tag` meets its contract: its bytes are put one after the other. Assumes nothing.
use Prim.Native.Nat.{ℕ, ◌+◌, ◌/◌, ◌%◌, ◌≤◌}
use mathlib.Core.Path.{◌≡◌}
use mathlib.Core.List.{List, [], ◌∷◌, ◌++◌}
use native.Mathlib.Omega.{arith}
use lib.ListN.{length}
use Rattle.party.specs.declared.Limits.{Limits}
use Rattle.field_utils.specs.Tags.{capital, tag_of}
use Rattle.writer.proofs.Puts.{space, space_first, moves_both, moves_as}
use Rattle.writer.proofs.Cursor.put_tag.Goals as goal
use Rattle.writer.proofs.Cursor.put_tag.Goals.{After-limits_of-limits, After-put, After-put-2, After-put-3}

-- what is left of the tag before each byte
module _ (k : After-limits_of-limits) where
  abbrev limits : Limits
  limits = k.limits_of-limits.result.now

  abbrev letter : List ℕ
  letter = capital limits.letter ++ 58 ∷ []

  abbrev ones : List ℕ
  ones = (48 + limits.field % 10) ∷ letter

  abbrev tens : List ℕ
  tens = (48 + limits.field / 10) ∷ ones

  tag : 58 ∷ tens ≡ tag_of k.args.option
  unfolding tag_of
  tag = rw k.limits_of-limits.ensures

  room : k.args.self.now.at + length (58 ∷ tens) ≤ length k.args.self.now.buf.now
  room = rw (← tag) at k.requires

-- what is left has space
room-2 : (p : After-put) → let k = (goal.at.After-put p).After-limits_of-limits in p.put.new.self.at + length (tens k) ≤ length p.put.new.self.buf.now
room-2 p = let k = (goal.at.After-put p).After-limits_of-limits in space (58 ∷ []) (tens k) p.put.ensures.puts (room k)

room-3 : (p : After-put-2) → let k = (goal.at.After-put-2 p).After-limits_of-limits in p.put-2.new.self.at + length (ones k) ≤ length p.put-2.new.self.buf.now
room-3 p =
    let at = goal.at.After-put-2 p in
    let k = at.After-limits_of-limits in
    space ((48 + (limits k).field / 10) ∷ []) (ones k) p.put-2.ensures.puts (room-2 at.After-put)

room-4 : (p : After-put-3) → let k = (goal.at.After-put-3 p).After-limits_of-limits in p.put-3.new.self.at + length (letter k) ≤ length p.put-3.new.self.buf.now
room-4 p =
    let at = goal.at.After-put-3 p in
    let k = at.After-limits_of-limits in
    space ((48 + (limits k).field % 10) ∷ []) (letter k) p.put-3.ensures.puts (room-3 at.After-put-2)

pub put-requires : goal.put-requires
put-requires c = let r = room (goal.at.put-requires c).After-limits_of-limits in omega arith

pub put-requires-2 : goal.put-requires-2
put-requires-2 c = let r = room-2 (goal.at.put-requires-2 c).After-put in omega arith

pub put-requires-3 : goal.put-requires-3
put-requires-3 c = let r = room-3 (goal.at.put-requires-3 c).After-put-2 in omega arith

pub put_letter-requires : goal.put_letter-requires
put_letter-requires c =
    let at = goal.at.put_letter-requires c in
    space_first c.put-3.new.self.buf.now c.put-3.new.self.at (capital (limits at.After-limits_of-limits).letter) (58 ∷ []) (room-4 at.After-put-3)

pub put-requires-4 : goal.put-requires-4
put-requires-4 c =
    let at = goal.at.put-requires-4 c in
    let r = space (capital (limits at.After-limits_of-limits).letter) (58 ∷ []) c.put_letter.ensures.puts (room-4 at.After-put-3) in
    omega arith

pub returns : goal.returns
returns c =
    let at = goal.at.returns c in
    let k = at.After-limits_of-limits in
    moves_as (tag k)
    (moves_both (58 ∷ []) (tens k) c.put.ensures (room k)
    (moves_both ((48 + (limits k).field / 10) ∷ []) (ones k) c.put-2.ensures (room-2 at.After-put)
    (moves_both ((48 + (limits k).field % 10) ∷ []) (letter k) c.put-3.ensures (room-3 at.After-put-2)
    (moves_both (capital (limits k).letter) (58 ∷ []) c.put_letter.ensures (room-4 at.After-put-3) c.put-4.ensures))))
