-- `writer::Lent::put_parts` meets its contract: tag, account or identifier and the rest are put one after the other. Assumes nothing.
use Prim.Native.Nat.{ℕ, ◌+◌, ◌≤◌}
use mathlib.Core.Path.{◌≡◌, refl}
use mathlib.Core.List.{List, ◌++◌}
use lib.ListN.{length}
use Rattle.party.specs.declared.Party.{Party}
use Rattle.party.specs.Party.{content}
use Rattle.party.specs.Text.{used}
use Rattle.field_utils.specs.Tags.{tag_of}
use Rattle.record_bytes.specs.RecordBytes.{laid_out}
use Rattle.writer.specs.Writing.{written_field}
use Rattle.writer.specs.Code.{head_of, rest_on}
use Rattle.writer.specs.Lent.{lent_head}
use Rattle.writer.proofs.Fields.{lent_parts}
use Rattle.writer.proofs.Puts.{space, space_first, moves_both}
use Rattle.writer.proofs.Lent.put_parts.Goals as goal
use Rattle.writer.proofs.Lent.put_parts.Goals.{Start, After-put_tag}

module _ (h : Start) where
  abbrev p : Party
  p = laid_out h.args.self.now.bytes.now

  abbrev tag : List ℕ
  tag = tag_of h.args.self.now.option

  abbrev head : List ℕ
  head = head_of p.option (lent_head h.args.self.now) (used p.account)

  abbrev tail : List ℕ
  tail = rest_on (lent_head h.args.self.now) p

  -- the parts, by what the function knows of the account or identifier
  parts : written_field (content p) ≡ tag ++ (head ++ tail)
  parts = lent_parts p h.args.self.now.option_is refl

  -- they have space
  room : h.args.out.now.at + length (tag ++ (head ++ tail)) ≤ length h.args.out.now.buf.now
  room = rw parts at h.requires

rest : (t : After-put_tag) → let h = (goal.at.After-put_tag t).Start in t.put_tag.new.self.at + length (head h ++ tail h) ≤ length t.put_tag.new.self.buf.now
rest t = let h = (goal.at.After-put_tag t).Start in space (tag h) (head h ++ tail h) t.put_tag.ensures.puts (room h)

pub put_tag-requires : goal.put_tag-requires
put_tag-requires c =
    let h = (goal.at.put_tag-requires c).Start in
    space_first c.args.out.now.buf.now c.args.out.now.at (tag h) (head h ++ tail h) (room h)

pub put_account-requires : goal.put_account-requires
put_account-requires c =
    let at = goal.at.put_account-requires c in
    let h = at.Start in
    space_first c.put_tag.new.self.buf.now c.put_tag.new.self.at (head h) (tail h) (rest at.After-put_tag)

pub put_rest-requires : goal.put_rest-requires
put_rest-requires c =
    let at = goal.at.put_rest-requires c in
    let h = at.Start in
    space (head h) (tail h) c.put_account.ensures.puts (rest at.After-put_tag)

pub returns : goal.returns
returns c =
    let at = goal.at.returns c in
    let h = at.Start in
    rw (parts h) (moves_both (tag h) (head h ++ tail h) c.put_tag.ensures (room h) (moves_both (head h) (tail h) c.put_account.ensures (rest at.After-put_tag) c.put_rest.ensures))
