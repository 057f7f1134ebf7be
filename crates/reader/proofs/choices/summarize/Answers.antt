-- `choices::summarize` meets its contract: no line, one, or more. Assumes nothing.
use mathlib.Core.Path.{◌∙◌, ap}
use Prim.Native.Nat.{ℕ, ◌+◌}
use lib.ListN.{length}
use Rattle.std.specs.Int.{from_bool}
use Rattle.std.specs.Option.{unwrap_or}
use Rattle.party.specs.Text.{part_in}
use Rattle.field_utils.specs.Identifier.{is_numbered}
use Rattle.field_utils.specs.Cursor.{no_place}
use Rattle.reader.proofs.Walks.{seen_by}
use Rattle.reader.proofs.choices.summarize.Goals as goal

pub invariant_of-result : goal.invariant_of-result
invariant_of-result c =
    let u = c.next-two.new.self in
    let s = u.text.now in
    let w = seen_by c.next-one.result c.next-two.result c.lines_of-rest.ensures.at c.next-one.ensures.steps c.next-two.ensures.steps in
    let first = c.part_of-first.ensures ∙ ap (part_in s) c.unwrap_or.ensures ∙ w.first in
    let second = c.part_of-second.ensures ∙ ap (part_in s) c.unwrap_or-2.ensures ∙ w.second in
    record {
      counted = (λ i. (c.from.ensures ∙ ap from_bool c.is_some.ensures) i + (c.from-2.ensures ∙ ap from_bool c.is_some-2.ensures) i + c.from-3.ensures i) ∙ w.counted;
      first_length = c.of.ensures.length ∙ ap (length {A = ℕ}) first;
      second_length = c.of-2.ensures.length ∙ ap (length {A = ℕ}) second;
      one = c.of.ensures.number ∙ ap is_numbered first;
      two = c.of-2.ensures.number ∙ ap is_numbered second;
      last_is = ap (part_in s) (c.unwrap_or-3.ensures ∙ ap (λ o. unwrap_or o no_place) c.or.ensures) ∙ w.last;
      later = w.later;
    }
