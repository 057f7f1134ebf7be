-- `writer::Lent::put_names` meets its contract. The loop's invariant: the names passed are put, and the others are left. Assumes nothing.
use Prim.Native.Nat.{ℕ, suc, ◌+◌, ◌≤◌, ◌<◌}
use mathlib.Core.Path.{◌≡◌, ◌∙◌, ap}
use mathlib.Core.Bool.{Bool, true}
use mathlib.Core.List.{List, ◌++◌}
use native.Mathlib.Numerals.{add-one}
use lib.ListN.{length, drop}
use Rattle.party.specs.declared.Party.{Party}
use Rattle.party.specs.declared.Numbering.{Numbering}
use Rattle.party.specs.Limits.{limits_of}
use Rattle.party.specs.declared.Limits.{Limits}
use Rattle.record_bytes.specs.RecordBytes.{laid_out}
use Rattle.record_bytes.proofs.Laws.{laid_names, name_text}
use Rattle.writer.specs.Writing.{name_lines}
use Rattle.writer.specs.Code.{follows, led, name_on}
use Rattle.writer.specs.Lent.{lent_head}
use Rattle.writer.proofs.Names.{names_in, content_lines, left_next, left_end}
use Rattle.writer.proofs.Puts.{Partway, finished, next, next_space}
use Rattle.writer.proofs.Lent.put_names.Goals as goal
use Rattle.writer.proofs.Lent.put_names.Goals.{At-loop-i}

module _ (k : At-loop-i) where
  abbrev p : Party
  p = laid_out k.args.self.now.bytes.now

  abbrev f : Numbering
  f = (limits_of p.option).numbering

  abbrev n : ℕ
  n = k.name_count-n.result

  numbered : k.limits.result.now.numbering ≡ f
  numbered = ap (λ (l : Limits). l.numbering) k.limits.ensures

  abbrev head : Bool
  head = lent_head k.args.self.now

  abbrev whole : List ℕ
  whole = led head (name_lines f p.digits (names_in n p))

  room : k.args.out.now.at + length whole ≤ length k.args.out.now.buf.now
  room = rw (content_lines p (laid_names k.args.self.now.bytes.now) k.name_count-n.ensures.value) at k.requires

  -- the next line, and those after it
  abbrev line : List ℕ
  line = name_on head k.loop-i.i p

  abbrev later : List ℕ
  later = led true (name_lines f (drop (suc k.loop-i.i) p.digits) (drop (suc k.loop-i.i) (names_in n p)))

  turn : k.loop-i.i < n → Partway k.args.out.now.buf.now k.args.out.now.at whole k.loop-i.out.buf.now k.loop-i.out.at (line ++ later)
  turn inside =
      rw (left_next p (laid_names k.args.self.now.bytes.now) k.name_count-n.ensures.value f (follows head k.loop-i.i) k.loop-i.i inside, ← name_text p k.loop-i.i) at k.loop-i.invariant.puts

pub put_line-requires : goal.put_line-requires
put_line-requires c =
    let k = (goal.at.put_line-requires c).At-loop-i in
    rw (c.has_lf.ensures, numbered k, c.digit_of-digit.ensures, c.name.ensures) (next_space (line k) (later k) (turn k c.loop-i-test.true) (room k))

pub loop-i-preserved : goal.loop-i-preserved
loop-i-preserved c =
    let k = (goal.at.loop-i-preserved c).At-loop-i in
    let piece = rw (c.has_lf.ensures, numbered k, c.digit_of-digit.ensures, c.name.ensures) at c.put_line.ensures.puts in
    record {
      puts = rw (add-one c.loop-i.i) (next (line k) (later k) (turn k c.loop-i-test.true) (room k) piece);
      same_reference = c.put_line.ensures.same_reference ∙ c.loop-i.invariant.same_reference;
    }

pub returns : goal.returns
returns c =
    let k = (goal.at.returns c).At-loop-i in
    let four = laid_names c.args.self.now.bytes.now in
    let all = rw (left_end (p k) four c.name_count-n.ensures.value (f k) (follows (head k) c.loop-i.i) c.loop-i.i c.loop-i-test.false) at c.loop-i.invariant.puts in
    record { puts = rw (content_lines (p k) four c.name_count-n.ensures.value) (finished all); same_reference = c.loop-i.invariant.same_reference }
