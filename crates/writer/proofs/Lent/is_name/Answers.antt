-- `writer::Lent::is_name` meets its contract: the length, the number, the text's length, then all bytes. Assumes nothing.
use Prim.Native.Nat.{ℕ, ◌+◌, ◌-◌}
use mathlib.Core.Path.{◌≡◌, sym, ◌∙◌, ap}
use mathlib.Core.Bool.{Bool, not, ◌&&◌}
use native.Mathlib.Omega.{arith}
use lib.ListN.{length, drop, get_or, length-drop}
use Rattle.party.specs.Text.{Used, used}
use Rattle.swift_utils.specs.Bytes.{all, among}
use Rattle.swift_utils.specs.Classes.{plain}
use Rattle.record_bytes.specs.RecordBytes.{nth_text, laid_out}
use Rattle.record_bytes.proofs.Laws.{laid_size}
use Rattle.writer.specs.Given.{is_line}
use Rattle.writer.specs.Code.{number_in}
use Rattle.writer.proofs.Texts.{line_whole}
use Rattle.writer.proofs.Records.{in_turn, turn_room, name_not_line, name_not_turn, name_long, name_bytes}
use Rattle.writer.proofs.Lent.is_name.Goals as goal
use Rattle.writer.proofs.Lent.is_name.Goals.{After-is_in_turn, After-is_whole, After-number_length, Start}

module _ (s : Start) where
  abbrev digit : ℕ
  digit = get_or (laid_out s.args.self.now.bytes.now).digits s.args.i 0

  abbrev name : Used
  name = used (nth_text (2 + s.args.i) (laid_out s.args.self.now.bytes.now))

-- what the test of the length says
whole : (w : After-is_whole) {b : Bool} → w.is_whole.result ≡ b → let u = name (goal.at.After-is_whole w).Start in is_line u ≡ (b && not (among u.bytes 10))
whole w e =
    let s = w.args.self.now.bytes.now in
    let n = 2 + w.args.i in
    line_whole (nth_text n (laid_out s)) (laid_size s n (omega arith)) (sym w.is_whole.ensures ∙ e)

-- what the test of the number says
turn :
    (t : After-is_in_turn) {b : Bool} → t.is_in_turn.result ≡ b → let s = (goal.at.After-is_in_turn t).Start in
    in_turn t.args.numbering (t.args.i + 1) (digit s) (name s).bytes ≡ b
turn t e = rw (← t.digit_of.ensures, ← t.name-text.ensures) (sym t.is_in_turn.ensures ∙ e)

-- the length of the text after the number
text_length :
    (l : After-number_length) → length (drop (number_in l.args.numbering) (name (goal.at.After-number_length l).Start).bytes) ≡ length l.name-text.result.now - l.number_length.result
text_length l =
    omega (arith, length-drop (number_in l.args.numbering) (name (goal.at.After-number_length l).Start).bytes, ap length l.name-text.ensures, l.number_length.ensures)

pub returns-then-not-is_whole : goal.returns-then-not-is_whole
returns-then-not-is_whole c =
    let at = goal.at.returns-then-not-is_whole c in
    sym (name_not_line c.args.numbering c.args.longest (c.args.i + 1) (digit at.Start) (name at.Start) (whole at.After-is_whole c.if-not-is_whole.true))

pub returns-then-not-is_in_turn : goal.returns-then-not-is_in_turn
returns-then-not-is_in_turn c =
    let at = goal.at.returns-then-not-is_in_turn c in
    sym (name_not_turn c.args.numbering c.args.longest (c.args.i + 1) (digit at.Start) (name at.Start) (turn at.After-is_in_turn c.if-not-is_in_turn.true))

pub returns-then-longest-text : goal.returns-then-longest-text
returns-then-longest-text c =
    let at = goal.at.returns-then-longest-text c in
    sym (name_long c.args.numbering c.args.longest (c.args.i + 1) (digit at.Start) (name at.Start) (turn at.After-is_in_turn c.if-not-is_in_turn.false) (omega (arith, text_length at.After-number_length)))

pub returns : goal.returns
returns c =
    let at = goal.at.returns c in
    c.is_plain.ensures
    ∙ ap (all plain) c.name-text.ensures
    ∙ sym (name_bytes c.args.numbering c.args.longest (c.args.i + 1) (digit at.Start) (name at.Start) (turn at.After-is_in_turn c.if-not-is_in_turn.false) (omega (arith, text_length at.After-number_length))
    (whole at.After-is_whole c.if-not-is_whole.false))

pub overflow_sub-text : goal.overflow_sub-text
overflow_sub-text c =
    let at = goal.at.overflow_sub-text c in
    omega (arith, turn_room c.args.numbering (c.args.i + 1) (digit at.Start) (name at.Start).bytes (turn at.After-is_in_turn c.if-not-is_in_turn.false), ap length c.name-text.ensures, c.number_length.ensures)
