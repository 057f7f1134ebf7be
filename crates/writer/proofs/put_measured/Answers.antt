-- `writer::put_measured` meets its contract. Assumes nothing.
use mathlib.Core.Path.{◌≡◌, sym, ◌∙◌, ap}
use mathlib.Core.Bool.{true}
use native.Mathlib.Omega.{arith}
use lib.ListN.{length}
use Rattle.party.specs.declared.Party.{Party}
use Rattle.party.specs.Party.{Content, blank, content}
use Rattle.record_bytes.specs.RecordBytes.{decoded, laid_out}
use Rattle.record_bytes.proofs.Laws.{loaded_not, held_laid}
use Rattle.writer.specs.Given.{is_given}
use Rattle.writer.specs.Placing.{length_is, Placing, measure, Space}
use Rattle.writer.specs.Writing.{written_field}
use Rattle.writer.proofs.Pairs.{blank_not, measure_22, measure_length, place_22, put_start, space}
use Rattle.writer.proofs.put_measured.Goals as goal
use Rattle.writer.proofs.put_measured.Goals.{After-written_length-n, Else-not-holds_record}

-- the bytes are a record
module _ (e : Else-not-holds_record) where
  abbrev p : Party
  p = laid_out e.args.«record».now

  holds : decoded e.args.«record».now ≡ p
  holds = held_laid e.args.«record».now (sym e.holds_record.ensures ∙ e.if-not-holds_record.false)

pub invariant_of-lent : goal.invariant_of-lent
invariant_of-lent c =
    let h = holds (goal.at.invariant_of-lent c).Else-not-holds_record in
    record {
      option_is = c.option_of.ensures ∙ ap (λ (q : Party). q.option) h;
      present_is = c.present_of.ensures ∙ ap (λ (q : Party). q.present) h;
      count_is = c.count_of.ensures ∙ ap (λ (q : Party). q.count) h;
    }

pub returns-then-not-holds_record : goal.returns-then-not-holds_record
returns-then-not-holds_record c =
    let a = c.args in
    rw (loaded_not a.«record».now (sym c.holds_record.ensures ∙ c.if-not-holds_record.true))
    (record {
      result_value = measure_22 (content blank) blank_not;
      buf_after = sym (ap (λ (x : Placing). x.buffer) (place_22 (content blank) a.buf.now blank_not));
    })

pub returns-then-not-is_given : goal.returns-then-not-is_given
returns-then-not-is_given c =
    let e = (goal.at.returns-then-not-is_given c).Else-not-holds_record in
    let not_given = sym c.is_given.ensures ∙ c.if-not-is_given.true in
    rw (holds e)
    (record {
      result_value = measure_22 (content (p e)) not_given;
      buf_after = sym (ap (λ (x : Placing). x.buffer) (place_22 (content (p e)) c.args.buf.now not_given));
    })

-- the record is given, and its field measured
module _ (w : After-written_length-n) where
  abbrev says : Content
  says = content (p (goal.at.After-written_length-n w).Else-not-holds_record)

  given : is_given says ≡ true
  given = sym w.is_given.ensures ∙ w.if-not-is_given.false

  here : Space says (length (written_field says)) w.args.buf.now
  here = space says w.args.buf.now given

  measured : length_is w.written_length-n.result ≡ measure says
  measured = measure_length says given w.written_length-n.ensures

pub returns-then-n-buf : goal.returns-then-n-buf
returns-then-n-buf c =
    let at = goal.at.returns-then-n-buf c in
    let w = at.After-written_length-n in
    rw (holds at.Else-not-holds_record)
    (record {
      result_value = measured w;
      buf_after = c.put_field.ensures ∙ put_start c.args.buf.now (written_field (says w)) ∙ sym (ap (λ (x : Placing). x.buffer) ((here w).enough (omega (arith, c.written_length-n.ensures))));
    })

pub returns-else-n-buf : goal.returns-else-n-buf
returns-else-n-buf c =
    let at = goal.at.returns-else-n-buf c in
    let w = at.After-written_length-n in
    rw (holds at.Else-not-holds_record)
    (record {
      result_value = measured w;
      buf_after = sym (ap (λ (x : Placing). x.buffer) ((here w).short (omega (arith, c.written_length-n.ensures))));
    })
