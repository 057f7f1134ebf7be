-- `writer::place_record` meets its contract: it measures for itself. Assumes nothing.
use mathlib.Core.Path.{◌≡◌, sym, ◌∙◌, ap}
use native.Mathlib.Omega.{arith}
use Rattle.std.specs.Prelude.{Result}
use Rattle.std.proofs.lemmas.Result.{err_from_is_err_and}
use Rattle.errors.specs.declared.ParseError.{ParseError}
use Prim.Native.Nat.{ℕ}
use Rattle.party.specs.Party.{Content, content}
use Rattle.record_bytes.specs.RecordBytes.{decoded}
use Rattle.writer.specs.Placing.{Measured, Placing, measure, place, told_measured}
use Rattle.writer.proofs.Pairs.{place_unmeasured, space_measured}
use Rattle.writer.proofs.place_record.Goals as goal
use Rattle.writer.proofs.place_record.Goals.{After-put_measured}

module _ (w : After-put_measured) where
  abbrev says : Content
  says = content (decoded w.args.«record».now)

  -- what was measured
  measured : {r : Result ℕ ParseError} → w.put_measured.result ≡ r → measure says ≡ told_measured r
  measured e = sym w.put_measured.ensures.result_value ∙ ap told_measured e

  -- placing, by what it answers
  answered : {a : Measured} → (place says w.args.buf.now).answer ≡ a → (record { answer = a; buffer = w.put_measured.new.buf }) ≡ place says w.args.buf.now
  answered e = λ i. record { answer = sym e i; buffer = w.put_measured.ensures.buf_after i }

pub returns-in_err-n : goal.returns-in_err-n
returns-in_err-n c =
    let w = (goal.at.returns-in_err-n c).After-put_measured in
    let e = err_from_is_err_and c.from_residual.result c.from_residual.ensures.1 in
    rw (e.1, e.2) (answered w (ap (λ (x : Placing). x.answer) (place_unmeasured (says w) c.args.buf.now (measured w c.in_err-n.was))))

pub returns-then-buf-n : goal.returns-then-buf-n
returns-then-buf-n c =
    let w = (goal.at.returns-then-buf-n c).After-put_measured in
    answered w (ap (λ (x : Placing). x.answer) ((space_measured (says w) c.args.buf.now (measured w c.in_ok-n.was)).short (omega arith)))

pub returns : goal.returns
returns c =
    let w = (goal.at.returns c).After-put_measured in
    answered w (ap (λ (x : Placing). x.answer) ((space_measured (says w) c.args.buf.now (measured w c.in_ok-n.was)).enough (omega arith)))
