-- `reader::read_into` meets its contract: 42, 12 and 13, then the option's own. Assumes nothing.
use mathlib.Core.Path.{sym, ◌∙◌, ap}
use Rattle.std.specs.Prelude.{Err}
use Rattle.reader.specs.Reading.{Reading, leaves}
use Rattle.reader.specs.Options.{read}
use Rattle.reader.proofs.Into.{exits, into_lent}
use Rattle.reader.proofs.Bodies.{body_refused, body_passed}
use Rattle.reader.proofs.read_into.Goals as goal

pub returns-in_err-parse_body : goal.returns-in_err-parse_body
returns-in_err-parse_body c =
    let a = c.args in
    rw (exits c.from_residual.ensures.1)
    (into_lent c.in-Some.ensures.cases (read a.option a.body.now) (Err c.in_err-parse_body.field-0.0)
    (ap (λ (r : Reading). leaves r c.in-Some.room.now) (sym (body_refused a.option a.body.now c.in_err-parse_body.field-0.0 (sym c.in_err-parse_body.ensures)))))

pub returns : goal.returns
returns c =
    let a = c.args in
    into_lent c.in-Some.ensures.cases (read a.option a.body.now) c.read_own_into.result
    (c.read_own_into.ensures ∙ ap (λ (r : Reading). leaves r c.in-Some.room.now) (sym (body_passed a.option a.body.now (sym c.in_ok-parse_body.ensures))))
