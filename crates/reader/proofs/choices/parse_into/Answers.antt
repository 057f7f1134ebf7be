-- `choices::parse_into` meets its contract: 42, the body's check, then the options. Assumes nothing.
use mathlib.Core.Path.{sym, ◌∙◌, ap}
use Rattle.std.specs.Prelude.{Err}
use Rattle.reader.specs.Reading.{Reading, leaves}
use Rattle.reader.specs.Choices.{parse}
use Rattle.reader.proofs.Into.{exits, into_lent}
use Rattle.reader.proofs.Trials.{check_refused, check_passed}
use Rattle.reader.proofs.choices.parse_into.Goals as goal

pub returns-in_err-parse_body : goal.returns-in_err-parse_body
unfolding parse
returns-in_err-parse_body c =
    let a = c.args in
    rw (exits c.from_residual.ensures.1)
    (into_lent c.in-Some.ensures.cases (parse a.choice a.body.now) (Err c.in_err-parse_body.field-0.0)
    (ap (λ (r : Reading). leaves r c.in-Some.room.now) (sym (check_refused _ (sym c.in_err-parse_body.ensures)))))

pub returns : goal.returns
unfolding parse
returns c =
    let a = c.args in
    into_lent c.in-Some.ensures.cases (parse a.choice a.body.now) c.first_that.result
    (c.first_that.ensures ∙ ap (λ (r : Reading). leaves r c.in-Some.room.now) (sym (check_passed _ (sym c.in_ok-parse_body.ensures))))
