-- `profile::under_profile` meets its contract: a refusal stands, a line is at fault, or the answer is as it was. Assumes nothing.
use mathlib.Core.Path.{refl, sym}
use Rattle.std.proofs.lemmas.Result.{err_from_is_err_and}
use Rattle.profile.specs.Profile.{profiled}
use Rattle.profile.proofs.Laws.{profiled_fault, profiled_pass}
use Rattle.profile.proofs.under_profile.Goals as goal

pub returns-in_err-party : goal.returns-in_err-party
unfolding profiled
returns-in_err-party c =
    let p = err_from_is_err_and c.from_residual.result c.from_residual.ensures.1 in rw (p.1, p.2, c.in_err-party.was)

pub returns-in_err-parse_lines : goal.returns-in_err-parse_lines
returns-in_err-parse_lines c =
    let r = c.from_residual-in_err-parse_lines in
    let p = err_from_is_err_and r.result r.ensures.1 in
    rw (p.1, p.2, c.in_ok-party.was) (sym (profiled_fault _ c.args.body.now refl (sym c.in_err-parse_lines.ensures)))

pub returns : goal.returns
returns c = rw c.in_ok-party.was (sym (profiled_pass _ c.args.body.now refl (sym c.in_ok-parse_lines.ensures)))
