-- `yewdome::yewdome_kept_read` meets its contract: what is told of the reading is given as a number. Assumes nothing.
use mathlib.Core.Path.{◌∙◌, sym, ap, subst}
use lib.Dec.{leb}
use Rattle.party.specs.declared.PartyOption.{PartyOption}
use Rattle.party.specs.Limits.{option_at}
use Rattle.kept.specs.Kept.{Kept, kept_read}
use Rattle.yewdome.specs.Interface.{code_or, causes_code}
use Rattle.yewdome.specs.Code.{Named}
use Rattle.yewdome.proofs.LineBounds.{read_line}
use Rattle.yewdome.proofs.Causes.{kept_named, kept_none_such, kept_some_such}
use Rattle.yewdome.proofs.yewdome_kept_read.Goals as goal

pub kept_code-requires : goal.kept_code-requires
kept_code-requires c =
    let a = c.args in
    subst (λ (k : Kept). Named k.reply) (sym c.read.ensures) (kept_named _ _ _ (read_line c.in-Some.option a.body.now))

pub returns-in-Some : goal.returns-in-Some
returns-in-Some c =
    let a = c.args in
    kept_some_such (leb a.option 10) (option_at a.option) (λ (o : PartyOption). kept_read o a.body.now) c.known_option.ensures c.in-Some.is
    (c.kept_code.ensures ∙ ap (λ (k : Kept). code_or k.reply (causes_code k.causes)) c.read.ensures)

pub returns-in-None : goal.returns-in-None
returns-in-None c =
    let a = c.args in
    c.code.ensures ∙ kept_none_such (leb a.option 10) (option_at a.option) (λ (o : PartyOption). kept_read o a.body.now) c.known_option.ensures c.in-None.is
