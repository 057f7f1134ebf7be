-- `yewdome::yewdome_kept_parse` meets its contract: what is told of the reading is given as a number. Assumes nothing.
use mathlib.Core.Path.{◌∙◌, sym, ap, subst}
use lib.Dec.{leb}
use Rattle.reader.specs.declared.choices.Choice.{Choice}
use Rattle.kept.specs.Kept.{Kept, kept_parse}
use Rattle.yewdome.specs.Interface.{choice_at, code_or, causes_code}
use Rattle.yewdome.specs.Code.{Named}
use Rattle.yewdome.proofs.Answers.{parse_line_lem}
use Rattle.yewdome.proofs.Causes.{kept_named, kept_none_such, kept_some_such}
use Rattle.yewdome.proofs.yewdome_kept_parse.Goals as goal

pub kept_code-requires : goal.kept_code-requires
kept_code-requires c =
    let a = c.args in
    subst (λ (k : Kept). Named k.reply) (sym c.parse.ensures) (kept_named _ _ _ (parse_line_lem c.in-Some.choice a.body.now))

pub returns-in-Some : goal.returns-in-Some
returns-in-Some c =
    let a = c.args in
    kept_some_such (leb a.choice 6) (choice_at a.choice) (λ (x : Choice). kept_parse x a.body.now) c.known_choice.ensures c.in-Some.is
    (c.kept_code.ensures ∙ ap (λ (k : Kept). code_or k.reply (causes_code k.causes)) c.parse.ensures)

pub returns-in-None : goal.returns-in-None
returns-in-None c =
    let a = c.args in
    c.code.ensures ∙ kept_none_such (leb a.choice 6) (choice_at a.choice) (λ (x : Choice). kept_parse x a.body.now) c.known_choice.ensures c.in-None.is
