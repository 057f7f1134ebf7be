-- `yewdome::yewdome_profile_parse` meets its contract: what was read under the profile is given. Assumes nothing.
use mathlib.Core.Path.{sym, subst}
use lib.Dec.{leb}
use Rattle.reader.specs.Reading.{Reading, told_answer}
use Rattle.reader.specs.declared.choices.Choice.{Choice}
use Rattle.profile.specs.Profile.{parse_profiled}
use Rattle.yewdome.specs.Interface.{choice_at}
use Rattle.yewdome.specs.Code.{Named}
use Rattle.yewdome.proofs.Answers.{not_read, not_read_named, was_stored, profile_parse_line}
use Rattle.yewdome.proofs.yewdome_profile_parse.Goals as goal

pub store_answer-requires : goal.store_answer-requires
store_answer-requires c =
    let a = c.args in
    subst (λ (r : Reading). Named r.reply) (sym c.parse.ensures) (profile_parse_line a.body.now c.in-Ok.choice)

pub returns-in-Ok : goal.returns-in-Ok
returns-in-Ok c =
    let a = c.args in
    was_stored (leb a.choice 6) (choice_at a.choice) (λ (x : Choice). parse_profiled x a.body.now) a.«record».now c.known_choice.ensures c.check.result c.check.ensures c.in-Ok.is (told_answer c.parse.result) c.parse.ensures c.store_answer.ensures

pub returns-in-Err : goal.returns-in-Err
returns-in-Err c =
    let a = c.args in
    not_read (leb a.choice 6) (choice_at a.choice) (λ (x : Choice). parse_profiled x a.body.now) a.«record».now c.known_choice.ensures c.check.result c.check.ensures c.in-Err.is c.code.ensures

pub code-requires : goal.code-requires
code-requires c =
    let a = c.args in
    not_read_named (leb a.choice 6) (choice_at a.choice) (λ (x : Choice). parse_profiled x a.body.now) a.«record».now c.known_choice.ensures c.check.result c.check.ensures c.in-Err.is
