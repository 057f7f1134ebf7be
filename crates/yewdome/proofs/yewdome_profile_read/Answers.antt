-- `yewdome::yewdome_profile_read` meets its contract: what was read under the profile is given. Assumes nothing.
use mathlib.Core.Path.{sym, subst}
use lib.Dec.{leb}
use Rattle.party.specs.declared.PartyOption.{PartyOption}
use Rattle.party.specs.Limits.{option_at}
use Rattle.reader.specs.Reading.{Reading, told_answer}
use Rattle.profile.specs.Profile.{read_profiled}
use Rattle.yewdome.specs.Code.{Named}
use Rattle.yewdome.proofs.Answers.{not_read, not_read_named, was_stored, profile_read_line}
use Rattle.yewdome.proofs.yewdome_profile_read.Goals as goal

pub store_answer-requires : goal.store_answer-requires
store_answer-requires c =
    let a = c.args in
    subst (λ (r : Reading). Named r.reply) (sym c.read.ensures) (profile_read_line a.body.now c.in-Ok.option)

pub returns-in-Ok : goal.returns-in-Ok
returns-in-Ok c =
    let a = c.args in
    was_stored (leb a.option 10) (option_at a.option) (λ (o : PartyOption). read_profiled o a.body.now) a.«record».now c.known_option.ensures c.check.result c.check.ensures c.in-Ok.is (told_answer c.read.result) c.read.ensures c.store_answer.ensures

pub returns-in-Err : goal.returns-in-Err
returns-in-Err c =
    let a = c.args in
    not_read (leb a.option 10) (option_at a.option) (λ (o : PartyOption). read_profiled o a.body.now) a.«record».now c.known_option.ensures c.check.result c.check.ensures c.in-Err.is c.code.ensures

pub code-requires : goal.code-requires
code-requires c =
    let a = c.args in
    not_read_named (leb a.option 10) (option_at a.option) (λ (o : PartyOption). read_profiled o a.body.now) a.«record».now c.known_option.ensures c.check.result c.check.ensures c.in-Err.is
