-- `yewdome::yewdome_party_read` meets its contract: what the reader stored is given. Assumes nothing.
use lib.Dec.{leb}
use Rattle.party.specs.declared.PartyOption.{PartyOption}
use Rattle.party.specs.Limits.{option_at}
use Rattle.reader.specs.Options.{read}
use Rattle.yewdome.proofs.LineBounds.{read_line}
use Rattle.yewdome.proofs.Answers.{not_read, not_read_named, read_small, was_read}
use Rattle.yewdome.proofs.yewdome_party_read.Goals as goal

pub answered-requires : goal.answered-requires
answered-requires c =
    let a = c.args in
    read_small (leb a.option 10) (option_at a.option) (λ (o : PartyOption). read o a.body.now) a.«record».now c.known_option.ensures c.check.result c.check.ensures c.in-Ok.is c.read_into.result c.read_into.new.«record» c.read_into.ensures c.and.ensures (read_line c.in-Ok.option a.body.now)

pub returns-in-Ok : goal.returns-in-Ok
returns-in-Ok c =
    let a = c.args in
    was_read (leb a.option 10) (option_at a.option) (λ (o : PartyOption). read o a.body.now) a.«record».now c.known_option.ensures c.check.result c.check.ensures c.in-Ok.is c.read_into.result c.read_into.new.«record» c.read_into.ensures c.and.ensures c.answered.ensures

pub returns-in-Err : goal.returns-in-Err
returns-in-Err c =
    let a = c.args in
    not_read (leb a.option 10) (option_at a.option) (λ (o : PartyOption). read o a.body.now) a.«record».now c.known_option.ensures c.check.result c.check.ensures c.in-Err.is c.code.ensures

pub code-requires : goal.code-requires
code-requires c =
    let a = c.args in
    not_read_named (leb a.option 10) (option_at a.option) (λ (o : PartyOption). read o a.body.now) a.«record».now c.known_option.ensures c.check.result c.check.ensures c.in-Err.is
