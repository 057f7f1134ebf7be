-- `yewdome::yewdome_party_parse_with_variant` meets its contract: what the choice stored is given. Assumes nothing.
use lib.Dec.{leb}
use Rattle.reader.specs.declared.choices.Choice.{Choice}
use Rattle.reader.specs.Choices.{parse_with_variant}
use Rattle.yewdome.specs.Interface.{choice_at}
use Rattle.yewdome.proofs.Answers.{not_read, not_read_named, read_small, was_read, variant_line}
use Rattle.yewdome.proofs.yewdome_party_parse_with_variant.Goals as goal

pub answered-requires : goal.answered-requires
answered-requires c =
    let a = c.args in
    read_small (leb a.choice 6) (choice_at a.choice) (λ (x : Choice). parse_with_variant x a.body.now a.letter) a.«record».now c.known_choice.ensures c.check.result c.check.ensures c.in-Ok.is c.parse_with_variant_into.result c.parse_with_variant_into.new.«record» c.parse_with_variant_into.ensures c.and.ensures (variant_line c.in-Ok.choice a.body.now a.letter)

pub returns-in-Ok : goal.returns-in-Ok
returns-in-Ok c =
    let a = c.args in
    was_read (leb a.choice 6) (choice_at a.choice) (λ (x : Choice). parse_with_variant x a.body.now a.letter) a.«record».now c.known_choice.ensures c.check.result c.check.ensures c.in-Ok.is c.parse_with_variant_into.result c.parse_with_variant_into.new.«record» c.parse_with_variant_into.ensures c.and.ensures c.answered.ensures

pub returns-in-Err : goal.returns-in-Err
returns-in-Err c =
    let a = c.args in
    not_read (leb a.choice 6) (choice_at a.choice) (λ (x : Choice). parse_with_variant x a.body.now a.letter) a.«record».now c.known_choice.ensures c.check.result c.check.ensures c.in-Err.is c.code.ensures

pub code-requires : goal.code-requires
code-requires c =
    let a = c.args in
    not_read_named (leb a.choice 6) (choice_at a.choice) (λ (x : Choice). parse_with_variant x a.body.now a.letter) a.«record».now c.known_choice.ensures c.check.result c.check.ensures c.in-Err.is
