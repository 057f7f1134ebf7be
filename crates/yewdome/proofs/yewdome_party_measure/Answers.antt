-- `yewdome::yewdome_party_measure` meets its contract: what measuring gave is told. Assumes nothing.
use mathlib.Core.Path.{sym, ◌∙◌, ap, subst}
use lib.Dec.{leb}
use lib.ListN.{length}
use Rattle.std.specs.Prelude.{get_or}
use Rattle.party.specs.Party.{content}
use Rattle.writer.specs.Placing.{measure}
use Rattle.record_bytes.specs.RecordBytes.{decoded}
use Rattle.yewdome.specs.Interface.{argument_reply, measured_code}
use Rattle.yewdome.specs.Code.{told_check, Measurable}
use Rattle.yewdome.proofs.Answers.{refuses_code, refuses_named, passes, measure_within, measures, measured_small, measured_told}
use Rattle.yewdome.proofs.yewdome_party_measure.Goals as goal

pub answered-requires : goal.answered-requires
answered-requires c = measured_small c.measure_record.result (subst Measurable (sym c.measure_record.ensures) (measure_within (decoded c.args.«record».now)))

pub returns-in-Ok : goal.returns-in-Ok
returns-in-Ok c =
    let s = c.args.«record».now in
    c.answered.ensures ∙ measured_told c.measure_record.result ∙ ap measured_code c.measure_record.ensures ∙ measures s (passes (argument_reply s) (sym c.check_record.ensures ∙ ap told_check c.in-Ok.is)).0

pub returns-in-Err : goal.returns-in-Err
returns-in-Err c =
    let s = c.args.«record».now in
    c.code.ensures ∙ refuses_code (argument_reply s) tt (sym c.check_record.ensures ∙ ap told_check c.in-Err.is) (measured_code (measure (content (decoded s))))

pub code-requires : goal.code-requires
code-requires c =
    let s = c.args.«record».now in
    refuses_named (length s) (leb (get_or s 0 0) 10) tt (sym c.check_record.ensures ∙ ap told_check c.in-Err.is)
