-- `yewdome::yewdome_party_place` meets its contract: what placing gave is told. Assumes nothing.
use mathlib.Core.Path.{sym, ◌∙◌, ap, subst}
use lib.Dec.{leb}
use lib.ListN.{length}
use Rattle.std.specs.Prelude.{get_or}
use Rattle.party.specs.Party.{content}
use Rattle.writer.specs.Placing.{Placing, place}
use Rattle.record_bytes.specs.RecordBytes.{decoded}
use Rattle.yewdome.specs.Interface.{argument_reply, placed_call}
use Rattle.yewdome.specs.Code.{told_check, Measurable}
use Rattle.yewdome.proofs.Answers.{refuses, refuses_named, passes, place_within, places, measured_small, placed_told}
use Rattle.yewdome.proofs.yewdome_party_place.Goals as goal

pub answered-requires : goal.answered-requires
answered-requires c =
    let a = c.args in
    measured_small c.place_record.result (subst (λ (x : Placing). Measurable x.answer) (sym c.place_record.ensures) (place_within (decoded a.«record».now) a.buf.now))

pub returns-in-Ok : goal.returns-in-Ok
returns-in-Ok c =
    let s = c.args.«record».now in
    placed_told c.place_record.result c.place_record.ensures c.answered.ensures ∙ places s (passes (argument_reply s) (sym c.check_record.ensures ∙ ap told_check c.in-Ok.is)).0 c.args.buf.now

pub returns-in-Err : goal.returns-in-Err
returns-in-Err c =
    let a = c.args in
    refuses (argument_reply a.«record».now) tt (sym c.check_record.ensures ∙ ap told_check c.in-Err.is) c.code.ensures (placed_call (place (content (decoded a.«record».now)) a.buf.now)) a.buf.now

pub code-requires : goal.code-requires
code-requires c =
    let s = c.args.«record».now in
    refuses_named (length s) (leb (get_or s 0 0) 10) tt (sym c.check_record.ensures ∙ ap told_check c.in-Err.is)
