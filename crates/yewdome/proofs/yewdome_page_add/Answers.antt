-- `yewdome::yewdome_page_add` meets its contract: what adding gave is told. Assumes nothing.
use mathlib.Core.Path.{refl, sym, ◌∙◌, ap}
use lib.Dec.{leb}
use lib.ListN.{length}
use Rattle.std.specs.Prelude.{get_or}
use Rattle.party.specs.Party.{content}
use Rattle.page_writer.specs.IndexState.{no_index}
use Rattle.page_writer.specs.Adding.{add}
use Rattle.record_bytes.specs.RecordBytes.{decoded}
use Rattle.yewdome.specs.Interface.{argument_reply, filed}
use Rattle.yewdome.specs.Code.{told_check}
use Rattle.yewdome.proofs.Answers.{refuses, refuses_named, passes}
use Rattle.yewdome.proofs.Pages.{add_within, filed_small, filed_told, adds}
use Rattle.yewdome.proofs.yewdome_page_add.Goals as goal

pub answered-requires : goal.answered-requires
answered-requires c =
    let a = c.args in
    filed_small c.add_record.result c.add_record.ensures (add_within a.buf.now a.position no_index (content (decoded a.«record».now)))

pub returns-in-Ok : goal.returns-in-Ok
returns-in-Ok c =
    let a = c.args in
    let s = a.«record».now in
    filed_told c.add_record.result c.add_record.ensures c.answered.ensures ∙ adds s a.buf.now a.position no_index (passes (argument_reply s) (sym c.check_record.ensures ∙ ap told_check c.in-Ok.is)).0 refl

pub returns-in-Err : goal.returns-in-Err
returns-in-Err c =
    let a = c.args in
    refuses (argument_reply a.«record».now) tt (sym c.check_record.ensures ∙ ap told_check c.in-Err.is) c.code.ensures (filed (add a.buf.now a.position no_index (content (decoded a.«record».now)))) a.buf.now

pub code-requires : goal.code-requires
code-requires c =
    let s = c.args.«record».now in
    refuses_named (length s) (leb (get_or s 0 0) 10) tt (sym c.check_record.ensures ∙ ap told_check c.in-Err.is)
