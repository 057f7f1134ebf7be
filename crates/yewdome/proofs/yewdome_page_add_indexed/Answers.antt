-- `yewdome::yewdome_page_add_indexed` meets its contract: what adding gave is told. Assumes nothing.
use mathlib.Core.Path.{refl, sym, ◌∙◌, ap}
use lib.Dec.{leb}
use lib.ListN.{length}
use Rattle.std.specs.Prelude.{get_or}
use Rattle.party.specs.Party.{content}
use Rattle.page_writer.specs.IndexState.{an_index}
use Rattle.page_writer.specs.Adding.{add, add_index}
use Rattle.record_bytes.specs.RecordBytes.{decoded}
use Rattle.yewdome.specs.Interface.{argument_reply, filed}
use Rattle.yewdome.specs.Code.{told_check}
use Rattle.yewdome.proofs.Answers.{refuses, refuses_index, refuses_named, passes}
use Rattle.yewdome.proofs.Pages.{add_within, filed_small, filed_told, adds, adds_index}
use Rattle.yewdome.proofs.yewdome_page_add_indexed.Goals as goal

pub answered-requires : goal.answered-requires
answered-requires c =
    let a = c.args in
    filed_small c.add_indexed_record.result c.add_indexed_record.ensures.buf_after (add_within a.buf.now a.position (an_index a.index.now) (content (decoded a.«record».now)))

pub returns-in-Ok : goal.returns-in-Ok
returns-in-Ok c =
    let a = c.args in
    let s = a.«record».now in
    let b = an_index a.index.now in
    let p = passes (argument_reply s) (sym c.check_record.ensures ∙ ap told_check c.in-Ok.is) in record {
      buf_after = filed_told c.add_indexed_record.result c.add_indexed_record.ensures.buf_after c.answered.ensures ∙ adds s a.buf.now a.position b p.0 refl;
      index = c.add_indexed_record.ensures.index ∙ adds_index s a.buf.now a.position b p.0 refl;
    }

pub returns-in-Err : goal.returns-in-Err
returns-in-Err c =
    let a = c.args in
    let s = content (decoded a.«record».now) in
    let b = an_index a.index.now in
    let r = argument_reply a.«record».now in
    let e = sym c.check_record.ensures ∙ ap told_check c.in-Err.is in
    record {
      buf_after = refuses r tt e c.code.ensures (filed (add a.buf.now a.position b s)) a.buf.now;
      index = refuses_index r tt e (add_index a.buf.now a.position b s) b;
    }

pub code-requires : goal.code-requires
code-requires c =
    let s = c.args.«record».now in
    refuses_named (length s) (leb (get_or s 0 0) 10) tt (sym c.check_record.ensures ∙ ap told_check c.in-Err.is)
