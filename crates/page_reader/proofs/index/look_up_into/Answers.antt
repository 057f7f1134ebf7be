-- `page_reader::index::look_up_into` meets its contract: 42, then by where the field stands. Assumes nothing.
use mathlib.Core.Path.{sym, ◌∙◌, ap, subst}
use Rattle.std.specs.Prelude.{Ok}
use Rattle.page_reader.specs.Pages.{PageRead, past, read_at}
use Rattle.page_reader.specs.Index.{Looked, told_body}
use Rattle.page_reader.proofs.Cases.{Leaves, body_leaves}
use Rattle.page_reader.proofs.Entries.{field_read, look_whole, Looks, looks_body}
use Rattle.page_reader.proofs.index.look_up_into.Goals as goal

pub returns : goal.returns
returns c =
    let page = c.args.page.now in
    let lent = c.args.«record».now in
    let left = c.read_into.new.record in
    let size = c.if-record-lt-RECORD_SIZE.false in
    let p = c.in_ok-place.place in
    let w = c.read_into.result in
    let there = c.in_ok-place.ensures in
    let is = field_read page there.0 in
    let h = subst (λ (x : PageRead). Leaves (told_body w) x.outcome lent left) (sym is) (body_leaves p.tag.option p.tag.body.now (past page p.to) w lent size c.read_into.ensures) in
    let t = looks_body p.at c.past.result (read_at page p.at) lent w (c.past.ensures ∙ ap (λ (x : PageRead). x.next) (sym is)) h in
    let l = subst (λ (y : Looked). Looks (Ok (record { outcome = w; at = p.at; next = c.past.result })) y lent left) (sym (look_whole page c.args.index.now c.args.k lent size ∙ there.1)) t in
    record { result_value = l.0; bytes = l.1 }
