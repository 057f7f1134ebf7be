-- `page_writer::render` meets its contract, by what is placed in the room. Assumes nothing.
use mathlib.Core.Path.{sym, ◌∙◌, ap}
use native.Mathlib.Omega.{arith}
use lib.ListN.{length, length-take}
use Rattle.std.proofs.lemmas.Result.{err_from_is_err_and}
use Rattle.party.specs.Party.{content}
use Rattle.record_bytes.specs.RecordBytes.{decoded}
use Rattle.page_writer.proofs.Addings.{add_21, add_asked, asked_unmeasured, room_measured, room_held}
use Rattle.page_writer.proofs.render.Goals as goal

pub returns-then-not-is_writable : goal.returns-then-not-is_writable
returns-then-not-is_writable c =
    let a = c.args in
    λ b. add_21 a.buf.now a.at b (content (decoded a.«record».now)) (sym c.is_writable.ensures ∙ c.if-not-is_writable.true)

pub returns-in_err-len : goal.returns-in_err-len
returns-in_err-len c =
    let a = c.args in
    let p = decoded a.«record».now in
    let asks = asked_unmeasured (content p) (room_measured p a.room.now c.told-room c.in_err-len.ensures) in
    let x = err_from_is_err_and c.from_residual.result c.from_residual.ensures.1 in
    rw (x.1, x.2) (λ b. add_asked a.buf.now a.at b (content p) (sym c.is_writable.ensures ∙ c.if-not-is_writable.false) asks)

pub shared_ref_as_front-result : goal.shared_ref_as_front-result
shared_ref_as_front-result c =
    let h = room_held (decoded c.args.«record».now) c.args.room.now c.told-room c.in_ok-len.ensures in
    omega (arith, ap length h.text, h.len, h.size, length-take c.in_ok-len.len c.place_record.new.buf)

pub returns : goal.returns
returns c =
    let a = c.args in
    let h = room_held (decoded a.«record».now) a.room.now c.told-room c.in_ok-len.ensures in
    (sym c.is_writable.ensures ∙ c.if-not-is_writable.false, h.given, h.text)
