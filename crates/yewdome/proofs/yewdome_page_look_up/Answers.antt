-- `yewdome::yewdome_page_look_up` meets its contract: what a lookup gives and how far its read moved make a number of 64 bits. Assumes nothing.
use mathlib.Core.Path.{◌∙◌}
use Rattle.yewdome.proofs.Looks.{field_told, none_told, looks}
use Rattle.yewdome.proofs.yewdome_page_look_up.Goals as goal

pub overflow_sub-field : goal.overflow_sub-field
overflow_sub-field c =
    let a = c.args in
    (field_told a.page.now a.index.now a.k a.«record».now c.in-Ok.field c.in-Ok.ensures.result_value).0

pub moved_past-requires : goal.moved_past-requires
moved_past-requires c =
    let a = c.args in
    rw c.and.ensures (field_told a.page.now a.index.now a.k a.«record».now c.in-Ok.field c.in-Ok.ensures.result_value).1

pub moved_past-requires-in-Err : goal.moved_past-requires-in-Err
moved_past-requires-in-Err c =
    let a = c.args in
    (none_told a.page.now a.index.now a.k a.«record».now c.in-Err.e c.in-Err.ensures.result_value).0

pub returns-in-Ok : goal.returns-in-Ok
returns-in-Ok c =
    let a = c.args in
    looks a.page.now a.index.now a.k a.«record».now c.look_up_into.ensures.bytes (rw c.and.ensures at c.moved_past.ensures ∙ (field_told a.page.now a.index.now a.k a.«record».now c.in-Ok.field c.in-Ok.ensures.result_value).2)

pub returns-in-Err : goal.returns-in-Err
returns-in-Err c =
    let a = c.args in
    looks a.page.now a.index.now a.k a.«record».now c.look_up_into.ensures.bytes (c.moved_past-in-Err.ensures ∙ (none_told a.page.now a.index.now a.k a.«record».now c.in-Err.e c.in-Err.ensures.result_value).1)
