-- `record_bytes::put_fields` meets its contract. Assumes nothing.
use mathlib.Core.Path.{◌≡◌, refl, ◌∙◌}
use mathlib.Core.Bool.{Bool, true, false}
use native.Mathlib.Omega.{arith}
use lib.ListN.{set}
use mir.Val.{bool_byte}
use Rattle.std.proofs.lemmas.Slice.{put_mid-paste}
use Rattle.record_bytes.specs.RecordBytes.{digits_at, bit}
use Rattle.record_bytes.proofs.put_fields.Goals as goal

bit_byte : (b : Bool) → bool_byte b ≡ bit b
bit_byte true = refl
bit_byte false = refl

pub returns : goal.returns
returns c =
    let a = c.args in
    put_mid-paste digits_at 4 (set (set (set a.record.now 0 c.index_of.result) 1 c.from.result) 2 c.byte_of.result) _ a.digits 4 c.copy_from_slice.ensures.after refl (omega arith)
    ∙ rw (c.index_of.ensures, c.from.ensures, bit_byte a.present, c.byte_of.ensures) refl
