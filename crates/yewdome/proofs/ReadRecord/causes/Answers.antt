-- `yewdome::ReadRecord::causes` meets its contract: the bytes have the record's option and presence. Assumes nothing.
use mathlib.Core.Path.{◌∙◌, ap}
use Rattle.yewdome.specs.Interface.{causes_code}
use Rattle.yewdome.proofs.Causes.{read_told}
use Rattle.yewdome.proofs.ReadRecord.causes.Goals as goal

pub returns : goal.returns
returns c =
    let r = c.args.self.now in
    c.causes_code.ensures ∙ ap causes_code (c.field_causes.ensures ∙ read_told r.page.now r.at r.bytes.now r.read c.option_of-option.ensures c.present_of-present.ensures)
