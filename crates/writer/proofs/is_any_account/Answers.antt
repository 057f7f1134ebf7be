-- `writer::is_any_account` meets its contract: legal bytes of which none is an LF are at most 127. Assumes nothing.
use mathlib.Core.Path.{◌≡◌, sym, ◌∙◌}
use mathlib.Core.Bool.{true, not}
use Rattle.party.specs.declared.First.TheVariants.{AnyAccount}
use Rattle.swift_utils.specs.Bytes.{among, all, legal}
use Rattle.field_utils.proofs.Tests.{both_left, both_right}
use Rattle.reader.specs.Options.{length_reply}
use Rattle.writer.specs.Given.{passes, text_reply}
use Rattle.writer.proofs.Ascii.{all_legal}
use Rattle.writer.proofs.Texts.{all_plain}
use Rattle.writer.proofs.Records.{line_by, any_account, ok_passes}
use Rattle.writer.proofs.is_any_account.Goals as goal

pub returns-then-is_plain : goal.returns-then-is_plain
returns-then-is_plain c =
    let o = c.args.option in
    let x = c.args.text.now in
    let measured : passes (length_reply o x) ≡ true = sym (ok_passes c.account_length.result c.account_length.ensures c.is_ok.ensures.value) ∙ c.if-is_ok.true in
    let both = sym (all_plain x) ∙ sym c.is_plain.ensures ∙ c.if-is_plain.true in
    c.if-is_plain.true ∙ sym (all_legal x (both_left (all legal x) (not (among x 10)) both)) ∙ any_account o x measured ∙ line_by (text_reply AnyAccount o x) x (both_right (all legal x) (not (among x 10)) both)
