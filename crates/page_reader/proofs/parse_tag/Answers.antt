-- `page_reader::parse_tag` meets its contract, by the bytes of the tag. Assumes nothing.
use mathlib.Core.Path.{sym, ◌∙◌}
use native.Mathlib.Omega.{arith}
use Rattle.page_reader.proofs.Tags.{at_plain, at_letter, rest_found}
use Rattle.page_reader.proofs.parse_tag.Goals as goal

pub returns-in_ok-option-in-58 : goal.returns-in_ok-option-in-58
returns-in_ok-option-in-58 c =
    let t = c.args.text.now in rest_found t 4 (at_plain t (grind arith) (grind arith) (grind arith) (grind arith)) (sym c.known-in-58.ensures ∙ c.in_ok-option-in-58.was)

pub returns-in_ok-option-in-58-2 : goal.returns-in_ok-option-in-58-2
returns-in_ok-option-in-58-2 c =
    let t = c.args.text.now in
    rest_found t 5 (at_letter t (omega arith) (omega arith) (λ e. omega arith) (omega arith) (omega arith) (λ e. omega arith)) (sym c.known.ensures ∙ c.in_ok-option-in-58-2.was)
