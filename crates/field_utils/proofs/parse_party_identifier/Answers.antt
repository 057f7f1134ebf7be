-- `parse_party_identifier` meets its contract: the rule's case by the first byte, and then what follows it. Assumes nothing.
use Rattle.std.proofs.Common.{◌≡◌, ◌≤◌, true, length, sym, ◌∙◌}
use Rattle.std.proofs.lemmas.Result.{err_from_is_err_and}
use Rattle.swift_utils.proofs.Parts.{part_end}
use Rattle.field_utils.specs.Lines.{starts}
use Rattle.field_utils.proofs.Identifiers.{starts_long, identifier_absent, identifier_told}
use Rattle.field_utils.proofs.parse_party_identifier.Goals as goal
use Rattle.field_utils.proofs.parse_party_identifier.Goals.{Else-not-starts_with_slash}

-- past the first test the line starts with a slash
module _ (c : Else-not-starts_with_slash) where
  slash : starts 47 c.args.input.now ≡ true
  slash = sym c.starts_with_slash.ensures ∙ c.if-not-starts_with_slash.false

  long : 1 ≤ length c.args.input.now
  long = starts_long 47 _ slash

pub returns-then-not-starts_with_slash : goal.returns-then-not-starts_with_slash
returns-then-not-starts_with_slash c =
    let a = c.args in
    sym (identifier_absent a.option a.line a.input.now (sym c.starts_with_slash.ensures ∙ c.if-not-starts_with_slash.true))

pub slice_bounds-remaining-count : goal.slice_bounds-remaining-count
slice_bounds-remaining-count c = long (goal.at.slice_bounds-remaining-count c).Else-not-starts_with_slash

pub slice_bounds-remaining-start : goal.slice_bounds-remaining-start
slice_bounds-remaining-start c = long (goal.at.slice_bounds-remaining-start c).Else-not-starts_with_slash

pub returns-in_err-parse_remaining : goal.returns-in_err-parse_remaining
returns-in_err-parse_remaining c =
    let a = c.args in
    let at = (goal.at.returns-in_err-parse_remaining c).Else-not-starts_with_slash in
    let p = err_from_is_err_and c.from_residual.result c.from_residual.ensures.1 in
    rw (p.1, p.2) (identifier_told a.option a.line a.input.now c.limits_of.ensures (slash at) c.in_err-parse_remaining.ensures)

pub returns : goal.returns
returns c =
    let a = c.args in
    let at = (goal.at.returns c).Else-not-starts_with_slash in
    rw (part_end a.input.now 1) (identifier_told a.option a.line a.input.now c.limits_of.ensures (slash at) c.in_ok-parse_remaining.ensures)
