-- `lines::pass_blocks` meets its contract: the blocks before the first that is not seen to be clear are passed. Assumes nothing.
use Rattle.std.proofs.Common.{◌≡◌, ℕ, ◌+◌, ◌*◌, ◌<◌, ◌≤◌, List, length, Option, None, Some, MatchOption, sym, ap, ◌∙◌, subst, arith, length-drop, rules, tests}
use Rattle.std.specs.Option.{unwrap_or}
use Rattle.std.specs.List.{AllWithin, HoldsAt}
use Rattle.std.specs.Simd.{first_chunks}
use Rattle.std.proofs.lemmas.Iterator.{IsFirst-from_position, YieldsList-from_slice}
use Rattle.swift_utils.proofs.Parts.{part_end}
use Rattle.field_utils.specs.Lines.{upto}
use Rattle.field_utils.specs.Words.{Passed}
use Rattle.field_utils.proofs.Passing.{passed_blocks}
use Rattle.field_utils.proofs.lines.pass_blocks.Goals as goal

-- a block without an LF
abbrev Clear : List ℕ → Type 0
Clear block = upto 10 block ≡ 256

-- those before the place that is found, or all
before : (l : List (List ℕ)) (r : Option ℕ) → MatchOption r (AllWithin Clear l 0 (length l)) (λ i. (i < length l) × HoldsAt (λ b. Unit {0}) l i × AllWithin Clear l 0 i)
    → (unwrap_or r (length l) ≤ length l) × AllWithin Clear l 0 (unwrap_or r (length l))
before l None h = (omega arith, h)
before l (Some i) h = (omega (arith, h.0), h.2)

pub returns : goal.returns
returns c =
    let s = c.args.s.now in
    let from = c.args.from in
    let blocks = c.as_chunks.result.0.now in
    let first = IsFirst-from_position _ _ c.position-clear.result (λ b. Unit {0}) Clear c.position-clear.ensures.ran (YieldsList-from_slice blocks c.iter.ensures.rest) (λ x q k. tt) (λ x q k. search (rules, tests)) in
    let clear = before blocks c.position-clear.result first in
    let count = c.as_chunks.ensures.front_len in
    let room : from + length blocks * 256 ≤ length s = omega (arith, count, ap length (part_end s from), length-drop from s) in
    let they = c.as_chunks.ensures.front ∙ (λ i. first_chunks 256 (sym count i) (part_end s from i)) in
    let passed = passed_blocks (length blocks) _ s from room clear.0 (subst (λ (l : List (List ℕ)). AllWithin Clear l 0 (unwrap_or c.position-clear.result (length blocks))) they clear.1) in
    subst (λ (k : ℕ). Passed s from (from + 256 * k)) (sym c.unwrap_or.ensures) passed
