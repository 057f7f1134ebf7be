-- `page_writer::close` meets its contract. Assumes nothing.
use mathlib.Core.Path.{◌≡◌, sym, ◌∙◌, ap}
use Prim.Native.Nat.{ℕ, ◌+◌}
use native.Mathlib.Omega.{arith}
use lib.ListN.{length}
use Rattle.errors.specs.Refusals.{Reply, accepted, must, ◌then◌}
use Rattle.errors.proofs.Replies.{then_accepted}
use Rattle.page_writer.specs.Adding.{has_space, end_line, putting}
use Rattle.page_writer.proofs.Addings.{close_21, close_by}
use Rattle.page_writer.proofs.close.Goals as goal

pub returns-then-not-is_writable : goal.returns-then-not-is_writable
returns-then-not-is_writable c =
    let a = c.args in sym (close_21 a.buf.now a.at (sym c.is_writable.ensures ∙ c.if-not-is_writable.true))

pub returns : goal.returns
returns c =
    let a = c.args in
    let b = a.buf.now in
    let z : a.at + 2 + 0 ≡ a.at + 2 = omega arith in
    c.file_line.ensures ∙ ap (λ (k : ℕ). putting (must (has_space (length b) k) 24 0 then accepted) b a.at end_line) z ∙ ap (λ (r : Reply). putting r b a.at end_line) (then_accepted (must (has_space (length b) (a.at + 2)) 24 0))
    ∙ sym (close_by b a.at (sym c.is_writable.ensures ∙ c.if-not-is_writable.false))
