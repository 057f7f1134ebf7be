-- `page_reader::ends_at` meets its contract: after the hyphen nothing is left of the line, or a brace and then nothing. Assumes nothing.
use mathlib.Core.Path.{◌≡◌, sym, ◌∙◌, ap}
use mathlib.Core.List.{List}
use Prim.Native.Nat.{ℕ}
use native.Mathlib.Omega.{arith}
use lib.ListN.{get_or}
use Rattle.std.proofs.Common.{Bor}
use Rattle.std.proofs.lemmas.List.{get_or_past, take_rest}
use Rattle.page_reader.specs.Pages.{ends_at}
use Rattle.page_reader.specs.Code.{is_over}
use Rattle.page_reader.proofs.EndLines.{ends_over, ends_brace}
use Rattle.page_reader.proofs.ends_at.Goals as goal
use Rattle.page_reader.proofs.ends_at.Goals.{in-45, in-45-2, then-this-lt2+in-45-1, else-this-lt2+in-45+in_default-1}

pub returns-in-45 : goal.returns-in-45
returns-in-45 c =
    let s = c.suffix.result.now in
    c.is_over.ensures
    ∙ (elim c.in-45-1.branch [
      | in-45 w ↦
          let hyphen : get_or s 0 0 ≡ 45 = omega arith in
          let brace : get_or s 1 0 ≡ 125 = omega arith in
          simp take_rest at (ap (λ (r : Bor (List ℕ)). is_over r.now) w.rest-is) ∙ sym (ends_brace s hyphen brace)
      | in-45-2 w ↦
          let hyphen : get_or s 0 0 ≡ 45 = grind arith in
          let none : get_or s 1 0 ≡ 125 → ⊥ = λ e. elim w.in-45-1.branch [
            | then-this-lt2+in-45-1 w' ↦ grind (arith, get_or_past s 1 0)
            | else-this-lt2+in-45+in_default-1 w' ↦ omega arith
          ]
          in
          simp take_rest at (ap (λ (r : Bor (List ℕ)). is_over r.now) w.rest-is) ∙ sym (ends_over s hyphen none)
    ])
    ∙ ap ends_at c.suffix.ensures
