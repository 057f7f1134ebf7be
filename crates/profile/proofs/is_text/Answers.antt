-- `profile::is_text` meets its contract: the bytes that a text uses are compared. Assumes nothing.
use mathlib.Core.Path.{◌∙◌, ap}
use mathlib.Core.List.{List}
use Prim.Native.Nat.{ℕ}
use Rattle.profile.specs.Profile.{is_same}
use Rattle.profile.proofs.Laws.{same_pointwise}
use Rattle.profile.proofs.is_text.Goals as goal

pub returns : goal.returns
returns c = c.eq.ensures ∙ same_pointwise _ _ ∙ ap (λ (l : List ℕ). is_same c.args.s.now l) c.used.ensures
