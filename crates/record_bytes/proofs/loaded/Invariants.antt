-- `record_bytes::loaded` meets its contract: what is read at each place is what the definition says. The loop's invariant: the first names are those
-- of their places. Assumes nothing.
use mathlib.Core.Path.{◌≡◌}
use mathlib.Core.List.{List, [], ◌∷◌}
use Prim.Native.Nat.{ℕ}
use lib.Seq.{paste}
use Rattle.party.specs.declared.Text.{Text}
use Rattle.record_bytes.specs.RecordBytes.{text_at}
use Rattle.record_bytes.proofs.loaded.Given as goal

-- the four names
abbrev pub texts : List ℕ → List Text
texts s = text_at 2 s ∷ text_at 3 s ∷ text_at 4 s ∷ text_at 5 s ∷ []

abbrev pub invariant-loop-i : goal.invariant-loop-i
invariant-loop-i l = l.names ≡ paste l.initial.names 0 (texts l.record) l.i
