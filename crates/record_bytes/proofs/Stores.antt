-- Bytes stored one after the other are a copy. Assumes nothing.
use Prim.Native.Nat.{ℕ, zero, suc, ◌+◌, ◌<◌}
use native.Mathlib.Numerals.{add-one}
use native.Mathlib.Omega.{arith}
use mathlib.Core.Path.{◌≡◌, ◌∙◌, sym}
use mathlib.Core.List.{List}
use lib.ListN.{length, take, drop, get_or, set, length-drop, length-set}
use lib.Seq.{paste, paste-suc, get_or-drop, drop-cons, set_split, append_snoc}

-- bytes of s from i on, stored from at on: one, and k more
abbrev pub stores : List ℕ → ℕ → List ℕ → ℕ → ℕ → List ℕ
stores d at s i zero = set d at (get_or s i 0)
stores d at s i (suc k) = set (stores d at s i k) (at + suc k) (get_or s (i + suc k) 0)

module _ (d : List ℕ) (at : ℕ) (s : List ℕ) (i : ℕ) where
  pub stores_length : (k : ℕ) → length (stores d at s i k) ≡ length d
  stores_length zero = length-set d at (get_or s i 0)
  stores_length (suc k) = length-set (stores d at s i k) (at + suc k) (get_or s (i + suc k) 0) ∙ stores_length k

  -- the next has space
  pub stores_room : (k : ℕ) → at + suc k < length d → at + suc k < length (stores d at s i k)
  stores_room k h = rw (stores_length k) h

  pub stores_paste : (k : ℕ) → at + k < length d → i + k < length s → stores d at s i k ≡ paste d at (drop i s) (suc k)
  stores_paste zero h l = rw (drop-cons s i 0 (omega arith)) (set_split d at (get_or s i 0) (omega arith) ∙ rw (add-one at) (sym (append_snoc (take at d) (get_or s i 0) (drop (suc at) d))))
  stores_paste (suc k) h l =
      rw (stores_paste k (omega arith) (omega arith), ← get_or-drop i s (suc k) 0)
      (paste-suc d at (drop i s) (suc k) 0 (omega arith) (omega (arith, length-drop i s)))
