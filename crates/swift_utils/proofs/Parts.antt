-- A part of a list, from a place to a place before the end, as the code takes it: `&s[a..e]`. Assumes nothing.
use mathlib.Core.Path.{◌≡◌, sym, ◌∙◌}
use mathlib.Core.List.{List, [], ◌∷◌}
use Prim.Native.Nat.{ℕ, zero, suc, ◌+◌, ◌-◌, ◌≤◌, ◌<◌}
use native.Mathlib.Nat.{sub-zero, zero-sub, suc-sub-suc, sub-add-eq}
use native.Mathlib.Numerals.{add-one}
use native.Mathlib.Omega.{arith}
use lib.ListN.{length, take, drop, get_or, length-drop}
use lib.Seq.{take_all, take-nil, length-take-le, drop-cons, drop-drop, get_or-take, get_or-drop}

abbrev pub part : ℕ → ℕ → List ℕ → List ℕ
part a e s = take (e - a) (drop a s)

module _ (a e : ℕ) (s : List ℕ) where
  pub part_length : e ≤ length s → length (part a e s) ≡ e - a
  part_length h = length-take-le (e - a) (drop a s) (omega (arith, length-drop a s))

  pub part_at : (i : ℕ) → i < e - a → get_or (part a e s) i 0 ≡ get_or s (a + i) 0
  part_at i h = rw (get_or-take, get_or-drop)

  pub part_none : e ≤ a → part a e s ≡ []
  part_none h = let z : e - a ≡ 0 = omega arith in rw z

  pub part_cons : a < e → e ≤ length s → part a e s ≡ get_or s a 0 ∷ part (a + 1) e s
  part_cons h k =
      let l : a < length s = omega arith in
      let z : e - a ≡ suc (e - (a + 1)) = omega arith in
      rw (z, add-one, drop-cons s a 0)

drop_take : (k n : ℕ) (l : List ℕ) → drop k (take n l) ≡ take (n - k) (drop k l)
drop_take zero n l = rw sub-zero
drop_take (suc k) zero l = rw zero-sub
drop_take (suc k) (suc n) [] = sym (take-nil (suc n - suc k))
drop_take (suc k) (suc n) (b ∷ l) = drop_take k n l ∙ rw suc-sub-suc

pub part_drop : (k a e : ℕ) (s : List ℕ) → drop k (part a e s) ≡ part (a + k) e s
part_drop k a e s = drop_take k (e - a) (drop a s) ∙ rw (drop-drop k a s, ← (sub-add-eq e a k))

pub part_end : (l : List ℕ) (a : ℕ) → part a (length l) l ≡ drop a l
part_end l a = take_all (length l - a) (drop a l) (omega (arith, length-drop a l))
