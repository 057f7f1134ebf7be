-- Laws of trimming. Assumes nothing.
use Rattle.std.proofs.Common.{◌≡◌, ℕ, zero, suc, ◌+◌, ◌-◌, ◌<◌, ◌≤◌, true, false, List, [], ◌∷◌, ◌++◌, length, get_or, take, drop, sym, refl, ap, ◌∙◌, add-one, arith, drop_of_length-le, drop-cons, take-suc}
use lib.Seq.{take-length}
use Rattle.field_utils.specs.Trim.{white, trimmed_start, keep, trimmed_end}

-- a last byte is taken away, or kept with all before it
end_white : (l : List ℕ) (b : ℕ) → white b ≡ true → trimmed_end (l ++ (b ∷ [])) ≡ trimmed_end l
unfolding trimmed_end keep
end_white [] b e = rw (e, keep)
end_white (a ∷ l) b e = ap (keep a) (end_white l b e)

keep_front : (a : ℕ) (l : List ℕ) (b : ℕ) → keep a (l ++ (b ∷ [])) ≡ a ∷ l ++ (b ∷ [])
unfolding keep
keep_front a [] b = refl
keep_front a (c ∷ l) b = refl

end_kept : (l : List ℕ) (b : ℕ) → white b ≡ false → trimmed_end (l ++ (b ∷ [])) ≡ l ++ (b ∷ [])
unfolding trimmed_end keep
end_kept [] b e = rw (e, keep)
end_kept (a ∷ l) b e = ap (keep a) (end_kept l b e) ∙ keep_front a l b

-- the end, up to a place after a byte
pub end_less : (s : List ℕ) (e : ℕ) → 0 < e → e ≤ length s → white (get_or s (e - 1) 0) ≡ true → trimmed_end (take e s) ≡ trimmed_end (take (e - 1) s)
end_less s zero p k w = absurd (omega arith)
end_less s (suc n) p k w =
    let z : suc n - 1 ≡ n = omega arith in
    rw (z, take-suc s n 0) (end_white (take n s) (get_or s n 0) (rw z at w))

pub end_there : (s : List ℕ) (e : ℕ) → 0 < e → e ≤ length s → white (get_or s (e - 1) 0) ≡ false → trimmed_end (take e s) ≡ take e s
end_there s zero p k w = absurd (omega arith)
end_there s (suc n) p k w =
    let z : suc n - 1 ≡ n = omega arith in
    rw (take-suc s n 0) (end_kept (take n s) (get_or s n 0) (rw z at w))

-- the same of a whole list
module _ (l : List ℕ) (h : 0 < length l) where
  pub last_white : white (get_or l (length l - 1) 0) ≡ true → trimmed_end l ≡ trimmed_end (take (length l - 1) l)
  last_white w = ap trimmed_end (sym (take-length l)) ∙ end_less l (length l) h (omega arith) w

  pub last_there : white (get_or l (length l - 1) 0) ≡ false → trimmed_end l ≡ l
  last_there w = ap trimmed_end (sym (take-length l)) ∙ end_there l (length l) h (omega arith) w ∙ take-length l

-- an empty one
pub end_short : (l : List ℕ) → length l < 1 → trimmed_end l ≡ l
unfolding trimmed_end
end_short [] h = refl
end_short (b ∷ l) h = absurd (omega arith)

pub start_short : (l : List ℕ) → length l < 1 → trimmed_start l ≡ l
unfolding trimmed_start
start_short [] h = refl
start_short (b ∷ l) h = absurd (omega arith)

-- the start, from a place on
module _ (s : List ℕ) (i : ℕ) where
  pub start_more : i < length s → white (get_or s i 0) ≡ true → trimmed_start (drop i s) ≡ trimmed_start (drop (i + 1) s)
  unfolding trimmed_start
  start_more h e = rw (add-one, drop-cons s i 0) (rw (e, trimmed_start))

  pub start_there : i < length s → white (get_or s i 0) ≡ false → trimmed_start (drop i s) ≡ drop i s
  unfolding trimmed_start
  start_there h e = rw (drop-cons s i 0) (rw (e, trimmed_start))

  pub start_none : length s ≤ i → trimmed_start (drop i s) ≡ []
  unfolding trimmed_start
  start_none h = rw (drop_of_length-le s h)
