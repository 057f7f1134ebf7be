-- What trimming leaves of a text: all of it, or less. Assumes nothing.
use mathlib.Core.Path.{◌≡◌, refl, ◌∙◌, ap}
use mathlib.Core.Bool.{Bool, true, false}
use mathlib.Core.List.{List, [], ◌∷◌}
use Prim.Native.Nat.{ℕ, suc, ◌≤◌}
use native.Mathlib.Omega.{arith}
use lib.ListN.{length}
use Rattle.field_utils.specs.Trim.{white, trimmed_start, keep, trimmed_end, trimmed}

-- no longer than the text, and the text where it is no shorter
record Part (text body : List ℕ) : Type 0 where
  pub most : length text ≤ length body
  pub same : length body ≤ length text → text ≡ body

start_part : (l : List ℕ) → Part (trimmed_start l) l
unfolding trimmed_start
start_part [] = record { most = omega arith; same = λ h. refl }
start_part (b ∷ l) = go (white b) refl (start_part l)
  where
    go : (t : Bool) → white b ≡ t → Part (trimmed_start l) l → Part (trimmed_start (b ∷ l)) (b ∷ l)
    go true e p = rw (e, trimmed_start) (record { most = omega (arith, p.most); same = λ h. absurd (omega (arith, h, p.most)) })
    go false e p = rw (e, trimmed_start) (record { most = omega arith; same = λ h. refl })

-- a byte in front of a trimmed rest
keep_most : (b : ℕ) (l : List ℕ) → length (keep b l) ≤ suc (length l)
unfolding keep
keep_most b [] = go (white b) refl
  where
    go : (t : Bool) → white b ≡ t → length (keep b []) ≤ 1
    go true e = rw (e, keep) (omega arith)
    go false e = rw (e, keep) (omega arith)
keep_most b (a ∷ l) = omega arith

keep_same : (b : ℕ) (l : List ℕ) → suc (length l) ≤ length (keep b l) → keep b l ≡ b ∷ l
unfolding keep
keep_same b [] h = go (white b) refl
  where
    go : (t : Bool) → white b ≡ t → keep b [] ≡ b ∷ []
    go true e = absurd (let k : length (keep b []) ≡ 0 = rw (e, keep) in omega (arith, h, k))
    go false e = rw (e, keep)
keep_same b (a ∷ l) h = refl

end_part : (l : List ℕ) → Part (trimmed_end l) l
unfolding trimmed_end
end_part [] = record { most = omega arith; same = λ h. refl }
end_part (b ∷ l) =
    let p = end_part l in
    let k = keep_most b (trimmed_end l) in
    record {
      most = omega (arith, p.most, k);
      same = λ h.
          let q : trimmed_end l ≡ l = p.same (omega (arith, h, k)) in
          keep_same b (trimmed_end l) (omega (arith, h, ap length q)) ∙ ap (◌∷◌ b) q;
    }

module _ (body : List ℕ) where
  pub trimmed_most : length (trimmed body) ≤ length body
  unfolding trimmed
  trimmed_most = omega (arith, (end_part (trimmed_start body)).most, (start_part body).most)

  pub trimmed_same : length body ≤ length (trimmed body) → trimmed body ≡ body
  unfolding trimmed
  trimmed_same h =
      let s = start_part body in
      let e = end_part (trimmed_start body) in
      e.same (omega (arith, h, s.most)) ∙ s.same (omega (arith, h, e.most))
