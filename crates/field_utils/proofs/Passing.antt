-- Places that no LF stands between. Assumes nothing.
use Rattle.std.proofs.Common.{◌≡◌, ℕ, zero, suc, ◌+◌, ◌*◌, ◌<◌, ◌≤◌, Bool, true, false, eqb, List, [], ◌∷◌, length, get_or, take, drop, sym, refl, ap, ◌∙◌, subst, arith, length-drop, drop-drop}
use Rattle.std.specs.List.{AllWithin}
use Rattle.std.specs.Simd.{first_chunks}
use Rattle.field_utils.specs.Lines.{upto}
use Rattle.field_utils.specs.Words.{Passed}

-- a list by its first byte: b, or another
module _ (b a : ℕ) (l : List ℕ) where
  first : eqb a b ≡ true → upto b (a ∷ l) ≡ 0
  unfolding upto
  first e = rw (e, upto)

  other : eqb a b ≡ false → upto b (a ∷ l) ≡ suc (upto b l)
  unfolding upto
  other e = rw (e, upto)

-- what the first k bytes say of all: a b among them is the first, and where there is none it is the first of the others
pub record Part (b k : ℕ) (l : List ℕ) : Type 0 where
  pub found : upto b (take k l) < k → upto b l ≡ upto b (take k l)
  pub past : k ≤ length l → upto b (take k l) ≡ k → upto b l ≡ k + upto b (drop k l)

pub part_of : (b k : ℕ) (l : List ℕ) → Part b k l
unfolding upto
part_of b zero l = record { found = λ h. absurd (omega arith); past = λ h e. omega arith }
part_of b (suc k) [] = record { found = λ h. refl; past = λ h e. absurd (omega arith) }
part_of b (suc k) (a ∷ l) = go (eqb a b) refl (part_of b k l)
  where
    go : (t : Bool) → eqb a b ≡ t → Part b k l → Part b (suc k) (a ∷ l)
    go true e r =
        let here = first b a (take k l) e in
        record { found = λ h. omega (arith, here, first b a l e); past = λ h g. absurd (omega (arith, here, g)) }
    go false e r =
        let next = other b a (take k l) e in
        let all = other b a l e in
        record {
          found = λ h. omega (arith, next, all, r.found (omega (arith, next, h)));
          past = λ h g. omega (arith, next, all, r.past (omega (arith, h)) (omega (arith, next, g)));
        }

pub passed_none : (s : List ℕ) (from to : ℕ) → to ≡ from → from ≤ length s → Passed s from to
passed_none s from to e h = subst (Passed s from) (sym e) (record { forward = omega arith; within = h; same = refl })

pub passed_more : {s : List ℕ} {from at to : ℕ} → Passed s from at → Passed s at to → Passed s from to
passed_more p q = record { forward = omega (arith, p.forward, q.forward); within = q.within; same = p.same ∙ q.same }

-- k bytes without an LF
pub passed_part : (s : List ℕ) (from k to : ℕ) → to ≡ from + k → to ≤ length s → upto 10 (take k (drop from s)) ≡ k → Passed s from to
passed_part s from k to t h e =
    let past = (part_of 10 k (drop from s)).past (omega (arith, t, h, length-drop from s)) e in
    record { forward = omega (arith, t); within = h; same = omega (arith, past, ap (upto 10) (drop-drop k from s ∙ ap (λ (n : ℕ). drop n s) (sym t)), t) }

-- a chunk of n bytes, of the first k of them
pub chunk_at : (n k : ℕ) (s : List ℕ) (i : ℕ) → i < k → get_or (first_chunks n k s) i [] ≡ take n (drop (i * n) s)
chunk_at n zero s i h = absurd (omega (arith, h))
chunk_at n (suc k) s zero h = let z : 0 * n ≡ 0 = omega arith in rw z
chunk_at n (suc k) s (suc i) h =
    let more : n + i * n ≡ suc i * n = omega arith in
    chunk_at n k (drop n s) i (omega (arith, h)) ∙ ap (take n) (drop-drop (i * n) n s ∙ ap (λ (m : ℕ). drop m s) more)

-- the first k of m blocks, where none of them has an LF
pub passed_blocks : (m k : ℕ) (s : List ℕ) (from : ℕ) → from + m * 256 ≤ length s → k ≤ m → AllWithin (λ block. upto 10 block ≡ 256) (first_chunks 256 m (drop from s)) 0 k → Passed s from (from + 256 * k)
passed_blocks m zero s from h l e = passed_none s from _ (omega arith) (omega arith)
passed_blocks m (suc k) s from h l e =
    let block = chunk_at 256 m (drop from s) k (omega arith) ∙ ap (take 256) (drop-drop (k * 256) from s) in
    let here : from + 256 * k ≡ from + k * 256 = omega arith in
    let before = passed_blocks m k s from h (omega arith) (λ i d a b. e i d a (omega arith)) in
    passed_more (subst (Passed s from) here before) (passed_part s (from + k * 256) 256 _ (omega arith) (omega arith) (sym (ap (upto 10) block) ∙ e k [] (omega arith) (omega arith)))
