-- A table that lists a function's values, entry after entry. Assumes nothing.
use mathlib.Core.Path.{◌≡◌, refl, sym, ◌∙◌, ap}
use mathlib.Core.Bool.{Bool, true, false, ◌&&◌, and-false, false≢true}
use mathlib.Core.List.{List, [], ◌∷◌}
use Prim.Native.Nat.{ℕ, zero, suc, ◌+◌, ◌≤◌, ◌<◌}
use native.Mathlib.Nat.{add-zero, add-suc, suc-add, zero-add, le_of_suc-le-suc, not-suc-le-zero}
use native.Mathlib.Omega.{arith}
use lib.Dec.{leb}
use lib.ListN.{get_or}
use borrow.Author.Tests.{leb-true, leb-false, lt-leb, ne_eqb}
use Rattle.swift_utils.specs.Bytes.{all, among, letter, small, digit, alphanumeric, signs, legal, narrow_signs, narrow}
use Rattle.swift_utils.specs.Classes.{table, bits_of, classes_of, class_table, has_bits, in_classes, entry_in}
use Rattle.swift_utils.proofs.Classes.{all_agree}

from : (f : ℕ → ℕ) (n i k : ℕ) → k < n → get_or (table f i n) k 0 ≡ f (i + k)
from f zero i k h = absurd (not-suc-le-zero h)
from f (suc n) i zero h = rw add-zero
from f (suc n) i (suc k) h = from f n (suc i) k (le_of_suc-le-suc h) ∙ ap f (suc-add i k) ∙ rw add-suc

-- the entry at k is f at k
pub at : (f : ℕ → ℕ) (n k : ℕ) → k < n → get_or (table f 0 n) k 0 ≡ f k
at f n k h = from f n 0 k h ∙ ap f (zero-add k)

-- past the table there are no entries, and no byte is legal
past : (f : ℕ → ℕ) (n i k : ℕ) → n ≤ k → get_or (table f i n) k 0 ≡ 0
past f zero i k h = refl
past f (suc n) i zero h = absurd (omega arith)
past f (suc n) i (suc k) h = past f n (suc i) k (le_of_suc-le-suc h)

among_past : (l : List ℕ) (b : ℕ) → all (λ (c : ℕ). leb c 255) l ≡ true → 255 < b → among l b ≡ false
among_past [] b e h = refl
among_past (c ∷ l) b e h = go (leb c 255) refl e (λ f. among_past l b f h)
  where
    go : (t : Bool) → leb c 255 ≡ t → (t && all (λ (c : ℕ). leb c 255) l) ≡ true → (all (λ (c : ℕ). leb c 255) l ≡ true → among l b ≡ false) → among (c ∷ l) b ≡ false
    go true k f ih = rw (ne_eqb b c (λ g. omega (arith, g, h, leb-true c 255 k)), ih f)
    go false k f ih = absurd (false≢true f)

signs_bytes : all (λ (c : ℕ). leb c 255) signs ≡ true
unfolding signs
signs_bytes = refl

narrow_bytes : all (λ (c : ℕ). leb c 255) narrow_signs ≡ true
unfolding narrow_signs
narrow_bytes = refl

letter_past : (b : ℕ) → 255 < b → letter b ≡ false
unfolding letter
letter_past b h = rw (lt-leb b 90 (omega arith), lt-leb b 122 (omega arith), and-false (leb 65 b), and-false (leb 97 b))

digit_past : (b : ℕ) → 255 < b → digit b ≡ false
unfolding digit
digit_past b h = rw (lt-leb b 57 (omega arith), and-false (leb 48 b))

legal_past : (b : ℕ) → 255 < b → legal b ≡ false
unfolding legal alphanumeric
legal_past b h = rw (letter_past b h, digit_past b h, among_past signs b signs_bytes h)

narrow_past : (b : ℕ) → 255 < b → narrow b ≡ false
unfolding narrow alphanumeric
narrow_past b h = rw (letter_past b h, digit_past b h, among_past narrow_signs b narrow_bytes h)

small_past : (b : ℕ) → 255 < b → small b ≡ false
unfolding small
small_past b h = rw (lt-leb b 122 (omega arith), and-false (leb 97 b))

classes_past : (b : ℕ) → 255 < b → classes_of b ≡ 0
unfolding classes_of bits_of alphanumeric
classes_past b h = rw (legal_past b h, narrow_past b h, letter_past b h, digit_past b h, small_past b h)

-- the entry of a byte is its classes
pub classes_at : (b : ℕ) → get_or class_table b 0 ≡ classes_of b
unfolding class_table
classes_at b = go (leb b 255) refl
  where
    go : (t : Bool) → leb b 255 ≡ t → get_or class_table b 0 ≡ classes_of b
    go true e = at classes_of 256 b (omega (arith, leb-true b 255 e))
    go false e = past classes_of 256 0 b (omega (arith, leb-false b 255 e)) ∙ sym (classes_past b (leb-false b 255 e))

-- what the test of a byte's entry says of the byte
pub by_entry : (mask b : ℕ) {l : List ℕ} {t : Bool} → l ≡ class_table → entry_in l mask b ≡ t → in_classes mask b ≡ t
by_entry mask b e g = rw (← (classes_at b), ← e) g

-- what the test of all entries says of the bytes, by a test that the mask stands for
pub by_entries : (mask : ℕ) (f : ℕ → Bool) → ((b : ℕ) → in_classes mask b ≡ f b) → (l s : List ℕ) → l ≡ class_table → all (entry_in l mask) s ≡ all f s
by_entries mask f agree l s e =
    all_agree (entry_in l mask) f (λ b. ap (λ (c : List ℕ). has_bits mask (get_or c b 0)) e ∙ ap (has_bits mask) (classes_at b) ∙ agree b) s
