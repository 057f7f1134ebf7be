-- An entry noted in an index: the numbers that are stored, and the entries that it then has. Assumes nothing.
use mathlib.Core.Path.{◌≡◌, refl, sym, ◌∙◌, ap}
use mathlib.Core.Bool.{true}
use mathlib.Core.List.{List, [], ◌∷◌, ◌++◌, map}
use Prim.Native.Nat.{ℕ, zero, suc, ◌+◌, ◌*◌, ◌≤◌, ◌<◌}
use native.Mathlib.Numerals.{add-one}
use native.Mathlib.Omega.{arith}
use lib.ListN.{length, take, drop, set, length-append}
use borrow.Author.Tests.{ltb-true}
use Rattle.errors.specs.Refusals.{Reply, accepted, refused}
use Rattle.party.specs.declared.Party.{Party}
use Rattle.party.specs.Party.{content}
use Rattle.writer.specs.Writing.{written_field, put}
use Rattle.writer.specs.Code.{Puts}
use Rattle.writer.proofs.Puts.{put_length, puts_byte, same_length, both}
use Rattle.page_reader.specs.Index.{Entry, index_most, index_size, entries_in, entries_of}
use Rattle.page_reader.proofs.Entries.{entries_length}
use Rattle.page_writer.specs.IndexState.{IndexState, no_index, an_index, is_indexed, is_free, noted, noting}
use Rattle.page_writer.specs.Adding.{with_lf, has_free_entry, entry_for}
use Rattle.page_writer.specs.WholePage.{kept, page_of}

-- ---- what is stored
module _ (d : List ℕ) (n t p l : ℕ) (room : 3 * n + 4 ≤ length d) where
  three : Puts d (3 * n + 1) (t ∷ p ∷ l ∷ []) (set (set (set d (3 * n + 1) t) (3 * n + 2) p) (3 * n + 3) l) (3 * n + 4)
  three =
      let a : Puts d (3 * n + 1) (t ∷ []) (set d (3 * n + 1) t) (3 * n + 2) = record { bytes = (puts_byte d (3 * n + 1) t (omega arith)).bytes; ends = omega arith } in
      let d1 = set d (3 * n + 1) t in
      let k1 = same_length a (omega arith) in
      let b : Puts d1 (3 * n + 2) (p ∷ []) (set d1 (3 * n + 2) p) (3 * n + 3) = record { bytes = (puts_byte d1 (3 * n + 2) p (omega (arith, k1))).bytes; ends = omega arith } in
      let ab = both (t ∷ []) (p ∷ []) a (omega arith) b in
      let d2 = set d1 (3 * n + 2) p in
      let k2 = same_length ab (omega arith) in
      let c : Puts d2 (3 * n + 3) (l ∷ []) (set d2 (3 * n + 3) l) (3 * n + 4) = record { bytes = (puts_byte d2 (3 * n + 3) l (omega (arith, k2))).bytes; ends = omega arith } in
      both (t ∷ p ∷ []) (l ∷ []) ab (omega arith) c

  pub stored : n ≡ length (entries_of d) → set (set (set (set d (3 * n + 1) t) (3 * n + 2) p) (3 * n + 3) l) 0 (n + 1) ≡ noted (record { tag = t; position = p; len = l }) d
  unfolding noted
  stored e =
      let d3 = set (set (set d (3 * n + 1) t) (3 * n + 2) p) (3 * n + 3) l in
      let k = same_length three (omega arith) in
      (puts_byte d3 0 (n + 1) (omega (arith, k))).bytes
      ∙ ap (λ (x : List ℕ). put x 0 ((n + 1) ∷ [])) three.bytes
      ∙ ap (λ (x : ℕ). put (put d (3 * n + 1) (t ∷ p ∷ l ∷ [])) 0 (x ∷ [])) (add-one n)
      ∙ ap (λ (m : ℕ). put (put d (3 * m + 1) (t ∷ p ∷ l ∷ [])) 0 (suc m ∷ [])) e

-- ---- the entries that it then has
put_cons : (c : ℕ) (l : List ℕ) (at : ℕ) (s : List ℕ) → put (c ∷ l) (suc at) s ≡ c ∷ put l at s
put_cons c l at s = let e : suc at + length s ≡ suc (at + length s) = omega arith in ap (λ (k : ℕ). c ∷ (take at l ++ take (length s) s ++ drop k (c ∷ l))) e

module _ (e : Entry) where
  abbrev numbers : List ℕ
  numbers = e.tag ∷ e.position ∷ e.len ∷ []

  in_put : (n : ℕ) (l : List ℕ) → 3 * n + 3 ≤ length l → take (suc n) (entries_in (put l (3 * n) numbers)) ≡ take n (entries_in l) ++ e ∷ []
  unfolding entries_in
  in_put zero (a ∷ b ∷ c ∷ l) h = refl
  in_put (suc n) (a ∷ b ∷ c ∷ l) h =
      let k : 3 * suc n ≡ suc (suc (suc (3 * n))) = omega arith in
      let q : put (a ∷ b ∷ c ∷ l) (3 * suc n) numbers ≡ a ∷ b ∷ c ∷ put l (3 * n) numbers =
      ap (λ (i : ℕ). put (a ∷ b ∷ c ∷ l) i numbers) k ∙ put_cons a (b ∷ c ∷ l) (suc (suc (3 * n))) numbers
      ∙ ap (◌∷◌ a) (put_cons b (c ∷ l) (suc (3 * n)) numbers ∙ ap (◌∷◌ b) (put_cons c l (3 * n) numbers)) in
      ap (λ (x : List ℕ). take (suc (suc n)) (entries_in x)) q ∙ ap (◌∷◌ (record { tag = a; position = b; len = c })) (in_put n l (omega arith))
  in_put n [] h = absurd (omega arith)
  in_put n (a ∷ []) h = absurd (omega arith)
  in_put n (a ∷ b ∷ []) h = absurd (omega arith)

  noted_length : (d : List ℕ) → length d ≡ index_size → length (entries_of d) < index_most → length (noted e d) ≡ index_size
  unfolding noted
  noted_length d size free =
      let n = length (entries_of d) in
      let a = put_length d (3 * n + 1) numbers (omega (arith, size, free)) in
      put_length (put d (3 * n + 1) numbers) 0 (suc n ∷ []) (omega (arith, a, size)) ∙ a ∙ size

  -- those that it had, and the new one
  noted_entries : (d : List ℕ) → length d ≡ index_size → length (entries_of d) < index_most → entries_of (noted e d) ≡ entries_of d ++ e ∷ []
  unfolding noted entries_of
  noted_entries [] size free = absurd (omega arith)
  noted_entries (c ∷ l) size free =
      let n = length (entries_of (c ∷ l)) in
      let m : n ≡ c = omega (arith, entries_length (c ∷ l) size, free) in
      let k : 3 * n + 1 ≡ suc (3 * n) = omega arith in
      let q : noted e (c ∷ l) ≡ suc n ∷ put l (3 * n) numbers =
      ap (λ (i : ℕ). put (put (c ∷ l) i numbers) 0 (suc n ∷ [])) k ∙ ap (λ (x : List ℕ). put x 0 (suc n ∷ [])) (put_cons c l (3 * n) numbers) in
      ap entries_of q ∙ in_put n l (omega (arith, size, free)) ∙ ap (λ (i : ℕ). take i (entries_in l) ++ e ∷ []) m

-- ---- the entries of a list's fields, which follow one another from a position on
unfoldable pub entries_from : ℕ → List Party → List Entry
entries_from at [] = []
entries_from at (p ∷ ps) = entry_for at (content p) ∷ entries_from (at + length (with_lf (written_field (content p)))) ps

pub from_length : (at : ℕ) (ps : List Party) → length (entries_from at ps) ≡ length ps
unfolding entries_from
from_length at [] = refl
from_length at (p ∷ ps) = ap suc (from_length (at + length (with_lf (written_field (content p)))) ps)

from_append : (at : ℕ) (ps qs : List Party) → entries_from at (ps ++ qs) ≡ entries_from at ps ++ entries_from (at + length (page_of (map kept ps) [])) qs
unfolding entries_from page_of
from_append at [] qs = ap (λ (n : ℕ). entries_from n qs) (let z : at ≡ at + 0 = omega arith in z)
from_append at (p ∷ ps) qs =
    let t = with_lf (written_field (content p)) in
    let n : at + length t + length (page_of (map kept ps) []) ≡ at + length (t ++ page_of (map kept ps) []) = omega (arith, length-append t (page_of (map kept ps) [])) in
    ap (◌∷◌ (entry_for at (content p))) (from_append (at + length t) ps qs ∙ ap (λ (k : ℕ). entries_from (at + length t) ps ++ entries_from k qs) n)

-- from the start
pub from_start : (ps : List Party) (p : Party) (qs : List Party) → let at = length (page_of (map kept ps) []) in
    entries_from 0 (ps ++ p ∷ qs) ≡ entries_from 0 ps ++ entry_for at (content p) ∷ entries_from (at + length (with_lf (written_field (content p)))) qs
unfolding entries_from
from_start ps p qs =
    let n : 0 + length (page_of (map kept ps) []) ≡ length (page_of (map kept ps) []) = omega arith in
    from_append 0 ps (p ∷ qs) ∙ ap (λ (k : ℕ). entries_from 0 ps ++ entries_from k (p ∷ qs)) n

-- what stands beside a page has the entries of a list's fields, if it is an index
abbrev pub Noted : IndexState → List Party → Type 0
Noted no_index list = Unit {0}
Noted (an_index d) list = (length d ≡ index_size) × (entries_of d ≡ entries_from 0 list)

-- so an entry is free by the length of the list
pub noted_free : (b : IndexState) (list : List Party) → Noted b list → has_free_entry b ≡ is_free (is_indexed b) (length list)
noted_free no_index list h = refl
noted_free (an_index d) list h = ap (is_free true) (ap length h.1 ∙ from_length 0 list)

-- one more
pub noted_more : (b : IndexState) (list : List Party) (p : Party) → Noted b list → has_free_entry b ≡ true → Noted (noting accepted (entry_for (length (page_of (map kept list) [])) (content p)) b) (list ++ p ∷ [])
unfolding entries_from
noted_more no_index list p h f = tt
noted_more (an_index d) list p h f =
    let e = entry_for (length (page_of (map kept list) [])) (content p) in
    let free = ltb-true (length (entries_of d)) index_most f in
    (noted_length e d h.0 free, noted_entries e d h.0 free ∙ ap (λ (x : List Entry). x ++ e ∷ []) h.1 ∙ sym (from_start list p []))

pub noting_kind : (r : Reply) (e : Entry) (b : IndexState) → is_indexed (noting r e b) ≡ is_indexed b
noting_kind accepted e no_index = refl
noting_kind accepted e (an_index d) = refl
noting_kind (refused k n) e b = refl
