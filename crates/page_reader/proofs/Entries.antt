-- The entries of an index by its numbers, and what a lookup answers by its tests. Assumes nothing.
use mathlib.Core.Path.{◌≡◌, refl, sym, ◌∙◌, ap, subst}
use mathlib.Core.Bool.{Bool, true, false}
use mathlib.Core.List.{List, [], ◌∷◌}
use Prim.Native.Nat.{ℕ, zero, suc, ◌+◌, ◌*◌, ◌-◌, ◌≤◌, ◌<◌, min}
use native.Mathlib.Omega.{arith}
use Rattle.std.specs.Prelude.{Result, Ok}
use Rattle.std.specs.Simd.{first_chunks}
use lib.ListN.{length, take, drop, get_or, length-take}
use lib.Seq.{get_or-take, drop-cons, drop-drop}
use borrow.Author.Tests.{eq-eqb, le-leb, lt-leb}
use Rattle.errors.specs.declared.ParseError.{ParseError}
use Rattle.errors.specs.Refusals.{Reply, accepted, refused, must}
use Rattle.field_utils.proofs.Passing.{chunk_at}
use Rattle.record_bytes.specs.RecordBytes.{record_size}
use Rattle.page_reader.specs.declared.index.FieldRead.{FieldRead}
use Rattle.page_reader.specs.declared.index.Place.{Place}
use Rattle.page_reader.specs.Pages.{page_most, past, Tagged, tagged, PageRead, read_tagged, read_field, read_case, read_at}
use Rattle.page_reader.specs.Reads.{Read, read_here}
use Rattle.page_reader.specs.Index.{Entry, index_most, index_size, entries_in, entries_of, no_entry, Met, a_field, met_by, field_at, Looked, found, not_found, looking, is_there, has_entry, entry_of, look_reply, look_up, look_lent, look_bytes, found_at, look_outline, told_body, told_looked}
use Rattle.page_reader.specs.Code.{IsField}
use Rattle.page_reader.proofs.Cases.{Leaves, by_case}

-- ---- the entries that an index has
in_length : (n : ℕ) (l : List ℕ) → length l ≡ 3 * n → length (entries_in l) ≡ n
unfolding entries_in
in_length zero [] h = refl
in_length zero (a ∷ l) h = absurd (omega arith)
in_length (suc n) [] h = absurd (omega arith)
in_length (suc n) (a ∷ []) h = absurd (omega arith)
in_length (suc n) (a ∷ b ∷ []) h = absurd (omega arith)
in_length (suc n) (a ∷ b ∷ c ∷ l) h = ap suc (in_length n l (omega arith))

pub entries_length : (l : List ℕ) → length l ≡ index_size → length (entries_of l) ≡ min (get_or l 0 0) index_most
unfolding entries_of
entries_length [] h = absurd (omega arith)
entries_length (count ∷ l) h = length-take count (entries_in l) ∙ ap (min count) (in_length index_most l (omega arith))

-- an entry by its three numbers
abbrev numbers_at : List ℕ → ℕ → Entry
numbers_at l i = record { tag = get_or l i 0; position = get_or l (suc i) 0; len = get_or l (suc (suc i)) 0 }

in_at : (l : List ℕ) (i : ℕ) (none : Entry) → i < length (entries_in l) → get_or (entries_in l) i none ≡ numbers_at l (3 * i)
unfolding entries_in
in_at [] i none h = absurd (omega arith)
in_at (a ∷ []) i none h = absurd (omega arith)
in_at (a ∷ b ∷ []) i none h = absurd (omega arith)
in_at (a ∷ b ∷ c ∷ l) zero none h = refl
in_at (a ∷ b ∷ c ∷ l) (suc i) none h = in_at l i none (omega arith) ∙ ap (numbers_at (a ∷ b ∷ c ∷ l)) (let e : suc (suc (suc (3 * i))) ≡ 3 * suc i = omega arith in e)

-- entry k, counted from 1, by its three numbers
entry_at : (l : List ℕ) (k : ℕ) → 1 ≤ k → k ≤ length (entries_of l) → entry_of l k ≡ numbers_at l (1 + (k - 1) * 3)
unfolding entries_of
entry_at [] k o h = absurd (omega arith)
entry_at (count ∷ l) zero o h = absurd (omega arith)
entry_at (count ∷ l) (suc i) o h =
    let n = length-take count (entries_in l) in
    let z : suc i - 1 ≡ i = omega arith in
    let e : suc (3 * i) ≡ 1 + (suc i - 1) * 3 = omega arith in
    ap (λ (j : ℕ). get_or (take count (entries_in l)) j no_entry) z
    ∙ cut (omega (arith, n, h))
    ∙ in_at l i no_entry (omega (arith, n, h))
    ∙ ap (numbers_at (count ∷ l)) e
  where
    cut : i < count → get_or (take count (entries_in l)) i no_entry ≡ get_or (entries_in l) i no_entry
    cut m = rw get_or-take

-- and by the chunk of them
abbrev pub chunk_entry : List ℕ → Entry
chunk_entry c = record { tag = get_or c 0 0; position = get_or c 1 0; len = get_or c 2 0 }

pub entry_chunk : (n : ℕ) {s : List ℕ} (l : List ℕ) (k : ℕ) → s ≡ drop 1 l → 1 ≤ k → k ≤ length (entries_of l) → k ≤ n → 1 + 3 * k ≤ length l → entry_of l k ≡ chunk_entry (get_or (first_chunks 3 n s) (k - 1) [])
entry_chunk n {s} l k e o h m w =
    let i = 1 + (k - 1) * 3 in
    let three = drop-cons l i 0 (omega arith) ∙ ap (◌∷◌ (get_or l i 0)) (drop-cons l (suc i) 0 (omega arith) ∙ ap (◌∷◌ (get_or l (suc i) 0)) (drop-cons l (suc (suc i)) 0 (omega arith))) in
    let chunk = chunk_at 3 n s (k - 1) (omega arith) ∙ ap (take 3) (ap (drop ((k - 1) * 3)) e ∙ drop-drop ((k - 1) * 3) 1 l ∙ three) in
    entry_at l k o h ∙ ap chunk_entry (sym chunk)

-- ---- what a lookup answers
-- an entry that is what the page has
itself : (e : Entry) → is_there (a_field e) e ≡ true
itself e = rw (eq-eqb e.tag e.tag refl, eq-eqb e.position e.position refl, eq-eqb e.len e.len refl)

module _ (page index : List ℕ) (k : ℕ) where
  pub look_long : page_most < length page → look_up page index k ≡ not_found 18 0
  unfolding look_up
  look_long h = rw (lt-leb (length page) page_most h)

  module _ (fits : length page ≤ page_most) where
    pub look_no_entry : has_entry index k ≡ false → look_up page index k ≡ not_found 31 0
    unfolding look_up
    look_no_entry h = rw (le-leb (length page) page_most fits, h)

    pub look_none : k ≡ 0 → look_up page index k ≡ not_found 31 0
    look_none z = look_no_entry (rw z)

    pub look_past : 1 ≤ k → length (entries_of index) < k → look_up page index k ≡ not_found 31 0
    look_past o z = look_no_entry (rw (le-leb 1 k o, lt-leb k (length (entries_of index)) z))

    -- by what the page has at the entry's position
    pub look_by : has_entry index k ≡ true → {e : Entry} → entry_of index k ≡ e → {t : Bool} → is_there (met_by (read_case page e.position) page e.position) e ≡ t
        → look_up page index k ≡ looking (must t 21 0) (read_here page e.position)
    unfolding look_up field_at
    look_by m q h = rw (le-leb (length page) page_most fits, m, q, h)

    -- an entry that is what the page has there
    pub look_found : 1 ≤ k → k ≤ length (entries_of index) → {e : Entry} → entry_of index k ≡ e → field_at page e.position ≡ a_field e → look_up page index k ≡ found (read_here page e.position)
    unfolding field_at
    look_found o m {e} q h = look_by (rw (le-leb 1 k o, le-leb k (length (entries_of index)) m)) q (ap (λ (x : Met). is_there x e) h ∙ itself e)

-- ---- what was found
-- is what the reader says there
pub found_here : (page index : List ℕ) (k : ℕ) {r : Read} → look_up page index k ≡ found r → r.gave ≡ read_at page r.at
unfolding look_up
found_here page index k {r} e = go (look_reply page index k) e
  where
    go : (t : Reply) → looking t (read_here page (entry_of index k).position) ≡ found r → r.gave ≡ read_at page r.at
    go accepted q = let z : read_here page (entry_of index k).position ≡ r = cc in subst (λ (x : Read). x.gave ≡ read_at page x.at) z refl
    go (refused i n) q = absurd (let z : ◌≡◌ {A = ℕ} 0 1 = cc in omega arith)

-- its refusal is the one that applies, and what holds of that holds of it
pub refusal_of_lem : (P : Reply → Type 0) (page index : List ℕ) (k : ℕ) {i n : ℕ} → look_up page index k ≡ not_found i n → P (look_reply page index k) → P (refused i n)
unfolding look_up
refusal_of_lem P page index k {i} {n} e h = go (look_reply page index k) e h
  where
    go : (t : Reply) → looking t (read_here page (entry_of index k).position) ≡ not_found i n → P t → P (refused i n)
    go accepted q h = absurd (let z : ◌≡◌ {A = ℕ} 0 1 = cc in omega arith)
    go (refused j l) q h = let a : j ≡ i = cc in let b : l ≡ n = cc in subst P (λ x. refused (a x) (b x)) h

-- its read, by its option
pub field_read : (page : List ℕ) {p : Place} → IsField (read_case page p.at) page p → read_at page p.at ≡ read_tagged (tagged p.tag.option p.tag.body.now) (past page p.to)
unfolding read_field
field_read page {p} f = by_case page p.at f.case ∙ ap (λ (t : Tagged). read_tagged t (past page p.to)) f.tag

-- ---- into lent bytes
pub look_whole : (page index : List ℕ) (k : ℕ) (d : List ℕ) → record_size ≤ length d → look_lent page index k d ≡ look_up page index k
look_whole page index k d h = rw (le-leb record_size (length d) h)

-- what an answer of the code says of a lookup into lent bytes, which were d and are e
abbrev pub Looks : Result (FieldRead (Unit {0})) ParseError → Looked → List ℕ → List ℕ → Type 0
Looks r x d e = (told_looked r ≡ look_outline x) × (e ≡ look_bytes x d)

-- of a field that was found, what its read leaves
pub looks_body : (at next : ℕ) (x : PageRead) (d : List ℕ) {e : List ℕ} (w : Result (Unit {0}) ParseError) → next ≡ x.next → Leaves (told_body w) x.outcome d e
    → Looks (Ok (record { outcome = w; at = at; next = next })) (found (record { at = at; gave = x })) d e
looks_body at next x d w n h = ((λ i. found_at at (record { kind = h.0 i; next = n i })), h.1)
