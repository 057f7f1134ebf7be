-- Laws of stored texts that the functions' proofs cite.
-- Assumes nothing.
use Prim.Native.Nat.{ℕ, zero, suc, ◌+◌, ◌*◌, ◌-◌, ◌<◌, ◌≤◌, min}
use mathlib.Core.Path.{◌≡◌, refl, ◌∙◌, sym, ap}
use mathlib.Core.Bool.{Bool, true, false, not, ◌&&◌}
use mathlib.Core.List.{List, [], ◌∷◌, ◌++◌, append_assoc, append-nil}
use native.Mathlib.Omega.{arith}
use native.Mathlib.Numerals.{add-one}
use borrow.Author.Tests.{le-leb, lt-leb, leb-true, leb-false, not-true, not-false}
use lib.Dec.{leb}
use lib.ListN.{length, get_or, take, drop, set, length-append, length-take, length-drop, take-append-drop, get_or-eq_default}
use lib.Seq.{take-take, take-append-add, paste, take_at, drop_at, take_all, take-add, take-append-le, drop-append-le, drop-drop, drop-set-lt, take-suc-set, append_snoc, length-take-le, take-paste, drop-paste, get_or-take, get_or-drop}
use Rattle.std.specs.Array.{IsFirstChunk}
use Rattle.std.proofs.lemmas.List.{drop_all}
use Rattle.party.specs.declared.Text.{Text}
use Rattle.party.specs.declared.Party.{Party}
use Rattle.party.specs.Limits.{place_of}
use Rattle.party.specs.Text.{text_most, padded, text_of, used}
use Rattle.party.specs.Party.{IsParty, blank}
use Rattle.party.proofs.Laws.{take_min}
use Rattle.record_bytes.specs.Code.{head_put}
use Rattle.record_bytes.specs.RecordBytes.{text_size, digits_at, record_size, byte_of, bit, encoded_text, encoded_texts, texts_of, nth_text, encoded, stored, text_from, text_at, has_option, holds_record, party_from, decoded, laid_out}

-- the text that stands for one past the end
abbrev pub none : Text
none = record { bytes = []; len = 0 }

-- ---- bytes that are a record
first_held : (b c : Bool) → (b && c) ≡ true → b ≡ true
first_held true c e = refl
first_held false c e = e

pub option_size : (s : List ℕ) → has_option s ≡ true → record_size ≤ length s
option_size s e = leb-true record_size (length s) (first_held (leb record_size (length s)) _ e)

pub holds_size : (s : List ℕ) → holds_record s ≡ true → record_size ≤ length s
unfolding holds_record
holds_size s e = leb-true record_size (length s) (first_held (leb record_size (length s)) _ (first_held (leb record_size (length s) && leb (get_or s 0 0) 10) _ e))

pub loaded : (s : List ℕ) → holds_record s ≡ true → decoded s ≡ party_from s
unfolding decoded party_from
loaded s e = rw (e, decoded)

pub loaded_not : (s : List ℕ) → holds_record s ≡ false → decoded s ≡ blank
unfolding decoded
loaded_not s e = rw (e, decoded)

-- what a function knows of a field of the record, by its test of the bytes
module _ (s : List ℕ) {b : Bool} (e : b ≡ holds_record s) where
  pub field_none : {A : Type 0} (f : Party → A) → not b ≡ true → f blank ≡ f (decoded s)
  field_none f h = sym (ap f (loaded_not s (sym e ∙ not-true b h)))

  pub field_here_lem : {A : Type 0} (f : Party → A) → not b ≡ false → f (party_from s) ≡ f (decoded s)
  field_here_lem f h = sym (ap f (loaded s (sym e ∙ not-false b h)))

  pub field_size : not b ≡ false → record_size ≤ length s
  field_size h = holds_size s (sym e ∙ not-false b h)

-- ---- a text among bytes
-- it has 38 bytes, where there are as many
pub text_size_lem : (s : List ℕ) (n : ℕ) → 3 + text_size * n + text_size ≤ length s → length (text_at n s).bytes ≡ text_most
unfolding text_at
text_size_lem s n h = omega (arith, length-drop 1 (take text_size (drop (3 + text_size * n) s)), length-take text_size (drop (3 + text_size * n) s), length-drop (3 + text_size * n) s)

full : (l : List ℕ) → length l ≡ text_most → (text_of l).bytes ≡ l
unfolding text_of padded
full l h = rw (take_all text_most l (omega arith), h) (append-nil l)

pub text_here :
    {slot : List ℕ} (s : List ℕ) (n : ℕ) (t : Text) → 3 + text_size * n + text_size ≤ length s → slot ≡ take text_size (drop (3 + text_size * n) s) → t ≡ text_of (take text_most (drop 1 slot)) →
    (record { bytes = t.bytes; len = get_or slot 0 0 }) ≡ text_at n s
unfolding text_at
text_here {slot} s n t h e f =
    let whole : length slot ≡ text_size = ap length e ∙ length-take-le text_size (drop (3 + text_size * n) s) (simp length-drop (omega arith)) in
    let all : length (drop 1 slot) ≡ text_most = simp length-drop (omega arith) in
    let bytes : t.bytes ≡ drop 1 slot = ap (λ (u : Text). u.bytes) f ∙ ap (λ (l : List ℕ). (text_of l).bytes) (take_all text_most (drop 1 slot) (omega arith)) ∙ full _ all in
    rw (bytes, e) refl

-- ---- the record of bytes: its names and digits by their places
module _ (s : List ℕ) where
  pub party_names : length (party_from s).name_and_address ≡ 4
  unfolding party_from
  party_names = refl

  pub party_name : (i : ℕ) → i < 4 → get_or (party_from s).name_and_address i none ≡ text_at (2 + i) s
  unfolding party_from
  party_name zero h = refl
  party_name (suc zero) h = refl
  party_name (suc (suc zero)) h = refl
  party_name (suc (suc (suc zero))) h = refl
  party_name (suc (suc (suc (suc i)))) h = absurd (omega arith)

  pub party_digit : (i : ℕ) → i < 4 → get_or (party_from s).digits i 0 ≡ get_or s (digits_at + i) 0
  unfolding party_from
  party_digit i h = get_or-take 4 (drop digits_at s) i 0 h ∙ get_or-drop digits_at s i 0

-- ---- what bytes have at the places of a record
laid_here : (s : List ℕ) → record_size ≤ length s → laid_out s ≡ party_from s
unfolding laid_out party_from
laid_here s h = rw (le-leb record_size (length s) h, laid_out)

laid_not : (s : List ℕ) → length s < record_size → laid_out s ≡ blank
unfolding laid_out
laid_not s h = rw (lt-leb record_size (length s) h, laid_out)

pub held_laid : (s : List ℕ) → holds_record s ≡ true → decoded s ≡ laid_out s
held_laid s e = loaded s e ∙ sym (laid_here s (holds_size s e))

-- a fact of both records holds of it
by_size : (s : List ℕ) (P : Party → Type 0) → (record_size ≤ length s → P (party_from s)) → P blank → P (laid_out s)
by_size s P here not = go (leb record_size (length s)) refl
  where
    go : (t : Bool) → leb record_size (length s) ≡ t → P (laid_out s)
    go true e = rw (laid_here s (leb-true record_size (length s) e)) (here (leb-true record_size (length s) e))
    go false e = rw (laid_not s (leb-false record_size (length s) e)) not

pub laid_names : (s : List ℕ) → length (laid_out s).name_and_address ≡ 4
unfolding party_from
laid_names s = by_size s (λ p. length p.name_and_address ≡ 4) (λ h. refl) refl

-- each of the six texts
nth_party : (s : List ℕ) (n : ℕ) → n < 6 → nth_text n (party_from s) ≡ text_at n s
unfolding party_from
nth_party s zero h = refl
nth_party s (suc zero) h = refl
nth_party s (suc (suc zero)) h = refl
nth_party s (suc (suc (suc zero))) h = refl
nth_party s (suc (suc (suc (suc zero)))) h = refl
nth_party s (suc (suc (suc (suc (suc zero))))) h = refl
nth_party s (suc (suc (suc (suc (suc (suc n)))))) h = absurd (omega arith)

nth_blank : (n : ℕ) → ((nth_text n blank).len ≡ 0) × (n < 6 → length (nth_text n blank).bytes ≡ text_most)
unfolding text_of padded
nth_blank zero = (refl, λ h. refl)
nth_blank (suc zero) = (refl, λ h. refl)
nth_blank (suc (suc zero)) = (refl, λ h. refl)
nth_blank (suc (suc (suc zero))) = (refl, λ h. refl)
nth_blank (suc (suc (suc (suc zero)))) = (refl, λ h. refl)
nth_blank (suc (suc (suc (suc (suc zero))))) = (refl, λ h. refl)
nth_blank (suc (suc (suc (suc (suc (suc n)))))) = (refl, λ h. absurd (omega arith))

module _ (s : List ℕ) (n : ℕ) where
  -- it is empty where the bytes are fewer, and past the six
  pub text_short : length s < record_size → (nth_text n (laid_out s)).len ≡ 0
  text_short h = ap (λ (p : Party). (nth_text n p).len) (laid_not s h) ∙ (nth_blank n).0

  pub text_past : 5 < n → nth_text n (laid_out s) ≡ none
  text_past h = get_or-eq_default (texts_of (laid_out s)) none {n = n} (omega (arith, laid_names s))

  -- and has 38 bytes
  pub laid_size : n < 6 → length (nth_text n (laid_out s)).bytes ≡ text_most
  laid_size l =
      by_size s (λ p. length (nth_text n p).bytes ≡ text_most) (λ h. ap (λ (t : Text). length t.bytes) (nth_party s n l) ∙ text_size_lem s n (omega arith)) ((nth_blank n).1 l)

  pub used_most : length (used (nth_text n (laid_out s))).bytes ≤ text_most
  used_most = go (leb n 5) refl
    where
      go : (t : Bool) → leb n 5 ≡ t → length (used (nth_text n (laid_out s))).bytes ≤ text_most
      go true e =
          omega (arith, length-take (nth_text n (laid_out s)).len (nth_text n (laid_out s)).bytes, laid_size (omega (arith, leb-true n 5 e)))
      go false e = rw (text_past (leb-false n 5 e)) (omega arith)

-- ---- the bytes after a record do not count
module _ (s : List ℕ) (h : record_size ≤ length s) where
  abbrev own : List ℕ
  own = take record_size s

  part_first : (k n : ℕ) → k + n ≤ record_size → take n (drop k own) ≡ take n (drop k s)
  part_first k n l =
      let rest = drop record_size s in
      let size : length own ≡ record_size = length-take-le record_size s h in
      sym (take-append-le n (drop k own) rest (omega (arith, length-drop k own, size)))
      ∙ ap (take n) (sym (drop-append-le k own rest (omega (arith, size))))
      ∙ ap (λ (l : List ℕ). take n (drop k l)) (take-append-drop record_size s)

  text_first : (n : ℕ) → n < 6 → text_at n own ≡ text_at n s
  unfolding text_at
  text_first n l = ap text_from (part_first (3 + text_size * n) text_size (omega arith))

  pub party_first : party_from own ≡ party_from s
  unfolding party_from
  party_first =
      rw (
        get_or-take record_size s 0 0 (omega arith),
        get_or-take record_size s 1 0 (omega arith),
        get_or-take record_size s 2 0 (omega arith),
        text_first 0 (omega arith),
        text_first 1 (omega arith),
        text_first 2 (omega arith),
        text_first 3 (omega arith),
        text_first 4 (omega arith),
        text_first 5 (omega arith),
        part_first digits_at 4 (omega arith),
      )

  pub laid_first : laid_out (take record_size s) ≡ laid_out s
  laid_first = laid_here own (omega (arith, length-take-le record_size s h)) ∙ party_first ∙ sym (laid_here s h)

-- ---- the first bytes alone: each text, and the part of it that it uses
module _ {s r : List ℕ} (h : IsFirstChunk s r record_size) where
  pub chunk_size : length r ≡ record_size
  chunk_size = ap length h.same ∙ length-take-le record_size s h.enough

  pub chunk_party : laid_out s ≡ party_from r
  chunk_party = laid_here s h.enough ∙ sym (party_first s h.enough) ∙ ap party_from (sym h.same)

  pub chunk_text : (n : ℕ) → n < 6 → nth_text n (laid_out s) ≡ text_at n r
  chunk_text n l = ap (nth_text n) chunk_party ∙ nth_party r n l

  -- of the bytes of a text: its length, and as many of them as it says
  module _ (n : ℕ) {slot : List ℕ} (l : n < 6) (e : slot ≡ take text_size (drop (3 + text_size * n) r)) where
    pub chunk_length : (nth_text n (laid_out s)).len ≡ get_or slot 0 0
    unfolding text_at
    chunk_length = rw (chunk_text n l, e) refl

    pub chunk_used : {k : ℕ} → k ≡ min (get_or slot 0 0) text_most → take (1 + k - 1) (drop 1 slot) ≡ (used (nth_text n (laid_out s))).bytes
    unfolding text_at
    chunk_used {k} f =
        let whole : length slot ≡ text_size = ap length e ∙ length-take-le text_size (drop (3 + text_size * n) r) (simp length-drop (omega (arith, chunk_size))) in
        let width : 1 + k - 1 ≡ k = omega arith in
        ap (λ (i : ℕ). take i (drop 1 slot)) width ∙ sym (take_min (get_or slot 0 0) (drop 1 slot) k (omega (arith, length-drop 1 slot, whole))) ∙ rw (chunk_text n l, e) refl

  pub chunk_digit : (i : ℕ) → i < 4 → get_or (laid_out s).digits i 0 ≡ get_or r (digits_at + i) 0
  chunk_digit i l = ap (λ (p : Party). get_or p.digits i 0) chunk_party ∙ party_digit r i l

-- a name is one of the six
pub name_text : (p : Party) (i : ℕ) → nth_text (2 + i) p ≡ get_or p.name_and_address i none
name_text p i = let n : 2 + i ≡ suc (suc i) = omega arith in ap (λ (k : ℕ). nth_text k p) n

-- ---- its digits
laid_digits : (s : List ℕ) → length (laid_out s).digits ≤ 4
unfolding party_from
laid_digits s = by_size s (λ p. length p.digits ≤ 4) (λ h. omega (arith, length-take 4 (drop digits_at s))) (omega arith)

digit_blank : (i : ℕ) → get_or blank.digits i 0 ≡ 0
digit_blank zero = refl
digit_blank (suc zero) = refl
digit_blank (suc (suc zero)) = refl
digit_blank (suc (suc (suc zero))) = refl
digit_blank (suc (suc (suc (suc i)))) = refl

module _ (s : List ℕ) (i : ℕ) where
  pub digit_short : length s < record_size → get_or (laid_out s).digits i 0 ≡ 0
  digit_short h = ap (λ (p : Party). get_or p.digits i 0) (laid_not s h) ∙ digit_blank i

  pub digit_past : 3 < i → get_or (laid_out s).digits i 0 ≡ 0
  digit_past h = get_or-eq_default (laid_out s).digits 0 {n = i} (omega (arith, laid_digits s))

-- ---- a text stored at a place
pub text_put :
    (d bytes : List ℕ) (at b : ℕ) → at + text_size ≤ length d → paste (set d at b) (at + 1) bytes text_most ≡ paste d at (b ∷ bytes) text_size
text_put d bytes at b h =
    let end : at + 1 + text_most ≡ at + text_size = omega arith in
    let rest : drop (at + 1 + text_most) (set d at b) ≡ drop (at + text_size) d =
    drop-set-lt (at + 1 + text_most) d at b (omega arith) ∙ ap (λ (k : ℕ). drop k d) end in
    rw (rest, add-one, take-suc-set d at b (omega arith), append_snoc)

-- ---- bytes pasted after others, or over some of them
module _ (d : List ℕ) (at : ℕ) (s : List ℕ) (i j k : ℕ) (h : j ≤ i) (l : i ≤ j + k) (room : at + (j + k) ≤ length d) (size : j + k ≤ length s) where
  paste_front : take (at + j) (paste d at s i) ≡ take at d ++ take j s
  paste_front =
      sym (take-take (at + j) (at + i) (paste d at s i) (omega arith))
      ∙ ap (take (at + j)) (take-paste d at s i (omega arith) (omega arith))
      ∙ ap (λ (n : ℕ). take (n + j) (take at d ++ take i s)) (sym (length-take-le at d (omega arith)))
      ∙ take-append-add (take at d) (take i s) j
      ∙ ap (◌++◌ (take at d)) (take-take j i s h)

  paste_back : drop (at + j + k) (paste d at s i) ≡ drop (at + (j + k)) d
  paste_back =
      let m = j + k - i in
      let start : at + j + k ≡ at + i + m = omega arith in
      let end : at + i + m ≡ at + (j + k) = omega arith in
      ap (λ (n : ℕ). drop n (paste d at s i)) start
      ∙ sym (drop-drop m (at + i) (paste d at s i))
      ∙ ap (drop m) (drop-paste d at s i (omega arith) (omega arith))
      ∙ drop-drop m (at + i) d
      ∙ ap (λ (n : ℕ). drop n d) end

  pub paste_over : paste (paste d at s i) (at + j) (drop j s) k ≡ paste d at s (j + k)
  paste_over =
      rw (paste_front, paste_back, take-add j k s)
      (ap (λ (r : List ℕ). r ++ drop (at + (j + k)) d) (append_assoc (take at d) (take j s) (take k (drop j s))))

-- ---- texts one after the other
pub paste_more :
    (d s t : List ℕ) (at n m : ℕ) → at + n + m ≤ length d → n + m ≤ length s → take m t ≡ take m (drop n s) →
    paste (paste d at s n) (at + n) t m ≡ paste d at s (n + m)
paste_more d s t at n m room size e = rw e (paste_over d at s n n m (omega arith) (omega arith) (omega arith) size)

-- each text has 38 bytes
abbrev pub Sizes : List Text → Type 0
Sizes ts = (i : ℕ) → i < length ts → length (get_or ts i none).bytes ≡ text_most

pub texts_size : (ts : List Text) → Sizes ts → length (encoded_texts ts) ≡ text_size * length ts
unfolding encoded_texts
texts_size [] h = refl
texts_size (t ∷ ts) h =
    let one : length t.bytes ≡ text_most = h 0 (omega arith) in
    let others = texts_size ts (λ i l. h (suc i) (omega arith)) in
    simp length-append (omega arith)

pub text_in :
    (ts : List Text) (k : ℕ) → Sizes ts → k < length ts → take text_size (drop (text_size * k) (encoded_texts ts)) ≡ encoded_text (get_or ts k none)
unfolding encoded_texts
text_in [] k h l = absurd (omega arith)
text_in (t ∷ ts) zero h l = take_at (encoded_text t) (encoded_texts ts) text_size (ap suc (h 0 (omega arith)))
text_in (t ∷ ts) (suc k) h l =
    let next : text_size * suc k ≡ text_size + text_size * k = omega arith in
    let past : drop text_size (encoded_text t ++ encoded_texts ts) ≡ encoded_texts ts = drop_at (encoded_text t) (encoded_texts ts) text_size (ap suc (h 0 (omega arith))) in
    let later = ap (λ (n : ℕ). drop n (encoded_text t ++ encoded_texts ts)) next ∙ (sym (drop-drop (text_size * k) text_size (encoded_text t ++ encoded_texts ts)) ∙ ap (drop (text_size * k)) past) in
    ap (take text_size) later ∙ text_in ts k (λ i m. h (suc i) (omega arith)) (omega arith)

-- ---- records
pub sizes : (p : Party) → IsParty p → Sizes (texts_of p)
sizes p h zero l = h.account.size
sizes p h (suc zero) l = h.bic.size
sizes p h (suc (suc i)) l = (h.name i none (omega (arith, h.size))).size

pub six : (p : Party) → length p.name_and_address ≡ 4 → Sizes (texts_of p) → length (encoded_texts (texts_of p)) ≡ 6 * text_size
six p four h = texts_size (texts_of p) h ∙ rw four

-- the bytes after the first three: the texts, then the digits
abbrev pub body : Party → List ℕ
body p = encoded_texts (texts_of p) ++ p.digits

pub body_size :
    (p : Party) → length p.name_and_address ≡ 4 → length p.digits ≡ 4 → Sizes (texts_of p) → length (body p) ≡ 6 * text_size + 4
body_size p four digits h = omega (arith, length-append (encoded_texts (texts_of p)) p.digits, six p four h, digits)

-- a buffer that is long enough takes the record
pub stored_whole : (p : Party) (d : List ℕ) → record_size ≤ length d → stored p d ≡ encoded p ++ drop record_size d
unfolding stored
stored_whole p d h = rw (le-leb record_size (length d) h, stored)

pub stored_none : (p : Party) (d : List ℕ) → length d < record_size → stored p d ≡ d
unfolding stored
stored_none p d h = rw (lt-leb record_size (length d) h, stored)

-- a list put before another that ends a buffer
between : (d s t : List ℕ) (n m : ℕ) → length s ≡ n → length t ≡ m → length d ≡ n + m → take n s ++ drop n (take n d ++ take m t ++ drop (n + m) d) ≡ s ++ t
between d s t n m size last whole =
    let front : length (take n d) ≡ n = length-take-le n d (omega arith) in
    rw (take_all n s (omega arith), take_all m t (omega arith), drop_all (n + m) d (omega arith), append-nil, drop_at (take n d) t n front) refl

-- the first three bytes and the digits, then the texts between them
pub store_all :
    (p : Party) (d : List ℕ) → length p.name_and_address ≡ 4 → length p.digits ≡ 4 → Sizes (texts_of p) → length d ≡ record_size →
    paste (paste (head_put p.option p.present p.count d) digits_at p.digits 4) 3 (encoded_texts (texts_of p)) (6 * text_size) ≡ encoded p
unfolding encoded
store_all p [] four digits h l = absurd (omega arith)
store_all p (x ∷ []) four digits h l = absurd (omega arith)
store_all p (x ∷ y ∷ []) four digits h l = absurd (omega arith)
store_all p (x ∷ y ∷ z ∷ d) four digits h l =
    ap (λ (r : List ℕ). place_of p.option ∷ bit p.present ∷ byte_of p.count ∷ r) (between d (encoded_texts (texts_of p)) p.digits (6 * text_size) 4 (six p four h) digits (omega arith))
