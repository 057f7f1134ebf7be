-- Texts that are parts of a body, stored at their places. Assumes nothing.
use Prim.Native.Nat.{ℕ, zero, suc, ◌+◌, ◌*◌, ◌-◌, ◌<◌, ◌≤◌}
use mathlib.Core.Path.{◌≡◌, refl, ◌∙◌, sym, ap, subst}
use mathlib.Core.List.{List, [], ◌∷◌, ◌++◌, append_assoc}
use native.Mathlib.Omega.{arith}
use lib.ListN.{length, get_or, take, drop, set, replicate, take-append-drop, length-set, length-map, length-append, length-take, length-drop, length-replicate}
use native.Mathlib.Nat.{sub-zero, zero-sub, suc-sub-suc, zero-add, suc-add}
use lib.Seq.{paste, take_all, take-nil, take-length, take-take, take-add, drop-set-lt, take_at, drop_at, length-take-le, take-append-le, drop-append-le, drop-drop, drop-paste}
use borrow.Rule.Slice.PartMut.{put_mid}
use Rattle.std.proofs.lemmas.Slice.{take-put_mid_below, drop-put_mid}
use Rattle.party.specs.declared.Text.{Text}
use Rattle.party.specs.declared.Part.{Part}
use Rattle.party.specs.declared.Parts.{Parts}
use Rattle.party.specs.Text.{text_most, padded, text_of, part_in, texts_in}
use Rattle.party.specs.Party.{party_in}
use Rattle.party.proofs.Laws.{take_min}
use Rattle.record_bytes.specs.RecordBytes.{text_size, digits_at, record_size, byte_of, encoded_text, encoded_texts, texts_of, encoded}
use Rattle.record_bytes.specs.Code.{head_put, parts_of}
use Rattle.record_bytes.proofs.Laws.{none, Sizes, text_in, text_put, store_all}

-- the texts of the record of parts are those of its six parts
pub texts_of_lem : (body : List ℕ) (q : Parts) → texts_of (party_in body q) ≡ texts_in body (parts_of q)
unfolding party_in
texts_of_lem body q = refl

-- each has 38 bytes
pub text_size_lem : (l : List ℕ) → length (text_of l).bytes ≡ text_most
unfolding text_of padded
text_size_lem l = omega (arith, length-append (take text_most l) (replicate (text_most - length (take text_most l)) 0), length-replicate {A = ℕ} (text_most - length (take text_most l)) 0, length-take text_most l)

-- and its length is a byte
pub text_length_lem : (l : List ℕ) → byte_of (text_of l).len ≡ length (take text_most l)
unfolding text_of
text_length_lem l = omega (arith, length-take text_most l)

parts_sizes : (body : List ℕ) (ps : List Part) → Sizes (texts_in body ps)
parts_sizes body [] i h = absurd (omega arith)
parts_sizes body (p ∷ ps) zero h = text_size_lem (part_in body p)
parts_sizes body (p ∷ ps) (suc i) h = parts_sizes body ps i (omega arith)

pub party_sizes : (body : List ℕ) (q : Parts) → Sizes (texts_of (party_in body q))
unfolding party_in
party_sizes body q = parts_sizes body (parts_of q)

-- there are four names
pub party_four : (body : List ℕ) (q : Parts) → length q.name_and_address ≡ 4 → length (party_in body q).name_and_address ≡ 4
unfolding party_in
party_four body q e = length-map q.name_and_address (λ (p : Part). text_of (part_in body p)) ∙ e

-- the one with a number
pub nth_text_lem : (body : List ℕ) (ps : List Part) (i : ℕ) → i < length ps → get_or (texts_in body ps) i none ≡ text_of (part_in body (get_or ps i (record { start = 0; len = 0 })))
nth_text_lem body [] i h = absurd (omega arith)
nth_text_lem body (p ∷ ps) zero h = refl
nth_text_lem body (p ∷ ps) (suc i) h = nth_text_lem body ps i (omega arith)

-- its bytes among those of all
pub part_text : (body : List ℕ) (q : Parts) (n : ℕ) (x : List ℕ) → n < length (parts_of q) → x ≡ part_in body (get_or (parts_of q) n (record { start = 0; len = 0 }))
    → encoded_text (text_of x) ≡ take text_size (drop (text_size * n) (encoded_texts (texts_of (party_in body q))))
part_text body q n x h e =
    let p = party_in body q in
    ap (λ (l : List ℕ). encoded_text (text_of l)) e
    ∙ ap encoded_text (sym (nth_text_lem body (parts_of q) n h) ∙ ap (λ (ts : List Text). get_or ts n none) (sym (texts_of_lem body q)))
    ∙ sym (text_in (texts_of p) n (party_sizes body q) (omega (arith, h, ap length (texts_of_lem body q), length-map (parts_of q) (λ (p : Part). text_of (part_in body p)))))

-- the first three bytes, the digits and the texts are the record's
pub store_all_parts : (body : List ℕ) (q : Parts) (d : List ℕ) → length q.name_and_address ≡ 4 → length q.digits ≡ 4 → length d ≡ record_size
    → paste (paste (head_put q.option q.present q.count d) digits_at q.digits 4) 3 (encoded_texts (texts_of (party_in body q))) (6 * text_size) ≡ encoded (party_in body q)
unfolding party_in
store_all_parts body q d four digits size = store_all (party_in body q) d (party_four body q four) digits (party_sizes body q) size

-- the first bytes of s over those of z
module _ (d z s : List ℕ) (at m n : ℕ) (room : at + m ≤ length d) (whole : length z ≡ m) (few : n ≤ m) (some : n ≤ length s) where
  front : take at (paste d at z m) ≡ take at d
  front =
      take-append-le at (take at d ++ take m z) (drop (at + m) d) (omega (arith, length-append (take at d) (take m z), length-take-le at d (omega arith)))
      ∙ take_at (take at d) (take m z) at (length-take-le at d (omega arith))

  back : drop (at + n) (paste d at z m) ≡ drop n z ++ drop (at + m) d
  back =
      let head = length-take-le at d (omega arith) in
      let all = take_all m z (omega arith) in
      drop-append-le (at + n) (take at d ++ take m z) (drop (at + m) d) (omega (arith, length-append (take at d) (take m z), head, ap length all, whole))
      ∙ ap (λ (l : List ℕ). l ++ drop (at + m) d) (sym (drop-drop n at (take at d ++ take m z)) ∙ ap (drop n) (drop_at (take at d) (take m z) at head ∙ all))

  pub paste_onto : paste (paste d at z m) at s n ≡ paste d at (take n s ++ drop n z) m
  paste_onto =
      let size : length (take n s ++ drop n z) ≡ m = omega (arith, length-append (take n s) (drop n z), length-take-le n s some, length-drop n z) in
      rw (front, back, take_all m (take n s ++ drop n z) (omega (arith, size)), ← (append_assoc (take at d ++ take n s) (drop n z) (drop (at + m) d)), append_assoc (take at d) (take n s) (drop n z))

drop_replicate : (n m : ℕ) → ◌≡◌ {A = List ℕ} (drop n (replicate m 0)) (replicate (m - n) 0)
drop_replicate zero m = ap (λ (k : ℕ). replicate {A = ℕ} k 0) (sym (sub-zero m))
drop_replicate (suc n) zero = ap (λ (k : ℕ). replicate {A = ℕ} k 0) (sym (zero-sub (suc n)))
drop_replicate (suc n) (suc m) = drop_replicate n m ∙ ap (λ (k : ℕ). replicate {A = ℕ} k 0) (sym (suc-sub-suc m n))

-- ---- zeros
-- where the first bytes are zeros, so are fewer, and those that are left after some
heads : (j m : ℕ) → ◌≡◌ {A = List ℕ} (take j (replicate (j + m) 0)) (replicate j 0)
heads zero m = refl
heads (suc j) m = rw (suc-add j m) (ap (◌∷◌ 0) (heads j m))

tails : (k m : ℕ) (l : List ℕ) → take (k + m) l ≡ replicate (k + m) 0 → take m (drop k l) ≡ replicate m 0
tails zero m l e = rw (zero-add m) at e
tails (suc k) m [] e = absurd (omega (arith, ap length e, length-replicate {A = ℕ} (suc k + m) 0, ap length (take-nil {A = ℕ} (suc k + m))))
tails (suc k) m (b ∷ l) e = tails k m l (ap (drop 1) (rw (suc-add k m) at e))

pub zeros_part : (k j m : ℕ) (l : List ℕ) → take (k + (j + m)) l ≡ replicate (k + (j + m)) 0 → take j (drop k l) ≡ replicate j 0
zeros_part k j m l e = sym (take-take j (j + m) (drop k l) (omega arith)) ∙ ap (take j) (tails k (j + m) l e) ∙ heads j m

-- zeros over zeros change nothing
pub zeros_same : (e : List ℕ) (at m : ℕ) → at + m ≤ length e → take m (drop at e) ≡ replicate m 0 → paste e at (replicate m 0) m ≡ e
zeros_same e at m room h =
    ap (λ (l : List ℕ). take at e ++ l ++ drop (at + m) e) (take_all {A = ℕ} m (replicate m 0) (omega (arith, length-replicate {A = ℕ} m 0)) ∙ sym h)
    ∙ ap (λ (l : List ℕ). l ++ drop (at + m) e) (sym (take-add at m e))
    ∙ take-append-drop (at + m) e

-- the first bytes of a list over zeros are those of its text
text_bytes : (s : List ℕ) (n : ℕ) → n ≡ length (take text_most s) → take n s ++ drop n (replicate text_most 0) ≡ (text_of s).bytes
unfolding text_of padded
text_bytes s n e =
    ap (λ (l : List ℕ). l ++ drop n (replicate text_most 0)) (sym (take_min text_most s n (e ∙ length-take text_most s)))
    ∙ ap (◌++◌ (take text_most s)) (drop_replicate n text_most ∙ ap (λ (k : ℕ). replicate {A = ℕ} (text_most - k) 0) e)

-- where zeros stand, the length and the first bytes of a list are its text
pub over_zeros : (e : List ℕ) (at : ℕ) (s : List ℕ) (n : ℕ) → at + text_size ≤ length e → take text_size (drop at e) ≡ replicate text_size 0 → n ≡ length (take text_most s)
    → paste (set e at n) (at + 1) (take n s) (length (take n s)) ≡ paste e at (encoded_text (text_of s)) text_size
over_zeros e at s n room h c =
    let d = set e at n in
    let wide : at + 1 + text_most ≤ length d = omega (arith, room, length-set e at n) in
    let some : n ≤ length s = omega (arith, c, length-take text_most s) in
    let few : n ≤ text_most = omega (arith, c, length-take text_most s) in
    let size : length (take n s) ≡ n = length-take-le n s some in
    let there : take text_most (drop (at + 1) d) ≡ replicate text_most 0 =
    ap (take text_most) (drop-set-lt (at + 1) e at n (omega arith) ∙ sym (drop-drop 1 at e)) ∙ zeros_part 1 text_most 0 (drop at e) h in
    ap (λ (l : List ℕ). take (at + 1) d ++ l ++ drop (at + 1 + length (take n s)) d) (take-length (take n s))
    ∙ ap (λ (k : ℕ). take (at + 1) d ++ take n s ++ drop (at + 1 + k) d) size
    ∙ ap (λ (l : List ℕ). paste l (at + 1) s n) (sym (zeros_same d (at + 1) text_most wide there))
    ∙ paste_onto d (replicate text_most 0) s (at + 1) text_most n wide (length-replicate {A = ℕ} text_most 0) few some
    ∙ ap (λ (l : List ℕ). paste d (at + 1) l text_most) (text_bytes s n c)
    ∙ text_put e (text_of s).bytes at n room
    ∙ ap (λ (k : ℕ). paste e at (k ∷ (text_of s).bytes) text_size) (c ∙ sym (text_length_lem s))

-- the text of an empty part is zeros
pub no_text : (body : List ℕ) (p : Part) → p.len ≡ 0 → encoded_text (text_of (part_in body p)) ≡ replicate text_size 0
unfolding text_of padded
no_text body p e = ap (λ (k : ℕ). encoded_text (text_of (take k (drop p.start body)))) e

-- what is left of zeros after the texts that stand
pub zeros_left : (d texts : List ℕ) (n : ℕ) → n < 6 → record_size ≤ length d → text_size * n ≤ length texts → take (6 * text_size) (drop 3 d) ≡ replicate (6 * text_size) 0
    → take text_size (drop (3 + text_size * n) (paste d 3 texts (text_size * n))) ≡ replicate text_size 0
zeros_left d texts n h room size e =
    let all : 6 * text_size ≡ text_size * n + (text_size + text_size * (5 - n)) = omega arith in
    ap (take text_size) (drop-paste d 3 texts (text_size * n) (omega arith) size ∙ sym (drop-drop (text_size * n) 3 d))
    ∙ zeros_part (text_size * n) text_size (text_size * (5 - n)) (drop 3 d) (subst (λ (k : ℕ). take k (drop 3 d) ≡ replicate k 0) all e)

-- what is put over a part that was written before stands alone there
pub paste_on_mid : (d y s : List ℕ) (at n : ℕ) → at + n ≤ length d → length y ≡ n → paste (put_mid at n d y) at s n ≡ paste d at s n
paste_on_mid d y s at n room size = rw (take-put_mid_below at n d y at (omega arith) (omega arith), drop-put_mid at n d y (at + n) (omega arith) (omega arith) size) refl
