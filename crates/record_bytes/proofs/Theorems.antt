-- The record as bytes, from which the record comes back.
-- Assumes nothing.
use Prim.Native.Nat.{ℕ, zero, suc, ◌*◌, ◌<◌, ◌≤◌}
use mathlib.Core.Path.{◌≡◌, refl, ◌∙◌, ap}
use mathlib.Core.Bool.{Bool, true, false}
use mathlib.Core.List.{List, [], ◌∷◌, ◌++◌, map, append_assoc}
use native.Mathlib.Omega.{arith}
use borrow.Author.Tests.{le-leb}
use lib.Dec.{eqb}
use lib.ListN.{length, get_or, take, drop, length-append, length-drop}
use lib.Seq.{take_at, drop_at, take-append-le, drop-append-le}
use Rattle.party.specs.declared.Text.{Text}
use Rattle.party.specs.declared.Party.{Party}
use Rattle.party.specs.Limits.{place_of}
use Rattle.party.specs.Party.{IsParty}
use Rattle.party.proofs.Options.{placed, place_most}
use Rattle.record_bytes.specs.RecordBytes.{text_size, record_size, byte_of, bit, encoded_text, encoded_texts, texts_of, encoded, stored, text_from, text_at, holds_record, party_from, decoded}
use Rattle.record_bytes.proofs.Laws.{none, loaded, stored_whole, Sizes, text_in, sizes, six, body, body_size}

-- ---- the bytes
pub encoded_size : (p : Party) → IsParty p → length (encoded p) ≡ record_size
unfolding encoded
encoded_size p h = omega (arith, body_size p h.size h.digits (sizes p h))

abbrev Bytes : List ℕ → Type 0
Bytes l = (i : ℕ) → get_or l i 0 < 256

bytes_append : (l m : List ℕ) → Bytes l → Bytes m → Bytes (l ++ m)
bytes_append [] m h k i = k i
bytes_append (b ∷ l) m h k zero = h 0
bytes_append (b ∷ l) m h k (suc i) = bytes_append l m (λ j. h (suc j)) k i

bytes_texts : (ts : List Text) → ((i : ℕ) → i < length ts → Bytes (get_or ts i none).bytes) → Bytes (encoded_texts ts)
unfolding encoded_texts
bytes_texts [] h i = omega arith
bytes_texts (t ∷ ts) h i = bytes_append (encoded_text t) (encoded_texts ts) text (bytes_texts ts (λ j l. h (suc j) (omega arith))) i
  where
    text : Bytes (encoded_text t)
    text zero = omega arith
    text (suc i) = h 0 (omega arith) i

texts_bytes : (p : Party) → IsParty p → (i : ℕ) → i < length (texts_of p) → Bytes (get_or (texts_of p) i none).bytes
texts_bytes p h zero l = h.account.byte
texts_bytes p h (suc zero) l = h.bic.byte
texts_bytes p h (suc (suc i)) l = (h.name i none (omega (arith, h.size))).byte

pub bit_small : (b : Bool) → bit b ≤ 1
bit_small true = omega arith
bit_small false = omega arith

-- each is a byte
pub encoded_bytes : (p : Party) → IsParty p → (i : ℕ) → get_or (encoded p) i 0 < 256
unfolding encoded
encoded_bytes p h zero = omega (arith, place_most p.option)
encoded_bytes p h (suc zero) = omega (arith, bit_small p.present)
encoded_bytes p h (suc (suc zero)) = omega arith
encoded_bytes p h (suc (suc (suc i))) = bytes_append (encoded_texts (texts_of p)) p.digits (bytes_texts (texts_of p) (texts_bytes p h)) h.digit i

-- ---- and back
-- a record whose lengths and count are at most 255
pub record Small (p : Party) : Type 0 where
  pub account : p.account.len ≤ 255
  pub bic : p.bic.len ≤ 255
  pub count : p.count ≤ 255
  pub name : (i : ℕ) → i < 4 → (get_or p.name_and_address i none).len ≤ 255

pub bit_back : (b : Bool) → eqb (bit b) 1 ≡ b
bit_back true = refl
bit_back false = refl

-- a text as it comes back: a length above 255 as 255
abbrev pub capped_text : Text → Text
capped_text t = record { bytes = t.bytes; len = byte_of t.len }

-- a record as it comes back: so are its texts and its count
abbrev pub capped : Party → Party
capped p = record {
  option = p.option;
  present = p.present;
  account = capped_text p.account;
  bic = capped_text p.bic;
  count = byte_of p.count;
  name_and_address = map capped_text p.name_and_address;
  digits = p.digits;
}

byte_back : (n : ℕ) → n ≤ 255 → byte_of n ≡ n
byte_back n h = omega arith

names_back : (ts : List Text) → ((i : ℕ) → i < length ts → (get_or ts i none).len ≤ 255) → map capped_text ts ≡ ts
names_back [] h = refl
names_back (t ∷ ts) h = rw (byte_back t.len (h 0 (omega arith)), names_back ts (λ i l. h (suc i) (omega arith)))

capped_small : (p : Party) → length p.name_and_address ≡ 4 → Small p → capped p ≡ p
capped_small p size s =
    rw (byte_back p.account.len s.account, byte_back p.bic.len s.bic, byte_back p.count s.count, names_back p.name_and_address (λ i l. s.name i (omega arith)))

four : {A : Type 0} (l : List A) (d : A) → length l ≡ 4 → (get_or l 0 d ∷ get_or l 1 d ∷ get_or l 2 d ∷ get_or l 3 d ∷ []) ≡ l
four [] d h = absurd (omega arith)
four (a ∷ []) d h = absurd (omega arith)
four (a ∷ b ∷ []) d h = absurd (omega arith)
four (a ∷ b ∷ c ∷ []) d h = absurd (omega arith)
four (a ∷ b ∷ c ∷ e ∷ []) d h = refl
four (a ∷ b ∷ c ∷ e ∷ f ∷ l) d h = absurd (omega arith)

-- a record of four names, of four digits and of texts of 38 bytes, and whatever bytes follow it
module _ (p : Party) (rest : List ℕ) (size : length p.name_and_address ≡ 4) (digits : length p.digits ≡ 4) (h : Sizes (texts_of p)) where
  -- the text at a place, by its number among the six
  text_at_lem : (k : ℕ) → k < 6 → text_from (take text_size (drop (text_size * k) (encoded_texts (texts_of p) ++ (p.digits ++ rest)))) ≡ capped_text (get_or (texts_of p) k none)
  text_at_lem k l =
      let texts = encoded_texts (texts_of p) in
      let after = p.digits ++ rest in
      let n = six p size h in
      let part : take text_size (drop (text_size * k) (texts ++ after)) ≡ take text_size (drop (text_size * k) texts) =
      ap (take text_size) (drop-append-le (text_size * k) texts after (omega (arith, n)))
      ∙ take-append-le text_size (drop (text_size * k) texts) after (omega (arith, n, length-drop (text_size * k) texts)) in
      ap text_from (part ∙ text_in (texts_of p) k h (omega arith))

  -- and the digits after them
  digits_back : take 4 (drop (6 * text_size) (encoded_texts (texts_of p) ++ (p.digits ++ rest))) ≡ p.digits
  digits_back = ap (take 4) (drop_at (encoded_texts (texts_of p)) (p.digits ++ rest) (6 * text_size) (six p size h)) ∙ take_at p.digits rest 4 digits

  holds_record_lem : holds_record (encoded p ++ rest) ≡ true
  unfolding holds_record encoded
  holds_record_lem =
      let n : record_size ≤ length (encoded p ++ rest) = omega (arith, body_size p size digits h, length-append (body p) rest) in
      rw (le-leb record_size (length (encoded p ++ rest)) n, le-leb (place_of p.option) 10 (place_most p.option)) (le-leb (bit p.present) 1 (bit_small p.present))

  party_back : party_from (encoded p ++ rest) ≡ capped p
  unfolding party_from text_at encoded
  party_back =
      rw
      (append_assoc (encoded_texts (texts_of p)) p.digits rest, placed p.option, bit_back p.present, text_at_lem 0 (omega arith), text_at_lem 1 (omega arith), text_at_lem 2 (omega arith), text_at_lem 3 (omega arith), text_at_lem 4 (omega arith), text_at_lem 5 (omega arith), digits_back)
      (ap
      (λ (names : List Text).
      record {
        option = p.option;
        present = p.present;
        account = capped_text p.account;
        bic = capped_text p.bic;
        count = byte_of p.count;
        name_and_address = map capped_text names;
        digits = p.digits;
      })
      (four p.name_and_address none size))

  loads_capped : decoded (encoded p ++ rest) ≡ capped p
  loads_capped = loaded (encoded p ++ rest) holds_record_lem ∙ party_back

  pub loads_back : Small p → decoded (encoded p ++ rest) ≡ p
  loads_back s = loads_capped ∙ capped_small p size s

-- every value of the Rattle type is such
module _ (p : Party) (h : IsParty p) where
  pub round_trip : (rest : List ℕ) → Small p → decoded (encoded p ++ rest) ≡ p
  round_trip rest = loads_back p rest h.size h.digits (sizes p h)

  pub stored_capped : (d : List ℕ) → record_size ≤ length d → decoded (stored p d) ≡ capped p
  stored_capped d l = ap decoded (stored_whole p d l) ∙ loads_capped p (drop record_size d) h.size h.digits (sizes p h)
