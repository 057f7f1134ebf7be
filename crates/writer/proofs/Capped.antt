-- A record that was stored as bytes, where a length or count above 255 is kept as 255, measures and places as it did. Assumes nothing.
use Prim.Native.Nat.{ℕ, zero, suc, ◌≤◌, ◌<◌, min}
use mathlib.Core.Path.{◌≡◌, refl, sym, ◌∙◌, ap}
use mathlib.Core.Bool.{Bool, true, false, not, ◌&&◌}
use mathlib.Core.List.{List, [], ◌∷◌, ◌++◌, map, append-nil}
use native.Mathlib.Omega.{arith}
use lib.Dec.{leb, ltb, eqb}
use lib.ListN.{length, take, drop, length-take, length-map, drop_of_length-le}
use lib.Seq.{get_or-take, drop-append_seam}
use borrow.Author.Tests.{le-leb, lt-leb, leb-true, leb-false, eq-eqb, ne_eqb, eqb-true, eqb-false}
use Rattle.party.specs.declared.PartyOption.{PartyOption}
use Rattle.party.specs.declared.Text.{Text}
use Rattle.party.specs.declared.Party.{Party}
use Rattle.party.specs.declared.First.{First}
use Rattle.party.specs.declared.First.TheVariants.{NoAccount, Identified, Account, ShortAccount, SlashAccount, AnyAccount, WholeLine}
use Rattle.party.specs.declared.Numbering.{Numbering}
use Rattle.party.specs.Limits.{limits_of}
use Rattle.party.specs.Text.{text_most, Used, used}
use Rattle.party.specs.Party.{IsParty, Content, content, where_limit, names_of, where_numbered}
use Rattle.party.proofs.Laws.{map_take, take_min}
use Rattle.swift_utils.specs.Bytes.{among}
use Rattle.field_utils.specs.Names.{parse_name_and_address}
use Rattle.field_utils.specs.Tags.{tag_of}
use Rattle.record_bytes.specs.RecordBytes.{byte_of, record_size, encoded, stored, decoded}
use Rattle.record_bytes.proofs.Laws.{none, Sizes, stored_whole}
use Rattle.record_bytes.proofs.Theorems.{encoded_size, capped_text, capped, stored_capped}
use Rattle.writer.specs.Writing.{name_lines, written_body, written_field}
use Rattle.writer.specs.Given.{passes, every, is_line, is_account, is_bic, are_names, is_taken, is_given}
use Rattle.writer.specs.Placing.{measure, place}
use Rattle.writer.specs.Code.{has_head, head_of}
use Rattle.writer.proofs.Texts.{line_whole}
use Rattle.writer.proofs.Fields.{field_parts}
use Rattle.writer.proofs.Records.{names_test, given_by}

-- ---- lengths and counts
most_capped : (n : ℕ) → leb (byte_of n) text_most ≡ leb n text_most
most_capped n = go (leb n text_most) refl
  where
    go : (b : Bool) → leb n text_most ≡ b → leb (byte_of n) text_most ≡ b
    go true e = le-leb (byte_of n) text_most (omega (arith, leb-true n text_most e))
    go false e = lt-leb (byte_of n) text_most (omega (arith, leb-false n text_most e))

same_capped : (m n : ℕ) → m < 255 → eqb m (byte_of n) ≡ eqb m n
same_capped m n h = go (eqb m n) refl
  where
    go : (b : Bool) → eqb m n ≡ b → eqb m (byte_of n) ≡ b
    go true e = eq-eqb m (byte_of n) (omega (arith, eqb-true m n e))
    go false e = ne_eqb m (byte_of n) (λ k. eqb-false m n e (omega arith))

none_capped : (n : ℕ) → eqb (byte_of n) 0 ≡ eqb n 0
none_capped zero = refl
none_capped (suc n) = ne_eqb (byte_of (suc n)) 0 (λ k. omega arith) ∙ sym (ne_eqb (suc n) 0 (λ k. omega arith))

take_capped : {A : Type 0} (n : ℕ) (l : List A) → length l ≤ 255 → take (byte_of n) l ≡ take n l
take_capped n l h =
    let m = min n (length l) in
    let a : m ≡ min (byte_of n) (length l) = omega arith in
    take_min (byte_of n) l m a ∙ sym (take_min n l m refl)

-- ---- a text
module _ (t : Text) (size : length t.bytes ≡ text_most) where
  bytes_capped : (used (capped_text t)).bytes ≡ (used t).bytes
  bytes_capped = take_capped t.len t.bytes (omega arith)

  line_capped : is_line (used (capped_text t)) ≡ is_line (used t)
  line_capped =
      line_whole (capped_text t) size (most_capped t.len)
      ∙ ap (λ (l : List ℕ). leb t.len text_most && not (among l 10)) bytes_capped
      ∙ sym (line_whole t size refl)

  account_capped : (o : PartyOption) (b : Bool) → is_account o b (used (capped_text t)) ≡ is_account o b (used t)
  account_capped o true = rw (line_capped, bytes_capped)
  account_capped o false = rw (none_capped t.len, line_capped)

  bic_capped : is_bic (used (capped_text t)) ≡ is_bic (used t)
  bic_capped = rw (line_capped, bytes_capped)

  head_capped : (o : PartyOption) (b : Bool) → head_of o b (used (capped_text t)) ≡ head_of o b (used t)
  head_capped o true = rw bytes_capped
  head_capped o false = refl

-- a test that two texts pass alike, where the option has such a text
every_alike : (f : Used → Bool) (limit : ℕ) (u v : Used) → f u ≡ f v → every f (where_limit limit (u ∷ [])) ≡ every f (where_limit limit (v ∷ []))
every_alike f limit u v e = go (ltb 0 limit)
  where
    go : (b : Bool) → every f (elim b as (λ x. List Used) [ true ↦ u ∷ [] | false ↦ [] ]) ≡ every f (elim b as (λ x. List Used) [ true ↦ v ∷ [] | false ↦ [] ])
    go true = rw e
    go false = refl

bytes_alike :
    (limit : ℕ) (u v : Used) → u.bytes ≡ v.bytes →
    map (λ (w : Used). w.bytes) (where_limit limit (u ∷ [])) ≡ map (λ (w : Used). w.bytes) (where_limit limit (v ∷ []))
bytes_alike limit u v e = go (ltb 0 limit)
  where
    go : (b : Bool) → map (λ (w : Used). w.bytes) (elim b as (λ x. List Used) [ true ↦ u ∷ [] | false ↦ [] ]) ≡ map (λ (w : Used). w.bytes) (elim b as (λ x. List Used) [ true ↦ v ∷ [] | false ↦ [] ])
    go true = rw e
    go false = refl

-- ---- names
-- texts that are written and tested alike
record Alike (us vs : List Used) : Type 0 where
  size : length us ≡ length vs
  lines : every is_line us ≡ every is_line vs
  written : (f : Numbering) (ds : List ℕ) → name_lines f ds us ≡ name_lines f ds vs
  taken : (f : First) → is_taken f us ≡ is_taken f vs

taken_alike : (f : First) (u v : Used) (us vs : List Used) → u.bytes ≡ v.bytes → is_taken f (u ∷ us) ≡ is_taken f (v ∷ vs)
taken_alike NoAccount u v us vs e = refl
taken_alike Identified u v us vs e = refl
taken_alike Account u v us vs e = rw e
taken_alike ShortAccount u v us vs e = rw e
taken_alike SlashAccount u v us vs e = refl
taken_alike AnyAccount u v us vs e = refl
taken_alike WholeLine u v us vs e = refl

names_capped : (ts : List Text) → Sizes ts → Alike (map used (map capped_text ts)) (map used ts)
unfolding name_lines
names_capped [] h = record { size = refl; lines = refl; written = λ f ds. refl; taken = λ f. refl }
names_capped (t ∷ ts) h =
    let one = h 0 (omega arith) in
    let rest = names_capped ts (λ i l. h (suc i) (omega arith)) in
    record {
      size = ap suc rest.size;
      lines = rw (line_capped t one, rest.lines);
      written = λ f ds. rw (bytes_capped t one, rest.written f (drop 1 ds));
      taken = λ f. taken_alike f (used (capped_text t)) (used t) _ _ (bytes_capped t one);
    }

-- where the option has names
alike_where : (limit : ℕ) {us vs : List Used} → Alike us vs → Alike (where_limit limit us) (where_limit limit vs)
unfolding name_lines
alike_where limit {us} {vs} a = go (ltb 0 limit)
  where
    go : (b : Bool) → Alike (elim b as (λ x. List Used) [ true ↦ us | false ↦ [] ]) (elim b as (λ x. List Used) [ true ↦ vs | false ↦ [] ])
    go true = a
    go false = record { size = refl; lines = refl; written = λ f ds. refl; taken = λ f. refl }

-- the test of names by its parts
names_by :
    (o : PartyOption) (count : ℕ) (ds : List ℕ) (us : List Used) {a b : Bool} {ls : List (List ℕ)} →
    eqb (length us) count ≡ a → every is_line us ≡ b → name_lines (limits_of o).numbering ds us ≡ ls →
    are_names o count ds us ≡ (a && b && elim (eqb (limits_of o).max_names 0) [ true ↦ true | false ↦ passes (parse_name_and_address o 1 ls) ])
unfolding are_names
names_by o count ds us e f g =
    rw (← e, ← f)
    (ap (λ (ls : List (List ℕ)). eqb (length us) count && every is_line us && elim (eqb (limits_of o).max_names 0) [ true ↦ true | false ↦ passes (parse_name_and_address o 1 ls) ]) g)

-- ---- the record
module _ (p : Party) (h : IsParty p) where
  abbrev o : PartyOption
  o = p.option

  -- the names that the count leaves in
  few_sizes : Sizes (take p.count p.name_and_address)
  few_sizes i l =
      let n = length-take p.count p.name_and_address in
      let four = h.size in
      ap (λ (t : Text). length t.bytes) (get_or-take p.count p.name_and_address i none (omega arith)) ∙ (h.name i none (omega arith)).size

  names : Alike (content (capped p)).names (content p).names
  unfolding content
  names =
      let l = p.name_and_address in
      let same : names_of (byte_of p.count) (capped p) ≡ map used (map capped_text (take p.count l)) =
      ap (map used) (sym (map_take capped_text (byte_of p.count) l) ∙ ap (map capped_text) (take_capped p.count l (omega (arith, h.size)))) in
      rw same (alike_where (limits_of o).max_names (names_capped (take p.count l) few_sizes))

  few : length (content p).names ≤ 4
  unfolding content
  few = go (ltb 0 (limits_of o).max_names)
    where
      go : (b : Bool) → length {A = Used} (elim b as (λ x. List Used) [ true ↦ names_of p.count p | false ↦ [] ]) ≤ 4
      go true = omega (arith, length-map (take p.count p.name_and_address) used, length-take p.count p.name_and_address, h.size)
      go false = omega arith

  digits : (content (capped p)).digits ≡ (content p).digits
  unfolding content
  digits = ap (where_numbered (limits_of o).numbering) (take_capped p.count p.digits (omega (arith, h.digits)))

  names_same : names_test (capped p) ≡ names_test p
  names_same =
      let f = (limits_of o).numbering in
      names_by o (byte_of p.count) (content (capped p)).digits (content (capped p)).names
      (ap (λ (n : ℕ). eqb n (byte_of p.count)) names.size ∙ same_capped (length (content p).names) p.count (omega (arith, few)))
      names.lines
      (ap (λ (ds : List ℕ). name_lines f ds (content (capped p)).names) digits ∙ names.written f (content p).digits)
      ∙ sym (names_by o p.count (content p).digits (content p).names refl refl refl)

  given_same : is_given (content (capped p)) ≡ is_given (content p)
  given_same =
      sym (given_by o (capped p) refl refl
      (every_alike (is_account o p.present) (limits_of o).account_max _ _ (account_capped p.account h.account.size o p.present))
      (every_alike is_bic (limits_of o).bic_count _ _ (bic_capped p.bic h.bic.size))
      names_same refl)
      ∙ rw (names.taken (limits_of o).first) (given_by o p refl refl refl refl refl refl)

  field_same : written_field (content (capped p)) ≡ written_field (content p)
  unfolding content
  field_same =
      field_parts (capped p)
      ∙ rw (
        head_capped p.account h.account.size o (has_head o p.present),
        bytes_alike (limits_of o).bic_count (used (capped_text p.bic)) (used p.bic) (bytes_capped p.bic h.bic.size),
        digits,
        names.written (limits_of o).numbering (content p).digits,
      )
      (sym (field_parts p))

  body_same : written_body (content (capped p)) ≡ written_body (content p)
  unfolding content written_field
  body_same =
      sym (drop-append_seam (tag_of o) (written_body (content (capped p)))) ∙ ap (drop (length (tag_of o))) field_same ∙ drop-append_seam (tag_of o) (written_body (content p))

  -- what the bytes of a stored record say
  module _ (d : List ℕ) (l : record_size ≤ length d) where
    abbrev pub bytes_say : Content
    bytes_say = content (decoded (stored p d))

    pub option_stored : bytes_say.option ≡ (content p).option
    unfolding content
    option_stored = ap (λ (q : Party). q.option) (stored_capped p h d l)

    pub given_stored : is_given bytes_say ≡ is_given (content p)
    given_stored = ap (λ (q : Party). is_given (content q)) (stored_capped p h d l) ∙ given_same

    pub field_stored : written_field bytes_say ≡ written_field (content p)
    field_stored = ap (λ (q : Party). written_field (content q)) (stored_capped p h d l) ∙ field_same

    pub body_stored : written_body bytes_say ≡ written_body (content p)
    body_stored = ap (λ (q : Party). written_body (content q)) (stored_capped p h d l) ∙ body_same

    pub measure_stored : measure bytes_say ≡ measure (content p)
    unfolding measure
    measure_stored = rw (given_stored, field_stored)

    pub place_stored : (buffer : List ℕ) → place bytes_say buffer ≡ place (content p) buffer
    unfolding place
    place_stored buffer = rw (given_stored, field_stored)

  -- the bytes of a record are those of one that is stored over them
  pub encoded_stored : encoded p ≡ stored p (encoded p)
  encoded_stored =
      let size = encoded_size p h in
      sym (
      stored_whole p (encoded p) (omega (arith, size))
      ∙ ap (◌++◌ (encoded p)) (drop_of_length-le (encoded p) {i = record_size} (omega (arith, size)))
      ∙ append-nil (encoded p)
      )

  pub measure_encoded : measure (content (decoded (encoded p))) ≡ measure (content p)
  measure_encoded =
      ap (λ (s : List ℕ). measure (content (decoded s))) encoded_stored
      ∙ measure_stored (encoded p) (omega (arith, encoded_size p h))

  pub place_encoded : (buffer : List ℕ) → place (content (decoded (encoded p))) buffer ≡ place (content p) buffer
  place_encoded buffer =
      ap (λ (s : List ℕ). place (content (decoded s)) buffer) encoded_stored
      ∙ place_stored (encoded p) (omega (arith, encoded_size p h)) buffer
