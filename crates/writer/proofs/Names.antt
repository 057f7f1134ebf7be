-- The names that a record uses, one after the other. Assumes nothing.
use Prim.Native.Nat.{ℕ, zero, suc, ◌≤◌, ◌<◌, ◌+◌, ◌*◌, min}
use mathlib.Core.Path.{◌≡◌, refl, ◌∙◌, sym, ap}
use mathlib.Core.Bool.{Bool, true, false, ◌&&◌}
use mathlib.Core.List.{List, [], ◌∷◌, ◌++◌, map}
use native.Mathlib.Nat.{add-zero}
use native.Mathlib.Numerals.{add-one}
use native.Mathlib.Omega.{arith}
use lib.Dec.{ltb}
use lib.ListN.{length, take, drop, get_or, length-map, length-append, length-take, drop_of_length-le, get_or-map}
use lib.Seq.{drop-cons, drop-drop, get_or-drop, get_or-take}
use Rattle.std.specs.List.{fold, list_all, range_with_len}
use Rattle.party.specs.declared.PartyOption.{PartyOption}
use Rattle.party.specs.declared.Text.{Text}
use Rattle.party.specs.declared.Party.{Party}
use Rattle.party.specs.Limits.{limits_of}
use Rattle.party.specs.Text.{Used, used}
use Rattle.party.specs.Party.{content, names_of, where_numbered}
use Rattle.party.specs.declared.Numbering.{Numbering}
use Rattle.party.specs.declared.Numbering.TheVariants.{Unnumbered, Numbered, InTurn}
use Rattle.party.proofs.Laws.{map_take, take_min}
use Rattle.field_utils.specs.Names.{dropped_prefix}
use Rattle.record_bytes.specs.RecordBytes.{nth_text, laid_out}
use Rattle.record_bytes.proofs.Laws.{name_text, used_most}
use Rattle.writer.specs.Writing.{number_of, name_lines}
use Rattle.writer.specs.Code.{lead, follows, led, name_count, name_on, is_name, all_names}

-- the text that stands for one past the end
abbrev pub none : Text
none = record { bytes = []; len = 0 }

-- the first n names of a record
abbrev pub names_in : ℕ → Party → List Used
names_in n p = take n (map used p.name_and_address)

-- whether the name at a place passes
abbrev pub name_passes : Party → Numbering → ℕ → ℕ → Bool
name_passes p f longest i = is_name f longest (i + 1) (get_or p.digits i 0) (used (nth_text (2 + i) p))

-- how long a name's number is
pub number_length_lem : (f : Numbering) (d : ℕ) → length (number_of f d) ≡ dropped_prefix f
number_length_lem Unnumbered d = refl
number_length_lem Numbered d = refl
number_length_lem InTurn d = refl

pub marks_most : (f : Numbering) → dropped_prefix f ≤ 2
marks_most Unnumbered = omega arith
marks_most Numbered = omega arith
marks_most InTurn = omega arith

lead_most : (b : Bool) → length (lead b) ≤ 1
lead_most true = omega arith
lead_most false = omega arith

pub name_most : (s : List ℕ) (first : Bool) (i : ℕ) → length (name_on first i (laid_out s)) ≤ 41
name_most s first i =
    let p = laid_out s in
    let f = (limits_of p.option).numbering in
    simp (length-append, number_length_lem) (omega (arith, lead_most (follows first i), marks_most f, used_most s (2 + i)))

-- the lines of names have as many digits as there are names, and none where the option has none beside its texts
number_used : (f : Numbering) (n : ℕ) (ds : List ℕ) (i : ℕ) → i < n → number_of f (get_or (where_numbered f (take n ds)) i 0) ≡ number_of f (get_or ds i 0)
number_used Unnumbered n ds i h = refl
number_used Numbered n ds i h = ap (number_of Numbered) (get_or-take n ds i 0 h)
number_used InTurn n ds i h = refl

lines_agree : (f : Numbering) (ds es : List ℕ) (us : List Used) → ((i : ℕ) → i < length us → number_of f (get_or ds i 0) ≡ number_of f (get_or es i 0)) → name_lines f ds us ≡ name_lines f es us
unfolding name_lines
lines_agree f ds es [] h = refl
lines_agree f ds es (u ∷ us) h =
    ap (λ (m : List ℕ). (m ++ u.bytes) ∷ name_lines f (drop 1 ds) us) (h 0 (omega arith))
    ∙ ap (◌∷◌ (number_of f (get_or es 0 0) ++ u.bytes))
    (lines_agree f (drop 1 ds) (drop 1 es) us (λ i k. rw (get_or-drop 1 ds i 0, get_or-drop 1 es i 0, one_add i) (h (suc i) (omega arith))))
  where
    one_add : (i : ℕ) → 1 + i ≡ suc i
    one_add i = omega arith

pub used_digits : (f : Numbering) (n : ℕ) (ds : List ℕ) (us : List Used) → length us ≤ n → name_lines f (where_numbered f (take n ds)) us ≡ name_lines f ds us
used_digits f n ds us h = lines_agree f (where_numbered f (take n ds)) ds us (λ i k. number_used f n ds i (omega arith))

-- ---- the names that are used
counted : (o : PartyOption) (count : ℕ) → name_count o count ≤ min count 4
counted o count = go (ltb 0 (limits_of o).max_names)
  where
    go : (t : Bool) → elim t [ true ↦ min count 4 | false ↦ 0 ] ≤ min count 4
    go true = omega arith
    go false = omega arith

-- the digit at a place, and those after it
digit_here : (ds : List ℕ) (i : ℕ) → get_or (drop i ds) 0 0 ≡ get_or ds i 0
digit_here ds i = get_or-drop i ds 0 0 ∙ ap (λ (k : ℕ). get_or ds k 0) (add-zero i)

digits_next : (ds : List ℕ) (i : ℕ) → drop 1 (drop i ds) ≡ drop (suc i) ds
digits_next ds i = drop-drop 1 i ds ∙ ap (λ (k : ℕ). drop k ds) (add-one i)

module _ (p : Party) (four : length p.name_and_address ≡ 4) where
  names_size : length (map used p.name_and_address) ≡ 4
  names_size = length-map p.name_and_address used ∙ four

  content_first : (content p).names ≡ names_in (name_count p.option p.count) p
  unfolding content
  content_first = go (ltb 0 (limits_of p.option).max_names)
    where
      go : (t : Bool) → elim t [ true ↦ names_of p.count p | false ↦ [] ] ≡ names_in (elim t [ true ↦ min p.count 4 | false ↦ 0 ]) p
      go true =
          map_take used p.count p.name_and_address
          ∙ take_min p.count (map used p.name_and_address) (min p.count 4) (omega (arith, names_size))
      go false = refl

  module _ {n : ℕ} (count : n ≡ name_count p.option p.count) where
    pub few : n ≤ 4
    few = omega (arith, counted p.option p.count)

    pub content_names : (content p).names ≡ names_in n p
    content_names = content_first ∙ ap (λ (m : ℕ). names_in m p) (sym count)

    pub names_length_lem : length (names_in n p) ≡ n
    names_length_lem = omega (arith, length-take n (map used p.name_and_address), names_size, few)

    names_end : (i : ℕ) → n ≤ i → drop i (names_in n p) ≡ []
    names_end i h = drop_of_length-le (names_in n p) {i = i} (omega (arith, names_length_lem))

    pub names_next : (i : ℕ) → i < n → drop i (names_in n p) ≡ used (get_or p.name_and_address i none) ∷ drop (suc i) (names_in n p)
    names_next i h =
        drop-cons (names_in n p) i (used none) (omega (arith, names_length_lem))
        ∙ ap (λ (u : Used). u ∷ drop (suc i) (names_in n p))
        (get_or-take n (map used p.name_and_address) i (used none) h ∙ get_or-map used p.name_and_address i none)

    -- the lines of the names, by the record's digits
    pub content_lines : let f = (limits_of p.option).numbering in name_lines f (content p).digits (content p).names ≡ name_lines f p.digits (names_in n p)
    unfolding content
    content_lines =
        let f = (limits_of p.option).numbering in
        ap (name_lines f (content p).digits) content_names
        ∙ used_digits f p.count p.digits (names_in n p) (omega (arith, names_length_lem, count, counted p.option p.count))

    -- what is left of the names' text, from the i-th on
    pub left_next :
        (f : Numbering) (later : Bool) (i : ℕ) → i < n →
        led later (name_lines f (drop i p.digits) (drop i (names_in n p)))
        ≡ (lead later ++ (number_of f (get_or p.digits i 0) ++ (used (get_or p.name_and_address i none)).bytes))
        ++ led true (name_lines f (drop (suc i) p.digits) (drop (suc i) (names_in n p)))
    unfolding led name_lines
    left_next f later i h = rw (names_next i h, digit_here p.digits i, digits_next p.digits i)

    pub left_end : (f : Numbering) (later : Bool) (i : ℕ) → n ≤ i → led later (name_lines f (drop i p.digits) (drop i (names_in n p))) ≡ []
    unfolding led name_lines
    left_end f later i h = rw (names_end i h)

    -- what is left of the names' test
    pub all_next :
        (f : Numbering) (longest i : ℕ) → i < n →
        all_names f longest (suc i) (drop i p.digits) (drop i (names_in n p))
        ≡ (is_name f longest (suc i) (get_or p.digits i 0) (used (get_or p.name_and_address i none)) && all_names f longest (suc (suc i)) (drop (suc i) p.digits) (drop (suc i) (names_in n p)))
    unfolding all_names
    all_next f longest i h = rw (names_next i h, digit_here p.digits i, digits_next p.digits i)

    pub all_end : (f : Numbering) (longest i : ℕ) → n ≤ i → all_names f longest (suc i) (drop i p.digits) (drop i (names_in n p)) ≡ true
    unfolding all_names
    all_end f longest i h = rw (names_end i h)

    -- it is the test of each name that is left, by its place
    pub all_places :
        (f : Numbering) (longest i m : ℕ) → m + i ≡ n →
        list_all (name_passes p f longest) (range_with_len i m) ≡ all_names f longest (suc i) (drop i p.digits) (drop i (names_in n p))
    all_places f longest i zero h = sym (all_end f longest i (omega (arith, h)))
    all_places f longest i (suc m) h =
        rw (add-one i, all_places f longest (suc i) m (omega (arith, h)), name_text p i)
        (sym (all_next f longest i (omega (arith, h))))

    -- the lengths of the lines that are left, added up
    module _ (first : Bool) where
      abbrev f : Numbering
      f = (limits_of p.option).numbering

      abbrev left : ℕ → List ℕ
      left i = led (follows first i) (name_lines f (drop i p.digits) (drop i (names_in n p)))

      left_more : (i : ℕ) → i < n → length (left i) ≡ length (name_on first i p) + length (left (suc i))
      left_more i h =
          let next = rw (← name_text p i) at (left_next f (follows first i) i h) in
          omega (arith, ap length next, length-append (name_on first i p) (left (suc i)))

      pub lengths_sum : (total i m : ℕ) → m + i ≡ n → fold (λ (a x : ℕ). a + x) total (map (λ (k : ℕ). length (name_on first k p)) (range_with_len i m)) ≡ total + length (left i)
      lengths_sum total i zero h = omega (arith, ap length (left_end f (follows first i) i (omega (arith, h))))
      lengths_sum total i (suc m) h =
          rw (add-one i, lengths_sum (total + length (name_on first i p)) (suc i) m (omega (arith, h)))
          (omega (arith, left_more i (omega (arith, h))))

      pub lengths_most : ((k : ℕ) → length (name_on first k p) ≤ 41) → (i m : ℕ) → m + i ≡ n → length (left i) ≤ 41 * m
      lengths_most short i zero h = omega (arith, ap length (left_end f (follows first i) i (omega (arith, h))))
      lengths_most short i (suc m) h = omega (arith, left_more i (omega (arith, h)), short i, lengths_most short (suc i) m (omega (arith, h)))
