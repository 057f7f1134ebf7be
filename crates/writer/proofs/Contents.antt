-- What a record says that was made of lists, and what its texts hold. Assumes nothing.
use mathlib.Core.Path.{◌≡◌, refl, sym, ◌∙◌, ap}
use mathlib.Core.Bool.{Bool, true, not}
use mathlib.Core.List.{List, [], ◌∷◌, ◌++◌, map}
use Prim.Native.Nat.{ℕ, ◌≤◌}
use lib.Dec.{eqb}
use lib.ListN.{length, take, length-map}
use lib.Seq.{take-take, take-append_seam}
use borrow.Author.Tests.{eqb-true, eq-eqb, not-true}
use Rattle.party.specs.declared.PartyOption.{PartyOption}
use Rattle.party.specs.declared.Party.{Party}
use Rattle.party.specs.Limits.{limits_of}
use Rattle.party.specs.Text.{text_of, four, four_texts, Used, used, text_most}
use Rattle.party.specs.Party.{where_limit, names_of, where_numbered, Content, content}
use Rattle.party.proofs.Theorems.{used_text_lem}
use Rattle.swift_utils.specs.Bytes.{among}
use Rattle.field_utils.proofs.Tests.{both_left, both_right, both, is_not, Line}
use Rattle.reader.specs.Reading.{Found, party_of}
use Rattle.writer.specs.Given.{every, is_line}
use Rattle.writer.proofs.Relined.{All}

-- what a record says, by its parts
abbrev pub content_with : PartyOption → Bool → ℕ → Used → Used → List Used → List ℕ → Content
content_with o present count u v us ds = record {
  option = o;
  present = present;
  count = count;
  account = where_limit (limits_of o).account_max (u ∷ []);
  bic = where_limit (limits_of o).bic_count (v ∷ []);
  names = where_limit (limits_of o).max_names us;
  digits = where_numbered (limits_of o).numbering ds;
}

pub content_with_lem : (p : Party) → content p ≡ content_with p.option p.present p.count (used p.account) (used p.bic) (names_of p.count p) (take p.count p.digits)
unfolding content
content_with_lem p = refl

-- a text that holds a list
abbrev pub used_of : List ℕ → Used
used_of l = record { len = length l; bytes = l }

abbrev pub bytes_of : Used → List ℕ
bytes_of u = u.bytes

-- lists that fit a record
abbrev pub Short : List ℕ → Type 0
Short l = length l ≤ text_most

pub record Fitting (f : Found) : Type 0 where
  pub account : Short f.account
  pub bic : Short f.bic
  pub names : All Short f.names
  pub few : length f.names ≤ 4
  pub digits : length f.digits ≡ length f.names

-- the first of an array of four are those that it was made of
pub four_all : {A : Type 0} (none : A) (xs : List A) (n : ℕ) → length xs ≡ n → n ≤ 4 → take n (four none xs) ≡ xs
unfolding four
four_all none xs n e h =
    let filled = xs ++ (none ∷ none ∷ none ∷ none ∷ []) in
    take-take n 4 filled h ∙ ap (λ (m : ℕ). take m filled) (sym e) ∙ take-append_seam xs (none ∷ none ∷ none ∷ none ∷ [])

texts_used : (ns : List (List ℕ)) → All Short ns → map used (map text_of ns) ≡ map used_of ns
texts_used [] h = refl
texts_used (n ∷ ns) h = ap (λ (u : Used). u ∷ map used (map text_of ns)) (used_text_lem n h.0) ∙ ap (◌∷◌ (used_of n)) (texts_used ns h.1)

-- what the record of what an option found says
abbrev pub found_content : PartyOption → Found → Content
found_content o f = content_with o f.present (length f.names) (used_of f.account) (used_of f.bic) (map used_of f.names) f.digits

pub content_party : (o : PartyOption) (f : Found) → Fitting f → content (party_of o f) ≡ found_content o f
unfolding content party_of
content_party o f h =
    let count = length f.names in
    let a : used (text_of f.account) ≡ used_of f.account = used_text_lem f.account h.account in
    let b : used (text_of f.bic) ≡ used_of f.bic = used_text_lem f.bic h.bic in
    let n : map used (take count (four_texts f.names)) ≡ map used_of f.names =
    ap (map used) (four_all (text_of []) (map text_of f.names) count (length-map f.names text_of) h.few) ∙ texts_used f.names h.names in
    let d : take count (four 0 f.digits) ≡ f.digits = four_all 0 f.digits count h.digits h.few in
    λ i. content_with o f.present count (a i) (b i) (n i) (d i)

-- ---- texts that are lines
module _ (u : Used) (h : is_line u ≡ true) where
  pub line_used : used_of u.bytes ≡ u
  unfolding is_line
  line_used =
      let e : u.len ≡ length u.bytes = eqb-true _ _ (both_left (eqb u.len (length u.bytes)) (not (among u.bytes 10)) h) in
      λ i. record { len = sym e i; bytes = u.bytes }

  pub line_free : Line u.bytes
  unfolding is_line
  line_free = not-true _ (both_right (eqb u.len (length u.bytes)) (not (among u.bytes 10)) h)

pub line_is : (l : List ℕ) → Line l → is_line (used_of l) ≡ true
unfolding is_line
line_is l h = both (eqb (length l) (length l)) (not (among l 10)) (eq-eqb (length l) (length l) refl) (is_not (among l 10) h)

pub lines_used : (us : List Used) → every is_line us ≡ true → map used_of (map bytes_of us) ≡ us
lines_used [] h = refl
lines_used (u ∷ us) h =
    ap (λ (w : Used). w ∷ map used_of (map bytes_of us)) (line_used u (both_left (is_line u) (every is_line us) h))
    ∙ ap (◌∷◌ u) (lines_used us (both_right (is_line u) (every is_line us) h))

pub lines_is : (ls : List (List ℕ)) → All Line ls → every is_line (map used_of ls) ≡ true
lines_is [] h = refl
lines_is (l ∷ ls) h = both (is_line (used_of l)) (every is_line (map used_of ls)) (line_is l h.0) (lines_is ls h.1)
