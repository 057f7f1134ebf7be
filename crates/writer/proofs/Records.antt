-- The test of a record by its parts. Assumes nothing.
use Prim.Native.Nat.{ℕ, zero, suc, ◌+◌, ◌≤◌, ◌<◌}
use mathlib.Core.Path.{◌≡◌, refl, sym, ◌∙◌, ap}
use mathlib.Core.Bool.{Bool, true, false, not, ◌&&◌, and-true, and-false, and_assoc, and_comm}
use mathlib.Core.List.{List, [], ◌∷◌, ◌++◌}
use native.Mathlib.Omega.{arith}
use lib.Dec.{leb, eqb}
use lib.ListN.{length, take, drop, get_or}
use borrow.Author.Tests.{lt-ltb, le-leb, lt-leb, eq-eqb, ne_eqb, eqb-true, eqb-false}
use Rattle.std.specs.Prelude.{Result, Ok, Err, is_ok}
use Rattle.errors.specs.declared.ParseError.{ParseError}
use Rattle.errors.specs.Refusals.{Reply, accepted, refused, must, ◌then◌, told}
use Rattle.party.specs.declared.PartyOption.{PartyOption}
use Rattle.party.specs.declared.Text.{Text}
use Rattle.party.specs.declared.Party.{Party}
use Rattle.party.specs.Limits.{limits_of}
use Rattle.party.specs.Text.{Used, used}
use Rattle.party.specs.Party.{content, where_limit}
use Rattle.party.specs.declared.Numbering.{Numbering}
use Rattle.party.specs.declared.Numbering.TheVariants.{Unnumbered, Numbered, InTurn}
use Rattle.party.specs.declared.First.TheVariants.{AnyAccount}
use Rattle.swift_utils.specs.Bytes.{all, among, digit, legal}
use Rattle.swift_utils.specs.Checks.{parse_swift_chars, parse_account}
use Rattle.swift_utils.specs.Classes.{plain}
use Rattle.field_utils.specs.Identifier.{is_numbered}
use Rattle.field_utils.specs.Names.{skip_of, parse_number, parse_line, parse_lines, parse_count, parse_name_and_address}
use Rattle.field_utils.proofs.NameLines.{number_room, number_legal}
use Rattle.field_utils.proofs.Tests.{both_left}
use Rattle.reader.specs.Options.{account_reply, length_reply, ascii}
use Rattle.writer.specs.Writing.{number_of, name_lines}
use Rattle.writer.specs.Given.{passes, every, is_line, text_reply, is_presence, is_bic, are_names, is_taken, is_given}
use Rattle.writer.specs.Code.{line_reply, number_in, is_name, all_names, head_test, names_pass, count_test, texts_test}
use Rattle.writer.proofs.Texts.{all_plain}
use Rattle.writer.proofs.Names.{content_names, content_lines}
use Rattle.writer.proofs.NamePasses.{passed, written_length_lem}

pub passes_then : (r s : Reply) → passes (r then s) ≡ (passes r && passes s)
passes_then accepted s = refl
passes_then (refused k n) s = refl

pub passes_must : (b : Bool) (k n : ℕ) → passes (must b k n) ≡ b
passes_must true k n = refl
passes_must false k n = refl

-- an answer that is accepted passes
passes_ok : (r : Result (Unit {0}) ParseError) → is_ok r ≡ passes (told r)
passes_ok (Ok t) = refl
passes_ok (Err e) = refl

-- so the code's test of an answer says whether its reply passes
pub ok_passes : (r : Result (Unit {0}) ParseError) {y : Reply} {b : Bool} → told r ≡ y → b ≡ is_ok r → b ≡ passes y
ok_passes r e f = f ∙ passes_ok r ∙ ap passes e

-- ---- a test of a text that the option has not, and of one that it has
module _ (f : Used → Bool) (limit : ℕ) (u : Used) where
  pub every_one : (limit ≡ 0 → ⊥) → every f (where_limit limit (u ∷ [])) ≡ f u
  every_one h = rw (lt-ltb 0 limit (omega arith), where_limit) (and-true (f u))

-- a text that is empty is a line
pub empty_line : (t : Text) → (eqb t.len 0 && is_line (used t)) ≡ eqb t.len 0
unfolding is_line
empty_line t = go t.len
  where
    go : (n : ℕ) → (eqb n 0 && is_line (record { len = n; bytes = take n t.bytes })) ≡ eqb n 0
    go zero = refl
    go (suc n) = rw (ne_eqb (suc n) 0 (λ e. omega arith))

-- ---- a line that passes, by whether it is one
pub line_by : (r : Reply) (x : List ℕ) {t : Bool} → not (among x 10) ≡ t → (t && passes r) ≡ line_reply r x
line_by r x e = rw (← e)

-- an account by its length and its bytes
pub plain_account : (o : PartyOption) (x : List ℕ) {t : Bool} → passes (length_reply o x) ≡ t → (t && all plain x) ≡ line_reply (account_reply o x) x
unfolding parse_account parse_swift_chars
plain_account o x {t} e =
    rw (passes_then (length_reply o x) (must (all legal x) 3 1), e, passes_must (all legal x) 3 1, all_plain x)
    (ap (λ (b : Bool). t && b) (and_comm (all legal x) (not (among x 10))) ∙ sym (and_assoc t _ _) ∙ ap (λ (b : Bool). b && all legal x) (and_comm t (not (among x 10))) ∙ and_assoc (not (among x 10)) t (all legal x))

-- 50H's
pub any_account : (o : PartyOption) (x : List ℕ) {t : Bool} → passes (length_reply o x) ≡ t → (t && all ascii x) ≡ passes (text_reply AnyAccount o x)
any_account o x e = rw (passes_then (length_reply o x) (must (all ascii x) 13 0), e, passes_must (all ascii x) 13 0)

-- ---- the number of the k-th name x, with the digit d
abbrev pub in_turn : Numbering → ℕ → ℕ → List ℕ → Bool
in_turn f k d x = passes (parse_number f k k (number_of f d ++ x))

pub turn_kept : (k d : ℕ) (x : List ℕ) → in_turn InTurn k d x ≡ (is_numbered x && eqb (get_or x 0 0) (48 + k))
turn_kept k d x =
    passes_then (must (is_numbered x) 5 k) (must (eqb (get_or x 0 0) (48 + k)) 6 k)
    ∙ rw (passes_must (is_numbered x) 5 k, passes_must (eqb (get_or x 0 0) (48 + k)) 6 k)

pub turn_written : (k d : ℕ) (x : List ℕ) → in_turn Numbered k d x ≡ digit d
unfolding is_numbered
turn_written k d x = passes_must (digit d && true) 5 k ∙ and-true (digit d)

pub turn_room : (f : Numbering) (k d : ℕ) (x : List ℕ) → in_turn f k d x ≡ true → number_in f ≤ length x
turn_room Unnumbered k d x e = omega arith
turn_room Numbered k d x e = omega arith
turn_room InTurn k d x e = number_room InTurn k k x (passed (parse_number InTurn k k x) e)

-- ---- the k-th name
kept_legal : (f : Numbering) (k d : ℕ) (x : List ℕ) → in_turn f k d x ≡ true → all legal (drop (number_in f) x) ≡ all legal x
kept_legal Unnumbered k d x e = refl
kept_legal Numbered k d x e = refl
kept_legal InTurn k d x e = number_legal x (both_left (is_numbered x) (eqb (get_or x 0 0) (48 + k)) (sym (turn_kept k d x) ∙ e))

kept_text : (f : Numbering) (d : ℕ) (x : List ℕ) → drop (skip_of f) (number_of f d ++ x) ≡ drop (number_in f) x
kept_text Unnumbered d x = refl
kept_text Numbered d x = refl
kept_text InTurn d x = refl

module _ (f : Numbering) (longest k d : ℕ) (u : Used) where
  abbrev text : List ℕ
  text = drop (number_in f) u.bytes

  name_parts : is_name f longest k d u ≡ (is_line u && (in_turn f k d u.bytes && (leb (length text) longest && all legal text)))
  unfolding is_name parse_line parse_swift_chars
  name_parts =
      rw (
        passes_then (parse_number f k k (number_of f d ++ u.bytes)),
        kept_text f d u.bytes,
        passes_then (must (leb (length text) longest) 4 k),
        passes_must (leb (length text) longest) 4 k,
        passes_must (all legal text) 3 k,
      )

  pub name_not_line : is_line u ≡ false → is_name f longest k d u ≡ false
  name_not_line e = name_parts ∙ rw e

  pub name_not_turn : in_turn f k d u.bytes ≡ false → is_name f longest k d u ≡ false
  name_not_turn e = name_parts ∙ rw e (and-false (is_line u))

  module _ (turn : in_turn f k d u.bytes ≡ true) where
    pub name_long : longest < length text → is_name f longest k d u ≡ false
    name_long h = name_parts ∙ rw (turn, lt-leb (length text) longest h) (and-false (is_line u))

    pub name_bytes : length text ≤ longest → is_line u ≡ not (among u.bytes 10) → is_name f longest k d u ≡ all plain u.bytes
    name_bytes h line =
        name_parts
        ∙ rw (turn, le-leb (length text) longest h, kept_legal f k d u.bytes turn, line)
        (and_comm (not (among u.bytes 10)) (all legal u.bytes) ∙ sym (all_plain u.bytes))

-- ---- the names
and_pairs : (a b c d : Bool) → ((a && b) && (c && d)) ≡ ((a && c) && (b && d))
and_pairs false b c d = refl
and_pairs true b true d = refl
and_pairs true b false d = and-false b

lines_all :
    (f : Numbering) (longest k : ℕ) (ds : List ℕ) (us : List Used) →
    (every is_line us && passes (parse_lines f longest k k (name_lines f ds us))) ≡ all_names f longest k ds us
unfolding name_lines parse_lines is_name all_names
lines_all f longest k ds [] = refl
lines_all f longest k ds (u ∷ us) =
    let line = parse_line f longest k k (number_of f (get_or ds 0 0) ++ u.bytes) in
    let lines = parse_lines f longest (suc k) (suc k) (name_lines f (drop 1 ds) us) in
    ap (λ (b : Bool). (is_line u && every is_line us) && b) (passes_then line lines)
    ∙ and_pairs (is_line u) (every is_line us) (passes line) (passes lines)
    ∙ ap (λ (b : Bool). (is_line u && passes line) && b) (lines_all f longest (suc k) (drop 1 ds) us)

-- digits that are written alike pass alike
pub names_alike : (o : PartyOption) (count : ℕ) (ds es : List ℕ) (us : List Used) → name_lines (limits_of o).numbering ds us ≡ name_lines (limits_of o).numbering es us
    → are_names o count ds us ≡ are_names o count es us
unfolding are_names
names_alike o count ds es us e =
    ap
    (λ (ls : List (List ℕ)). eqb (length us) count && every is_line us && elim (eqb (limits_of o).max_names 0) [ true ↦ true | false ↦ passes (parse_name_and_address o 1 ls) ])
    e

module _ (o : PartyOption) (count : ℕ) (ds : List ℕ) (us : List Used) where
  pub names_other : (length us ≡ count → ⊥) → are_names o count ds us ≡ false
  unfolding are_names
  names_other h = rw (ne_eqb (length us) count h)

  module _ (e : length us ≡ count) where
    pub names_unused : (limits_of o).max_names ≡ 0 → us ≡ [] → are_names o count ds us ≡ true
    unfolding are_names
    names_unused z none = rw (eq-eqb (length us) count e, eq-eqb (limits_of o).max_names 0 z, are_names) (rw none)

    pub names_used :
        ((limits_of o).max_names ≡ 0 → ⊥) →
        are_names o count ds us ≡ (all_names (limits_of o).numbering (limits_of o).name_max 1 ds us && passes (parse_count (limits_of o).max_names (length us)))
    unfolding are_names parse_name_and_address
    names_used h =
        let f = (limits_of o).numbering in
        let ls = name_lines f ds us in
        let lines = parse_lines f (limits_of o).name_max 1 1 ls in
        rw (eq-eqb (length us) count e, ne_eqb (limits_of o).max_names 0 h, are_names)
        (ap (λ (b : Bool). every is_line us && b) (passes_then lines (parse_count (limits_of o).max_names (length ls)))
        ∙ sym (and_assoc (every is_line us) (passes lines) (passes (parse_count (limits_of o).max_names (length ls))))
        ∙ rw (lines_all f (limits_of o).name_max 1 ds us, written_length_lem f ds us))

no_more : (f : Numbering) (longest k : ℕ) (ds : List ℕ) {us : List Used} → us ≡ [] → all_names f longest k ds us ≡ true
unfolding all_names
no_more f longest k ds e = rw e

-- ---- the record
abbrev pub names_test : Party → Bool
names_test p = are_names p.option p.count (content p).digits (content p).names

-- the test of names is that of their count and that of each
module _ (p : Party) (four : length p.name_and_address ≡ 4) where
  abbrev o : PartyOption
  o = p.option

  abbrev us : List Used
  us = (content p).names

  by_digits : names_test p ≡ are_names o p.count p.digits us
  by_digits =
      names_alike o p.count (content p).digits p.digits us
      (content_lines p four refl ∙ ap (name_lines (limits_of o).numbering p.digits) (sym (content_names p four refl)))

  no_names : (limits_of o).max_names ≡ 0 → us ≡ []
  unfolding content
  no_names z = rw z

  names_parts : names_test p ≡ (count_test p && names_pass p)
  names_parts = go (eqb (length us) p.count) refl
    where
      passed : (e : length us ≡ p.count) (t : Bool) → eqb (limits_of o).max_names 0 ≡ t →
          names_test p ≡ (elim t as (λ x. Bool) [ true ↦ true | false ↦ passes (parse_count (limits_of o).max_names (length us)) ] && names_pass p)
      passed e true z =
          let none = no_names (eqb-true _ _ z) in
          names_unused o p.count (content p).digits us e (eqb-true _ _ z) none ∙ sym (no_more (limits_of o).numbering (limits_of o).name_max 1 p.digits none)
      passed e false z =
          by_digits ∙ names_used o p.count p.digits us e (eqb-false _ _ z) ∙ and_comm (names_pass p) (passes (parse_count (limits_of o).max_names (length us)))

      go : (t : Bool) → eqb (length us) p.count ≡ t → names_test p ≡ (count_test p && names_pass p)
      go true e = passed (eqb-true _ _ e) (eqb (limits_of o).max_names 0) refl ∙ rw (e, count_test)
      go false e = names_other o p.count (content p).digits us (eqb-false _ _ e) ∙ rw (e, count_test)

-- the tests in the order of the code
in_order : (a b c k f x : Bool) → (a && b && c && (k && f) && x) ≡ (a && c && k && (b && x && f))
in_order false b c k f x = refl
in_order true false false k f x = refl
in_order true false true false f x = refl
in_order true false true true f x = refl
in_order true true false k f x = refl
in_order true true true false f x = refl
in_order true true true true f x = and_comm f x

module _ (o : PartyOption) (p : Party) where
  abbrev pub bic_test : Bool
  bic_test = every is_bic (where_limit (limits_of o).bic_count (used p.bic ∷ []))

  -- the record's test by its parts
  pub given_by :
      {a b c d e : Bool} → o ≡ p.option → is_presence o p.present ≡ a → head_test o p.present p ≡ b → bic_test ≡ c → names_test p ≡ d → p.present ≡ e →
      (a && b && c && d && not (not e && is_taken (limits_of o).first (content p).names)) ≡ is_given (content p)
  unfolding is_given content
  given_by is f g h i j = rw (← f, ← g, ← h, ← i, ← j, is)

  -- as the code has it, by what the first of them say
  pub given_in_order :
      {a c k e : Bool} → length p.name_and_address ≡ 4 → o ≡ p.option → is_presence o p.present ≡ a → bic_test ≡ c → count_test p ≡ k → p.present ≡ e →
      (a && c && k && texts_test o e p) ≡ is_given (content p)
  given_in_order {a} {c} {k} {e} four is f h i j =
      by e j ∙ given_by is f (ap (λ (b : Bool). head_test o b p) j) h (names_parts p four ∙ ap (λ (b : Bool). b && names_pass p) i) j
    where
      by : (e : Bool) → p.present ≡ e → (a && c && k && texts_test o e p) ≡ (a && head_test o e p && c && (k && names_pass p) && not (not e && is_taken (limits_of o).first (content p).names))
      by true j = ap (λ (b : Bool). a && c && k && (b && names_pass p)) (sym (and-true (head_test o true p))) ∙ sym (in_order a (head_test o true p) c k (names_pass p) true)
      by false j = sym (in_order a (head_test o false p) c k (names_pass p) (not (is_taken (limits_of o).first (content p).names)))
