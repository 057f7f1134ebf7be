-- The cases of a line of names, of the lines of names, and of their count. Assumes nothing.
use Rattle.std.proofs.Common.{◌≡◌, ℕ, suc, ◌+◌, ◌≤◌, Bool, true, eqb, leb, List, [], ◌∷◌, map, length, drop, sym, refl, ap, ◌∙◌, add-one, arith, eqb-true}
use mathlib.Core.Bool.{or-true, false≢true}
use lib.ListN.{length-map}
use Rattle.errors.specs.Refusals.{Reply, accepted, refused, must, ◌then◌}
use Rattle.errors.proofs.Replies.{must_held, then_first, then_assoc}
use Rattle.party.specs.declared.PartyOption.{PartyOption}
use Rattle.party.specs.declared.Limits.{Limits}
use Rattle.party.specs.declared.Text.{Text}
use Rattle.party.specs.Limits.{limits_of}
use Rattle.party.specs.Text.{four, four_texts}
use Rattle.party.specs.declared.Numbering.{Numbering}
use Rattle.party.specs.declared.Numbering.TheVariants.{Unnumbered, Numbered, InTurn}
use Rattle.swift_utils.specs.Bytes.{all, letter, digit, alphanumeric, signs, legal}
use Rattle.swift_utils.specs.Checks.{parse_swift_chars}
use Rattle.swift_utils.proofs.Checks.{chars}
use Rattle.field_utils.specs.Identifier.{is_numbered}
use Rattle.field_utils.specs.Names.{skip_of, parse_number, parse_line, parse_lines, parse_count, parse_name_and_address, NamesRead, kept, digit_of, names_or, read_names, dropped_prefix}
use Rattle.field_utils.specs.Code.{parse_shape, given_names}
use Rattle.field_utils.proofs.Tests.{both_left, both_right}

-- a numbered line has room for its digit and slash
pub numbered_room : (l : List ℕ) → is_numbered l ≡ true → 2 ≤ length l
unfolding is_numbered
numbered_room [] e = absurd (false≢true e)
numbered_room (d ∷ []) e = absurd (false≢true e)
numbered_room (d ∷ s ∷ l) e = omega arith

pub number_room : (f : Numbering) (n k : ℕ) (l : List ℕ) → parse_number f n k l ≡ accepted → skip_of f ≤ length l
number_room Unnumbered n k l e = omega arith
number_room Numbered n k l e = numbered_room l (must_held (is_numbered l) 5 n e)
number_room InTurn n k l e = numbered_room l (must_held (is_numbered l) 5 n (then_first _ _ e))

digit_legal : (d : ℕ) → digit d ≡ true → legal d ≡ true
unfolding alphanumeric legal
digit_legal d e = rw (e, or-true (letter d))

slash_legal : legal 47 ≡ true
unfolding letter digit alphanumeric signs legal
slash_legal = refl

-- a number is legal
pub number_legal : (x : List ℕ) → is_numbered x ≡ true → all legal (drop 2 x) ≡ all legal x
unfolding is_numbered
number_legal [] e = refl
number_legal (d ∷ []) e = absurd (false≢true e)
number_legal (d ∷ s ∷ l) e =
    let slash = eqb-true s 47 (both_right (digit d) (eqb s 47) e) in
    rw (digit_legal d (both_left (digit d) (eqb s 47) e), slash, slash_legal)

-- where its number passed, a line's text is legal where the line is
text_legal : (f : Numbering) (n k : ℕ) (l : List ℕ) → parse_number f n k l ≡ accepted → all legal (drop (skip_of f) l) ≡ all legal l
text_legal Unnumbered n k l e = refl
text_legal Numbered n k l e = number_legal l (must_held (is_numbered l) 5 n e)
text_legal InTurn n k l e = number_legal l (must_held (is_numbered l) 5 n (then_first _ _ e))

-- what is not kept of a line stands before its text
pub kept_least : (f : Numbering) → dropped_prefix f ≤ skip_of f
kept_least Unnumbered = omega arith
kept_least Numbered = omega arith
kept_least InTurn = omega arith

-- a line of names: before its bytes, and whole
module _ (f : Numbering) (longest n k : ℕ) (l : List ℕ) where
  pub shape_number : {r m : ℕ} → parse_number f n k l ≡ refused r m → parse_shape f longest n k l ≡ refused r m
  shape_number e = rw e

  pub shape_length : {t : Bool} → parse_number f n k l ≡ accepted → leb (length (drop (skip_of f) l)) longest ≡ t → parse_shape f longest n k l ≡ must t 4 n
  shape_length e g = rw (e, g)

  pub kept_room : parse_shape f longest n k l ≡ accepted → dropped_prefix f ≤ length l
  kept_room e = omega (arith, number_room f n k l (then_first _ _ e), kept_least f)

  by_shape : {r : Reply} → parse_shape f longest n k l ≡ r → parse_line f longest n k l ≡ (r then parse_swift_chars n (drop (skip_of f) l))
  unfolding parse_line
  by_shape e =
      sym (then_assoc (parse_number f n k l) (must (leb (length (drop (skip_of f) l)) longest) 4 n) (parse_swift_chars n (drop (skip_of f) l)))
      ∙ ap (λ (r : Reply). r then parse_swift_chars n (drop (skip_of f) l)) e

  pub line_refused : {r m : ℕ} → parse_shape f longest n k l ≡ refused r m → parse_line f longest n k l ≡ refused r m
  line_refused e = by_shape e

  pub line_bytes : {t : Bool} → parse_shape f longest n k l ≡ accepted → all legal l ≡ t → parse_line f longest n k l ≡ must t 3 n
  line_bytes e g = by_shape e ∙ chars n _ (text_legal f n k l (then_first _ _ e) ∙ g)

-- the lines of names, where the next is the one after count others, as the code counts
module _ (f : Numbering) (longest start count : ℕ) (l : List ℕ) (ls : List (List ℕ)) where
  line : start + (count + 1) ≡ suc (start + count)
  line = omega arith

  pub lines_refused : {r m : ℕ} → parse_line f longest (start + (count + 1)) (count + 1) l ≡ refused r m
      → parse_lines f longest (suc (start + count)) (suc count) (l ∷ ls) ≡ refused r m
  unfolding parse_lines
  lines_refused e = rw (rw (line, add-one) at e)

  pub lines_passed : parse_line f longest (start + (count + 1)) (count + 1) l ≡ accepted
      → parse_lines f longest (suc (start + count)) (suc count) (l ∷ ls) ≡ parse_lines f longest (suc (start + (count + 1))) (suc (count + 1)) ls
  unfolding parse_lines
  lines_passed e = rw (line, add-one) (rw (rw (line, add-one) at e))

pub lines_none : (f : Numbering) (longest n k : ℕ) → parse_lines f longest n k [] ≡ accepted
unfolding parse_lines
lines_none f longest n k = refl

pub given_reply : (r : Reply) (count : ℕ) (texts : List Text) (digits : List ℕ) → (given_names r count texts digits).reply ≡ r
given_reply accepted count texts digits = refl
given_reply (refused k n) count texts digits = refl

-- what names give, by their count, their texts and their digits
given : (r : Reply) (ns : List (List ℕ)) (ds : List ℕ) → names_or r ns ds ≡ given_names r (length ns) (four_texts ns) (four 0 ds)
given accepted ns ds = refl
given (refused k n) ns ds = refl

-- names, by what their lines say; m is what the code holds of the option
module _ (o : PartyOption) {m : Limits} (e : m ≡ limits_of o) (n : ℕ) (ls : List (List ℕ)) where
  names_refused : {r j : ℕ} → parse_lines m.numbering m.name_max n 1 ls ≡ refused r j → parse_name_and_address o n ls ≡ refused r j
  unfolding parse_name_and_address
  names_refused h = rw (← e, h)

  names_counted : parse_lines m.numbering m.name_max n 1 ls ≡ accepted → parse_name_and_address o n ls ≡ parse_count m.max_names (length ls)
  unfolding parse_name_and_address
  names_counted h = rw (← e, h)

  -- what they give: none where a line is refused, else what their count says
  abbrev by : Reply → NamesRead
  by r = names_or r (map (kept (limits_of o).numbering) ls) (map (digit_of (limits_of o).numbering) ls)

  pub read_refused : {r j : ℕ} → parse_lines m.numbering m.name_max n 1 ls ≡ refused r j → read_names o n ls ≡ (record { reply = refused r j; count = 0; texts = four_texts []; digits = four 0 [] })
  unfolding read_names
  read_refused h = ap by (names_refused h)

  pub read_counted : {count : ℕ} {texts : List Text} {digits : List ℕ} → parse_lines m.numbering m.name_max n 1 ls ≡ accepted → count ≡ length ls
      → texts ≡ four_texts (map (kept m.numbering) ls) → digits ≡ four 0 (map (digit_of m.numbering) ls)
      → read_names o n ls ≡ given_names (parse_count m.max_names count) count texts digits
  unfolding read_names
  read_counted h c t d =
      ap by (names_counted h)
      ∙ given (parse_count m.max_names (length ls)) (map (kept (limits_of o).numbering) ls) (map (digit_of (limits_of o).numbering) ls)
      ∙ rw (length-map ls (kept (limits_of o).numbering), ← e, ← t, ← d, ← c)
