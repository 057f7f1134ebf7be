-- A refusal of a body has a number from 1 on, and names one of the body's lines or none, so at most line 2,048. Assumes nothing.
use Prim.Native.Nat.{ℕ, suc, ◌+◌, ◌≤◌}
use mathlib.Core.Path.{◌≡◌, refl}
use mathlib.Core.Bool.{Bool, true, false, not, ◌&&◌}
use mathlib.Core.List.{List, [], ◌∷◌}
use native.Mathlib.Omega.{arith}
use borrow.Author.Tests.{leb-true}
use lib.Dec.{leb, eqb, ltb}
use lib.ListN.{length, get_or, take, drop}
use Rattle.errors.specs.Refusals.{Reply, accepted, refused, must, ◌then◌}
use Rattle.party.specs.declared.PartyOption.{PartyOption}
use Rattle.party.specs.declared.Party.{Party}
use Rattle.party.specs.Limits.{limits_of}
use Rattle.party.specs.declared.Numbering.{Numbering}
use Rattle.party.specs.declared.Numbering.TheVariants.{Unnumbered, Numbered, InTurn}
use Rattle.party.specs.declared.First.{First}
use Rattle.party.specs.declared.First.TheVariants.{NoAccount, Identified, Account, ShortAccount, SlashAccount, AnyAccount, WholeLine}
use Rattle.party.specs.declared.Layout.{Layout}
use Rattle.party.specs.declared.Layout.TheVariants.{BicOnly, TextOnly, ByLines}
use Rattle.swift_utils.specs.Bytes.{all, among, between, letter, alphanumeric, legal}
use Rattle.swift_utils.specs.Checks.{parse_swift_chars, parse_account, bic_length, parse_bic}
use Rattle.field_utils.specs.Lines.{lines, upto, starts}
use Rattle.field_utils.specs.Identifier.{Identifier, is_numbered, absent, given, second_slash, identifier_reply, parse_party_identifier}
use Rattle.field_utils.specs.Names.{skip_of, parse_count, parse_number, parse_line, parse_lines, parse_name_and_address}
use Rattle.reader.specs.Reading.{giving, party_of, Found}
use Rattle.reader.specs.Options.{Head, no_head, head, account_reply, identifier_head, account_head, short_account_head, head_by, with_names, with_bic, after_head, after, from_head, is_counted, by_lines, found_by, ascii, body_most, body_reply, read}
use Rattle.reader.proofs.LineCounts.{lines_most}
use Rattle.yewdome.specs.Code.{Named}

-- ---- checks
-- what holds of both sides of a test holds of what it gives
pub by_test : {A : Type 0} (P : A → Type 0) (x y : A) (b : Bool) → P x → P y → P (elim b [ true ↦ x | false ↦ y ])
by_test P x y true h i = h
by_test P x y false h i = i

pub must_line : (b : Bool) (k n : ℕ) → 1 ≤ k → n ≤ body_most → Named (must b k n)
must_line true k n g h = tt
must_line false k n g h = (g, h)

then_line : (r s : Reply) → Named r → Named s → Named (r then s)
then_line accepted s h i = i
then_line (refused k n) s h i = h

pub must_then : (b : Bool) (k n : ℕ) (s : Reply) → 1 ≤ k → n ≤ body_most → Named s → Named (must b k n then s)
must_then b k n s g h i = then_line (must b k n) s (must_line b k n g h) i

module _ (n : ℕ) (h : n ≤ body_most) where
  chars_line : (l : List ℕ) → Named (parse_swift_chars n l)
  unfolding parse_swift_chars
  chars_line l = must_line (all legal l) 3 n (omega arith) h

  account_line : (shortest longest : ℕ) (l : List ℕ) → Named (parse_account shortest longest n l)
  unfolding parse_account
  account_line shortest longest l = must_then (between shortest longest (length l)) 2 n (parse_swift_chars n l) (omega arith) h (chars_line l)

  bic_line_lem : (l : List ℕ) → Named (parse_bic n l)
  unfolding parse_bic
  bic_line_lem l =
      let letters = all letter (take 6 l) in
      let others = all alphanumeric (drop 6 l) in
      must_then (bic_length (length l)) 9 n (must letters 10 n then must others 10 n) (omega arith) h
      (must_then letters 10 n (must others 10 n) (omega arith) h (must_line others 10 n (omega arith) h))

  identifier_line : (longest : ℕ) (l : List ℕ) → Named (identifier_reply longest n l)
  unfolding identifier_reply second_slash
  identifier_line longest l =
      let k = upto 47 l in
      let coded = leb k 2 && all alphanumeric (take k l) in
      let id = parse_account 0 longest n (drop (suc k) l) in
      by_test Named (second_slash longest n l k) (parse_account 0 longest n l) (ltb k (length l))
      (by_test Named (parse_account 1 longest n (drop 1 l)) (must coded 2 n then id) (eqb k 0) (account_line 1 longest (drop 1 l))
      (must_then coded 2 n id (omega arith) h (account_line 0 longest (drop (suc k) l))))
      (account_line 0 longest l)

  number_line : (f : Numbering) (k : ℕ) (l : List ℕ) → Named (parse_number f n k l)
  number_line Unnumbered k l = tt
  number_line Numbered k l = must_line (is_numbered l) 5 n (omega arith) h
  number_line InTurn k l =
      let turn = eqb (get_or l 0 0) (48 + k) in
      must_then (is_numbered l) 5 n (must turn 6 n) (omega arith) h (must_line turn 6 n (omega arith) h)

  name_line : (f : Numbering) (longest k : ℕ) (l : List ℕ) → Named (parse_line f longest n k l)
  unfolding parse_line
  name_line f longest k l =
      let text = drop (skip_of f) l in
      let short = leb (length text) longest in
      then_line (parse_number f n k l) (must short 4 n then parse_swift_chars n text) (number_line f k l)
      (must_then short 4 n (parse_swift_chars n text) (omega arith) h (chars_line text))

-- ---- lines from body line n on, the last of which is at most 2,048
names_line : (f : Numbering) (longest n k : ℕ) (ls : List (List ℕ)) → n + length ls ≤ suc body_most → Named (parse_lines f longest n k ls)
unfolding parse_lines
names_line f longest n k [] h = tt
names_line f longest n k (l ∷ ls) h =
    then_line (parse_line f longest n k l) (parse_lines f longest (suc n) (suc k) ls) (name_line n (omega arith) f longest k l)
    (names_line f longest (suc n) (suc k) ls (omega arith))

abbrev FoundNamed : Found → Type 0
FoundNamed f = Named f.reply

bics_line : (n : ℕ) (d : Head) (ls : List (List ℕ)) → n + length ls ≤ suc body_most → FoundNamed (with_bic n d ls)
bics_line n d [] h = (omega arith, omega arith)
bics_line n d (l ∷ ls) h = bic_line_lem n (omega arith) l

after_line : (o : PartyOption) (n : ℕ) (d : Head) (ls : List (List ℕ)) → n + length ls ≤ suc body_most → FoundNamed (after_head o n d ls)
unfolding after_head parse_name_and_address
after_line o n d ls h =
    let m = limits_of o in
    by_test FoundNamed (with_bic n d ls) (with_names o n d ls) (eqb m.max_names 0) (bics_line n d ls h)
    (then_line (parse_lines m.numbering m.name_max n 1 ls) (parse_count m.max_names (length ls)) (names_line m.numbering m.name_max n 1 ls h)
    (must_line (between 1 m.max_names (length ls)) 7 0 (omega arith) (omega arith)))

-- ---- the first line
module _ (o : PartyOption) where
  abbrev HeadNamed : Head → Type 0
  HeadNamed d = Named d.reply

  option_line : (l : List ℕ) → Named (account_reply o l)
  option_line l = account_line 1 (omega arith) (limits_of o).account_min (limits_of o).account_max l

  account_head_lem : (l : List ℕ) → HeadNamed (account_head o l)
  unfolding account_head
  account_head_lem l = by_test HeadNamed (head (drop 1 l) (account_reply o (drop 1 l))) no_head (starts 47 l) (option_line (drop 1 l)) tt

  identified_head : (l : List ℕ) → HeadNamed (identifier_head (parse_party_identifier o 1 l))
  unfolding parse_party_identifier
  identified_head [] = tt
  identified_head (b ∷ l) =
      let longest = (limits_of o).account_max in
      by_test (λ (x : Identifier). HeadNamed (identifier_head x)) (given l (identifier_reply longest 1 l)) absent (eqb b 47) (identifier_line 1 (omega arith) longest l) tt

  head_line : (f : First) (l : List ℕ) → HeadNamed (head_by f o l)
  unfolding short_account_head
  head_line NoAccount l = tt
  head_line Identified l = identified_head l
  head_line Account l = account_head_lem l
  head_line ShortAccount l = by_test HeadNamed (account_head o l) no_head (leb (length (drop 1 l)) (limits_of o).account_max) (account_head_lem l) tt
  head_line SlashAccount l = must_then (starts 47 l) 2 1 (account_reply o (drop 1 l)) (omega arith) (omega arith) (option_line (drop 1 l))
  head_line AnyAccount l =
      let fits = between (limits_of o).account_min (limits_of o).account_max (length (drop 1 l)) in
      must_then (starts 47 l) 2 1 (must fits 2 1) (omega arith) (omega arith) (must_line fits 2 1 (omega arith) (omega arith))
  head_line WholeLine l = option_line l

  body_line : (ls : List (List ℕ)) → length ls ≤ body_most → FoundNamed (by_lines o ls)
  body_line [] h = (omega arith, omega arith)
  body_line (l ∷ ls) h =
      let d = head_by (limits_of o).first o l in
      let g = head_line (limits_of o).first l in
      let second = after_head o 2 d ls in
      let first = after_head o 1 d (l ∷ ls) in
      must_then (is_counted o (length (l ∷ ls))) 1 0 (from_head o d (l ∷ ls) ls).reply (omega arith) (omega arith)
      (by_test FoundNamed (after d.reply second) (after d.reply first) d.present (then_line d.reply second.reply g (after_line o 2 d ls (omega arith)))
      (then_line d.reply first.reply g (after_line o 1 d (l ∷ ls) (omega arith))))

  found_line : (f : Layout) (body : List ℕ) → length body ≤ body_most → FoundNamed (found_by f o body)
  found_line BicOnly body i = bic_line_lem 1 (omega arith) body
  found_line TextOnly body i = must_then (not (among body 10)) 1 0 (account_reply o body) (omega arith) (omega arith) (option_line body)
  found_line ByLines body i = body_line (lines body) (omega (arith, lines_most body))

-- ---- readings
pub giving_line : (r : Reply) (p : Party) → Named r → Named (giving r p).reply
giving_line accepted p h = h
giving_line (refused k n) p h = h

pub read_line : (o : PartyOption) (body : List ℕ) → Named (read o body).reply
unfolding read
read_line o body = giving_line (body_reply body then f) (party_of o (found_by (limits_of o).layout o body)) (go (leb (length body) body_most) refl)
  where
    f : Reply
    f = (found_by (limits_of o).layout o body).reply

    go : (b : Bool) → leb (length body) body_most ≡ b → Named ((must b 12 0 then must (all ascii body) 13 0) then f)
    go true e = must_then (all ascii body) 13 0 f (omega arith) (omega arith) (found_line o (limits_of o).layout body (leb-true (length body) body_most e))
    go false e = (omega arith, omega arith)
