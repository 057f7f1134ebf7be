-- A record that passes the test for 22 is one that a reader can give: a body that gives it. Assumes nothing.
use mathlib.Core.Path.{◌≡◌, refl, sym, ◌∙◌, ap, subst}
use mathlib.Core.Bool.{Bool, true, false, ◌&&◌, ◌||◌, false≢true}
use mathlib.Core.List.{List, [], ◌∷◌, ◌++◌, map}
use Prim.Native.Nat.{ℕ, suc, ◌≤◌}
use native.Mathlib.Omega.{arith}
use lib.Dec.{ltb, eqb}
use lib.ListN.{length, drop, length-map}
use borrow.Author.Tests.{le-ltb, eqb-true}
use Rattle.errors.specs.Refusals.{accepted}
use Rattle.errors.proofs.Replies.{must_held, then_first}
use Rattle.party.specs.declared.PartyOption.{PartyOption}
use Rattle.party.specs.Limits.{limits_of}
use Rattle.party.specs.Text.{Used}
use Rattle.party.specs.Party.{where_limit, where_numbered, Content}
use Rattle.party.specs.declared.Numbering.{Numbering}
use Rattle.party.specs.declared.Numbering.TheVariants.{Unnumbered, Numbered, InTurn}
use Rattle.party.proofs.Options.{by_option}
use Rattle.swift_utils.specs.Bytes.{all, digit, legal}
use Rattle.swift_utils.specs.Checks.{bic_length, parse_bic}
use Rattle.field_utils.specs.Identifier.{is_numbered}
use Rattle.field_utils.specs.Names.{kept, digit_of}
use Rattle.field_utils.proofs.Tests.{both_left, both_right, both, none_more, Line}
use Rattle.reader.specs.Options.{ascii}
use Rattle.writer.specs.Writing.{slash_of, name_lines, head_lines, written_lines}
use Rattle.writer.specs.Given.{every, is_line, is_account, is_bic, are_names}
use Rattle.writer.proofs.Relined.{All}
use Rattle.writer.proofs.Contents.{content_with, used_of, bytes_of, Short, Fitting, found_content, line_used, line_free, lines_used}
use Rattle.writer.proofs.NamePasses.{Passes, AllPass, kept_short, kept_written, written_length_lem, written_lines_lem, digits_back}
use Rattle.writer.proofs.Ascii.{digit_ascii, all_legal, text_ascii, bic_ascii}
use Rattle.writer.proofs.HeadPasses.{text_length_lem, extra_most}
use Rattle.writer.proofs.Facts.{Facts, names_are, account_line, account_passes, bic_passes, bic_lines, small}
use Rattle.writer.proofs.Written.{first_bytes, account_bytes, found_of}

-- ---- the record of what is found in its lines says what it says
pub where_yes : (limit : ℕ) (us : List Used) → ltb 0 limit ≡ true → where_limit limit us ≡ us
where_yes limit us e = rw (e, where_limit)

where_no : (limit : ℕ) (us : List Used) → ltb 0 limit ≡ false → where_limit limit us ≡ []
where_no limit us e = rw (e, where_limit)

-- a text that is there, and one that is not
text_back : (o : PartyOption) (present : Bool) (u : Used) → is_account o present u ≡ true → used_of (account_bytes present (u ∷ [])) ≡ u
text_back o true u e = line_used u (both_left (is_line u) _ e)
text_back o false u e =
    let z : u.len ≡ 0 = eqb-true _ _ (both_left (eqb u.len 0) (is_line u) e) in
    let w : used_of u.bytes ≡ u = line_used u (both_right (eqb u.len 0) (is_line u) e) in
    let n : length u.bytes ≡ 0 = ap (λ (x : Used). x.len) w ∙ z in
    ap used_of (sym (empty u.bytes n)) ∙ w
  where
    empty : (l : List ℕ) → length l ≡ 0 → l ≡ []
    empty [] h = refl
    empty (b ∷ l) h = absurd (omega arith)

account_back : (o : PartyOption) (present : Bool) (limit : ℕ) (u : Used) → every (is_account o present) (where_limit limit (u ∷ [])) ≡ true
    → where_limit limit (used_of (account_bytes present (where_limit limit (u ∷ []))) ∷ []) ≡ where_limit limit (u ∷ [])
account_back o present limit u h = go (ltb 0 limit) refl
  where
    go : (t : Bool) → ltb 0 limit ≡ t → where_limit limit (used_of (account_bytes present (where_limit limit (u ∷ []))) ∷ []) ≡ where_limit limit (u ∷ [])
    go true e =
        let a : every (is_account o present) (u ∷ []) ≡ true = ap (every (is_account o present)) (sym (where_yes limit (u ∷ []) e)) ∙ h in
        rw (where_yes limit (u ∷ []) e) (ap (λ (w : Used). where_limit limit (w ∷ [])) (text_back o present u (both_left _ true a)) ∙ where_yes limit (u ∷ []) e)
    go false e = where_no limit _ e ∙ sym (where_no limit _ e)

bic_back : (limit : ℕ) (u : Used) → every is_line (where_limit limit (u ∷ [])) ≡ true
    → where_limit limit (used_of (first_bytes (where_limit limit (u ∷ []))) ∷ []) ≡ where_limit limit (u ∷ [])
bic_back limit u h = go (ltb 0 limit) refl
  where
    go : (t : Bool) → ltb 0 limit ≡ t → where_limit limit (used_of (first_bytes (where_limit limit (u ∷ []))) ∷ []) ≡ where_limit limit (u ∷ [])
    go true e =
        let a : every is_line (u ∷ []) ≡ true = ap (every is_line) (sym (where_yes limit (u ∷ []) e)) ∙ h in
        rw (where_yes limit (u ∷ []) e) (ap (λ (w : Used). where_limit limit (w ∷ [])) (line_used u (both_left _ true a)) ∙ where_yes limit (u ∷ []) e)
    go false e = where_no limit _ e ∙ sym (where_no limit _ e)

where_twice : (limit : ℕ) (us : List Used) → where_limit limit (where_limit limit us) ≡ where_limit limit us
where_twice limit us = go (ltb 0 limit) refl
  where
    go : (t : Bool) → ltb 0 limit ≡ t → where_limit limit (where_limit limit us) ≡ where_limit limit us
    go true e = where_yes limit _ e
    go false e = where_no limit _ e ∙ sym (where_no limit _ e)

-- an option without names has no digits
nameless_digits : (o : PartyOption) → (limits_of o).max_names ≡ 0 → (ds es : List ℕ) → where_numbered (limits_of o).numbering es ≡ where_numbered (limits_of o).numbering ds
nameless_digits =
    by_option (λ (o : PartyOption). (limits_of o).max_names ≡ 0 → (ds es : List ℕ) → where_numbered (limits_of o).numbering es ≡ where_numbered (limits_of o).numbering ds)
    (λ z ds es. refl) (λ z ds es. refl) (λ z ds es. absurd (omega arith)) (λ z ds es. refl) (λ z ds es. refl) (λ z ds es. refl) (λ z ds es. refl) (λ z ds es. refl)
    (λ z ds es. refl) (λ z ds es. refl) (λ z ds es. refl)

-- the digits of its lines
digits_found : (o : PartyOption) (count : ℕ) (ds : List ℕ) (us : List Used) → length ds ≤ count → are_names o count (where_numbered (limits_of o).numbering ds) us ≡ true
    → let f = (limits_of o).numbering in where_numbered f (map (digit_of f) (name_lines f (where_numbered f ds) us)) ≡ where_numbered f ds
digits_found o count ds us few h = go (eqb (limits_of o).max_names 0) refl
  where
    go : (t : Bool) → eqb (limits_of o).max_names 0 ≡ t → let f = (limits_of o).numbering in where_numbered f (map (digit_of f) (name_lines f (where_numbered f ds) us)) ≡ where_numbered f ds
    go true e = nameless_digits o (eqb-true _ _ e) ds _
    go false e =
        let n = names_are o count (where_numbered (limits_of o).numbering ds) us h in
        digits_back (limits_of o).numbering (limits_of o).name_max 1 ds us (omega (arith, n.counted)) (n.pass e).each

module _ (o : PartyOption) (present : Bool) (count : ℕ) (u v : Used) (us : List Used) (ds : List ℕ) where
  abbrev S : Content
  S = content_with o present count u v us ds

  pub found_content_back : length ds ≤ count → Facts S → found_content o (found_of S) ≡ S
  found_content_back few h =
      let n = names_are o count S.digits S.names h.names in
      let c : length (map bytes_of S.names) ≡ count = length-map S.names bytes_of ∙ n.counted in
      let a = account_back o present (limits_of o).account_max u h.account in
      let b = bic_back (limits_of o).bic_count v (bic_lines S.bic h.bic) in
      let m : where_limit (limits_of o).max_names (map used_of (map bytes_of S.names)) ≡ S.names =
      ap (where_limit (limits_of o).max_names) (lines_used S.names n.lines) ∙ where_twice (limits_of o).max_names us in
      let d = digits_found o count ds S.names few h.names in
      λ i. record { option = o; present = present; count = c i; account = a i; bic = b i; names = m i; digits = d i }

-- ---- its texts fit
account_short : (o : PartyOption) (present : Bool) (us : List Used) → every (is_account o present) us ≡ true → Short (account_bytes present us)
account_short o true [] h = omega arith
account_short o true (u ∷ us) h =
    omega (arith, text_length_lem (limits_of o).first o u.bytes (account_passes o u (both_left _ _ h)), extra_most (limits_of o).first, (small o).longest)
account_short o false us h = omega arith

pub bic_most_lem : (n : ℕ) (x : List ℕ) → parse_bic n x ≡ accepted → length x ≤ 11
unfolding parse_bic bic_length
bic_most_lem n x e = go (eqb (length x) 8) (eqb (length x) 11) refl refl (must_held (bic_length (length x)) 9 n (then_first _ _ e))
  where
    go : (p q : Bool) → eqb (length x) 8 ≡ p → eqb (length x) 11 ≡ q → (p || q) ≡ true → length x ≤ 11
    go true q a b t = omega (arith, eqb-true (length x) 8 a)
    go false true a b t = omega (arith, eqb-true (length x) 11 b)
    go false false a b t = absurd (false≢true t)

bic_short_lem : (us : List Used) → every is_bic us ≡ true → Short (first_bytes us)
bic_short_lem [] h = omega arith
bic_short_lem (u ∷ us) h = omega (arith, bic_most_lem 1 u.bytes (bic_passes u (both_left _ _ h)))

-- where an option has no names there are none
pub names_none : (o : PartyOption) (us : List Used) → eqb (limits_of o).max_names 0 ≡ true → where_limit (limits_of o).max_names us ≡ []
names_none o us e = where_no (limits_of o).max_names us (le-ltb 0 (limits_of o).max_names (omega (arith, eqb-true (limits_of o).max_names 0 e)))

names_short : (o : PartyOption) (count : ℕ) (ds : List ℕ) (us : List Used) → are_names o count ds (where_limit (limits_of o).max_names us) ≡ true
    → All Short (map bytes_of (where_limit (limits_of o).max_names us)) × (length (map bytes_of (where_limit (limits_of o).max_names us)) ≤ 4)
names_short o count ds us h = go (eqb (limits_of o).max_names 0) refl
  where
    go : (t : Bool) → eqb (limits_of o).max_names 0 ≡ t → All Short (map bytes_of (where_limit (limits_of o).max_names us)) × (length (map bytes_of (where_limit (limits_of o).max_names us)) ≤ 4)
    go true e = rw (names_none o us e) (tt, omega arith)
    go false e =
        let w = where_limit (limits_of o).max_names us in
        let p = (names_are o count ds w h).pass e in
        let k : All Short (map (kept (limits_of o).numbering) (name_lines (limits_of o).numbering ds w)) =
        kept_short (limits_of o).numbering (limits_of o).name_max 1 (name_lines (limits_of o).numbering ds w) (omega (arith, (small o).name)) p.each in (
          subst (All Short) (kept_written (limits_of o).numbering ds w) k,
          omega (arith, length-map w bytes_of, written_length_lem (limits_of o).numbering ds w, p.most, (small o).names),
        )

pub fitting : (o : PartyOption) (present : Bool) (count : ℕ) (u v : Used) (us : List Used) (ds : List ℕ) → Facts (content_with o present count u v us ds)
    → Fitting (found_of (content_with o present count u v us ds))
fitting o present count u v us ds h =
    let s = content_with o present count u v us ds in
    let f = (limits_of o).numbering in
    let n = names_short o count s.digits us h.names in
    let d = length-map (name_lines f s.digits s.names) (digit_of f) ∙ written_length_lem f s.digits s.names ∙ sym (length-map s.names bytes_of) in
    record { account = account_short o present s.account h.account; bic = bic_short_lem s.bic h.bic; names = n.0; few = n.1; digits = d }

-- ---- its lines have no LF and no byte above 127, and few bytes
pub record Plain (l : List ℕ) : Type 0 where
  pub line : Line l
  pub bytes : all ascii l ≡ true

pub all_append : {A : Type 0} (P : A → Type 0) (xs ys : List A) → All P xs → All P ys → All P (xs ++ ys)
all_append P [] ys h k = k
all_append P (x ∷ xs) ys h k = (h.0, all_append P xs ys h.1 k)

slashed : (x : List ℕ) → Plain x → Plain (47 ∷ x)
slashed x h = record { line = none_more 47 x refl h.line; bytes = h.bytes }

slash_plain : (o : PartyOption) (x : List ℕ) → Plain x → Plain (slash_of o ++ x)
slash_plain o x h = go (limits_of o).slash
  where
    go : (t : Bool) → Plain (elim t as (λ y. List ℕ) [ true ↦ 47 ∷ [] | false ↦ [] ] ++ x)
    go true = slashed x h
    go false = h

head_plain : (o : PartyOption) (present : Bool) (us : List Used) → every (is_account o present) us ≡ true → All Plain (head_lines o present us)
head_plain o true [] h = tt
head_plain o true (u ∷ us) h =
    let a = both_left (is_account o true u) (every (is_account o true) us) h in (
      slash_plain o u.bytes (record { line = line_free u (account_line o true u a); bytes = text_ascii (limits_of o).first o u.bytes (account_passes o u a) }),
      head_plain o true us (both_right (is_account o true u) (every (is_account o true) us) h),
    )
head_plain o false us h = tt

bic_plain : (us : List Used) → every is_bic us ≡ true → All Plain (map bytes_of us)
bic_plain [] h = tt
bic_plain (u ∷ us) h =
    let b = both_left (is_bic u) (every is_bic us) h in
    (record { line = line_free u (both_left (is_line u) _ b); bytes = bic_ascii 1 u.bytes (bic_passes u b) }, bic_plain us (both_right (is_bic u) (every is_bic us) h))

numbered_ascii : (l : List ℕ) → is_numbered l ≡ true → all legal (drop 2 l) ≡ true → all ascii l ≡ true
unfolding is_numbered
numbered_ascii [] e h = refl
numbered_ascii (d ∷ []) e h = absurd (false≢true e)
numbered_ascii (d ∷ s ∷ l) e h =
    both (ascii d) (ascii s && all ascii l) (digit_ascii d (both_left (digit d) (eqb s 47) e))
    (both (ascii s) (all ascii l) (ap ascii (eqb-true s 47 (both_right (digit d) (eqb s 47) e))) (all_legal l h))

pass_ascii : (f : Numbering) (longest k : ℕ) (l : List ℕ) → Passes f longest k l → all ascii l ≡ true
pass_ascii Unnumbered longest k l p = all_legal l p.chars
pass_ascii Numbered longest k l p = numbered_ascii l p.number p.chars
pass_ascii InTurn longest k l p = numbered_ascii l (both_left (is_numbered l) _ p.number) p.chars

names_plain : (f : Numbering) (longest k : ℕ) (ls : List (List ℕ)) → All Line ls → AllPass f longest k ls → All Plain ls
names_plain f longest k [] h p = tt
names_plain f longest k (l ∷ ls) h p = (record { line = h.0; bytes = pass_ascii f longest k l p.0 }, names_plain f longest (suc k) ls h.1 p.1)

-- names of an option, whether it has some or not
names_all : (o : PartyOption) (count : ℕ) (ds : List ℕ) (us : List Used) → are_names o count ds (where_limit (limits_of o).max_names us) ≡ true
    → All Plain (name_lines (limits_of o).numbering ds (where_limit (limits_of o).max_names us))
unfolding name_lines
names_all o count ds us h = go (eqb (limits_of o).max_names 0) refl
  where
    go : (t : Bool) → eqb (limits_of o).max_names 0 ≡ t → All Plain (name_lines (limits_of o).numbering ds (where_limit (limits_of o).max_names us))
    go true e = rw (names_none o us e) tt
    go false e =
        let w = where_limit (limits_of o).max_names us in
        let n = names_are o count ds w h in
        let each = (n.pass e).each in
        names_plain (limits_of o).numbering (limits_of o).name_max 1 (name_lines (limits_of o).numbering ds w)
        (written_lines_lem (limits_of o).numbering (limits_of o).name_max 1 ds w n.lines each) each

pub written_plain : (o : PartyOption) (present : Bool) (count : ℕ) (u v : Used) (us : List Used) (ds : List ℕ) → Facts (content_with o present count u v us ds)
    → All Plain (written_lines (content_with o present count u v us ds))
unfolding written_lines
written_plain o present count u v us ds h =
    let s = content_with o present count u v us ds in
    all_append Plain (head_lines o present s.account ++ map bytes_of s.bic) _
    (all_append Plain (head_lines o present s.account) _ (head_plain o present s.account h.account) (bic_plain s.bic h.bic))
    (names_all o count s.digits us h.names)
