-- How long the lines of a record that passes the test for 22 are together. Assumes nothing.
use mathlib.Core.Path.{◌≡◌, refl, ap}
use mathlib.Core.Bool.{Bool, true, false, ◌&&◌, true≢false}
use mathlib.Core.List.{List, [], ◌∷◌, ◌++◌, map}
use Prim.Native.Nat.{ℕ, zero, suc, ◌+◌, ◌≤◌, ◌<◌}
use native.Mathlib.Omega.{arith}
use lib.Dec.{ltb, leb, eqb}
use lib.ListN.{length, length-append, length-drop}
use borrow.Author.Tests.{leb-true, eqb-true}
use Rattle.party.specs.declared.PartyOption.{PartyOption}
use Rattle.party.specs.declared.PartyOption.TheVariants.{Field59F}
use Rattle.party.specs.Limits.{limits_of, place_of}
use Rattle.party.specs.Text.{Used}
use Rattle.party.specs.Party.{where_limit, Content}
use Rattle.party.specs.declared.Numbering.{Numbering}
use Rattle.party.proofs.Options.{place_one, by_option}
use Rattle.field_utils.specs.Names.{skip_of}
use Rattle.field_utils.specs.Tags.{tag_of}
use Rattle.field_utils.proofs.Tests.{both_left}
use Rattle.writer.specs.Writing.{slash_of, name_lines, head_lines, written_lines, joined, written_body, written_field, field_most, identified59_f}
use Rattle.writer.specs.Given.{every, is_account, is_bic, are_names}
use Rattle.writer.proofs.Fields.{tag_most}
use Rattle.writer.proofs.Relined.{weight, closed}
use Rattle.writer.proofs.Contents.{content_with, bytes_of}
use Rattle.writer.proofs.NamePasses.{AllPass}
use Rattle.writer.proofs.HeadPasses.{extra_of, text_length_lem}
use Rattle.writer.proofs.Facts.{Facts, names_are, account_passes, bic_passes}
use Rattle.writer.proofs.Witness.{bic_most_lem, names_none}

pub weight_append : (xs ys : List (List ℕ)) → weight (xs ++ ys) ≡ weight xs + weight ys
weight_append [] ys = omega arith
weight_append (x ∷ xs) ys = let h = weight_append xs ys in omega arith

-- ---- the most that each part weighs
abbrev head_most : PartyOption → ℕ
head_most o = suc (length (slash_of o) + (limits_of o).account_max + extra_of (limits_of o).first)

one_text : (limit : ℕ) (u : Used) → length (where_limit limit (u ∷ [])) ≤ 1
one_text limit u = go (ltb 0 limit) refl
  where
    go : (t : Bool) → ltb 0 limit ≡ t → length (where_limit limit (u ∷ [])) ≤ 1
    go true e = rw (e, where_limit) (omega arith)
    go false e = rw (e, where_limit) (omega arith)

head_weight : (o : PartyOption) (present : Bool) (us : List Used) → length us ≤ 1 → every (is_account o present) us ≡ true → weight (head_lines o present us) ≤ head_most o
head_weight o true [] n h = omega arith
head_weight o true (u ∷ []) n h =
    omega (arith, length-append (slash_of o) u.bytes, text_length_lem (limits_of o).first o u.bytes (account_passes o u (both_left (is_account o true u) true h)))
head_weight o true (u ∷ v ∷ us) n h = absurd (omega arith)
head_weight o false us n h = omega arith

abbrev bic_most : PartyOption → ℕ
bic_most o = elim (ltb 0 (limits_of o).bic_count) [ true ↦ 12 | false ↦ 0 ]

bic_weight : (o : PartyOption) (v : Used) → every is_bic (where_limit (limits_of o).bic_count (v ∷ [])) ≡ true → weight (map bytes_of (where_limit (limits_of o).bic_count (v ∷ []))) ≤ bic_most o
bic_weight o v h = go (ltb 0 (limits_of o).bic_count) refl
  where
    go : (t : Bool) → ltb 0 (limits_of o).bic_count ≡ t → weight (map bytes_of (where_limit (limits_of o).bic_count (v ∷ []))) ≤ bic_most o
    go true e =
        let b : every is_bic (v ∷ []) ≡ true = rw (e, where_limit) at h in
        rw (e, where_limit, bic_most) (omega (arith, bic_most_lem 1 v.bytes (bic_passes v (both_left (is_bic v) true b))))
    go false e = rw (e, where_limit, bic_most) (omega arith)

-- n lines of m
abbrev times : ℕ → ℕ → ℕ
times zero m = 0
times (suc n) m = m + times n m

abbrev names_most : PartyOption → ℕ
names_most o = times (limits_of o).max_names (suc ((limits_of o).name_max + skip_of (limits_of o).numbering))

lines_weight : (f : Numbering) (longest k n : ℕ) (ls : List (List ℕ)) → length ls ≤ n → AllPass f longest k ls → weight ls ≤ times n (suc (longest + skip_of f))
lines_weight f longest k n [] h p = omega arith
lines_weight f longest k zero (l ∷ ls) h p = absurd (omega arith)
lines_weight f longest k (suc n) (l ∷ ls) h p =
    omega (arith, lines_weight f longest (suc k) n ls (omega arith) p.1, p.0.long, length-drop (skip_of f) l)

names_weight : (o : PartyOption) (count : ℕ) (ds : List ℕ) (us : List Used) → are_names o count ds (where_limit (limits_of o).max_names us) ≡ true
    → weight (name_lines (limits_of o).numbering ds (where_limit (limits_of o).max_names us)) ≤ names_most o
unfolding name_lines
names_weight o count ds us h = go (eqb (limits_of o).max_names 0) refl
  where
    go : (t : Bool) → eqb (limits_of o).max_names 0 ≡ t → weight (name_lines (limits_of o).numbering ds (where_limit (limits_of o).max_names us)) ≤ names_most o
    go true e = rw (names_none o us e) (omega arith)
    go false e =
        let w = where_limit (limits_of o).max_names us in
        let p = (names_are o count ds w h).pass e in
        lines_weight (limits_of o).numbering (limits_of o).name_max 1 (limits_of o).max_names (name_lines (limits_of o).numbering ds w) p.most p.each

-- ---- together: by the table, 183, and 180 but for 59F
table_183 : (o : PartyOption) → leb (head_most o + bic_most o + names_most o) 183 ≡ true
table_183 =
    by_option (λ (o : PartyOption). leb (head_most o + bic_most o + names_most o) 183 ≡ true) refl refl refl refl refl refl refl refl refl refl refl

-- but for 59F's, which can have an identifier and names, three less
table_180 : (o : PartyOption) → eqb (place_of o) (place_of Field59F) ≡ false → leb (head_most o + bic_most o + names_most o) 180 ≡ true
table_180 =
    by_option (λ (o : PartyOption). eqb (place_of o) (place_of Field59F) ≡ false → leb (head_most o + bic_most o + names_most o) 180 ≡ true) (λ e. refl)
    (λ e. refl) (λ e. refl) (λ e. refl) (λ e. refl) (λ e. refl) (λ e. refl) (λ e. refl) (λ e. refl) (λ e. refl) (λ e. absurd (true≢false e))

-- what lines weigh closed, and joined
pub closed_length : (ls : List (List ℕ)) → length (closed ls) ≤ weight ls + weight ls
closed_length [] = omega arith
closed_length (l ∷ ls) =
    omega (arith, closed_length ls, length-append (l ++ 13 ∷ []) (10 ∷ closed ls), length-append l (13 ∷ []))

pub joined_length : (ls : List (List ℕ)) → 0 < length ls → suc (length (joined ls)) ≡ weight ls
unfolding joined
joined_length [] n = absurd (omega arith)
joined_length (l ∷ []) n = omega arith
joined_length (l ∷ m ∷ ls) n = omega (arith, joined_length (m ∷ ls) (omega arith), length-append l (10 ∷ joined (m ∷ ls)))

pub joined_most : (ls : List (List ℕ)) (n : ℕ) → weight ls ≤ suc n → length (joined ls) ≤ n
unfolding joined
joined_most [] n k = omega arith
joined_most (l ∷ ls) n k = omega (arith, joined_length (l ∷ ls) (omega arith))

module _ (o : PartyOption) (present : Bool) (count : ℕ) (u v : Used) (us : List Used) (ds : List ℕ) (h : Facts (content_with o present count u v us ds)) where
  abbrev S : Content
  S = content_with o present count u v us ds

  parts : weight (written_lines S) ≤ weight (head_lines o present S.account) + bic_most o + names_most o
  unfolding written_lines
  parts =
      let b = bic_weight o v h.bic in
      let n = names_weight o count S.digits us h.names in
      let x = weight_append (head_lines o present S.account) (map bytes_of S.bic) in
      let y = weight_append (head_lines o present S.account ++ map bytes_of S.bic) (name_lines (limits_of o).numbering S.digits S.names) in
      omega (arith, b, n, x, y)

  head_part : weight (head_lines o present S.account) ≤ head_most o
  head_part = head_weight o present S.account (one_text (limits_of o).account_max u) h.account

  pub written_183 : weight (written_lines S) ≤ 183
  written_183 = omega (arith, parts, head_part, leb-true (head_most o + bic_most o + names_most o) 183 (table_183 o))

  -- a written field has at most 187 bytes
  pub field_most_lem : length (written_field S) ≤ field_most
  unfolding written_field written_body
  field_most_lem = omega (arith, joined_most (written_lines S) 182 written_183, length-append (tag_of o) (joined (written_lines S)), tag_most o)

  written_180 : (t q : Bool) → eqb (place_of o) (place_of Field59F) ≡ t → present ≡ q → (t && q) ≡ false → weight (written_lines S) ≤ 180
  written_180 true true e p n = absurd (true≢false n)
  written_180 true false e p n =
      let none : weight (head_lines o present S.account) ≡ 0 = ap (λ (b : Bool). weight (head_lines o b S.account)) p in
      let names : bic_most o + names_most o ≡ 144 = ap (λ (r : PartyOption). bic_most r + names_most r) (place_one o Field59F (eqb-true _ _ e)) in
      omega (arith, parts, none, names)
  written_180 false q e p n = omega (arith, parts, head_part, leb-true (head_most o + bic_most o + names_most o) 180 (table_180 o e))

  -- one that is not a 59F with identifier has at most 184
  pub field_less : identified59_f S ≡ false → length (written_field S) ≤ 184
  unfolding written_field written_body identified59_f
  field_less n =
      omega (
        arith,
        joined_most (written_lines S) 179 (written_180 (eqb (place_of o) (place_of Field59F)) present refl refl n),
        length-append (tag_of o) (joined (written_lines S)),
        tag_most o,
      )
