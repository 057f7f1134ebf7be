-- The written field by its parts: tag, account or identifier, and a BIC or names. Assumes nothing.
use Prim.Native.Nat.{ℕ, ◌+◌, ◌/◌, ◌%◌, ◌≤◌}
use mathlib.Core.Path.{◌≡◌, refl, ◌∙◌, sym, ap}
use mathlib.Core.Bool.{Bool, true, false}
use mathlib.Core.List.{List, [], ◌∷◌, ◌++◌, map, append_assoc, append-nil}
use native.Mathlib.Omega.{arith}
use lib.Dec.{ltb, eqb}
use lib.ListN.{length}
use borrow.Author.Tests.{lt-ltb, eq-eqb, ne_eqb, eqb-true, eqb-false}
use Rattle.party.specs.declared.PartyOption.{PartyOption}
use Rattle.party.specs.declared.Party.{Party}
use Rattle.party.specs.declared.Limits.{Limits}
use Rattle.party.specs.Limits.{limits_of}
use Rattle.party.specs.Text.{Used, used}
use Rattle.party.specs.Party.{content, where_limit}
use Rattle.party.proofs.Options.{by_option}
use Rattle.field_utils.specs.Tags.{capital, tag_of}
use Rattle.writer.specs.Writing.{slash_of, head_lines, name_lines, written_lines, joined, written_body, written_field}
use Rattle.writer.specs.Code.{lead, led, has_head, head_of, names_on, rest_on}

-- ---- lines with LFs between them are lines with an LF before each but the first
joined_cons : (l : List ℕ) (ls : List (List ℕ)) → joined (l ∷ ls) ≡ l ++ led true ls
unfolding joined led
joined_cons l [] = sym (append-nil l)
joined_cons l (m ∷ ls) = ap (λ (r : List ℕ). l ++ 10 ∷ r) (joined_cons m ls)

joined_led : (ls : List (List ℕ)) → joined ls ≡ led false ls
unfolding joined led
joined_led [] = refl
joined_led (l ∷ ls) = joined_cons l ls

-- whether a line that follows is not the first
after : Bool → List (List ℕ) → Bool
after b [] = b
after b (l ∷ ls) = true

led_append : (b : Bool) (ls ms : List (List ℕ)) → led b (ls ++ ms) ≡ led b ls ++ led (after b ls) ms
unfolding led after
led_append b [] ms = refl
led_append b (l ∷ []) ms = ap (λ (r : List ℕ). r ++ led true ms) (sym (append-nil (lead b ++ l)))
led_append b (l ∷ m ∷ ls) ms =
    ap (λ (r : List ℕ). (lead b ++ l) ++ r) (led_append true (m ∷ ls) ms)
    ∙ sym (append_assoc (lead b ++ l) (led true (m ∷ ls)) (led true ms))

-- ---- the account or identifier
abbrev head_in : PartyOption → Bool → Used → List (List ℕ)
head_in o present u = head_lines o present (where_limit (limits_of o).account_max (u ∷ []))

record Headed (o : PartyOption) (present : Bool) (u : Used) : Type 0 where
  bytes : led false (head_in o present u) ≡ head_of o (has_head o present) u
  later : after false (head_in o present u) ≡ has_head o present

headed : (o : PartyOption) (present : Bool) (u : Used) → Headed o present u
unfolding led after
headed o false u = record { bytes = refl; later = refl }
headed o true u = go (ltb 0 (limits_of o).account_max) refl
  where
    go : (t : Bool) → ltb 0 (limits_of o).account_max ≡ t → Headed o true u
    go true e = record { bytes = rw (e, where_limit) (append-nil (slash_of o ++ u.bytes)); later = rw (e, where_limit) }
    go false e = record { bytes = rw (e, where_limit); later = rw (e, where_limit) }

-- ---- the field
pub field_parts :
    (p : Party) → let later = has_head p.option p.present in
    written_field (content p) ≡ tag_of p.option ++ (head_of p.option later (used p.account) ++ rest_on later p)
unfolding content written_lines written_body written_field
field_parts p =
    let o = p.option in
    let h = headed o p.present (used p.account) in
    let head = head_in o p.present (used p.account) in
    let bic = map (λ (u : Used). u.bytes) (content p).bic in
    let names = name_lines (limits_of o).numbering (content p).digits (content p).names in
    ap (λ (r : List ℕ). tag_of o ++ r)
    (joined_led ((head ++ bic) ++ names) ∙ ap (led false) (append_assoc head bic names) ∙ led_append false head (bic ++ names)
    ∙ ap (λ (r : List ℕ). r ++ led (after false head) (bic ++ names)) h.bytes
    ∙ ap (λ (b : Bool). head_of o (has_head o p.present) (used p.account) ++ led b (bic ++ names)) h.later)

-- that of a lent record
pub lent_parts :
    (p : Party) {o : PartyOption} {later : Bool} → o ≡ p.option → later ≡ has_head p.option p.present →
    written_field (content p) ≡ tag_of o ++ (head_of p.option later (used p.account) ++ rest_on later p)
lent_parts p is e = rw (is, e) (field_parts p)

-- ---- what follows the account or identifier: an option has no BIC, or no names
bic_alone : (o : PartyOption) → ((limits_of o).bic_count ≡ 0 → ⊥) → (limits_of o).max_names ≡ 0
bic_alone =
    by_option (λ o. ((limits_of o).bic_count ≡ 0 → ⊥) → (limits_of o).max_names ≡ 0) (λ h. absurd (h refl)) (λ h. refl) (λ h. absurd (h refl)) (λ h. absurd (h refl)) (λ h. refl) (λ h. refl) (λ h. refl) (λ h. absurd (h refl))
    (λ h. absurd (h refl)) (λ h. refl) (λ h. absurd (h refl))

pub rest_names : (later : Bool) (p : Party) → (limits_of p.option).bic_count ≡ 0 → rest_on later p ≡ names_on later p
unfolding content
rest_names later p e = rw e

pub rest_bic : (later : Bool) (p : Party) → ((limits_of p.option).bic_count ≡ 0 → ⊥) → rest_on later p ≡ lead later ++ (used p.bic).bytes
unfolding content led name_lines
rest_bic later p h =
    let bic : (content p).bic ≡ used p.bic ∷ [] = rw (lt-ltb 0 (limits_of p.option).bic_count (omega arith), where_limit) in
    let names : (content p).names ≡ [] = rw (bic_alone p.option h) in
    rw (bic, names) (append-nil (lead later ++ (used p.bic).bytes))

-- ---- the tag and the slash, by the limits
module _ (o : PartyOption) {l : Limits} (e : l ≡ limits_of o) where
  pub tag_plain : l.letter ≡ 0 → (58 ∷ (48 + l.field / 10) ∷ (48 + l.field % 10) ∷ 58 ∷ []) ≡ tag_of o
  unfolding tag_of
  tag_plain z = rw (← e, eq-eqb l.letter 0 z)

  pub tag_lettered : (l.letter ≡ 0 → ⊥) → (58 ∷ (48 + l.field / 10) ∷ (48 + l.field % 10) ∷ l.letter ∷ 58 ∷ []) ≡ tag_of o
  unfolding tag_of
  tag_lettered h = rw (← e, ne_eqb l.letter 0 h, capital, ← e)

-- a tag has 4 or 5 bytes
pub tag_sizes : (o : PartyOption) → (4 ≤ length (tag_of o)) × (length (tag_of o) ≤ 5)
tag_sizes o = go (eqb (limits_of o).letter 0) refl
  where
    go : (t : Bool) → eqb (limits_of o).letter 0 ≡ t → (4 ≤ length (tag_of o)) × (length (tag_of o) ≤ 5)
    go true e = let n = ap length (tag_plain o refl (eqb-true _ _ e)) in (omega arith, omega arith)
    go false e = let n = ap length (tag_lettered o refl (eqb-false _ _ e)) in (omega arith, omega arith)

pub tag_most : (o : PartyOption) → length (tag_of o) ≤ 5
tag_most o = (tag_sizes o).1
