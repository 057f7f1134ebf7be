-- What the definitions of texts and of sameness come to.
-- Assumes nothing.
use Prim.Native.Nat.{ℕ, ◌-◌, ◌≤◌}
use mathlib.Core.Path.{◌≡◌, refl, ap}
use mathlib.Core.Bool.{Bool, true, false, true≢false}
use mathlib.Core.List.{List, [], ◌∷◌, head-eq_of_cons-eq}
use lib.ListN.{length, replicate}
use lib.Seq.{take_all, take-append_seam}
use Rattle.party.specs.declared.PartyOption.TheVariants.{Field50K}
use Rattle.party.specs.declared.Text.{Text}
use Rattle.party.specs.declared.Party.{Party}
use Rattle.party.specs.Text.{padded, text_of, used, text_most}
use Rattle.party.specs.Party.{Content, content, Same}

-- the text of at most 38 bytes holds those, with their length
pub used_text_lem : (l : List ℕ) → length l ≤ text_most → used (text_of l) ≡ record { len = length l; bytes = l }
unfolding text_of padded
used_text_lem l h = rw (take_all text_most l h, take-append_seam l (replicate (text_most - length l) 0))

-- a 50K record of one name whose fourth text has length 99 is the same as the one with that text blank
abbrev one_name : Text → Party
one_name fourth = record {
  option = Field50K;
  present = false;
  account = text_of [];
  bic = text_of [];
  count = 1;
  name_and_address = text_of (65 ∷ []) ∷ text_of [] ∷ text_of [] ∷ fourth ∷ [];
  digits = 0 ∷ 0 ∷ 0 ∷ 0 ∷ [];
}

pub unused_name : Same (one_name (record { bytes = replicate text_most 255; len = 99 })) (one_name (text_of []))
unfolding content text_of padded
unused_name = refl

-- 50K records that differ in the presence alone are not the same, nor are those without an account that differ in its text alone
module _ (bic : Text) (count : ℕ) (names : List Text) where
  abbrev field50_k : Bool → Text → Party
  field50_k present account = record {
    option = Field50K;
    present = present;
    account = account;
    bic = bic;
    count = count;
    name_and_address = names;
    digits = 0 ∷ 0 ∷ 0 ∷ 0 ∷ [];
  }

  pub presence_counts : (account : Text) → Same (field50_k true account) (field50_k false account) → ⊥
  unfolding content
  presence_counts account e = true≢false (ap (λ (s : Content). s.present) e)

  pub account_counts : (a b : Text) → (used a ≡ used b → ⊥) → Same (field50_k false a) (field50_k false b) → ⊥
  unfolding content
  account_counts a b differ e = differ (head-eq_of_cons-eq (ap (λ (s : Content). s.account) e))
