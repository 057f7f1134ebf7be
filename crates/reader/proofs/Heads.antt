-- The cases of the first line. Assumes nothing.
use mathlib.Core.Path.{◌≡◌, refl, sym, ◌∙◌}
use mathlib.Core.Bool.{Bool, true, false}
use mathlib.Core.List.{List, [], ◌∷◌}
use Prim.Native.Nat.{ℕ, ◌≤◌, ◌<◌}
use lib.Dec.{leb}
use lib.ListN.{length, drop}
use denote.Enum.Declared.{tag_of}
use types.Run.{OneOf, miss}
use borrow.Author.Tests.{le-leb, lt-leb, leb-true, leb-false}
use Rattle.errors.specs.Refusals.{Reply}
use Rattle.party.specs.declared.PartyOption.{PartyOption}
use Rattle.party.specs.declared.Limits.{Limits}
use Rattle.party.specs.declared.First.{First}
use Rattle.party.specs.declared.First.TheVariants.{NoAccount, Identified, Account, ShortAccount, SlashAccount, AnyAccount, WholeLine}
use Rattle.party.specs.contracts.First.{the_type}
use Rattle.party.specs.Limits.{limits_of}
use Rattle.field_utils.specs.Lines.{starts}
use Rattle.field_utils.specs.Identifier.{given, parse_party_identifier}
use Rattle.field_utils.proofs.Identifiers.{identifier_absent, identifier_given}
use Rattle.reader.specs.Options.{no_head, head, account_reply, account_head, short_account_head, slash_head, head_by}
use Rattle.reader.specs.Code.{has_account, account_by}

-- m is what the code holds of the option's limits
module _ (o : PartyOption) {m : Limits} (e : m ≡ limits_of o) (l : List ℕ) where
  pub short_long : m.account_max < length (drop 1 l) → short_account_head o l ≡ no_head
  unfolding short_account_head
  short_long h = let k : (limits_of o).account_max < length (drop 1 l) = rw e at h in rw (lt-leb _ _ k, short_account_head)

  pub short_fits : length (drop 1 l) ≤ m.account_max → short_account_head o l ≡ account_head o l
  unfolding short_account_head
  short_fits h = let k : length (drop 1 l) ≤ (limits_of o).account_max = rw e at h in rw (le-leb _ _ k, short_account_head)

pub account_none : (o : PartyOption) (l : List ℕ) → starts 47 l ≡ false → account_head o l ≡ no_head
unfolding account_head
account_none o l e = rw (e, account_head)

pub account_some : (o : PartyOption) (l : List ℕ) → starts 47 l ≡ true → account_head o l ≡ head (drop 1 l) (account_reply o (drop 1 l))
unfolding account_head
account_some o l e = rw (e, account_head)

pub slash_there : (l : List ℕ) (r : Reply) → starts 47 l ≡ true → slash_head l r ≡ head (drop 1 l) r
slash_there l r e = rw e

-- ---- an account or none, by what the first line is to the option
pub has_none : (f : First) (o : PartyOption) (l : List ℕ) → starts 47 l ≡ false → has_account f o l ≡ false
has_none NoAccount o l e = e
has_none Identified o l e = e
has_none Account o l e = e
has_none ShortAccount o l e = rw e
has_none SlashAccount o l e = e
has_none AnyAccount o l e = e
has_none WholeLine o l e = e

pub has_short : (o : PartyOption) (l : List ℕ) → starts 47 l ≡ true → has_account ShortAccount o l ≡ leb (length (drop 1 l)) (limits_of o).account_max
has_short o l e = rw e

module _ (f : First) (o : PartyOption) (l : List ℕ) where
  pub by_none : has_account f o l ≡ false → account_by f o l ≡ no_head
  unfolding account_by
  by_none e = rw (e, account_by)

  pub by_some : has_account f o l ≡ true → account_by f o l ≡ head (drop 1 l) (account_reply o (drop 1 l))
  unfolding account_by
  by_some e = rw (e, account_by)

-- it is the option's own
pub by_first : (f : First) (o : PartyOption) (l : List ℕ) → OneOf (2 ∷ 3 ∷ []) (tag_of the_type f) → account_by f o l ≡ head_by f o l
by_first NoAccount o l h = absurd (miss (2 ∷ 3 ∷ []) 0 tt h)
by_first Identified o l h = absurd (miss (2 ∷ 3 ∷ []) 1 tt h)
by_first Account o l h = go (starts 47 l) refl
  where
    go : (s : Bool) → starts 47 l ≡ s → account_by Account o l ≡ account_head o l
    go true e = by_some Account o l e ∙ sym (account_some o l e)
    go false e = by_none Account o l e ∙ sym (account_none o l e)
by_first ShortAccount o l h = go (starts 47 l) (leb (length (drop 1 l)) (limits_of o).account_max) refl refl
  where
    go : (s t : Bool) → starts 47 l ≡ s → leb (length (drop 1 l)) (limits_of o).account_max ≡ t → account_by ShortAccount o l ≡ short_account_head o l
    go false true e f = by_none ShortAccount o l (has_none ShortAccount o l e) ∙ sym (short_fits o refl l (leb-true _ _ f) ∙ account_none o l e)
    go false false e f = by_none ShortAccount o l (has_none ShortAccount o l e) ∙ sym (short_long o refl l (leb-false _ _ f))
    go true true e f = by_some ShortAccount o l (has_short o l e ∙ f) ∙ sym (short_fits o refl l (leb-true _ _ f) ∙ account_some o l e)
    go true false e f = by_none ShortAccount o l (has_short o l e ∙ f) ∙ sym (short_long o refl l (leb-false _ _ f))
by_first SlashAccount o l h = absurd (miss (2 ∷ 3 ∷ []) 4 tt h)
by_first AnyAccount o l h = absurd (miss (2 ∷ 3 ∷ []) 5 tt h)
by_first WholeLine o l h = absurd (miss (2 ∷ 3 ∷ []) 6 tt h)

-- the text of an identifier that is there
pub identifier_text : (o : PartyOption) (n : ℕ) (l : List ℕ) {t : List ℕ} {r : Reply} → given t r ≡ parse_party_identifier o n l → t ≡ drop 1 l
identifier_text o n l {t} {r} e = go (starts 47 l) refl
  where
    go : (s : Bool) → starts 47 l ≡ s → t ≡ drop 1 l
    go true h = let k = e ∙ identifier_given o n l h in cc
    go false h = let k = e ∙ identifier_absent o n l h in absurd cc
