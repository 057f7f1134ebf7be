-- The cases of numbered lines and identifiers, and a byte among others. Assumes nothing.
use Rattle.std.proofs.Common.{◌≡◌, ℕ, suc, ◌+◌, ◌<◌, ◌≤◌, Bool, true, false, ◌&&◌, ◌||◌, eqb, leb, List, [], ◌∷◌, length, get_or, take, drop, sym, refl, ap, ◌∙◌, add-one, arith, drop_of_length-le, drop-cons, le-ltb, lt-ltb, eq-eqb, ne_eqb, eqb-true, le-leb}
use mathlib.Core.Bool.{and-true, and-false, false≢true}
use borrow.Author.Tests.{lt-leb, eqb-false}
use Rattle.errors.specs.Refusals.{Reply, refused, must, ◌then◌}
use Rattle.party.specs.declared.PartyOption.{PartyOption}
use Rattle.party.specs.declared.Limits.{Limits}
use Rattle.party.specs.Limits.{limits_of}
use Rattle.swift_utils.specs.Bytes.{digit, alphanumeric, all, among}
use Rattle.swift_utils.specs.Checks.{parse_account}
use Rattle.swift_utils.proofs.Parts.{part, part_end}
use Rattle.field_utils.specs.Lines.{upto, starts}
use Rattle.field_utils.specs.Identifier.{is_numbered, second_slash, identifier_reply, absent, given, parse_party_identifier}
use Rattle.field_utils.proofs.Tests.{either_left, either_right}

pub starts_none : (b : ℕ) (l : List ℕ) → length l ≡ 0 → starts b l ≡ false
unfolding starts
starts_none b [] h = refl
starts_none b (a ∷ l) h = absurd (omega arith)

pub starts_first : (b : ℕ) (l : List ℕ) → (length l ≡ 0 → ⊥) → starts b l ≡ eqb (get_or l 0 0) b
unfolding starts
starts_first b [] h = absurd (h refl)
starts_first b (a ∷ l) h = refl

pub numbered_short : (l : List ℕ) → length l < 2 → is_numbered l ≡ false
unfolding is_numbered
numbered_short [] h = refl
numbered_short (d ∷ []) h = refl
numbered_short (d ∷ s ∷ l) h = absurd (omega arith)

pub numbered_long : (l : List ℕ) → 2 ≤ length l → is_numbered l ≡ (digit (get_or l 0 0) && eqb (get_or l 1 0) 47)
unfolding is_numbered
numbered_long [] h = absurd (omega arith)
numbered_long (d ∷ []) h = absurd (omega arith)
numbered_long (d ∷ s ∷ l) h = refl

-- and by its second byte
pub numbered_other : (l : List ℕ) → 2 ≤ length l → (get_or l 1 0 ≡ 47 → ⊥) → is_numbered l ≡ false
numbered_other l h e = numbered_long l h ∙ rw (ne_eqb _ _ e, and-false)

pub numbered_slash : (l : List ℕ) → 2 ≤ length l → get_or l 1 0 ≡ 47 → is_numbered l ≡ digit (get_or l 0 0)
numbered_slash l h e = numbered_long l h ∙ rw (eq-eqb _ _ e, and-true)

swap : (a b : ℕ) → eqb a b ≡ eqb b a
swap a b = go (eqb b a) refl
  where
    go : (t : Bool) → eqb b a ≡ t → eqb a b ≡ t
    go true e = eq-eqb a b (sym (eqb-true b a e))
    go false e = ne_eqb a b (λ f. eqb-false b a e (sym f))

-- a byte among those from a place on: there, or after it
module _ (b : ℕ) (s : List ℕ) (i : ℕ) where
  pub among_next : i < length s → among (drop i s) b ≡ (eqb (get_or s i 0) b || among (drop (i + 1) s) b)
  among_next h = rw (add-one, drop-cons s i 0, swap (get_or s i 0) b)

  pub among_done : length s ≤ i → among (drop i s) b ≡ false
  among_done h = rw (drop_of_length-le s h)

-- where it is not among them, none is found
pub upto_none : (b : ℕ) (l : List ℕ) → among l b ≡ false → upto b l ≡ length l
unfolding upto
upto_none b [] e = refl
upto_none b (a ∷ l) e = rw (swap a b ∙ either_left (eqb b a) (among l b) e, upto) (ap suc (upto_none b l (either_right (eqb b a) (among l b) e)))

-- what follows the first slash, where the second stands at k
module _ (longest n : ℕ) (l : List ℕ) (k : ℕ) (e : k ≡ upto 47 l) where
  pub no_slash : length l ≤ k → identifier_reply longest n l ≡ parse_account 0 longest n l
  unfolding identifier_reply
  no_slash h = let g : length l ≤ upto 47 l = omega arith in rw (le-ltb _ _ g, identifier_reply)

  module _ (h : k < length l) where
    slash : identifier_reply longest n l ≡ second_slash longest n l k
    unfolding identifier_reply
    slash = let g : upto 47 l < length l = omega arith in rw (lt-ltb _ _ g, identifier_reply) (rw (← e))

    pub two_slashes : k ≡ 0 → identifier_reply longest n l ≡ parse_account 1 longest n (drop 1 l)
    unfolding second_slash
    two_slashes z = slash ∙ rw (eq-eqb _ _ z, second_slash)

    module _ (p : k ≡ 0 → ⊥) where
      code : identifier_reply longest n l ≡ (must (leb k 2 && all alphanumeric (take k l)) 2 n then parse_account 0 longest n (drop (suc k) l))
      unfolding second_slash
      code = slash ∙ rw (ne_eqb _ _ p, second_slash)

      pub code_long : 2 < k → identifier_reply longest n l ≡ refused 2 n
      code_long g = code ∙ rw (lt-leb _ _ g)

      pub code_other : k ≤ 2 → all alphanumeric (take k l) ≡ false → identifier_reply longest n l ≡ refused 2 n
      code_other g a = code ∙ rw (le-leb _ _ g, a)

      pub code_good : k ≤ 2 → all alphanumeric (take k l) ≡ true → identifier_reply longest n l ≡ parse_account 0 longest n (drop (suc k) l)
      code_good g a = code ∙ rw (le-leb _ _ g, a)

-- a line with no leading slash, and one with it
pub identifier_absent : (o : PartyOption) (n : ℕ) (l : List ℕ) → starts 47 l ≡ false → parse_party_identifier o n l ≡ absent
unfolding parse_party_identifier starts
identifier_absent o n [] e = refl
identifier_absent o n (b ∷ l) e = rw (e, parse_party_identifier)

pub identifier_given : (o : PartyOption) (n : ℕ) (l : List ℕ) → starts 47 l ≡ true
    → parse_party_identifier o n l ≡ given (drop 1 l) (identifier_reply (limits_of o).account_max n (drop 1 l))
unfolding parse_party_identifier starts
identifier_given o n [] e = absurd (false≢true e)
identifier_given o n (b ∷ l) e = rw (e, parse_party_identifier)

-- what the code holds of the option, and what it says of the bytes after the slash
pub identifier_told : (o : PartyOption) (n : ℕ) (l : List ℕ) {m : Limits} {r : Reply} → m ≡ limits_of o → starts 47 l ≡ true → r ≡ identifier_reply m.account_max n (part 1 (length l) l)
    → given (drop 1 l) r ≡ parse_party_identifier o n l
identifier_told o n l e s h =
    ap (given (drop 1 l)) (h ∙ ap (identifier_reply _ n) (part_end l 1) ∙ ap (λ (m : Limits). identifier_reply m.account_max n (drop 1 l)) e) ∙ sym (identifier_given o n l s)

pub starts_long : (b : ℕ) (l : List ℕ) → starts b l ≡ true → 1 ≤ length l
unfolding starts
starts_long b [] e = absurd (false≢true e)
starts_long b (a ∷ l) e = omega arith
