-- What the first line of a body that passes is to an option, and what line gives an account or identifier. Assumes nothing.
use mathlib.Core.Path.{◌≡◌, refl, sym, ◌∙◌, ap}
use mathlib.Core.Bool.{Bool, true, false, ◌&&◌, false≢true, true≢false}
use mathlib.Core.List.{List, [], ◌∷◌, ◌++◌}
use Prim.Native.Nat.{ℕ, suc, ◌+◌, ◌≤◌, ◌<◌}
use native.Mathlib.Omega.{arith}
use lib.Dec.{ltb, leb, eqb}
use lib.ListN.{length, drop, take, length-drop}
use borrow.Author.Tests.{leb-true, leb-false, eqb-true}
use Rattle.errors.specs.Refusals.{Reply, accepted, must, ◌then◌}
use Rattle.errors.proofs.Replies.{must_held, then_first, then_second, must_passes, then_passes}
use Rattle.party.specs.declared.PartyOption.{PartyOption}
use Rattle.party.specs.Limits.{limits_of}
use Rattle.party.specs.declared.First.{First}
use Rattle.party.specs.declared.First.TheVariants.{NoAccount, Identified, Account, ShortAccount, SlashAccount, AnyAccount, WholeLine}
use Rattle.swift_utils.specs.Bytes.{all, between, alphanumeric}
use Rattle.swift_utils.specs.Checks.{parse_account}
use Rattle.field_utils.specs.Lines.{upto, starts}
use Rattle.field_utils.specs.Identifier.{second_slash, identifier_reply}
use Rattle.field_utils.proofs.Identifiers.{identifier_absent, identifier_given}
use Rattle.field_utils.proofs.Tests.{both_left, both_right}
use Rattle.reader.specs.Options.{Head, no_head, head, identifier_head, account_reply, length_reply, head_by, ascii}
use Rattle.reader.specs.Code.{passed_head}
use Rattle.reader.proofs.Heads.{short_long, short_fits, account_none, account_some, slash_there}
use Rattle.writer.specs.Given.{text_reply}

-- what stands before an account or identifier, by what the first line is
abbrev pub slash_by : First → List ℕ
slash_by NoAccount = []
slash_by Identified = 47 ∷ []
slash_by Account = 47 ∷ []
slash_by ShortAccount = 47 ∷ []
slash_by SlashAccount = 47 ∷ []
slash_by AnyAccount = 47 ∷ []
slash_by WholeLine = []

-- ---- lengths
account_length_lem : (shortest longest n : ℕ) (x : List ℕ) → parse_account shortest longest n x ≡ accepted → length x ≤ longest
unfolding parse_account
account_length_lem shortest longest n x e =
    leb-true _ _ (both_right (leb shortest (length x)) (leb (length x) longest) (must_held (between shortest longest (length x)) 2 n (then_first _ _ e)))

second_length : (longest n : ℕ) (x : List ℕ) (k : ℕ) → second_slash longest n x k ≡ accepted → length x ≤ longest + 3
unfolding second_slash
second_length longest n x k = go (eqb k 0) refl
  where
    go : (t : Bool) → eqb k 0 ≡ t → second_slash longest n x k ≡ accepted → length x ≤ longest + 3
    go true e h = let g = account_length_lem 1 longest n (drop 1 x) (rw (e, second_slash) at h) in omega (arith, g, length-drop 1 x)
    go false e h =
        let g : (must (leb k 2 && all alphanumeric (take k x)) 2 n then parse_account 0 longest n (drop (suc k) x)) ≡ accepted = rw (e, second_slash) at h in
        let a = leb-true k 2 (both_left (leb k 2) (all alphanumeric (take k x)) (must_held (leb k 2 && all alphanumeric (take k x)) 2 n (then_first _ _ g))) in
        let b = account_length_lem 0 longest n (drop (suc k) x) (then_second (must (leb k 2 && all alphanumeric (take k x)) 2 n) _ g) in
        omega (arith, a, b, length-drop (suc k) x)

identifier_length : (longest n : ℕ) (x : List ℕ) → identifier_reply longest n x ≡ accepted → length x ≤ longest + 3
unfolding identifier_reply
identifier_length longest n x = go (ltb (upto 47 x) (length x)) refl
  where
    go : (t : Bool) → ltb (upto 47 x) (length x) ≡ t → identifier_reply longest n x ≡ accepted → length x ≤ longest + 3
    go true e h = second_length longest n x (upto 47 x) (rw (e, identifier_reply) at h)
    go false e h = let g = account_length_lem 0 longest n x (rw (e, identifier_reply) at h) in omega arith

-- how many bytes an identifier can have besides the longest text: a code of two and its slash
abbrev pub extra_of : First → ℕ
extra_of NoAccount = 0
extra_of Identified = 3
extra_of Account = 0
extra_of ShortAccount = 0
extra_of SlashAccount = 0
extra_of AnyAccount = 0
extra_of WholeLine = 0

pub extra_most : (first : First) → extra_of first ≤ 3
extra_most NoAccount = omega arith
extra_most Identified = omega arith
extra_most Account = omega arith
extra_most ShortAccount = omega arith
extra_most SlashAccount = omega arith
extra_most AnyAccount = omega arith
extra_most WholeLine = omega arith

-- the length of a text that passes
pub text_length_lem : (first : First) (o : PartyOption) (x : List ℕ) → text_reply first o x ≡ accepted → length x ≤ (limits_of o).account_max + extra_of first
text_length_lem NoAccount o x e = let h = account_length_lem _ _ 1 x e in omega arith
text_length_lem Identified o x e = identifier_length _ 1 x e
text_length_lem Account o x e = let h = account_length_lem _ _ 1 x e in omega arith
text_length_lem ShortAccount o x e = let h = account_length_lem _ _ 1 x e in omega arith
text_length_lem SlashAccount o x e = let h = account_length_lem _ _ 1 x e in omega arith
text_length_lem AnyAccount o x e =
    let h : length x ≤ (limits_of o).account_max = leb-true _ _ (both_right (leb (limits_of o).account_min (length x)) (leb (length x) (limits_of o).account_max) (must_held (between (limits_of o).account_min (limits_of o).account_max (length x)) 2 1 (then_first _ _ e))) in
    omega arith
text_length_lem WholeLine o x e = let h = account_length_lem _ _ 1 x e in omega arith

-- a first line that can be an account or identifier
abbrev pub Heads : First → Type 0
Heads NoAccount = ⊥
Heads Identified = Unit {0}
Heads Account = Unit {0}
Heads ShortAccount = Unit {0}
Heads SlashAccount = Unit {0}
Heads AnyAccount = Unit {0}
Heads WholeLine = Unit {0}

-- ---- the line of an account or identifier gives it
pub head_made : (first : First) (o : PartyOption) (x : List ℕ) → Heads first → text_reply first o x ≡ accepted → head_by first o (slash_by first ++ x) ≡ passed_head true x
unfolding starts
head_made NoAccount o x n e = absurd n
head_made Identified o x n e = ap identifier_head (identifier_given o 1 (47 ∷ x) refl) ∙ ap (head x) e
head_made Account o x n e = account_some o (47 ∷ x) refl ∙ ap (head x) e
head_made ShortAccount o x n e = short_fits o refl (47 ∷ x) (account_length_lem _ _ 1 x e) ∙ account_some o (47 ∷ x) refl ∙ ap (head x) e
head_made SlashAccount o x n e = ap (head x) e
head_made AnyAccount o x n e = ap (head x) (then_first (length_reply o x) _ e)
head_made WholeLine o x n e = ap (head x) e

-- ---- a first line that passes: an account or identifier is there, or there is none
pub record There (first : First) (o : PartyOption) (l : List ℕ) : Type 0 where
  pub text : List ℕ
  pub is : l ≡ slash_by first ++ text
  pub head : head_by first o l ≡ passed_head true text
  pub passes : text_reply first o text ≡ accepted

-- what a first line without one is not
abbrev pub Free : First → PartyOption → List ℕ → Type 0
Free NoAccount o l = Unit {0}
Free Identified o l = starts 47 l ≡ false
Free Account o l = starts 47 l ≡ false
Free ShortAccount o l = length (drop 1 l) ≤ (limits_of o).account_max → starts 47 l ≡ false
Free SlashAccount o l = ⊥
Free AnyAccount o l = ⊥
Free WholeLine o l = ⊥

pub record None (first : First) (o : PartyOption) (l : List ℕ) : Type 0 where
  pub head : head_by first o l ≡ no_head
  pub free : Free first o l

slash_back : (l : List ℕ) → starts 47 l ≡ true → l ≡ 47 ∷ drop 1 l
unfolding starts
slash_back [] e = absurd (false≢true e)
slash_back (b ∷ l) e = ap (λ (c : ℕ). c ∷ l) (eqb-true b 47 e)

module _ (first : First) (o : PartyOption) (l : List ℕ) where
  there_of : (x : List ℕ) (r : Reply) → head_by first o l ≡ head x r → l ≡ slash_by first ++ x → (head_by first o l).reply ≡ accepted
      → (r ≡ accepted → text_reply first o x ≡ accepted) → There first o l
  there_of x r q e h k =
      let a : r ≡ accepted = sym (ap (λ (w : Head). w.reply) q) ∙ h in
      record { text = x; is = e; head = q ∙ ap (head x) a; passes = k a }

absent_not : (h : Head) → h ≡ no_head → h.present ≡ true → ⊥
absent_not h e p = true≢false (sym p ∙ ap (λ (w : Head). w.present) e)

all_drop : (l : List ℕ) → all ascii l ≡ true → all ascii (drop 1 l) ≡ true
all_drop [] e = e
all_drop (b ∷ l) e = both_right (ascii b) (all ascii l) e

pub first_there : (first : First) (o : PartyOption) (l : List ℕ) → all ascii l ≡ true → (head_by first o l).present ≡ true → (head_by first o l).reply ≡ accepted → There first o l
first_there NoAccount o l a p r = absurd (true≢false (sym p))
first_there Identified o l a p r = go (starts 47 l) refl
  where
    go : (t : Bool) → starts 47 l ≡ t → There Identified o l
    go true e = there_of Identified o l (drop 1 l) _ (ap identifier_head (identifier_given o 1 l e)) (slash_back l e) r (λ k. k)
    go false e = absurd (absent_not (head_by Identified o l) (ap identifier_head (identifier_absent o 1 l e)) p)
first_there Account o l a p r = go (starts 47 l) refl
  where
    go : (t : Bool) → starts 47 l ≡ t → There Account o l
    go true e = there_of Account o l (drop 1 l) _ (account_some o l e) (slash_back l e) r (λ k. k)
    go false e = absurd (absent_not (head_by Account o l) (account_none o l e) p)
first_there ShortAccount o l a p r = go (leb (length (drop 1 l)) (limits_of o).account_max) (starts 47 l) refl refl
  where
    go : (s t : Bool) → leb (length (drop 1 l)) (limits_of o).account_max ≡ s → starts 47 l ≡ t → There ShortAccount o l
    go true true f e = there_of ShortAccount o l (drop 1 l) _ (short_fits o refl l (leb-true _ _ f) ∙ account_some o l e) (slash_back l e) r (λ k. k)
    go true false f e = absurd (absent_not (head_by ShortAccount o l) (short_fits o refl l (leb-true _ _ f) ∙ account_none o l e) p)
    go false t f e = absurd (absent_not (head_by ShortAccount o l) (short_long o refl l (leb-false _ _ f)) p)
first_there SlashAccount o l a p r = go (starts 47 l) refl
  where
    go : (t : Bool) → starts 47 l ≡ t → There SlashAccount o l
    go true e = there_of SlashAccount o l (drop 1 l) _ (slash_there l (account_reply o (drop 1 l)) e) (slash_back l e) r (λ k. k)
    go false e = absurd (false≢true (sym e ∙ must_held (starts 47 l) 2 1 (then_first _ _ r)))
first_there AnyAccount o l a p r = go (starts 47 l) refl
  where
    go : (t : Bool) → starts 47 l ≡ t → There AnyAccount o l
    go true e =
        there_of AnyAccount o l (drop 1 l) _ (slash_there l (length_reply o (drop 1 l)) e) (slash_back l e) r
        (λ k. then_passes _ _ k (must_passes (all ascii (drop 1 l)) 13 0 (all_drop l a)))
    go false e = absurd (false≢true (sym e ∙ must_held (starts 47 l) 2 1 (then_first _ _ r)))
first_there WholeLine o l a p r = there_of WholeLine o l l _ refl refl r (λ k. k)

pub first_none : (first : First) (o : PartyOption) (l : List ℕ) → (head_by first o l).present ≡ false → None first o l
first_none NoAccount o l p = record { head = refl; free = tt }
first_none Identified o l p = go (starts 47 l) refl
  where
    go : (t : Bool) → starts 47 l ≡ t → None Identified o l
    go true e = absurd (true≢false (sym (ap (λ (w : Head). w.present) (ap identifier_head (identifier_given o 1 l e))) ∙ p))
    go false e = record { head = ap identifier_head (identifier_absent o 1 l e); free = e }
first_none Account o l p = go (starts 47 l) refl
  where
    go : (t : Bool) → starts 47 l ≡ t → None Account o l
    go true e = absurd (true≢false (sym (ap (λ (w : Head). w.present) (account_some o l e)) ∙ p))
    go false e = record { head = account_none o l e; free = e }
first_none ShortAccount o l p = go (leb (length (drop 1 l)) (limits_of o).account_max) (starts 47 l) refl refl
  where
    go : (s t : Bool) → leb (length (drop 1 l)) (limits_of o).account_max ≡ s → starts 47 l ≡ t → None ShortAccount o l
    go true true f e = absurd (true≢false (sym (ap (λ (w : Head). w.present) (short_fits o refl l (leb-true _ _ f) ∙ account_some o l e)) ∙ p))
    go true false f e = record { head = short_fits o refl l (leb-true _ _ f) ∙ account_none o l e; free = λ k. e }
    go false t f e =
        let g : (limits_of o).account_max < length (drop 1 l) = leb-false _ _ f in record { head = short_long o refl l g; free = λ k. absurd (omega (arith, k, g)) }
first_none SlashAccount o l p = absurd (true≢false p)
first_none AnyAccount o l p = absurd (true≢false p)
first_none WholeLine o l p = absurd (true≢false p)

-- a first line that is free gives none
pub none_made : (first : First) (o : PartyOption) (l : List ℕ) → Free first o l → head_by first o l ≡ no_head
none_made NoAccount o l h = refl
none_made Identified o l h = ap identifier_head (identifier_absent o 1 l h)
none_made Account o l h = account_none o l h
none_made ShortAccount o l h = go (leb (length (drop 1 l)) (limits_of o).account_max) refl
  where
    go : (s : Bool) → leb (length (drop 1 l)) (limits_of o).account_max ≡ s → head_by ShortAccount o l ≡ no_head
    go true f = short_fits o refl l (leb-true _ _ f) ∙ account_none o l (h (leb-true _ _ f))
    go false f = short_long o refl l (leb-false _ _ f)
none_made SlashAccount o l h = absurd h
none_made AnyAccount o l h = absurd h
none_made WholeLine o l h = absurd h
