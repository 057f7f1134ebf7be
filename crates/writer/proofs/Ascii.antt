-- Bytes that pass are at most 127. Assumes nothing.
use mathlib.Core.Path.{◌≡◌, refl, ◌∙◌, ap}
use mathlib.Core.Bool.{Bool, true, false, ◌&&◌, ◌||◌, false≢true}
use mathlib.Core.List.{List, [], ◌∷◌, ◌++◌}
use Prim.Native.Nat.{ℕ, zero, suc, ◌≤◌, ◌<◌}
use native.Mathlib.Omega.{arith}
use lib.Dec.{ltb, leb, eqb}
use lib.ListN.{length, drop, take}
use borrow.Author.Tests.{ltb-true, leb-true, le-leb, eqb-true}
use Rattle.errors.specs.Refusals.{accepted, must, ◌then◌}
use Rattle.errors.proofs.Replies.{must_held, then_first, then_second}
use Rattle.party.specs.declared.PartyOption.{PartyOption}
use Rattle.party.specs.declared.First.{First}
use Rattle.party.specs.declared.First.TheVariants.{NoAccount, Identified, Account, ShortAccount, SlashAccount, AnyAccount, WholeLine}
use Rattle.swift_utils.specs.Bytes.{all, among, between, letter, digit, alphanumeric, signs, legal}
use Rattle.swift_utils.specs.Checks.{parse_swift_chars, parse_account, bic_length, parse_bic}
use Rattle.field_utils.specs.Lines.{upto}
use Rattle.field_utils.specs.Identifier.{second_slash, identifier_reply}
use Rattle.field_utils.proofs.Tests.{both_left, both_right, both}
use Rattle.reader.specs.Options.{length_reply, ascii}
use Rattle.writer.specs.Given.{text_reply}

either : (p q r : Bool) → (p ≡ true → r ≡ true) → (q ≡ true → r ≡ true) → (p || q) ≡ true → r ≡ true
either true q r f g e = f refl
either false q r f g e = g e

-- a test that every byte of a list passes is passed by each that stands in it
among_all : (f : ℕ → Bool) (l : List ℕ) (b : ℕ) → all f l ≡ true → among l b ≡ true → f b ≡ true
among_all f [] b h e = absurd (false≢true e)
among_all f (a ∷ l) b h e =
    either (eqb b a) (among l b) (f b) (λ g. ap f (eqb-true b a g) ∙ both_left (f a) (all f l) h) (among_all f l b (both_right (f a) (all f l) h)) e

most : (low high b : ℕ) → high ≤ 127 → between low high b ≡ true → ascii b ≡ true
most low high b h e = let k = leb-true b high (both_right (leb low b) (leb b high) e) in le-leb b 127 (omega arith)

letter_ascii : (b : ℕ) → letter b ≡ true → ascii b ≡ true
unfolding letter
letter_ascii b e = either (between 65 90 b) (between 97 122 b) (ascii b) (most 65 90 b (omega arith)) (most 97 122 b (omega arith)) e

pub digit_ascii : (b : ℕ) → digit b ≡ true → ascii b ≡ true
unfolding digit
digit_ascii b e = most 48 57 b (omega arith) e

alphanumeric_ascii : (b : ℕ) → alphanumeric b ≡ true → ascii b ≡ true
unfolding alphanumeric
alphanumeric_ascii b e = either (letter b) (digit b) (ascii b) (letter_ascii b) (digit_ascii b) e

legal_ascii : (b : ℕ) → legal b ≡ true → ascii b ≡ true
unfolding legal signs
legal_ascii b e = either (alphanumeric b) (among signs b) (ascii b) (alphanumeric_ascii b) (among_all ascii signs b refl) e

-- lists
all_ascii : (f : ℕ → Bool) → ((b : ℕ) → f b ≡ true → ascii b ≡ true) → (l : List ℕ) → all f l ≡ true → all ascii l ≡ true
all_ascii f h [] e = refl
all_ascii f h (b ∷ l) e = both (ascii b) (all ascii l) (h b (both_left (f b) (all f l) e)) (all_ascii f h l (both_right (f b) (all f l) e))

pub all_legal : (l : List ℕ) → all legal l ≡ true → all ascii l ≡ true
all_legal = all_ascii legal legal_ascii

pub all_more : (f : ℕ → Bool) (x y : List ℕ) → all f x ≡ true → all f y ≡ true → all f (x ++ y) ≡ true
all_more f [] y e h = h
all_more f (b ∷ x) y e h = both (f b) (all f (x ++ y)) (both_left (f b) (all f x) e) (all_more f x y (both_right (f b) (all f x) e) h)

all_split : (f : ℕ → Bool) (n : ℕ) (l : List ℕ) → all f (take n l) ≡ true → all f (drop n l) ≡ true → all f l ≡ true
all_split f zero l e h = h
all_split f (suc n) [] e h = refl
all_split f (suc n) (b ∷ l) e h = both (f b) (all f l) (both_left (f b) (all f (take n l)) e) (all_split f n l (both_right (f b) (all f (take n l)) e) h)

-- an account, an identifier, a BIC
account_ascii : (shortest longest n : ℕ) (x : List ℕ) → parse_account shortest longest n x ≡ accepted → all ascii x ≡ true
unfolding parse_account parse_swift_chars
account_ascii shortest longest n x e =
    all_legal x (must_held (all legal x) 3 n (then_second (must (between shortest longest (length x)) 2 n) _ e))

-- the first slash, and what follows it
from_slash : (f : ℕ → Bool) (x : List ℕ) → f 47 ≡ true → upto 47 x < length x → all f (drop (suc (upto 47 x)) x) ≡ true → all f (drop (upto 47 x) x) ≡ true
unfolding upto
from_slash f [] s h e = refl
from_slash f (b ∷ x) s h e = go (eqb b 47) refl (from_slash f x s)
  where
    go : (t : Bool) → eqb b 47 ≡ t → (upto 47 x < length x → all f (drop (suc (upto 47 x)) x) ≡ true → all f (drop (upto 47 x) x) ≡ true)
        → all f (drop (upto 47 (b ∷ x)) (b ∷ x)) ≡ true
    go true g ih = rw (g, upto) (both (f b) (all f x) (ap f (eqb-true b 47 g) ∙ s) (rw (g, upto) at e))
    go false g ih =
        let k : upto 47 (b ∷ x) ≡ suc (upto 47 x) = rw (g, upto) in
        rw (g, upto) (ih (omega (arith, h, k)) (rw (g, upto) at e))

identifier_ascii : (longest n : ℕ) (x : List ℕ) → identifier_reply longest n x ≡ accepted → all ascii x ≡ true
unfolding identifier_reply second_slash
identifier_ascii longest n x = go (ltb (upto 47 x) (length x)) (eqb (upto 47 x) 0) refl refl
  where
    go : (s t : Bool) → ltb (upto 47 x) (length x) ≡ s → eqb (upto 47 x) 0 ≡ t → identifier_reply longest n x ≡ accepted → all ascii x ≡ true
    go false t a b e = account_ascii 0 longest n x (rw (a, identifier_reply) at e)
    go true true a b e =
        let k : upto 47 x ≡ 0 = eqb-true _ _ b in
        let r : all ascii (drop 1 x) ≡ true = account_ascii 1 longest n (drop 1 x) (rw (b, second_slash) at (rw (a, identifier_reply) at e)) in
        rw k at (from_slash ascii x refl (ltb-true _ _ a) (rw k r))
    go true false a b e =
        let g : (must (leb (upto 47 x) 2 && all alphanumeric (take (upto 47 x) x)) 2 n then parse_account 0 longest n (drop (suc (upto 47 x)) x)) ≡ accepted =
        rw (b, second_slash) at (rw (a, identifier_reply) at e) in
        let c = both_right (leb (upto 47 x) 2) (all alphanumeric (take (upto 47 x) x)) (must_held _ 2 n (then_first _ _ g)) in
        let r = account_ascii 0 longest n (drop (suc (upto 47 x)) x) (then_second (must (leb (upto 47 x) 2 && all alphanumeric (take (upto 47 x) x)) 2 n) _ g) in
        all_split ascii (upto 47 x) x (all_ascii alphanumeric alphanumeric_ascii (take (upto 47 x) x) c) (from_slash ascii x refl (ltb-true _ _ a) r)

pub text_ascii : (first : First) (o : PartyOption) (x : List ℕ) → text_reply first o x ≡ accepted → all ascii x ≡ true
text_ascii NoAccount o x e = account_ascii _ _ 1 x e
text_ascii Identified o x e = identifier_ascii _ 1 x e
text_ascii Account o x e = account_ascii _ _ 1 x e
text_ascii ShortAccount o x e = account_ascii _ _ 1 x e
text_ascii SlashAccount o x e = account_ascii _ _ 1 x e
text_ascii AnyAccount o x e = must_held (all ascii x) 13 0 (then_second (length_reply o x) _ e)
text_ascii WholeLine o x e = account_ascii _ _ 1 x e

pub bic_ascii : (n : ℕ) (x : List ℕ) → parse_bic n x ≡ accepted → all ascii x ≡ true
unfolding parse_bic
bic_ascii n x e =
    let later = then_second (must (bic_length (length x)) 9 n) _ e in
    all_split ascii 6 x (all_ascii letter letter_ascii (take 6 x) (must_held (all letter (take 6 x)) 10 n (then_first _ _ later)))
    (all_ascii alphanumeric alphanumeric_ascii (drop 6 x) (must_held (all alphanumeric (drop 6 x)) 10 n (then_second (must (all letter (take 6 x)) 10 n) _ later)))
