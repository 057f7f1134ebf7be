-- What the Rust's std does is what document 01 says of bytes, lines and blanks. Assumes nothing.
use mathlib.Core.Path.{◌≡◌, refl, sym, ◌∙◌, ap}
use mathlib.Core.Bool.{Bool, true, false, not, ◌&&◌, ◌||◌, or_comm, or_assoc, and_assoc, false≢true}
use mathlib.Core.List.{List, [], ◌∷◌, ◌++◌}
use mathlib.Core.Option.{none, some, map}
use Prim.Native.Nat.{ℕ, zero, suc, ◌+◌, ◌-◌, ◌≤◌, ◌<◌}
use native.Mathlib.Omega.{arith}
use lib.Dec.{ltb, leb, eqb, leb-zero}
use lib.ListN.{length, take, drop, length-append}
use lib.Seq.{take-add, length-take-le, drop-append_seam}
use borrow.Author.Tests.{le-leb, leb-true, leb-false, lt-ltb, le-ltb, eq-eqb}
use Rattle.swift_utils.specs.Bytes.{all, among, between, bytes, letter, digit, alphanumeric, signs, legal}
use Rattle.field_utils.specs.Lines.{upto, starts}
use Rattle.field_utils.specs.Trim.{white, trimmed_start, keep, trimmed_end, trimmed}
use Rattle.field_utils.proofs.Places.{Upto, here, past, by_upto}
use Rattle.field_utils.proofs.Places as places
use Rattle.swift_mt_message.specs.Std.{Str, Ok, minus, rust_is_empty, slice_from, slice_to, slice, contains, starts_with, find, is_alphabetic, is_digit, is_alphanumeric, is_whitespace, trim_start, trim_end, trim}
use Rattle.swift_mt_message.specs.Std as S
use Rattle.swift_mt_message.specs.SwiftUtils.{swift_special}
use Rattle.swift_mt_message.proofs.Results.{by_test}

-- the classes of a byte
pub alphabetic : (c : ℕ) → is_alphabetic c ≡ letter c
unfolding is_alphabetic letter
alphabetic c = or_comm (between 97 122 c) (between 65 90 c)

pub digits : (c : ℕ) → is_digit c ≡ digit c
unfolding is_digit digit
digits c = refl

pub alphanumerics : (c : ℕ) → is_alphanumeric c ≡ alphanumeric c
unfolding is_alphanumeric alphanumeric
alphanumerics c = rw (alphabetic c, digits c)

whites : (c : ℕ) → is_whitespace c ≡ white c
unfolding is_whitespace white
whites c = or_comm (eqb c 32) (between 9 13 c)

pub contained : (s : Str) (c : ℕ) → contains s c ≡ among s c
contained [] c = refl
contained (b ∷ s) c = rw (contained s c)

among_append : (s t : Str) (c : ℕ) → among (s ++ t) c ≡ (among s c || among t c)
among_append [] t c = refl
among_append (b ∷ s) t c = rw (among_append s t c) (sym (or_assoc (eqb c b) (among s c) (among t c)))

or_swap : (a b c : Bool) → (a || (b || c)) ≡ (b || (a || c))
or_swap true true c = refl
or_swap true false c = refl
or_swap false b c = refl

abbrev first_signs : Str
first_signs = bytes "/-?:().,'+{}"

abbrev blanks : Str
blanks = bytes " \r\n"

abbrev other_signs : Str
other_signs = bytes "%&*;<=>@[]_$!\"#|"

special : (c : ℕ) → contains swift_special c ≡ among signs c
unfolding swift_special signs
special c =
    contained (first_signs ++ (blanks ++ other_signs)) c
    ∙ among_append first_signs (blanks ++ other_signs) c
    ∙ ap (λ (t : Bool). among first_signs c || t) (among_append blanks other_signs c)
    ∙ or_swap (among first_signs c) (among blanks c) (among other_signs c)
    ∙ sym (among_append blanks (first_signs ++ other_signs) c ∙ ap (λ (t : Bool). among blanks c || t) (among_append first_signs other_signs c))

pub legals : (c : ℕ) → (is_alphanumeric c || contains swift_special c) ≡ legal c
unfolding legal
legals c = rw (alphanumerics c, special c)

-- a test of all bytes
pub all_same : (f g : ℕ → Bool) → ((c : ℕ) → f c ≡ g c) → (s : Str) → S.all f s ≡ all g s
all_same f g e [] = refl
all_same f g e (b ∷ s) = rw (e b, all_same f g e s)

pub all_append : (f : ℕ → Bool) (s t : Str) → all f (s ++ t) ≡ (all f s && all f t)
all_append f [] t = refl
all_append f (b ∷ s) t = rw (all_append f s t) (sym (and_assoc (f b) (all f s) (all f t)))

pub started : (s : Str) (c : ℕ) → starts_with s c ≡ starts c s
unfolding starts
started [] c = refl
started (b ∷ s) c = refl

-- tests of numbers
pub at_most : (n most : ℕ) → ltb most n ≡ not (leb n most)
at_most n most = by_test (leb n most) (λ e. rw e (le-ltb most n (leb-true n most e))) (λ e. rw e (lt-ltb most n (leb-false n most e)))

pub at_least : (n least : ℕ) → ltb n least ≡ not (leb least n)
at_least n least = at_most least n

-- a length up to a limit, and one from 1 to a limit
pub up_to : (n most : ℕ) → ltb most n ≡ not (between 0 most n)
up_to n most = at_most n most ∙ rw (leb-zero n)

pub counted : {A : Type 0} (l : List A) (most : ℕ) → (rust_is_empty l || ltb most (length l)) ≡ not (between 1 most (length l))
counted [] most = refl
counted (x ∷ l) most = rw (le-leb 1 (length (x ∷ l)) (omega arith)) (at_most (length (x ∷ l)) most)

-- trimming
start_same : (s : Str) → trim_start s ≡ trimmed_start s
unfolding trim_start trimmed_start
start_same [] = refl
start_same (b ∷ s) =
    by_test
    (white b)
    (λ e. rw (whites b ∙ e, trim_start) (rw (e, trimmed_start) (start_same s)))
    (λ e. rw (whites b ∙ e, trim_start) (rw (e, trimmed_start)))

end_blank : (s : Str) → S.all is_whitespace s ≡ true → trim_end s ≡ []
unfolding trim_end
end_blank [] e = refl
end_blank (b ∷ s) e = rw (e, trim_end)

end_other : (b : ℕ) (s : Str) → S.all is_whitespace s ≡ false → keep b (trim_end s) ≡ b ∷ trim_end s
unfolding trim_end keep
end_other b [] e = absurd (false≢true (sym e))
end_other b (c ∷ s) e = rw (e, trim_end)

keep_other : (b : ℕ) (s : Str) → white b ≡ false → keep b s ≡ b ∷ s
unfolding keep
keep_other b [] e = rw (e, keep)
keep_other b (c ∷ s) e = refl

keep_none : (b : ℕ) → white b ≡ true → keep b [] ≡ []
unfolding keep
keep_none b e = rw (e, keep)

end_step : (b : ℕ) (s : Str) → trim_end (b ∷ s) ≡ keep b (trim_end s)
unfolding trim_end
end_step b s =
    by_test (white b)
    (λ e. rw (whites b ∙ e, trim_end) (by_test (S.all is_whitespace s)
    (λ f. rw (f, trim_end) (sym (ap (keep b) (end_blank s f) ∙ keep_none b e)))
    (λ f. rw (f, trim_end) (sym (end_other b s f)))))
    (λ e. rw (whites b ∙ e, trim_end) (sym (keep_other b (trim_end s) e)))

end_same : (s : Str) → trim_end s ≡ trimmed_end s
unfolding trim_end trimmed_end
end_same [] = refl
end_same (b ∷ s) = end_step b s ∙ ap (keep b) (end_same s)

pub trims : (s : Str) → trim s ≡ trimmed s
unfolding trimmed
trims s = ap trim_end (start_same s) ∙ end_same (trimmed_start s)

-- a part of a text that is within it
pub from_is : (a : ℕ) (s : Str) → a ≤ length s → slice_from a s ≡ Ok (drop a s)
from_is zero s h = refl
from_is (suc a) [] h = absurd (omega arith)
from_is (suc a) (b ∷ s) h = from_is a s (omega arith)

pub to_is : (e : ℕ) (s : Str) → e ≤ length s → slice_to e s ≡ Ok (take e s)
to_is zero s h = refl
to_is (suc e) [] h = absurd (omega arith)
to_is (suc e) (b ∷ s) h = rw (to_is e s (omega arith))

pub slice_is : (a n : ℕ) (s : Str) → a + n ≤ length s → slice a (a + n) s ≡ Ok (take n (drop a s))
slice_is a n s h =
    rw (to_is (a + n) s h, take-add a n s)
    (from_is a (take a s ++ take n (drop a s)) (omega (arith, length-append (take a s) (take n (drop a s)), length-take-le a s (omega arith)))
    ∙ ap Ok (ap (λ (k : ℕ). drop k (take a s ++ take n (drop a s))) (sym (length-take-le a s (omega arith))) ∙ drop-append_seam (take a s) (take n (drop a s))))

pub minus_is : (a b : ℕ) → b ≤ a → minus a b ≡ Ok (a - b)
minus_is a b h = rw (le-leb b a h, minus)

-- the place of a byte, if it has one
found_in : {c n : ℕ} {s : Str} → Upto c s n → n < length s → find s c ≡ some n
unfolding find
found_in places.none h = absurd (omega arith)
found_in {c} here h = rw (eq-eqb c c refl, find)
found_in (past e r) h = rw (e, find) (ap (map suc) (found_in r (omega arith)))

found_out : {c n : ℕ} {s : Str} → Upto c s n → length s ≤ n → find s c ≡ none
unfolding find
found_out places.none h = refl
found_out here h = absurd (omega arith)
found_out (past e r) h = rw (e, find) (ap (map suc) (found_out r (omega arith)))

pub found_at : (s : Str) (c : ℕ) → upto c s < length s → find s c ≡ some (upto c s)
found_at s c = found_in (by_upto c s)

pub found_none : (s : Str) (c : ℕ) → length s ≤ upto c s → find s c ≡ none
found_none s c = found_out (by_upto c s)
