-- The tests on lines by which the Rust's choices detect are document 01's, and so are its letters. Assumes nothing.
use mathlib.Core.Path.{◌≡◌, refl, sym, ◌∙◌, ap}
use mathlib.Core.Bool.{Bool, true, false, ◌&&◌, and-true}
use mathlib.Core.List.{List, [], ◌∷◌}
use Prim.Native.Nat.{ℕ, ◌≤◌}
use native.Mathlib.Omega.{arith}
use lib.Dec.{leb, eqb}
use lib.ListN.{length}
use borrow.Author.Tests.{eqb-true, le-leb, lt-ltb}
use Rattle.swift_utils.specs.Bytes.{digit, alphanumeric, between}
use Rattle.swift_utils.specs.Checks.{bic_length}
use Rattle.field_utils.specs.Lines.{starts}
use Rattle.field_utils.specs.Trim.{trimmed_start, trimmed_end, trimmed}
use Rattle.field_utils.specs.Identifier.{is_numbered}
use Rattle.reader.specs.Detection.{any_numbered, first_line, last_line, bic_like, last_is_bic, test_line}
use Rattle.swift_mt_message.specs.Std.{Str, slash, Ok, ◌and_then◌, ◌and◌, any, nth, equals, unwrap, at, is_digit, is_alphanumeric}
use Rattle.swift_mt_message.specs.Field50.{numbered, rust_last_is_bic, is_variant, no_variant}
use Rattle.swift_mt_message.specs.Field59 as rust
use Rattle.swift_mt_message.specs.Equal.{variant}
use Rattle.swift_mt_message.proofs.Results.{by_test}
use Rattle.swift_mt_message.proofs.Std.{started, digits, alphanumerics, all_same, trims}
use Rattle.swift_mt_message.proofs.Names.{numbers}

pub any_number : (ls : List Str) → any numbered ls ≡ any_numbered ls
unfolding any_numbered
any_number [] = refl
any_number (l ∷ ls) = rw (numbers l, any_number ls)

pub first_line_lem : (ls : List Str) → 1 ≤ length ls → at ls 0 ≡ Ok (first_line ls)
unfolding first_line
first_line_lem [] h = absurd (omega arith)
first_line_lem (l ∷ ls) h = refl

-- `&&` of two tests
both : (a b : Bool) → (Ok a and Ok b) ≡ Ok (a && b)
both true b = refl
both false b = refl

pub one_line : (ls : List Str)
    → (Ok (eqb (length ls) 1) and (at ls 0 and_then λ l. Ok (between 8 11 (length l)))) ≡ Ok (eqb (length ls) 1 && between 8 11 (length (first_line ls)))
unfolding first_line
one_line [] = refl
one_line (l ∷ ls) = both (eqb (length (l ∷ ls)) 1) (between 8 11 (length l))

pub last_bic : (ls : List Str) → rust_last_is_bic ls ≡ last_is_bic ls
unfolding rust_last_is_bic last_line bic_like bic_length trimmed trimmed_start trimmed_end
last_bic [] = refl
last_bic (l ∷ []) = rw (trims l, all_same is_alphanumeric alphanumeric alphanumerics (trimmed l))
last_bic (l ∷ m ∷ ls) = last_bic (m ∷ ls)

-- the line that `Field59` tests for a number
number_there : (l : Str)
    → (Ok (leb 2 (length l)) and (unwrap (nth 0 l) and_then λ c. Ok (is_digit c)) and Ok (equals (nth 1 l) slash)) ≡ Ok (is_numbered l)
unfolding is_numbered
number_there [] = refl
number_there (d ∷ []) = refl
number_there (d ∷ s ∷ l) = rw (le-leb 2 (length (d ∷ s ∷ l)) (omega arith), digits d) (both (digit d) (eqb s slash))

first_tested : (l : Str) (ls : List Str) → rust.Field59·numbered_at (l ∷ ls) 0 ≡ Ok (is_numbered l)
unfolding rust.Field59·numbered_at
first_tested l ls = rw (lt-ltb 0 (length (l ∷ ls)) (omega arith)) (number_there l)

second_tested : (l : Str) (ls : List Str) → rust.Field59·numbered_at (l ∷ ls) 1 ≡ Ok (is_numbered (first_line ls))
unfolding rust.Field59·numbered_at first_line is_numbered
second_tested l [] = refl
second_tested l (m ∷ ls) = rw (lt-ltb 1 (length (l ∷ m ∷ ls)) (omega arith)) (number_there m)

pub test_line_lem : (ls : List Str) → rust.Field59·numbered ls ≡ Ok (is_numbered (test_line ls))
unfolding rust.Field59·numbered test_line first_line starts is_numbered
test_line_lem [] = refl
test_line_lem (l ∷ ls) =
    by_test (starts slash l) (λ s. rw (started l slash ∙ s) (rw (s, test_line) (second_tested l ls))) (λ s. rw (started l slash ∙ s) (rw (s, test_line) (first_tested l ls)))

-- the Rust's patterns of a variant
pub letters : (letter c : ℕ) → eqb 0 c ≡ false → is_variant (variant letter) (c ∷ []) ≡ eqb letter c
unfolding is_variant
letters letter c h =
    by_test (eqb letter 0) (λ e. rw (e, variant) (sym (ap (λ (n : ℕ). eqb n c) (eqb-true letter 0 e) ∙ h))) (λ e. rw (e, variant) (and-true (eqb letter c)))

pub no_letter : (letter : ℕ) → no_variant (variant letter) ≡ eqb letter 0
no_letter letter = by_test (eqb letter 0) (λ e. rw (e, variant)) (λ e. rw (e, variant))
