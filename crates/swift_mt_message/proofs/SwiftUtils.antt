-- The Rust's parse_swift_chars and parse_bic are document 01's. Assumes nothing.
use mathlib.Core.Path.{◌≡◌, refl, sym, ◌∙◌, ap}
use mathlib.Core.Bool.{Bool, true, false, not, ◌&&◌, ◌||◌, and-true, not-not}
use Prim.Native.Nat.{ℕ, ◌+◌, ◌≤◌}
use native.Mathlib.Omega.{arith}
use lib.Dec.{eqb}
use lib.ListN.{length, take, drop, length-drop, take-append-drop}
use lib.Seq.{take_all, take-add, drop-drop}
use borrow.Author.Tests.{eqb-true, ne_eqb}
use Rattle.errors.specs.Refusals.{Reply, must, ◌then◌}
use Rattle.errors.proofs.Replies.{must_held, then_assoc}
use Rattle.swift_utils.specs.Bytes.{all, between, letter, alphanumeric, legal}
use Rattle.swift_utils.specs.Checks.{parse_swift_chars, parse_account, bic_length, parse_bic}
use Rattle.swift_mt_message.specs.Std.{Str, Result, Ok, ◌and_then◌, err_if, ◌and◌, is_alphabetic, is_alphanumeric, contains, slice}
use Rattle.swift_mt_message.specs.Std as S
use Rattle.swift_mt_message.specs.SwiftUtils.{swift_special, rust_parse_swift_chars, rust_parse_bic}
use Rattle.swift_mt_message.proofs.Results.{by_test, Is, ok, must_is, then_is, last_is, reply_is, then_same}
use Rattle.swift_mt_message.proofs.Std.{alphabetic, alphanumerics, legals, all_same, all_append, slice_is}

pub swift_chars : (s : Str) (n : ℕ) → Is (rust_parse_swift_chars s n) (parse_swift_chars n s) s
unfolding rust_parse_swift_chars parse_swift_chars
swift_chars s n =
    last_is (must_is _ (all legal s) 3 n (ap not (all_same (λ c. is_alphanumeric c || contains swift_special c) legal legals s))) (λ e. ok)

pub chars_at : (s : Str) {m n : ℕ} → m ≡ n → Is (rust_parse_swift_chars s m) (parse_swift_chars n s) s
chars_at s {n = n} e = rw e (swift_chars s n)

-- an account or identifier: its length, then its bytes
pub account_is : {A : Type 0} (shortest longest : ℕ) (t : Bool) (s : Str) {rest : Result A} {r : Reply} {w : A} → t ≡ not (between shortest longest (length s))
    → Is rest r w → Is (S.◌then◌ (err_if t 2 1) (S.◌then◌ (rust_parse_swift_chars s 1) rest)) (parse_account shortest longest 1 s then r) w
unfolding parse_account
account_is shortest longest t s {r = r} e f =
    let b = between shortest longest (length s) in
    reply_is (then_is (must_is t b 2 1 e) (λ g. then_is (swift_chars s 1) (λ h. f))) (sym (then_assoc (must b 2 1) (parse_swift_chars 1 s) r))

-- the parts of a BIC
parts : (f : ℕ → Bool) (a b : ℕ) (s : Str) → (all f (take a s) && all f (take b (drop a s))) ≡ all f (take (a + b) s)
parts f a b s = sym (ap (all f) (take-add a b s) ∙ all_append f (take a s) (take b (drop a s)))

pub rest : (f : ℕ → Bool) (a : ℕ) (s : Str) → (all f (take a s) && all f (drop a s)) ≡ all f s
rest f a s = sym (all_append f (take a s) (drop a s)) ∙ ap (all f) (take-append-drop a s)

musts : (p q r s : Bool) (k n : ℕ) → (must p k n then must q k n then must r k n then must s k n) ≡ (must (p && q) k n then must (r && s) k n)
musts true true true s k n = refl
musts true true false s k n = refl
musts true false r s k n = refl
musts false q r s k n = refl

lengths : (n : ℕ) → (not (eqb n 8) && not (eqb n 11)) ≡ not (bic_length n)
unfolding bic_length
lengths n = by_test (eqb n 8) (λ e. rw e) (λ e. rw e)

-- the branch code, where there is one
branch : (s : Str) → bic_length (length s) ≡ true
    → (all alphanumeric (take 2 (drop 6 s)) && not (eqb (length s) 11 && not (all alphanumeric (take 3 (drop 8 s))))) ≡ all alphanumeric (drop 6 s)
unfolding bic_length
branch s h =
    by_test (eqb (length s) 8)
    (λ e.
    let l : length s ≡ 8 = eqb-true (length s) 8 e in
    rw (ne_eqb (length s) 11 (λ k. omega arith)) (and-true _ ∙ ap (all alphanumeric) (take_all 2 (drop 6 s) (omega (arith, length-drop 6 s)))))
    (λ e.
    let f : eqb (length s) 11 ≡ true = rw e at h in
    let l : length s ≡ 11 = eqb-true (length s) 11 f in
    rw (f, not-not, take_all 3 (drop 8 s) (omega (arith, length-drop 8 s)), ← (drop-drop 2 6 s)) (rest alphanumeric 2 (drop 6 s)))

wrong_branch : (s : Str) → bic_length (length s) ≡ true
    → (Ok (eqb (length s) 11) and (slice 8 11 s and_then λ b. Ok (not (S.all is_alphanumeric b))))
    ≡ Ok (eqb (length s) 11 && not (S.all is_alphanumeric (take 3 (drop 8 s))))
wrong_branch s h = by_test (eqb (length s) 11) (λ e. rw (e, slice_is 8 3 s (omega (arith, eqb-true (length s) 11 e)))) (λ e. rw e)

-- its length, where the test accepts
long_enough : (n : ℕ) → bic_length n ≡ true → 8 ≤ n
unfolding bic_length
long_enough n h = by_test (eqb n 8) (λ e. omega (arith, eqb-true n 8 e)) (λ e. omega (arith, eqb-true n 11 (rw e at h)))

pub bics : (s : Str) (n : ℕ) → Is (rust_parse_bic s n) (parse_bic n s) s
unfolding rust_parse_bic parse_bic
bics s n =
    let p = all letter (take 4 s) in
    let q = all letter (take 2 (drop 4 s)) in
    let r = all alphanumeric (take 2 (drop 6 s)) in
    let t = not (eqb (length s) 11 && not (all alphanumeric (take 3 (drop 8 s)))) in
    reply_is
    (then_is (must_is _ (bic_length (length s)) 9 n (lengths (length s))) (λ e.
    let h = must_held _ 9 n e in
    let k = long_enough (length s) h in
    rw (slice_is 0 4 s (omega (arith, k)), slice_is 4 2 s (omega (arith, k)), slice_is 6 2 s (omega (arith, k)), wrong_branch s h)
    (then_is (must_is _ p 10 n (ap not (all_same is_alphabetic letter alphabetic (take 4 s)))) (λ e1.
    then_is (must_is _ q 10 n (ap not (all_same is_alphabetic letter alphabetic (take 2 (drop 4 s))))) (λ e2.
    then_is (must_is _ r 10 n (ap not (all_same is_alphanumeric alphanumeric alphanumerics (take 2 (drop 6 s))))) (λ e3.
    last_is (must_is _ t 10 n
    (ap (λ (b : Bool). eqb (length s) 11 && not b) (all_same is_alphanumeric alphanumeric alphanumerics (take 3 (drop 8 s))) ∙ sym (not-not _))) (λ e4. ok)))))))
    (then_same (must (bic_length (length s)) 9 n) (λ e.
    musts p q r t 10 n
    ∙ ap (λ (b : Bool). must b 10 n then must (r && t) 10 n) (parts letter 4 2 s)
    ∙ ap (λ (b : Bool). must (all letter (take 6 s)) 10 n then must b 10 n) (branch s (must_held _ 9 n e))))
