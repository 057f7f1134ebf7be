-- The Rust's parse_party_identifier is document 01's. Assumes nothing.
use mathlib.Core.Path.{◌≡◌, refl, sym, ◌∙◌, ap}
use mathlib.Core.Bool.{Bool, true, false, not, ◌&&◌, ◌||◌, false≢true, and-eq-true_iff}
use mathlib.Core.List.{[], ◌∷◌, ◌++◌}
use mathlib.Core.Option.{none, some}
use Prim.Native.Nat.{ℕ, suc, ◌≤◌, ◌<◌}
use native.Mathlib.Numerals.{add-one}
use native.Mathlib.Omega.{arith}
use lib.Dec.{ltb, leb, eqb, leb-zero}
use lib.ListN.{length, take, drop}
use lib.Seq.{length-take-le}
use borrow.Author.Tests.{eqb-true, ne_eqb, le-leb, ltb-true, ltb-false, lt-ltb}
use Rattle.errors.specs.Refusals.{accepted, must, ◌then◌}
use Rattle.errors.proofs.Replies.{then_accepted}
use Rattle.swift_utils.specs.Bytes.{all, between, letter, alphanumeric}
use Rattle.swift_utils.specs.Checks.{parse_account}
use Rattle.field_utils.specs.Lines.{upto, starts}
use Rattle.field_utils.specs.Identifier.{identifier_reply, second_slash}
use Rattle.field_utils.proofs.Places.{Upto, here, past, by_upto}
use Rattle.field_utils.proofs.Places as places
use Rattle.field_utils.proofs.Identifiers.{no_slash, two_slashes, starts_long}
use Rattle.swift_mt_message.specs.Std.{Str, slash, Ok, err_if, rust_is_empty, strip_prefix, within, is_alphabetic, is_digit}
use Rattle.swift_mt_message.specs.Std as S
use Rattle.swift_mt_message.specs.SwiftUtils.{rust_parse_swift_chars}
use Rattle.swift_mt_message.specs.FieldUtils.{parse_code, rust_parse_remaining, rust_parse_party_identifier}
use Rattle.swift_mt_message.proofs.Results.{by_test, Is, ok, if_is, last_is, reply_is, value_is}
use Rattle.swift_mt_message.proofs.Std.{alphabetic, digits, all_same, started, up_to, from_is, to_is, found_at, found_none}
use Rattle.swift_mt_message.proofs.SwiftUtils.{swift_chars, account_is}

-- the two parts of a text around the first slash
parted : {n : ℕ} {s : Str} → Upto slash s n → n < length s → take n s ++ slash ∷ drop (suc n) s ≡ s
parted places.none h = absurd (omega arith)
parted here h = refl
parted (past {a = b} e r) h = ap (◌∷◌ b) (parted r (omega arith))

-- a text that does not start with a slash has one later, if at all
later : (s : Str) → starts slash s ≡ false → upto slash s < length s → 0 < upto slash s
unfolding starts upto
later [] e h = absurd (omega arith)
later (b ∷ s) e h = rw (e, upto) (omega arith)

front : (s : Str) → starts slash s ≡ true → upto slash s ≡ 0
unfolding starts upto
front [] e = absurd (false≢true e)
front (b ∷ s) e = rw (e, upto)

no_prefix : (s : Str) → starts slash s ≡ false → strip_prefix s slash ≡ none
unfolding starts
no_prefix [] e = refl
no_prefix (b ∷ s) e = rw (e, strip_prefix)

-- an identifier after its code
id_is : (id : Str) {A : Type 0} (v : A) → Is (S.◌then◌ (err_if (ltb 34 (length id)) 2 1) (S.◌then◌ (rust_parse_swift_chars id 1) (Ok v))) (parse_account 0 34 1 id) v
id_is id v = reply_is (account_is 0 34 _ id (up_to (length id) 34) ok) (then_accepted (parse_account 0 34 1 id))

-- the two tests of a code
letter_or_digit : (c : ℕ) → (is_alphabetic c || is_digit c) ≡ alphanumeric c
unfolding alphanumeric
letter_or_digit c = rw (alphabetic c, digits c)

letters : (s : Str) → all letter s ≡ true → all alphanumeric s ≡ true
unfolding alphanumeric
letters [] e = refl
letters (b ∷ s) e = let h = (and-eq-true_iff (letter b) (all letter s)).0 e in rw (h.0, letters s h.1)

module _ (code id : Str) (h : 1 ≤ length code) where
  second : (within 1 2 (length code) && S.all (λ c. is_alphabetic c || is_digit c) code) ≡ (leb (length code) 2 && all alphanumeric code)
  second = rw (le-leb 1 (length code) h, all_same (λ c. is_alphabetic c || is_digit c) alphanumeric letter_or_digit code)

  first : (eqb (length code) 1 && S.all is_alphabetic code) ≡ true → (leb (length code) 2 && all alphanumeric code) ≡ true
  first e =
      let f = (and-eq-true_iff (eqb (length code) 1) (S.all is_alphabetic code)).0 e in
      let n : length code ≡ 1 = eqb-true (length code) 1 f.0 in
      rw (le-leb (length code) 2 (omega arith), letters code (sym (all_same is_alphabetic letter alphabetic code) ∙ f.1))

  code_is : Is (parse_code code id) (must (leb (length code) 2 && all alphanumeric code) 2 1 then parse_account 0 34 1 id) (some (code ++ slash ∷ id))
  unfolding parse_code
  code_is =
      by_test (eqb (length code) 1 && S.all is_alphabetic code)
      (λ e. rw (e, parse_code) (rw (first e) (id_is id (some (code ++ slash ∷ id)))))
      (λ e. rw (e, parse_code) (if_is _ (leb (length code) 2 && all alphanumeric code) 2 1 second (λ t. id_is id (some (code ++ slash ∷ id)))))

-- what follows the first slash
module _ (s : Str) where
  -- another slash
  special : starts slash s ≡ true → identifier_reply 34 1 s ≡ parse_account 1 34 1 (drop 1 s)
  special e = two_slashes 34 1 s (upto slash s) refl (omega (arith, front s e, starts_long slash s e)) (front s e)

  -- a later slash
  coded : starts slash s ≡ false → upto slash s < length s
      → identifier_reply 34 1 s
      ≡ (must (leb (upto slash s) 2 && all alphanumeric (take (upto slash s) s)) 2 1 then parse_account 0 34 1 (drop (suc (upto slash s)) s))
  unfolding identifier_reply second_slash
  coded e h = rw (lt-ltb (upto slash s) (length s) h, identifier_reply) (rw (ne_eqb (upto slash s) 0 (λ z. omega (arith, later s e h)), second_slash))

full : (s : Str) → (not (rust_is_empty s) && leb (length s) 34) ≡ between 1 34 (length s)
full [] = refl
full (b ∷ s) = rw (le-leb 1 (length (b ∷ s)) (omega arith))

-- the first slash, or none
pub no_identifier : (l : Str) → starts slash l ≡ false → Is (rust_parse_party_identifier l) accepted none
unfolding rust_parse_party_identifier
no_identifier l e = rw (started l slash ∙ e, rust_parse_party_identifier) ok

-- `//`
after_special : (c : ℕ) (s : Str) → eqb c slash ≡ true → Is (rust_parse_remaining (c ∷ s)) (identifier_reply 34 1 (c ∷ s)) (some (c ∷ s))
unfolding rust_parse_remaining starts parse_account
after_special c s e =
    rw (e, rust_parse_remaining)
    (value_is
    (reply_is (if_is _ (between 1 34 (length s)) 2 1 (full s) (λ t. last_is (swift_chars s 1) (λ u. ok))) (sym (special (c ∷ s) e)))
    (ap (λ (b : ℕ). some (b ∷ s)) (sym (eqb-true c slash e))))

module _ (s : Str) (e : starts slash s ≡ false) where
  -- `/` code `/` id
  after_code : upto slash s < length s → Is (rust_parse_remaining s) (identifier_reply 34 1 s) (some s)
  unfolding rust_parse_remaining
  after_code h =
      let k : length (take (upto slash s) s) ≡ upto slash s = length-take-le (upto slash s) s (omega arith) in
      rw (no_prefix s e, rust_parse_remaining) (rw (found_at s slash h, rust_parse_remaining) (rw (add-one, to_is (upto slash s) s (omega arith), from_is (suc (upto slash s)) s (omega arith))
      (value_is
      (reply_is (code_is (take (upto slash s) s) (drop (suc (upto slash s)) s) (omega (arith, later s e h))) (rw k (sym (coded s e h))))
      (ap (λ (t : Str). some t) (parted (by_upto slash s) h)))))

  -- no second slash
  after_plain : length s ≤ upto slash s → Is (rust_parse_remaining s) (identifier_reply 34 1 s) (some s)
  unfolding rust_parse_remaining parse_account
  after_plain h =
      rw (no_prefix s e, rust_parse_remaining) (rw (found_none s slash h, rust_parse_remaining)
      (reply_is
      (if_is _ (leb (length s) 34) 2 1 refl (λ t. last_is (swift_chars s 1) (λ u. ok)))
      (sym (no_slash 34 1 s (upto slash s) refl h ∙ rw (leb-zero (length s))))))

-- the identifier of a line that starts with a slash
pub identifier : (l : Str) → starts slash l ≡ true → Is (rust_parse_party_identifier l) (identifier_reply 34 1 (drop 1 l)) (some (drop 1 l))
unfolding starts rust_parse_party_identifier
identifier [] e = absurd (false≢true e)
identifier (b ∷ s) e = rw (eqb-true b slash e) (go s (starts slash s) refl)
  where
    go : (s : Str) (t : Bool) → starts slash s ≡ t → Is (rust_parse_remaining s) (identifier_reply 34 1 s) (some s)
    go [] true f = absurd (false≢true f)
    go (c ∷ s) true f = after_special c s f
    go s false f = by_test (ltb (upto slash s) (length s)) (λ g. after_code s f (ltb-true _ _ g)) (λ g. after_plain s f (ltb-false _ _ g))
