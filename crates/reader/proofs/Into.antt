-- A reading into lent bytes, by the outcome of the code. Assumes nothing.
use Rattle.std.specs.Prelude.{Result, Ok, Err, is_ok, IsErrAnd}
use Rattle.std.proofs.lemmas.Result.{err_from_is_err_and}
use Prim.Native.Nat.{ℕ, ◌≤◌}
use mathlib.Core.Path.{◌≡◌, refl, sym, ◌∙◌, ap}
use mathlib.Core.Bool.{true, false, false≢true}
use mathlib.Core.List.{List, ◌++◌, append-nil}
use native.Mathlib.Omega.{arith}
use lib.ListN.{length, drop, drop_of_length-le, take-append-drop}
use Rattle.std.specs.Array.{IsFirstChunk}
use borrow.Author.Tests.{le-leb}
use Rattle.errors.specs.declared.ParseError.{ParseError}
use Rattle.errors.specs.Refusals.{Reply, accepted, refused, told_error, told}
use Rattle.party.specs.declared.Party.{Party}
use Rattle.record_bytes.specs.RecordBytes.{record_size, encoded}
use Rattle.record_bytes.proofs.Laws.{stored_whole, chunk_size}
use Rattle.reader.specs.Reading.{Reading, Into, storing, leaves, read_into, told_into}

-- what the exit of a `?` returns
pub exits : {T : Type 0} {r : Result T ParseError} {e : ParseError} → IsErrAnd r (λ (d : ParseError). d ≡ e) → r ≡ Err e
exits {r = r} h =
    let p = err_from_is_err_and r h in
    p.1 ∙ ap Err p.2

-- what was asked of it
pub went : (o : Result (Unit {0}) ParseError) → is_ok o ≡ true → o ≡ Ok tt
went (Ok t) e = refl
went (Err x) e = absurd (false≢true e)

pub failed : (o : Result (Unit {0}) ParseError) → is_ok o ≡ false → (x : ParseError) × (o ≡ Err x)
failed (Ok t) e = absurd (false≢true (sym e))
failed (Err x) e = (x, refl)

-- ---- by the bytes that are lent
pub into_whole : (w : Reading) (d : List ℕ) → record_size ≤ length d → read_into w d ≡ leaves w d
into_whole w d h = rw (le-leb record_size (length d) h)

-- the first of them, lent as an array, with those after it
module _ {d room : List ℕ} (h : IsFirstChunk d room record_size) where
  lent_back : (r : Reply) (p : Party) → ◌≡◌ {A = Into} (record { reply = (storing r p room).reply; bytes = (storing r p room).bytes ++ drop record_size d }) (storing r p d)
  lent_back accepted p =
      let all = stored_whole p room (omega (arith, chunk_size h)) ∙ ap (λ (l : List ℕ). encoded p ++ l) (drop_of_length-le room {i = record_size} (omega (arith, chunk_size h))) ∙ append-nil (encoded p) in
      ap {B = Into} (λ (l : List ℕ). record { reply = accepted; bytes = l }) (ap (λ (l : List ℕ). l ++ drop record_size d) all ∙ sym (stored_whole p d h.enough))
  lent_back (refused k n) p =
      ap {B = Into} (λ (l : List ℕ). record { reply = refused k n; bytes = l }) (ap (λ (l : List ℕ). l ++ drop record_size d) h.same ∙ take-append-drop record_size d)

  pub into_lent : (w : Reading) (o : Result (Unit {0}) ParseError) {e : List ℕ} → told_into o e ≡ leaves w room → told_into o (e ++ drop record_size d) ≡ read_into w d
  into_lent w o told =
      ap {B = Into} (λ (i : Into). record { reply = i.reply; bytes = i.bytes ++ drop record_size d }) told ∙ lent_back w.reply w.party ∙ sym (into_whole w d h.enough)

-- ---- in bytes that are as many as a record's
-- what is said of the body
storing_reply : (r : Reply) (p : Party) (d : List ℕ) → (storing r p d).reply ≡ r
storing_reply accepted p d = refl
storing_reply (refused k n) p d = refl

module _ (w : Reading) (d : List ℕ) (o : Result (Unit {0}) ParseError) {e : List ℕ} (h : told_into o e ≡ leaves w d) where
  pub into_accepted : {x : Reading} {f : List ℕ} → o ≡ Ok tt → w ≡ x → d ≡ f → told_into (Ok tt) e ≡ leaves x f
  into_accepted a q s = sym (ap (λ (o : Result (Unit {0}) ParseError). told_into o e) a) ∙ h ∙ (λ i. leaves (q i) (s i))

  pub replied : told o ≡ w.reply
  replied = ap (λ (i : Into). i.reply) h ∙ storing_reply w.reply w.party d

  pub accepts : o ≡ Ok tt → w.reply ≡ accepted
  accepts a = sym replied ∙ ap told a

  pub refuses : {x : ParseError} → o ≡ Err x → w.reply ≡ told_error x
  refuses a = sym replied ∙ ap told a

  -- a refusal leaves them
  pub left : {x : ParseError} → o ≡ Err x → e ≡ d
  left a = ap (λ (i : Into). i.bytes) h ∙ ap (λ (r : Reply). (storing r w.party d).bytes) (refuses a)
