-- The causes as a number, and when the lengths of a field, as it came and as it was written, show that there are none. Assumes nothing.
use Prim.Native.Nat.{ℕ, ◌+◌, ◌*◌, ◌≤◌, ◌<◌}
use mathlib.Core.Path.{◌≡◌, refl, sym, ap, ◌∙◌}
use mathlib.Core.Bool.{Bool, true, false, not, ◌||◌}
use mathlib.Core.List.{List, [], ◌∷◌}
use native.Mathlib.Omega.{arith}
use lib.Dec.{ltb, eqb}
use lib.ListN.{length, drop, length-append}
use lib.Seq.{length-take-le}
use borrow.Author.Tests.{eqb-true, ne_eqb}
use Rattle.std.specs.Prelude.{Option, Some, None}
use Rattle.std.specs.Bool.{then_some}
use Rattle.errors.specs.Refusals.{Reply, accepted, refused}
use Rattle.party.specs.declared.PartyOption.{PartyOption}
use Rattle.party.specs.declared.Party.{Party}
use Rattle.party.specs.Party.{content}
use Rattle.reader.specs.Reading.{Reading}
use Rattle.writer.specs.Writing.{written_field}
use Rattle.page_reader.specs.Pages.{runs, ReadOutcome, a_record, read_at}
use Rattle.page_reader.proofs.Cases.{runs_most}
use Rattle.page_reader.proofs.Records.{record_gave}
use Rattle.page_writer.specs.Adding.{with_lf}
use Rattle.kept.specs.declared.Causes.{Causes}
use Rattle.kept.specs.Kept.{causes_of, is_none, Kept, keeping, kept_of}
use Rattle.kept.specs.Fields.{field_causes, causes_by}
use Rattle.kept.proofs.FieldExact.{field_less}
use Rattle.record_bytes.specs.RecordBytes.{bit, decoded}
use Rattle.record_bytes.proofs.Theorems.{bit_small, bit_back}
use Rattle.yewdome.specs.Interface.{position_room, cause, causes_code, code_or, kept_code}
use Rattle.yewdome.specs.Code.{Named}

-- ---- the number
-- it is 0 exactly where there is none
pub code_none : (c : Causes) → eqb (causes_code c) 0 ≡ is_none c
code_none c = go c.inner_cr c.last_lf c.after_bic c.blanks c.closing_cr
  where
    sum : Bool → Bool → Bool → Bool → Bool → ℕ
    sum p q r s t = cause p 1 + cause q 2 + cause r 4 + cause s 8 + cause t 16

    go : (p q r s t : Bool) → eqb (sum p q r s t) 0 ≡ not (p || q || r || s || t)
    go true q r s t = ne_eqb (sum true q r s t) 0 (λ z. omega (arith, z))
    go false true r s t = ne_eqb (sum false true r s t) 0 (λ z. omega (arith, z))
    go false false true s t = ne_eqb (sum false false true s t) 0 (λ z. omega (arith, z))
    go false false false true t = ne_eqb (sum false false false true t) 0 (λ z. omega (arith, z))
    go false false false false true = refl
    go false false false false false = refl

-- it is below 32
pub causes_most : (c : Causes) → causes_code c < 32
causes_most c = go c.inner_cr c.last_lf c.after_bic c.blanks c.closing_cr
  where
    few : (t : Bool) (n : ℕ) → cause t n ≤ n
    few true n = omega arith
    few false n = omega arith

    go : (p q r s t : Bool) → cause p 1 + cause q 2 + cause r 4 + cause s 8 + cause t 16 < 32
    go p q r s t = omega (arith, few p 1, few q 2, few r 4, few s 8, few t 16)

-- no two causes tell the same number
cause_bit : (t : Bool) (n : ℕ) → cause t n ≡ n * bit t
cause_bit true n = omega arith
cause_bit false n = omega arith

bit_one : (t u : Bool) → bit t ≡ bit u → t ≡ u
bit_one t u e = sym (bit_back t) ∙ ap (λ (n : ℕ). eqb n 1) e ∙ bit_back u

-- a bit, and twice what the other bits make
lower : (a b m n : ℕ) → a ≤ 1 → b ≤ 1 → a + 2 * m ≡ b + 2 * n → (a ≡ b) × (m ≡ n)
lower a b m n h k e = (omega (arith, h, k, e), omega (arith, h, k, e))

pub causes_one : (c d : Causes) → causes_code c ≡ causes_code d → c ≡ d
causes_one c d e =
    let w1 = lower (bit c.inner_cr) (bit d.inner_cr) _ _ (bit_small c.inner_cr) (bit_small d.inner_cr) (told c ∙ e ∙ sym (told d)) in
    let w2 = lower (bit c.last_lf) (bit d.last_lf) _ _ (bit_small c.last_lf) (bit_small d.last_lf) w1.1 in
    let w3 = lower (bit c.after_bic) (bit d.after_bic) _ _ (bit_small c.after_bic) (bit_small d.after_bic) w2.1 in
    let w4 = lower (bit c.blanks) (bit d.blanks) _ _ (bit_small c.blanks) (bit_small d.blanks) w3.1 in
    λ i. record {
      inner_cr = bit_one c.inner_cr d.inner_cr w1.0 i;
      last_lf = bit_one c.last_lf d.last_lf w2.0 i;
      after_bic = bit_one c.after_bic d.after_bic w3.0 i;
      blanks = bit_one c.blanks d.blanks w4.0 i;
      closing_cr = bit_one c.closing_cr d.closing_cr w4.1 i;
    }
  where
    told : (c : Causes) → bit c.inner_cr + 2 * (bit c.last_lf + 2 * (bit c.after_bic + 2 * (bit c.blanks + 2 * bit c.closing_cr))) ≡ causes_code c
    told c = omega (arith, cause_bit c.inner_cr 1, cause_bit c.last_lf 2, cause_bit c.after_bic 4, cause_bit c.blanks 8, cause_bit c.closing_cr 16)

-- a call that tells it of what a place names: `R` is what is told
module _ {T : Type 0} (known : Bool) (x : T) (R : T → Kept) {o : Option T} (k : o ≡ then_some known x) where
  pub kept_none_such : o ≡ None → 41 * position_room ≡ kept_code known (R x)
  kept_none_such e = go known (sym k ∙ e)
    where
      go : (b : Bool) → then_some b x ≡ None → 41 * position_room ≡ kept_code b (R x)
      go true h = cc
      go false h = refl

  pub kept_some_such : {y : T} → o ≡ Some y → {n : ℕ} → n ≡ code_or (R y).reply (causes_code (R y).causes) → n ≡ kept_code known (R x)
  kept_some_such {y} e q = q ∙ go known (sym k ∙ e)
    where
      go : (b : Bool) → then_some b x ≡ Some y → code_or (R y).reply (causes_code (R y).causes) ≡ kept_code b (R x)
      go true h = let s : x ≡ y = cc in ap (λ (z : T). code_or (R z).reply (causes_code (R z).causes)) (sym s)
      go false h = cc

-- its reply is the reading's
pub kept_named : (r : Reading) (text body : List ℕ) → Named r.reply → Named (kept_of r text body).reply
unfolding kept_of
kept_named r text body = go r.reply
  where
    c : Causes
    c = causes_of r.party.option r.party.present text (ltb (length text) (length body)) false

    go : (t : Reply) → Named t → Named (keeping t c).reply
    go accepted h = h
    go (refused k n) h = h

-- ---- the causes of the record in the bytes that it was read into
pub read_told : (page : List ℕ) (at : ℕ) (bytes : List ℕ) → (read_at page at).outcome ≡ a_record (decoded bytes) → {o : PartyOption} {b : Bool} → o ≡ (decoded bytes).option → b ≡ (decoded bytes).present
    → field_causes o b page at ≡ causes_by page at (read_at page at).outcome
read_told page at bytes w q r =
    (λ i. field_causes (q i) (r i) page at) ∙ ap (causes_by page at) (sym w)

-- ---- a field that was filed with as many bytes as the read moved past, where more follows it
module _ (page : List ℕ) (at : ℕ) (bytes : List ℕ) (moved : ℕ) (read : (read_at page at).outcome ≡ a_record (decoded bytes)) (moves : (read_at page at).next ≡ at + moved) where
  abbrev p : Party
  p = decoded bytes

  abbrev s : List ℕ
  s = drop at page

  -- the read ends within the page
  pub filed_within : at + moved ≤ length page
  filed_within = omega (arith, moves, (record_gave page at p read).next)

  pub filed_none : (written : ℕ) → written ≡ length (with_lf (written_field (content p))) → at + moved < length page → moved ≡ written → 0 ≡ causes_code (causes_by page at (read_at page at).outcome)
  filed_none written writes h e = sym (ap (λ (x : ReadOutcome). causes_code (causes_by page at x)) read ∙ go (is_none (causes_by page at (a_record p))) refl)
    where
      go : (t : Bool) → is_none (causes_by page at (a_record p)) ≡ t → causes_code (causes_by page at (a_record p)) ≡ 0
      go true n = eqb-true (causes_code (causes_by page at (a_record p))) 0 (code_none (causes_by page at (a_record p)) ∙ n)
      go false n =
          let k = field_less page at p read n in
          absurd (omega (arith, k, h, e, moves, writes, (record_gave page at p read).next, length-append (written_field (content p)) (10 ∷ []), length-take-le (runs s) s (runs_most s)))
