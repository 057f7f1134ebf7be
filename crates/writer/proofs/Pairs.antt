-- Measuring and placing by what the test for 22 says, and that they agree. Assumes nothing.
use Prim.Native.Nat.{ℕ, ◌+◌, ◌≤◌}
use mathlib.Core.Path.{◌≡◌, refl, sym, ◌∙◌, ap, subst}
use mathlib.Core.Bool.{Bool, true, false}
use mathlib.Core.List.{List, ◌++◌}
use native.Mathlib.Nat.{zero-add}
use native.Mathlib.Omega.{arith}
use lib.ListN.{length, drop}
use lib.Seq.{take-length}
use borrow.Author.Tests.{le-leb, lt-leb}
use Rattle.errors.specs.Refusals.{must}
use Rattle.party.specs.Text.{padded, text_of}
use Rattle.party.specs.Party.{blank, Content, content}
use Rattle.field_utils.specs.Names.{parse_lines, parse_name_and_address}
use Rattle.writer.specs.Writing.{name_lines, written_field, field_most, put}
use Rattle.writer.specs.Given.{are_names, is_given}
use Rattle.writer.specs.Placing.{Measured, length_is, refused_with, Placing, measuring, measure, place, Space, Pair}

length≢refusal : {n k l : ℕ} → length_is n ≡ refused_with k l → ⊥
length≢refusal e = let z : ◌≡◌ {A = ℕ} 0 1 = cc in omega arith

-- a text put at the start
pub put_start : (buffer text : List ℕ) → put buffer 0 text ≡ text ++ drop (length text) buffer
put_start buffer text = rw (take-length text, zero-add (length text))

-- the blank record is not given
pub blank_not : is_given (content blank) ≡ false
unfolding text_of padded content is_given are_names name_lines parse_name_and_address parse_lines
blank_not = refl

module _ (s : Content) where
  abbrev field : List ℕ
  field = written_field s

  -- ---- measuring
  measure_by : {b : Bool} → is_given s ≡ b → measuring (must b 22 0) field ≡ measure s
  unfolding measure
  measure_by e = rw (← e)

  pub measure_22 : is_given s ≡ false → refused_with 22 0 ≡ measure s
  measure_22 = measure_by

  pub measure_length : {n : ℕ} → is_given s ≡ true → n ≡ length field → length_is n ≡ measure s
  measure_length e k = ap length_is k ∙ measure_by e

  -- a length is that of the field of a record that is given, and a refusal is that of one which is not
  pub measured : {n : ℕ} → measure s ≡ length_is n → (is_given s ≡ true) × (n ≡ length field)
  measured {n} m = go (is_given s) refl
    where
      go : (b : Bool) → is_given s ≡ b → (is_given s ≡ true) × (n ≡ length field)
      go true e = (e, let same : length_is (length field) ≡ length_is n = measure_by e ∙ m in cc)
      go false e = absurd (length≢refusal (sym m ∙ sym (measure_22 e)))

  pub unmeasured : {k l : ℕ} → measure s ≡ refused_with k l → is_given s ≡ false
  unmeasured {k} {l} m = go (is_given s) refl
    where
      go : (b : Bool) → is_given s ≡ b → is_given s ≡ false
      go true e = absurd (length≢refusal (measure_by e ∙ m))
      go false e = e

  -- ---- placing
  module _ (buffer : List ℕ) where
    pub place_22 : is_given s ≡ false → place s buffer ≡ record { answer = refused_with 22 0; buffer = buffer }
    unfolding place
    place_22 e = rw e

    pub space : is_given s ≡ true → Space s (length field) buffer
    unfolding place
    space e = record {
      exact = refl;
      enough = λ h. rw (e, le-leb (0 + length field) (length buffer) (omega arith), put_start buffer field);
      short = λ h. rw (e, lt-leb (0 + length field) (length buffer) (omega arith));
    }

    pub space_measured : {n : ℕ} → measure s ≡ length_is n → Space s n buffer
    space_measured m = let h = measured m in subst (λ (n : ℕ). Space s n buffer) (sym h.1) (space h.0)

    pub place_unmeasured : {k l : ℕ} → measure s ≡ refused_with k l → place s buffer ≡ record { answer = refused_with k l; buffer = buffer }
    place_unmeasured m =
        let e = unmeasured m in
        place_22 e ∙ ap {B = Placing} (λ (a : Measured). record { answer = a; buffer = buffer }) (measure_22 e ∙ m)

    -- a buffer of 187 bytes is large enough, where no field has more
    pub pair : (is_given s ≡ true → length field ≤ field_most) → Pair s buffer
    pair most = record {
      measured = space_measured;
      unmeasured = λ m. let same = measure_22 (unmeasured m) ∙ m in (number same, line same, place_unmeasured m);
      agrees = λ h. agrees h (is_given s) refl;
    }
      where
        number : {k l : ℕ} → refused_with 22 0 ≡ refused_with k l → k ≡ 22
        number e = cc

        line : {k l : ℕ} → refused_with 22 0 ≡ refused_with k l → l ≡ 0
        line e = cc

        agrees : field_most ≤ length buffer → (b : Bool) → is_given s ≡ b → (place s buffer).answer ≡ measure s
        agrees h true e = ap (λ (x : Placing). x.answer) ((space e).enough (omega (arith, most e))) ∙ measure_by e
        agrees h false e = ap (λ (x : Placing). x.answer) (place_22 e) ∙ measure_22 e
