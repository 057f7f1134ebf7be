-- Worked examples of bytes and BICs (document 01, swift_utils.rs), each by computation.
use Rattle.std.specs.Prelude.{ℕ, zero, suc, ◌+◌, ◌≡◌, refl, Bool, true, false}
use Rattle.errors.specs.Refusals.{accepted, refused}
use Rattle.swift_utils.specs.Bytes.{bytes, letter, digit, alphanumeric, signs, legal, narrow_signs, narrow}
use Rattle.swift_utils.specs.Checks.{bic_length, parse_bic}

-- at how many of the numbers below n a test passes
abbrev count : (ℕ → Bool) → ℕ → ℕ
count f zero = 0
count f (suc n) = elim (f n) [ true ↦ 1 | false ↦ 0 ] + count f n

-- 93 bytes are legal
pub legal_93 : count legal 256 ≡ 93
unfolding letter digit alphanumeric signs legal
legal_93 = refl

-- 73 bytes are in the network profile's set (document 02, Five)
pub narrow_73 : count narrow 256 ≡ 73
unfolding letter digit alphanumeric narrow_signs narrow
narrow_73 = refl

-- BICs on body line 1
pub record Bics : Type 0 where
  -- 8 bytes; 11, with digits after the first six; lower case
  pub eight : parse_bic 1 (bytes "DEUTDEFF") ≡ accepted
  pub eleven : parse_bic 1 (bytes "DEUTDEFF500") ≡ accepted
  pub lower : parse_bic 1 (bytes "deutdeff") ≡ accepted
  -- 9 bytes, also where the first is wrong besides: the length is tested first
  pub nine : parse_bic 1 (bytes "DEUTDEFF5") ≡ refused 9 1
  pub first : parse_bic 1 (bytes "1EUTDEFF5") ≡ refused 9 1
  -- a digit among the first six
  pub bank : parse_bic 1 (bytes "DEUT1EFF") ≡ refused 10 1

pub bics : Bics
unfolding letter digit alphanumeric bic_length parse_bic
bics = record { eight = refl; eleven = refl; lower = refl; nine = refl; first = refl; bank = refl }
