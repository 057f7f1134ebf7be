-- `record_bytes::loaded` meets its contract: what is read at each place is what the definition says. The loop's invariant: the first names are those
-- of their places. Assumes nothing.
use mathlib.Core.Path.{◌≡◌, refl, sym, ◌∙◌, ap}
use mathlib.Core.List.{List, []}
use Prim.Native.Nat.{ℕ, zero, suc, ◌+◌, ◌<◌}
use native.Mathlib.Nat.{zero-add}
use native.Mathlib.Numerals.{add-one}
use native.Mathlib.Omega.{arith}
use lib.Dec.{eqb}
use lib.ListN.{length, set, get_or}
use lib.Seq.{paste, paste-zero, paste-suc}
use Rattle.party.specs.declared.Text.{Text}
use Rattle.party.specs.Text.{padded, text_of, four, four_texts}
use Rattle.record_bytes.specs.RecordBytes.{text_at, party_from}
use Rattle.record_bytes.proofs.loaded.Invariants.{texts}
use Rattle.record_bytes.proofs.loaded.Goals as goal
use Rattle.record_bytes.proofs.loaded.Goals.{After-loop-i}

nth : (s : List ℕ) (i : ℕ) (z : Text) → i < 4 → text_at (2 + i) s ≡ get_or (texts s) i z
nth s zero z h = refl
nth s (suc zero) z h = refl
nth s (suc (suc zero)) z h = refl
nth s (suc (suc (suc zero))) z h = refl
nth s (suc (suc (suc (suc i)))) z h = absurd (omega (arith, h))

one_more : (d s : List Text) (i : ℕ) (z : Text) → i < length d → i < length s → set (paste d 0 s i) i (get_or s i z) ≡ paste d 0 s (suc i)
one_more d s i z h k = ap (λ (j : ℕ). set (paste d 0 s i) j (get_or s i z)) (sym (zero-add i)) ∙ paste-suc d 0 s i z (omega arith) k

-- all four
filled : (e : After-loop-i) → e.loop-i.names ≡ texts e.args.record.now
unfolding four text_of padded
filled e =
    let end : e.loop-i.i ≡ 4 = omega arith in
    e.loop-i.invariant ∙ ap (paste (four_texts []) 0 (texts e.args.record.now)) end

pub loop-i-init : goal.loop-i-init
unfolding four text_of padded
loop-i-init c = paste-zero (four_texts []) 0 (texts c.args.record.now)

pub loop-i-preserved : goal.loop-i-preserved
unfolding four text_of padded
loop-i-preserved c =
    let s = c.args.record.now in
    let i = c.loop-i.i in
    let text = c.text_at.ensures ∙ nth s i (text_of []) (omega arith) in
    rw (text, c.loop-i.invariant, add-one) (one_more (four_texts []) (texts s) i (text_of []) (omega arith) (omega arith))

pub returns : goal.returns
unfolding party_from
returns c =
    let s = c.args.record.now in
    let names = filled (goal.at.returns c).After-loop-i in
    let digits = c.copy_from_slice.ensures.after in
    λ i. record { option = c.option_at.ensures i; present = eqb (get_or s 1 0) 1; account = c.text_at-2.ensures i; bic = c.text_at-3.ensures i; count = get_or s 2 0; name_and_address = names i; digits = digits i }
