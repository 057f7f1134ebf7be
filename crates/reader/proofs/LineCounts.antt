-- How many lines a body has, and whether it has an LF. Assumes nothing.
use mathlib.Core.Path.{◌≡◌, refl, sym, ◌∙◌, ap}
use mathlib.Core.Bool.{Bool, true, false, ◌&&◌, and-true, and-false, or-true, false≢true}
use mathlib.Core.List.{List, [], ◌∷◌}
use Prim.Native.Nat.{ℕ, suc, ◌≤◌, ◌<◌}
use native.Mathlib.Omega.{arith}
use lib.Dec.{leb, ltb, eqb}
use lib.ListN.{length, drop, length-drop, drop_of_length-le}
use borrow.Author.Tests.{le-leb, lt-leb, ltb-true, ltb-false, eqb-false, eq-eqb, ne_eqb}
use Rattle.party.specs.declared.PartyOption.{PartyOption}
use Rattle.party.specs.declared.Limits.{Limits}
use Rattle.party.specs.Limits.{limits_of}
use Rattle.swift_utils.specs.Bytes.{among}
use Rattle.field_utils.specs.Lines.{upto, onto, starts, lines}
use Rattle.field_utils.proofs.Places.{Upto, none, here, past, by_upto}
use Rattle.reader.specs.Options.{is_counted}

onto_length : (b : ℕ) (ls : List (List ℕ)) → length (onto b ls) ≤ suc (length ls)
unfolding onto
onto_length b [] = omega arith
onto_length b (l ∷ ls) = omega arith

onto_some : (b : ℕ) (ls : List (List ℕ)) → 0 < length (onto b ls)
unfolding onto
onto_some b [] = omega arith
onto_some b (l ∷ ls) = omega arith

-- a line takes at least a byte
pub lines_most : (l : List ℕ) → length (lines l) ≤ length l
unfolding lines
lines_most [] = omega arith
lines_most (b ∷ l) = go (eqb b 10) (eqb b 13 && starts 10 l) refl refl (lines_most l)
  where
    go : (p q : Bool) → eqb b 10 ≡ p → (eqb b 13 && starts 10 l) ≡ q → length (lines l) ≤ length l → length (lines (b ∷ l)) ≤ suc (length l)
    go true q e f h = rw (e, lines) (omega arith)
    go false true e f h = rw (e, lines) (rw f (omega arith))
    go false false e f h = rw (e, lines) (rw f (omega (arith, onto_length b (lines l))))

-- a body with a byte has a line
pub lines_some : (l : List ℕ) → 0 < length l → 0 < length (lines l)
unfolding lines starts
lines_some [] h = absurd (omega arith)
lines_some (b ∷ l) h = go (eqb b 10) (eqb b 13 && starts 10 l) refl refl (lines_some l)
  where
    started : (m : List ℕ) → (eqb b 13 && starts 10 m) ≡ true → 0 < length m
    started [] e = absurd (false≢true (sym (and-false (eqb b 13)) ∙ e))
    started (a ∷ m) e = omega arith

    go : (p q : Bool) → eqb b 10 ≡ p → (eqb b 13 && starts 10 l) ≡ q → (0 < length l → 0 < length (lines l)) → 0 < length (lines (b ∷ l))
    go true q e f ih = rw (e, lines) (omega arith)
    go false true e f ih = rw (e, lines) (rw f (ih (started l f)))
    go false false e f ih = rw (e, lines) (rw f (onto_some b (lines l)))

-- the count of the lines, by the option's row
module _ (o : PartyOption) {m : Limits} (e : m ≡ limits_of o) (n : ℕ) where
  pub counts_open : m.min_lines ≤ n → m.max_lines ≡ 0 → is_counted o n ≡ true
  counts_open h z = rw (← e, le-leb _ _ h, eq-eqb _ _ z)

  pub counts_least : m.max_lines ≡ 0 → is_counted o n ≡ leb m.min_lines n
  counts_least z = rw (← e, eq-eqb _ _ z) (and-true (leb m.min_lines n))

  pub counts_few : n < m.min_lines → is_counted o n ≡ false
  counts_few h = rw (← e, lt-leb _ _ h)

  pub counts_most : m.min_lines ≤ n → (m.max_lines ≡ 0 → ⊥) → is_counted o n ≡ leb n m.max_lines
  counts_most h z = rw (← e, le-leb _ _ h, ne_eqb _ _ z)

-- a second line is there where the first does not run to the end
pub lines_second : (s : List ℕ) (rest : ℕ) → length (lines s) ≡ suc (length (lines (drop rest s))) → leb 2 (length (lines s)) ≡ ltb rest (length s)
unfolding lines
lines_second s rest e = go (ltb rest (length s)) refl
  where
    go : (t : Bool) → ltb rest (length s) ≡ t → leb 2 (length (lines s)) ≡ t
    go true q = le-leb 2 (length (lines s)) (omega (arith, e, lines_some (drop rest s) (omega (arith, ltb-true rest (length s) q, length-drop rest s))))
    go false q = lt-leb 2 (length (lines s)) (omega (arith, e, ap (λ (l : List ℕ). length (lines l)) (drop_of_length-le s {i = rest} (omega (arith, ltb-false rest (length s) q)))))

-- an LF is found where it stands among the bytes
found : {l : List ℕ} {n : ℕ} → Upto 10 l n → n < length l → among l 10 ≡ true
found none h = absurd (omega arith)
found here h = refl
found (past {a} e r) h = rw (found r (omega arith)) (or-true (eqb 10 a))

unfound : {l : List ℕ} {n : ℕ} → Upto 10 l n → length l ≤ n → among l 10 ≡ false
unfound none h = refl
unfound here h = absurd (omega arith)
unfound (past {a} e r) h = rw (ne_eqb 10 a (λ f. eqb-false a 10 e (sym f)), unfound r (omega arith))

pub among_found : (l : List ℕ) → upto 10 l < length l → among l 10 ≡ true
among_found l h = found (by_upto 10 l) h

pub among_none : (l : List ℕ) → length l ≤ upto 10 l → among l 10 ≡ false
among_none l h = unfound (by_upto 10 l) h
