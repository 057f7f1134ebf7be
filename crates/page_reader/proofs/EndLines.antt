-- End lines, byte by byte. Assumes nothing.
use mathlib.Core.Path.{◌≡◌, refl, sym, ◌∙◌, ap, subst}
use mathlib.Core.Bool.{Bool, true, false, or-false, true≢false}
use mathlib.Core.List.{List, [], ◌∷◌}
use mathlib.Core.Logic.{◌⊎◌, inl, inr, ⊎_elim}
use Prim.Native.Nat.{ℕ, ◌<◌}
use native.Mathlib.Omega.{arith}
use lib.Dec.{eqb}
use lib.ListN.{length, drop, get_or}
use borrow.Author.Tests.{eqb-true, eqb-false, eq-eqb, ne_eqb}
use Rattle.field_utils.specs.Lines.{upto, starts, is_empty, without_cr}
use Rattle.page_reader.specs.Pages.{line_at, has_lf, less_cr, opens, is_end, ends_page, ends_at}
use Rattle.page_reader.specs.Code.{is_over}

-- ---- a text without a CR before its LF
less_none : (t : Bool) → less_cr t [] ≡ []
unfolding without_cr
less_none true = refl
less_none false = refl

less_cons : (t : Bool) (b : ℕ) (l : List ℕ) → eqb b 13 ≡ false → less_cr t (b ∷ l) ≡ b ∷ less_cr t l
unfolding without_cr
less_cons true b [] e = rw (e, without_cr)
less_cons true b (a ∷ l) e = refl
less_cons false b l e = refl

-- it begins as before, or is empty
abbrev Begins : ℕ → List ℕ → Type 0
Begins b l = (l ≡ []) ⊎ ((m : List ℕ) × (l ≡ b ∷ m))

less_first : (t : Bool) (b : ℕ) (l : List ℕ) → Begins b (less_cr t (b ∷ l))
unfolding without_cr
less_first true b [] = go (eqb b 13) refl
  where
    go : (u : Bool) → eqb b 13 ≡ u → Begins b (without_cr (b ∷ []))
    go true e = inl (rw (e, without_cr))
    go false e = inr ([], rw (e, without_cr))
less_first true b (a ∷ l) = inr (without_cr (a ∷ l), refl)
less_first false b l = inr (l, refl)

-- ---- `-` and `-}`, by their bytes
pub is_first : (b : ℕ) (m : List ℕ) → eqb b 45 ≡ false → is_end (b ∷ m) ≡ false
unfolding is_end
is_first b [] e = e
is_first b (c ∷ []) e = rw e
is_first b (c ∷ d ∷ m) e = refl

is_second : (c : ℕ) (m : List ℕ) → eqb c 125 ≡ false → is_end (45 ∷ c ∷ m) ≡ false
unfolding is_end
is_second c [] e = e
is_second c (d ∷ m) e = refl

is_third : (l : List ℕ) → is_end (45 ∷ 125 ∷ l) ≡ is_empty l
unfolding is_end
is_third [] = refl
is_third (b ∷ l) = refl

begins_not : (b : ℕ) (l : List ℕ) → Begins b l → eqb b 45 ≡ false → is_end l ≡ false
unfolding is_end
begins_not b l f e = ⊎_elim (λ q. ap is_end q) (λ q. ap is_end q.1 ∙ is_first b q.0 e) f

-- a line that starts with no hyphen is none
pub ends_not : (t : Bool) (l : List ℕ) → starts 45 l ≡ false → ends_page t l ≡ false
unfolding ends_page starts is_end
ends_not t [] e = ap is_end (less_none t)
ends_not t (b ∷ l) e = begins_not b (less_cr t (b ∷ l)) (less_first t b l) e

-- an end line opens no field
pub not_both : (t : Bool) (l : List ℕ) → ends_page t l ≡ true → opens l ≡ false
unfolding ends_page starts
not_both t [] e = refl
not_both t (b ∷ l) e =
    ne_eqb b 58 (λ f. true≢false (sym e ∙ begins_not b (less_cr t (b ∷ l)) (less_first t b l) (ap (λ (c : ℕ). eqb c 45) f)))

-- ---- the first line of a rest
abbrev shown : List ℕ → List ℕ
shown s = less_cr (has_lf s) (line_at s)

lf_cons : (b : ℕ) (s : List ℕ) → eqb b 10 ≡ false → has_lf (b ∷ s) ≡ has_lf s
lf_cons b s e = let f : eqb 10 b ≡ false = ne_eqb 10 b (λ q. eqb-false b 10 e (sym q)) in rw f

lf_first : (b : ℕ) (s : List ℕ) → eqb b 10 ≡ true → has_lf (b ∷ s) ≡ true
lf_first b s e = let f : eqb 10 b ≡ true = eq-eqb 10 b (sym (eqb-true b 10 e)) in rw f

line_cons : (b : ℕ) (s : List ℕ) → eqb b 10 ≡ false → line_at (b ∷ s) ≡ b ∷ line_at s
unfolding line_at upto
line_cons b s e = rw (e, upto)

line_lf : (b : ℕ) (s : List ℕ) → eqb b 10 ≡ true → line_at (b ∷ s) ≡ []
unfolding line_at upto
line_lf b s e = rw (e, upto)

shown_lf : (b : ℕ) (s : List ℕ) → eqb b 10 ≡ true → shown (b ∷ s) ≡ []
shown_lf b s e = ap (less_cr (has_lf (b ∷ s))) (line_lf b s e) ∙ less_none (has_lf (b ∷ s))

shown_more : (b : ℕ) (s : List ℕ) → eqb b 10 ≡ false → shown (b ∷ s) ≡ less_cr (has_lf s) (b ∷ line_at s)
shown_more b s e = ap (less_cr (has_lf (b ∷ s))) (line_cons b s e) ∙ ap (λ (t : Bool). less_cr t (b ∷ line_at s)) (lf_cons b s e)

shown_cons : (b : ℕ) (s : List ℕ) → eqb b 10 ≡ false → eqb b 13 ≡ false → shown (b ∷ s) ≡ b ∷ shown s
shown_cons b s e f = shown_more b s e ∙ less_cons (has_lf s) b (line_at s) f

shown_first : (b : ℕ) (s : List ℕ) → Begins b (shown (b ∷ s))
shown_first b s = go (eqb b 10) refl
  where
    go : (t : Bool) → eqb b 10 ≡ t → Begins b (shown (b ∷ s))
    go true e = inl (shown_lf b s e)
    go false e = ⊎_elim (λ q. inl (shown_more b s e ∙ q)) (λ q. inr (q.0, shown_more b s e ∙ q.1)) (less_first (has_lf s) b (line_at s))

-- ---- where nothing is left of it
over_other : (b : ℕ) (s : List ℕ) → eqb b 13 ≡ false → is_empty (shown (b ∷ s)) ≡ eqb b 10
over_other b s f = go (eqb b 10) refl
  where
    go : (t : Bool) → eqb b 10 ≡ t → is_empty (shown (b ∷ s)) ≡ eqb b 10
    go true e = rw e (ap is_empty (shown_lf b s e))
    go false e = rw e (ap is_empty (shown_cons b s e f))

over_cr : (d : ℕ) (s : List ℕ) → is_empty (shown (13 ∷ d ∷ s)) ≡ eqb d 10
unfolding without_cr
over_cr d s = go (eqb d 10) refl
  where
    more : (t : Bool) (l : List ℕ) → is_empty (less_cr t (13 ∷ d ∷ l)) ≡ false
    more true l = refl
    more false l = refl

    go : (t : Bool) → eqb d 10 ≡ t → is_empty (shown (13 ∷ d ∷ s)) ≡ eqb d 10
    go true e = rw e (ap is_empty (shown_more 13 (d ∷ s) refl ∙ ap (λ (l : List ℕ). less_cr (has_lf (d ∷ s)) (13 ∷ l)) (line_lf d s e) ∙ ap (λ (t : Bool). less_cr t (13 ∷ [])) (lf_first d s e)))
    go false e = rw e (ap is_empty (shown_more 13 (d ∷ s) refl ∙ ap (λ (l : List ℕ). less_cr (has_lf (d ∷ s)) (13 ∷ l)) (line_cons d s e)) ∙ more (has_lf (d ∷ s)) (line_at s))

-- by the first bytes
over_is : (s : List ℕ) → is_empty (shown s) ≡ is_over s
unfolding line_at upto without_cr
over_is [] = refl
over_is (b ∷ s) = go (eqb b 13) refl
  where
    last : (l : List ℕ) → is_empty (shown (13 ∷ l)) ≡ is_over (13 ∷ l)
    last [] = refl
    last (d ∷ l) = rw (ne_eqb (length (13 ∷ d ∷ l)) 0 (λ e. omega arith)) (over_cr d l)

    go : (t : Bool) → eqb b 13 ≡ t → is_empty (shown (b ∷ s)) ≡ is_over (b ∷ s)
    go true e = subst (λ (c : ℕ). is_empty (shown (c ∷ s)) ≡ is_over (c ∷ s)) (sym (eqb-true b 13 e)) (last s)
    go false e = over_other b s e ∙ sym (rw (ne_eqb (length (b ∷ s)) 0 (λ e. omega arith), e) (or-false (eqb b 10)))

-- ---- a rest whose first line ends the page, by its first bytes
pub ends_empty : (s : List ℕ) → length s < 1 → ends_at s ≡ false
unfolding line_at upto ends_page is_end
ends_empty [] h = refl
ends_empty (b ∷ s) h = absurd (omega arith)

pub ends_other : (s : List ℕ) → (get_or s 0 0 ≡ 45 → ⊥) → ends_at s ≡ false
unfolding ends_page
ends_other [] n = ends_empty [] (omega arith)
ends_other (b ∷ s) n = begins_not b _ (shown_first b s) (ne_eqb b 45 n)

-- after a hyphen
ends_hyphen : (s : List ℕ) → ends_at (45 ∷ s) ≡ is_end (45 ∷ shown s)
unfolding ends_page
ends_hyphen s = ap is_end (shown_cons 45 s refl refl)

-- there is no brace: nothing is left after the hyphen
pub ends_over : (s : List ℕ) → get_or s 0 0 ≡ 45 → (get_or s 1 0 ≡ 125 → ⊥) → ends_at s ≡ is_over (drop 1 s)
unfolding line_at upto is_end
ends_over [] e n = absurd (omega arith)
ends_over (a ∷ s) e n = ap (λ (b : ℕ). ends_at (b ∷ s)) e ∙ ends_hyphen s ∙ go s n ∙ over_is s
  where
    go : (s : List ℕ) → (get_or s 0 0 ≡ 125 → ⊥) → is_end (45 ∷ shown s) ≡ is_empty (shown s)
    go [] n = refl
    go (b ∷ s) n = ⊎_elim (λ z. ap (λ (l : List ℕ). is_end (45 ∷ l)) z ∙ ap is_empty (sym z)) (λ z. ap (λ (l : List ℕ). is_end (45 ∷ l)) z.1 ∙ is_second b z.0 (ne_eqb b 125 n) ∙ ap is_empty (sym z.1)) (shown_first b s)

-- there is one: nothing is left after it
pub ends_brace : (s : List ℕ) → get_or s 0 0 ≡ 45 → get_or s 1 0 ≡ 125 → ends_at s ≡ is_over (drop 2 s)
ends_brace [] e f = absurd (omega arith)
ends_brace (a ∷ []) e f = absurd (omega arith)
ends_brace (a ∷ b ∷ s) e f =
    (λ i. ends_at (e i ∷ f i ∷ s)) ∙ ends_hyphen (125 ∷ s) ∙ ap (λ (l : List ℕ). is_end (45 ∷ l)) (shown_cons 125 s refl refl) ∙ is_third (shown s) ∙ over_is s
