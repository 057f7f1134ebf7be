-- The tag of a field's text, byte by byte. Assumes nothing.
use mathlib.Core.Path.{◌≡◌, refl, sym, ◌∙◌, ap, subst}
use mathlib.Core.Bool.{Bool, true, false, ◌&&◌, and-false, and-true}
use mathlib.Core.List.{List, [], ◌∷◌}
use Prim.Native.Nat.{ℕ, ◌+◌, ◌-◌, ◌%◌, ◌≤◌, ◌<◌}
use native.Mathlib.Omega.{arith}
use Rattle.std.specs.Prelude.{Option, Some, None}
use Rattle.std.specs.List.{find}
use mathlib.Core.Logic.{◌⊎◌, inl, inr}
use lib.Dec.{leb, eqb}
use lib.ListN.{length, take, drop, get_or, length-drop, drop_of_length-le}
use lib.Seq.{drop-cons, take_all}
use borrow.Author.Tests.{eqb-true, eqb-false, ne_eqb, leb-true, leb-false}
use Rattle.party.specs.declared.PartyOption.{PartyOption}
use Rattle.party.specs.Limits.{limits_of, options}
use Rattle.party.proofs.Options.{by_option}
use Rattle.field_utils.specs.Tags.{tag_of}
use Rattle.field_utils.proofs.Tests.{both_right}
use Rattle.page_reader.specs.Pages.{begins, Tagged, untagged, tagged, tag_in}
use Rattle.page_reader.specs.Code.{has_tag, known}

-- ---- the form of a tag: `:5`, a digit, a letter or none, `:`
abbrev digit_of : PartyOption → ℕ
digit_of o = 48 + (limits_of o).field % 10

abbrev letter_of : PartyOption → ℕ
letter_of o = (limits_of o).letter

abbrev tail_of : ℕ → List ℕ
tail_of letter = elim (eqb letter 0) [ true ↦ 58 ∷ [] | false ↦ letter ∷ 58 ∷ [] ]

tag_form : (o : PartyOption) → tag_of o ≡ 58 ∷ 53 ∷ digit_of o ∷ tail_of (letter_of o)
unfolding tag_of
tag_form = by_option (λ (o : PartyOption). tag_of o ≡ 58 ∷ 53 ∷ digit_of o ∷ tail_of (letter_of o)) refl refl refl refl refl refl refl refl refl refl refl

no_colon : (o : PartyOption) → eqb (letter_of o) 58 ≡ false
no_colon = by_option (λ (o : PartyOption). eqb (letter_of o) 58 ≡ false) refl refl refl refl refl refl refl refl refl refl refl

-- ---- a text that begins with no tag
none_in : (os : List PartyOption) (text : List ℕ) → ((o : PartyOption) → begins (tag_of o) text ≡ false) → tag_in os text ≡ untagged
unfolding tag_in
none_in [] text h = refl
none_in (o ∷ os) text h = rw (h o, tag_in) (none_in os text h)

begins_short : (l s : List ℕ) → length s < length l → begins l s ≡ false
unfolding begins
begins_short [] s h = absurd (omega arith)
begins_short (a ∷ l) [] h = refl
begins_short (a ∷ l) (b ∷ s) h = rw (begins_short l s (omega arith)) (and-false (eqb a b))

tail_some : (letter : ℕ) → 1 ≤ length (tail_of letter)
tail_some letter = go (eqb letter 0) refl
  where
    go : (t : Bool) → eqb letter 0 ≡ t → 1 ≤ length (tail_of letter)
    go true e = rw (e, tail_of) (omega arith)
    go false e = rw (e, tail_of) (omega arith)

pub tag_short : (text : List ℕ) → length text < 4 → tag_in options text ≡ untagged
tag_short text h =
    none_in options text
    (λ o. begins_short (tag_of o) text (let k = ap length (tag_form o) in let n = tail_some (letter_of o) in omega (arith, h, k, n)))

-- the first bytes
module _ (text : List ℕ) where
  by_form : (o : PartyOption) {r : Bool} → begins (58 ∷ 53 ∷ digit_of o ∷ tail_of (letter_of o)) text ≡ r → begins (tag_of o) text ≡ r
  by_form o e = ap (λ (t : List ℕ). begins t text) (tag_form o) ∙ e

pub tag_first : (a : ℕ) (s : List ℕ) → (a ≡ 58 → ⊥) → tag_in options (a ∷ s) ≡ untagged
unfolding begins
tag_first a s n = none_in options (a ∷ s) (λ o. by_form (a ∷ s) o (rw (ne_eqb 58 a (λ e. n (sym e)))))

pub tag_second : (a b : ℕ) (s : List ℕ) → (b ≡ 53 → ⊥) → tag_in options (a ∷ b ∷ s) ≡ untagged
unfolding begins
tag_second a b s n = none_in options (a ∷ b ∷ s) (λ o. by_form (a ∷ b ∷ s) o (rw (ne_eqb 53 b (λ e. n (sym e)), and-false (eqb 58 a))))

-- a body with the option that its tag has, if one has it
abbrev pub tag_found : Option PartyOption → List ℕ → Tagged
tag_found None body = untagged
tag_found (Some o) body = tagged o body

-- ---- after `:5` and a digit
module _ (d : ℕ) (s : List ℕ) where
  abbrev text : List ℕ
  text = 58 ∷ 53 ∷ d ∷ s

  after_digit : (o : PartyOption) {r : Bool} → begins (tail_of (letter_of o)) s ≡ r → begins (tag_of o) text ≡ (eqb (digit_of o) d && r)
  unfolding begins
  after_digit o e = by_form text o (ap (λ (t : Bool). eqb (digit_of o) d && t) e)

  pub tag_none : ((o : PartyOption) → begins (tail_of (letter_of o)) s ≡ false) → tag_in options text ≡ untagged
  tag_none h = none_in options text (λ o. after_digit o (h o) ∙ and-false (eqb (digit_of o) d))

  known_lem : (letter skip : ℕ) (os : List PartyOption) → ((o : PartyOption) → begins (tail_of (letter_of o)) s ≡ eqb (letter_of o) letter)
      → ((o : PartyOption) → eqb (letter_of o) letter ≡ true → length (tag_of o) ≡ skip)
      → tag_found (find (λ o. has_tag o d letter) os) (drop skip text) ≡ tag_in os text
  unfolding tag_in
  known_lem letter skip [] h k = refl
  known_lem letter skip (o ∷ os) h k = go (eqb (digit_of o) d && eqb (letter_of o) letter) refl (known_lem letter skip os h k)
    where
      go : (t : Bool) → (eqb (digit_of o) d && eqb (letter_of o) letter) ≡ t → tag_found (find (λ x. has_tag x d letter) os) (drop skip text) ≡ tag_in os text
          → tag_found (find (λ x. has_tag x d letter) (o ∷ os)) (drop skip text) ≡ tag_in (o ∷ os) text
      go true e ih =
          let b : begins (tag_of o) text ≡ true = after_digit o (h o) ∙ e in
          rw (e, b, tag_in) (ap (λ (n : ℕ). tagged o (drop n text)) (sym (k o (both_right (eqb (digit_of o) d) (eqb (letter_of o) letter) e))))
      go false e ih = let b : begins (tag_of o) text ≡ false = after_digit o (h o) ∙ e in rw (e, b, tag_in) ih

  tag_length_lem : (o : PartyOption) → length (tag_of o) ≡ 3 + length (tail_of (letter_of o))
  tag_length_lem o = let k = ap length (tag_form o) in omega (arith, k)

-- without a letter
pub tag_plain : (d : ℕ) (s : List ℕ) → tag_found (known d 0) s ≡ tag_in options (58 ∷ 53 ∷ d ∷ 58 ∷ s)
unfolding begins
tag_plain d s = known_lem d (58 ∷ s) 0 4 options tail size
  where
    tail : (o : PartyOption) → begins (tail_of (letter_of o)) (58 ∷ s) ≡ eqb (letter_of o) 0
    tail o = go (eqb (letter_of o) 0) refl
      where
        go : (t : Bool) → eqb (letter_of o) 0 ≡ t → begins (tail_of (letter_of o)) (58 ∷ s) ≡ eqb (letter_of o) 0
        go true e = rw (e, tail_of)
        go false e = rw (e, tail_of) (rw (no_colon o))

    size : (o : PartyOption) → eqb (letter_of o) 0 ≡ true → length (tag_of o) ≡ 4
    size o e = tag_length_lem d (58 ∷ s) o ∙ rw (e, tail_of)

-- with one
module _ (d c : ℕ) (n : c ≡ 58 → ⊥) where
  colon_not : eqb 58 c ≡ false
  colon_not = ne_eqb 58 c (λ e. n (sym e))

  pub tag_end : tag_in options (58 ∷ 53 ∷ d ∷ c ∷ []) ≡ untagged
  unfolding begins
  tag_end = tag_none d (c ∷ []) tail
    where
      tail : (o : PartyOption) → begins (tail_of (letter_of o)) (c ∷ []) ≡ false
      tail o = go (eqb (letter_of o) 0) refl
        where
          go : (t : Bool) → eqb (letter_of o) 0 ≡ t → begins (tail_of (letter_of o)) (c ∷ []) ≡ false
          go true e = rw (e, tail_of) (rw colon_not)
          go false e = rw (e, tail_of) (and-false (eqb (letter_of o) c))

  module _ (x : ℕ) (s : List ℕ) where
    pub tag_open : (x ≡ 58 → ⊥) → tag_in options (58 ∷ 53 ∷ d ∷ c ∷ x ∷ s) ≡ untagged
    unfolding begins
    tag_open m = tag_none d (c ∷ x ∷ s) tail
      where
        tail : (o : PartyOption) → begins (tail_of (letter_of o)) (c ∷ x ∷ s) ≡ false
        tail o = go (eqb (letter_of o) 0) refl
          where
            go : (t : Bool) → eqb (letter_of o) 0 ≡ t → begins (tail_of (letter_of o)) (c ∷ x ∷ s) ≡ false
            go true e = rw (e, tail_of) (rw colon_not)
            go false e = rw (e, tail_of) (rw (ne_eqb 58 x (λ q. m (sym q))) (and-false (eqb (letter_of o) c)))

  module _ (s : List ℕ) where
    lettered : (o : PartyOption) → begins (tail_of (letter_of o)) (c ∷ 58 ∷ s) ≡ (elim (eqb (letter_of o) 0) [ true ↦ false | false ↦ eqb (letter_of o) c ])
    unfolding begins
    lettered o = go (eqb (letter_of o) 0) refl
      where
        go : (t : Bool) → eqb (letter_of o) 0 ≡ t → begins (tail_of (letter_of o)) (c ∷ 58 ∷ s) ≡ (elim (eqb (letter_of o) 0) [ true ↦ false | false ↦ eqb (letter_of o) c ])
        go true e = rw (e, tail_of) (rw colon_not)
        go false e = rw (e, tail_of) (and-true (eqb (letter_of o) c))

    pub tag_zero : c ≡ 0 → tag_in options (58 ∷ 53 ∷ d ∷ c ∷ 58 ∷ s) ≡ untagged
    tag_zero z = tag_none d (c ∷ 58 ∷ s) (λ o. lettered o ∙ go o (eqb (letter_of o) 0) refl)
      where
        go : (o : PartyOption) (t : Bool) → eqb (letter_of o) 0 ≡ t → (elim (eqb (letter_of o) 0) [ true ↦ false | false ↦ eqb (letter_of o) c ]) ≡ false
        go o true e = rw e
        go o false e = rw e (rw z e)

    pub tag_letter : (c ≡ 0 → ⊥) → tag_found (known d c) s ≡ tag_in options (58 ∷ 53 ∷ d ∷ c ∷ 58 ∷ s)
    tag_letter z = known_lem d (c ∷ 58 ∷ s) c 5 options (λ o. lettered o ∙ go o (eqb (letter_of o) 0) refl) size
      where
        go : (o : PartyOption) (t : Bool) → eqb (letter_of o) 0 ≡ t → (elim (eqb (letter_of o) 0) [ true ↦ false | false ↦ eqb (letter_of o) c ]) ≡ eqb (letter_of o) c
        go o true e = rw e (sym (ne_eqb (letter_of o) c (λ q. z (sym q ∙ eqb-true (letter_of o) 0 e))))
        go o false e = rw e

        size : (o : PartyOption) → eqb (letter_of o) c ≡ true → length (tag_of o) ≡ 5
        size o e =
            let q : letter_of o ≡ c = eqb-true (letter_of o) c e in
            tag_length_lem d (c ∷ 58 ∷ s) o ∙ rw (ne_eqb (letter_of o) 0 (λ p. z (sym q ∙ p)), tail_of)

-- a tag that has an option, with all that is left of the text
pub rest_found : (text : List ℕ) (n : ℕ) {o : Option PartyOption} {p : PartyOption} → tag_found o (drop n text) ≡ tag_in options text → o ≡ Some p → tagged p (take (length text - n) (drop n text)) ≡ tag_in options text
rest_found text n {p = p} h e = ap (tagged p) (take_all (length text - n) (drop n text) (omega (arith, length-drop n text))) ∙ sym (ap (λ (o : Option PartyOption). tag_found o (drop n text)) e) ∙ h

-- ---- by the bytes of a text
split : (t : List ℕ) → 4 ≤ length t → t ≡ get_or t 0 0 ∷ get_or t 1 0 ∷ get_or t 2 0 ∷ get_or t 3 0 ∷ drop 4 t
split t h =
    drop-cons t 0 0 (omega arith)
    ∙ ap (◌∷◌ (get_or t 0 0)) (drop-cons t 1 0 (omega arith) ∙ ap (◌∷◌ (get_or t 1 0)) (drop-cons t 2 0 (omega arith) ∙ ap (◌∷◌ (get_or t 2 0)) (drop-cons t 3 0 (omega arith))))

pub at_first : (text : List ℕ) → 4 ≤ length text → (get_or text 0 0 ≡ 58 → ⊥) → tag_in options text ≡ untagged
at_first text h n = ap (tag_in options) (split text h) ∙ tag_first (get_or text 0 0) _ n

pub at_second : (text : List ℕ) → 4 ≤ length text → (get_or text 1 0 ≡ 53 → ⊥) → tag_in options text ≡ untagged
at_second text h n = ap (tag_in options) (split text h) ∙ tag_second (get_or text 0 0) (get_or text 1 0) _ n

module _ (text : List ℕ) (a : get_or text 0 0 ≡ 58) (b : get_or text 1 0 ≡ 53) where
  -- the text, by its first four bytes
  four : 4 ≤ length text → text ≡ 58 ∷ 53 ∷ get_or text 2 0 ∷ get_or text 3 0 ∷ drop 4 text
  four h =
      split text h ∙ ap (λ (x : ℕ). x ∷ get_or text 1 0 ∷ get_or text 2 0 ∷ get_or text 3 0 ∷ drop 4 text) a
      ∙ ap (λ (x : ℕ). 58 ∷ x ∷ get_or text 2 0 ∷ get_or text 3 0 ∷ drop 4 text) b

  pub at_plain : 4 ≤ length text → get_or text 3 0 ≡ 58 → tag_found (known (get_or text 2 0) 0) (drop 4 text) ≡ tag_in options text
  at_plain h c =
      let q : text ≡ 58 ∷ 53 ∷ get_or text 2 0 ∷ 58 ∷ drop 4 text = four h ∙ ap (λ (x : ℕ). 58 ∷ 53 ∷ get_or text 2 0 ∷ x ∷ drop 4 text) c in
      subst (λ (t : List ℕ). tag_found (known (get_or text 2 0) 0) (drop 4 text) ≡ tag_in options t) (sym q) (tag_plain (get_or text 2 0) (drop 4 text))

  module _ (n : get_or text 3 0 ≡ 58 → ⊥) where
    pub at_end : 4 ≤ length text → length text < 5 → tag_in options text ≡ untagged
    at_end h k = ap (tag_in options) (four h ∙ ap (λ (s : List ℕ). 58 ∷ 53 ∷ get_or text 2 0 ∷ get_or text 3 0 ∷ s) (drop_of_length-le text {i = 4} (omega arith))) ∙ tag_end (get_or text 2 0) (get_or text 3 0) n

    module _ (h : 5 ≤ length text) where
      five : text ≡ 58 ∷ 53 ∷ get_or text 2 0 ∷ get_or text 3 0 ∷ get_or text 4 0 ∷ drop 5 text
      five = four (omega arith) ∙ ap (λ (s : List ℕ). 58 ∷ 53 ∷ get_or text 2 0 ∷ get_or text 3 0 ∷ s) (drop-cons text 4 0 (omega arith))

      pub at_open : (get_or text 4 0 ≡ 58 → ⊥) → tag_in options text ≡ untagged
      at_open m = ap (tag_in options) five ∙ tag_open (get_or text 2 0) (get_or text 3 0) n (get_or text 4 0) (drop 5 text) m

      module _ (c : get_or text 4 0 ≡ 58) where
        whole : text ≡ 58 ∷ 53 ∷ get_or text 2 0 ∷ get_or text 3 0 ∷ 58 ∷ drop 5 text
        whole = five ∙ ap (λ (x : ℕ). 58 ∷ 53 ∷ get_or text 2 0 ∷ get_or text 3 0 ∷ x ∷ drop 5 text) c

        pub at_zero : get_or text 3 0 ≡ 0 → tag_in options text ≡ untagged
        at_zero z = ap (tag_in options) whole ∙ tag_zero (get_or text 2 0) (get_or text 3 0) n (drop 5 text) z

        pub at_letter : (get_or text 3 0 ≡ 0 → ⊥) → tag_found (known (get_or text 2 0) (get_or text 3 0)) (drop 5 text) ≡ tag_in options text
        at_letter z =
            subst (λ (t : List ℕ). tag_found (known (get_or text 2 0) (get_or text 3 0)) (drop 5 text) ≡ tag_in options t) (sym whole)
            (tag_letter (get_or text 2 0) (get_or text 3 0) n (drop 5 text) z)

-- a text of a tag without a letter, and one of a tag with one
pub record IsPlain (text : List ℕ) : Type 0 where
  pub size : 4 ≤ length text
  pub first : get_or text 0 0 ≡ 58
  pub second : get_or text 1 0 ≡ 53
  pub last : get_or text 3 0 ≡ 58
  pub is : tag_found (known (get_or text 2 0) 0) (drop 4 text) ≡ tag_in options text

pub record IsLettered (text : List ℕ) : Type 0 where
  pub size : 5 ≤ length text
  pub first : get_or text 0 0 ≡ 58
  pub second : get_or text 1 0 ≡ 53
  pub other : get_or text 3 0 ≡ 58 → ⊥
  pub some : get_or text 3 0 ≡ 0 → ⊥
  pub last : get_or text 4 0 ≡ 58
  pub is : tag_found (known (get_or text 2 0) (get_or text 3 0)) (drop 5 text) ≡ tag_in options text

abbrev Cases : List ℕ → Type 0
Cases text = (tag_in options text ≡ untagged) ⊎ (IsPlain text ⊎ IsLettered text)

module _ (text : List ℕ) (h : 4 ≤ length text) where
  module _ (a : get_or text 0 0 ≡ 58) (b : get_or text 1 0 ≡ 53) where
    module _ (n : get_or text 3 0 ≡ 58 → ⊥) where
      by_letter : (k : 5 ≤ length text) (c : get_or text 4 0 ≡ 58) (t : Bool) → eqb (get_or text 3 0) 0 ≡ t → Cases text
      by_letter k c true e = inl (at_zero text a b n k c (eqb-true (get_or text 3 0) 0 e))
      by_letter k c false e =
          let z = eqb-false (get_or text 3 0) 0 e in
          inr (inr (record { size = k; first = a; second = b; other = n; some = z; last = c; is = at_letter text a b n k c z }))

      by_fifth : (k : 5 ≤ length text) (t : Bool) → eqb (get_or text 4 0) 58 ≡ t → Cases text
      by_fifth k true e = by_letter k (eqb-true (get_or text 4 0) 58 e) (eqb (get_or text 3 0) 0) refl
      by_fifth k false e = inl (at_open text a b n k (eqb-false (get_or text 4 0) 58 e))

      by_more : (t : Bool) → leb 5 (length text) ≡ t → Cases text
      by_more true e = by_fifth (leb-true 5 (length text) e) (eqb (get_or text 4 0) 58) refl
      by_more false e = inl (at_end text a b n h (leb-false 5 (length text) e))

    by_fourth : (t : Bool) → eqb (get_or text 3 0) 58 ≡ t → Cases text
    by_fourth true e = let c = eqb-true (get_or text 3 0) 58 e in inr (inl (record { size = h; first = a; second = b; last = c; is = at_plain text a b h c }))
    by_fourth false e = by_more (eqb-false (get_or text 3 0) 58 e) (leb 5 (length text)) refl

  by_second : (a : get_or text 0 0 ≡ 58) (t : Bool) → eqb (get_or text 1 0) 53 ≡ t → Cases text
  by_second a true e = by_fourth a (eqb-true (get_or text 1 0) 53 e) (eqb (get_or text 3 0) 58) refl
  by_second a false e = inl (at_second text h (eqb-false (get_or text 1 0) 53 e))

  by_first : (t : Bool) → eqb (get_or text 0 0) 58 ≡ t → Cases text
  by_first true e = by_second (eqb-true (get_or text 0 0) 58 e) (eqb (get_or text 1 0) 53) refl
  by_first false e = inl (at_first text h (eqb-false (get_or text 0 0) 58 e))

-- a text starts with no tag, or is one of these
pub tag_cases : (text : List ℕ) → (tag_in options text ≡ untagged) ⊎ (IsPlain text ⊎ IsLettered text)
tag_cases text = go (leb 4 (length text)) refl
  where
    go : (t : Bool) → leb 4 (length text) ≡ t → Cases text
    go true e = by_first text (leb-true 4 (length text) e) (eqb (get_or text 0 0) 58) refl
    go false e = inl (tag_short text (leb-false 4 (length text) e))
