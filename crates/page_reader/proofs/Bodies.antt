-- The bytes at a body's place are the body that the read hands back. Assumes nothing.
use mathlib.Core.Path.{◌≡◌, refl, sym, ◌∙◌, ap, subst}
use mathlib.Core.Bool.{Bool, true, false}
use mathlib.Core.List.{List, [], ◌∷◌}
use Prim.Native.Nat.{ℕ, ◌+◌, ◌-◌, ◌≤◌}
use native.Mathlib.Omega.{arith}
use lib.Dec.{ltb, leb}
use lib.ListN.{length, take, drop, length-take, length-drop}
use lib.Seq.{take_all, take-take}
use borrow.Author.Tests.{leb-true, leb-false}
use Rattle.party.specs.declared.Part.{Part}
use Rattle.party.specs.declared.PartyOption.{PartyOption}
use Rattle.party.specs.Limits.{options}
use Rattle.swift_utils.proofs.Parts.{part, part_length, part_none, part_drop}
use Rattle.field_utils.specs.Tags.{tag_of}
use Rattle.field_utils.proofs.Places.{without_cr_part}
use Rattle.page_reader.specs.declared.ReadCase.{ReadCase}
use Rattle.page_reader.specs.declared.ReadCase.TheVariants.{TooLong, NoStart, AtLength, Opening, Ending, Stray}
use Rattle.page_reader.specs.Pages.{page_most, less_cr, past, begins, Tagged, untagged, tagged, tag_in, read_tagged, read_field, text_in, read_case, read_by, read_at, no_body, body_in, place_by, body_place}
use Rattle.page_reader.proofs.Cases.{case_long, Ends, stands}

-- a body is what follows some bytes of its field's text
record Rest (text body : List ℕ) : Type 0 where
  skip : ℕ
  is : body ≡ drop skip text

abbrev RestOf : List ℕ → Tagged → Type 0
RestOf text untagged = Unit {0}
RestOf text (tagged o body) = Rest text body

tag_rest : (os : List PartyOption) (text : List ℕ) → RestOf text (tag_in os text)
unfolding tag_in
tag_rest [] text = tt
tag_rest (o ∷ os) text = go (begins (tag_of o) text) (tag_rest os text)
  where
    go : (t : Bool) → RestOf text (tag_in os text) → RestOf text (elim t [ true ↦ tagged o (drop (length (tag_of o)) text) | false ↦ tag_in os text ])
    go true h = record { skip = length (tag_of o); is = refl }
    go false h = h

pub body_short : (text : List ℕ) {o : PartyOption} {body : List ℕ} → tagged o body ≡ tag_in options text → length body ≤ length text
body_short text e = let r = subst (RestOf text) (sym e) (tag_rest options text) in omega (arith, ap length r.is, length-drop r.skip text)

-- what stands at a place
pub record There (page : List ℕ) (place : Part) (body : List ℕ) : Type 0 where
  pub within : place.start + place.len ≤ length page
  pub bytes : take place.len (drop place.start page) ≡ body

-- and in the slice from the place's start to its end
pub part_there : {page : List ℕ} {p : Part} {body : List ℕ} → There page p body → take (p.start + p.len - p.start) (drop p.start page) ≡ body
part_there {page} {p} h = let n : p.start + p.len - p.start ≡ p.len = omega arith in ap (λ (k : ℕ). take k (drop p.start page)) n ∙ h.bytes

-- ---- a field's text is a part of the page
less_part : (t : Bool) (l : List ℕ) → less_cr t l ≡ take (length (less_cr t l)) l
less_part true l = without_cr_part l
less_part false l = sym (take_all (length l) l (omega arith))

less_short : (t : Bool) (l : List ℕ) → length (less_cr t l) ≤ length l
less_short t l = omega (arith, ap length (less_part t l), length-take (length (less_cr t l)) l)

module _ (page : List ℕ) (at to : ℕ) (h : at ≤ to) (w : to ≤ length page) where
  abbrev text : List ℕ
  text = text_in page at to

  pub text_within : at + length text ≤ to
  text_within = omega (arith, less_short (ltb to (length page)) (part at to page), part_length at to page w)

  text_part : text ≡ part at (at + length text) page
  text_part =
      less_part (ltb to (length page)) (part at to page)
      ∙ take-take (length text) (to - at) (drop at page) (omega (arith, text_within))
      ∙ ap (λ (n : ℕ). take n (drop at page)) (let z : length text ≡ at + length text - at = omega arith in z)

module _ (page : List ℕ) (at to : ℕ) (h : at ≤ to) (w : to ≤ length page) where
  rest_there : (body : List ℕ) → Rest (part at to page) body → There page (record { start = to - length body; len = length body }) body
  rest_there body r =
      let k = r.skip in
      let n : length body ≡ to - at - k = ap length r.is ∙ (length-drop k (part at to page) ∙ ap (λ (m : ℕ). m - k) (part_length at to page w)) in
      let d : body ≡ part (at + k) to page = r.is ∙ part_drop k at to page in
      record { within = omega (arith, n, h, w); bytes = go (leb (at + k) to) refl n d }
    where
      go : (t : Bool) → leb (at + r.skip) to ≡ t → length body ≡ to - at - r.skip → body ≡ part (at + r.skip) to page → take (length body) (drop (to - length body) page) ≡ body
      go true e n d =
          let l = leb-true (at + r.skip) to e in
          let a : to - length body ≡ at + r.skip = omega (arith, n, l, h) in
          let m : length body ≡ to - (at + r.skip) = omega (arith, n, l) in
          ap (λ (x : ℕ). take (length body) (drop x page)) a ∙ (ap (λ (x : ℕ). take x (drop (at + r.skip) page)) m ∙ sym d)
      go false e n d =
          let l = leb-false (at + r.skip) to e in
          let z : length body ≡ 0 = omega (arith, n, l) in
          ap (λ (x : ℕ). take x (drop (to - length body) page)) z ∙ sym (d ∙ part_none (at + r.skip) to page (omega (arith, l)))

  tagged_there : (t : Tagged) (next : ℕ) → RestOf (part at to page) t → There page (body_in t to) (read_tagged t next).body
  tagged_there untagged next r = record { within = omega arith; bytes = refl }
  tagged_there (tagged o body) next r = rest_there body r

module _ (page : List ℕ) (at : ℕ) where
  pub place_by_lem : {x : ReadCase} → read_case page at ≡ x → body_place page at ≡ place_by x page at
  unfolding body_place
  place_by_lem e = ap (λ (x : ReadCase). place_by x page at) e

  -- there is none where no field opens
  pub place_none : ((to : ℕ) → read_case page at ≡ Opening to → ⊥) → body_place page at ≡ no_body
  unfolding body_place
  place_none n = go (read_case page at) refl
    where
      go : (x : ReadCase) → read_case page at ≡ x → place_by x page at ≡ no_body
      go TooLong e = refl
      go NoStart e = refl
      go AtLength e = refl
      go (Opening to) e = absurd (n to e)
      go (Ending to) e = refl
      go (Stray to) e = refl

  nothing : There page no_body []
  nothing = record { within = omega arith; bytes = refl }

  -- the bytes at the body's place are the body
  pub body_there : There page (body_place page at) (read_at page at).body
  unfolding body_place read_at read_field
  body_there = go (read_case page at) (stands page at)
    where
      go : (x : ReadCase) → Ends page at x → There page (place_by x page at) (read_by x page at).body
      go TooLong h = nothing
      go NoStart h = nothing
      go AtLength h = nothing
      go (Opening to) h =
          let x = text_in page at to in
          let n = text_within page at to h.from h.most in
          tagged_there page at (at + length x) (omega arith) (omega (arith, n, h.most)) (tag_in options x) (past page to)
          (subst (λ (y : List ℕ). RestOf y (tag_in options x)) (text_part page at to h.from h.most) (tag_rest options x))
      go (Ending to) h = nothing
      go (Stray to) h = nothing

  -- so are they at a place that a call gave
  pub place_there : {p : Part} → p ≡ body_place page at → There page p (read_at page at).body
  place_there e = subst (λ (p : Part). There page p (read_at page at).body) (sym e) body_there

  -- it stands among the first 32,768 bytes
  pub body_most_lem : (body_place page at).start + (body_place page at).len ≤ page_most
  body_most_lem = go (leb (length page) page_most) refl
    where
      go : (t : Bool) → leb (length page) page_most ≡ t → (body_place page at).start + (body_place page at).len ≤ page_most
      go true e = omega (arith, body_there.within, leb-true (length page) page_most e)
      go false e = rw (place_by_lem (case_long page at (leb-false (length page) page_most e))) (omega arith)
