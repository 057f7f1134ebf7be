-- Which case a read is, byte by byte, and what an answer of the code says of it. Assumes nothing.
use mathlib.Core.Path.{◌≡◌, refl, sym, ◌∙◌, ap, subst}
use mathlib.Core.Bool.{Bool, true, false, ◌&&◌, ◌||◌, true≢false}
use mathlib.Core.List.{List, [], ◌∷◌, ◌++◌, append-nil}
use Prim.Native.Nat.{ℕ, suc, ◌+◌, ◌≤◌, ◌<◌}
use native.Mathlib.Omega.{arith}
use Rattle.std.specs.Prelude.{Option, Some, Result, Ok, Err}
use Rattle.std.proofs.lemmas.List.{get_or_past}
use lib.Dec.{leb, eqb}
use lib.ListN.{length, drop, get_or, length-take, length-drop, take-append-drop, drop_of_length-le}
use lib.Seq.{drop-cons, drop-drop}
use borrow.Author.Tests.{eqb-true, ne_eqb, le-leb, lt-leb, leb-true, leb-false}
use Rattle.errors.specs.declared.ParseError.{ParseError}
use Rattle.errors.specs.Refusals.{Reply, accepted, refused, told}
use Rattle.party.specs.declared.PartyOption.{PartyOption}
use Rattle.party.specs.declared.Party.{Party}
use Rattle.party.specs.Limits.{options}
use Rattle.field_utils.specs.Lines.{upto, starts, is_empty}
use Rattle.field_utils.proofs.Places.{upto_length}
use Rattle.reader.specs.Reading.{Into, storing, read_into, told_into}
use Rattle.reader.specs.Options.{read}
use Rattle.std.specs.Array.{IsFirstChunk}
use Rattle.record_bytes.specs.RecordBytes.{record_size, encoded}
use Rattle.record_bytes.proofs.Laws.{stored_whole}
use Rattle.reader.proofs.Into.{into_whole, replied}
use Rattle.page_reader.specs.declared.PageRead.{PageRead as ReadAt}
use Rattle.page_reader.specs.declared.Tag.{Tag}
use Rattle.page_reader.specs.declared.ReadCase.{ReadCase}
use Rattle.page_reader.specs.declared.ReadCase.TheVariants.{TooLong, NoStart, AtLength, Opening, Ending, Stray}
use Rattle.page_reader.specs.Pages.{page_most, line_at, opens, has_lf, ends_at, runs, Tagged, untagged, tagged, tag_in, ReadOutcome, a_record, the_end, a_refusal, PageRead, outcome_of, read_tagged, read_field, readable, line_case, rest_case, read_case, read_by, read_at, read_lent, read_bytes, Kind, kind_of, outline, told_kind, told_read_into}
use Rattle.page_reader.specs.Index.{told_body}
use Rattle.page_reader.specs.Code.{told_tag}
use Rattle.page_reader.proofs.EndLines.{not_both}
use Rattle.page_reader.proofs.Runs.{followed, runs_end, runs_lf, runs_more}

-- ---- the first line of a text
opens_cons : (b : ℕ) (s : List ℕ) → opens (line_at (b ∷ s)) ≡ eqb b 58
unfolding line_at upto starts
opens_cons b s = go (eqb b 10) refl
  where
    go : (t : Bool) → eqb b 10 ≡ t → opens (line_at (b ∷ s)) ≡ eqb b 58
    go true e = rw (e, upto) (sym (ne_eqb b 58 (λ f. omega (arith, f, eqb-true b 10 e))))
    go false e = rw (e, upto)

pub opens_by : (page : List ℕ) (at : ℕ) → opens (line_at (drop at page)) ≡ eqb (get_or page at 0) 58
unfolding line_at upto starts
opens_by page at = go (leb (length page) at) refl
  where
    go : (t : Bool) → leb (length page) at ≡ t → opens (line_at (drop at page)) ≡ eqb (get_or page at 0) 58
    go true e = let h = leb-true (length page) at e in rw (drop_of_length-le page h, get_or_past page at 0 h)
    go false e = ap (λ (s : List ℕ). opens (line_at s)) (drop-cons page at 0 (leb-false (length page) at e)) ∙ opens_cons (get_or page at 0) (drop (suc at) page)

-- ---- how far a field runs
pub runs_most : (s : List ℕ) → runs s ≤ length s
unfolding runs
runs_most [] = omega arith
runs_most (b ∷ s) = go (eqb b 10 && followed s) refl (runs_most s)
  where
    go : (t : Bool) → (eqb b 10 && followed s) ≡ t → runs s ≤ length s → runs (b ∷ s) ≤ suc (length s)
    go true e h = rw (e, runs) (omega arith)
    go false e h = rw (e, runs) (omega arith)

-- from a position on, where the LF stands at lf
module _ (page : List ℕ) (i lf : ℕ) (e : lf ≡ i + upto 10 (drop i page)) (h : i ≤ length page) where
  to_end : length page ≤ lf → lf ≡ i + runs (drop i page)
  to_end k =
      let n = length-drop i page in
      let u : length (drop i page) ≤ upto 10 (drop i page) = omega (arith, n, e, k) in
      omega (arith, runs_end (drop i page) u, n, e, k, upto_length 10 (drop i page))

  module _ (k : lf < length page) where
    inside : upto 10 (drop i page) < length (drop i page)
    inside = omega (arith, length-drop i page, e, k)

    after : drop (suc (upto 10 (drop i page))) (drop i page) ≡ drop (lf + 1) page
    after = drop-drop (suc (upto 10 (drop i page))) i page ∙ ap (λ (n : ℕ). drop n page) (let q : i + suc (upto 10 (drop i page)) ≡ lf + 1 = omega (arith, e) in q)

    pub to_lf : followed (drop (lf + 1) page) ≡ true → lf ≡ i + runs (drop i page)
    to_lf f = omega (arith, e, runs_lf (drop i page) inside (ap followed after ∙ f))

    pub to_more : followed (drop (lf + 1) page) ≡ false → i + runs (drop i page) ≡ lf + 1 + runs (drop (lf + 1) page)
    to_more f = omega (arith, e, runs_more (drop i page) inside (ap followed after ∙ f), ap runs after)

-- what follows an LF
module _ (page : List ℕ) (at : ℕ) where
  followed_none : length page ≤ at → followed (drop at page) ≡ true
  followed_none h = rw (drop_of_length-le page h)

  pub followed_line : {a b : Bool} → at < length page → opens (line_at (drop at page)) ≡ a → ends_at (drop at page) ≡ b → followed (drop at page) ≡ (a || b)
  followed_line h p q =
      let s : is_empty (drop at page) ≡ false = ap is_empty (drop-cons page at 0 h) in
      rw (s, p, q)

-- no LF stands there, or the last byte is one
pub to_last : (page : List ℕ) (i lf : ℕ) → lf ≡ i + upto 10 (drop i page) → i ≤ length page → length page ≤ lf + 1 → lf ≡ i + runs (drop i page)
to_last page i lf e h k = go (leb (length page) lf) refl
  where
    go : (t : Bool) → leb (length page) lf ≡ t → lf ≡ i + runs (drop i page)
    go true q = to_end page i lf e h (leb-true (length page) lf q)
    go false q = to_lf page i lf e h (leb-false (length page) lf q) (followed_none page (lf + 1) k)

-- ---- which case a read is
pub rest_some : (s : List ℕ) (at : ℕ) → is_empty s ≡ false → rest_case s at ≡ line_case s at
rest_some [] at e = absurd (true≢false e)
rest_some (b ∷ s) at e = refl

module _ (page : List ℕ) (at : ℕ) where
  pub case_long : page_most < length page → read_case page at ≡ TooLong
  unfolding read_case
  case_long h = rw (lt-leb (length page) page_most h, read_case)

  module _ (h : length page ≤ page_most) where
    fits : leb (length page) page_most ≡ true
    fits = le-leb (length page) page_most h

    pub case_none : readable page at ≡ false → read_case page at ≡ NoStart
    unfolding read_case
    case_none e = rw (fits, read_case) (rw e)

    module _ (r : readable page at ≡ true) where
      pub case_length : length page ≤ at → read_case page at ≡ AtLength
      unfolding read_case
      case_length k = rw (fits, read_case) (rw r (rw (drop_of_length-le page k)))

      module _ (k : at < length page) where
        left_over : rest_case (drop at page) at ≡ line_case (drop at page) at
        left_over = rest_some (drop at page) at (ap is_empty (drop-cons page at 0 k))

        pub case_opening : opens (line_at (drop at page)) ≡ true → read_case page at ≡ Opening (at + runs (drop at page))
        unfolding read_case
        case_opening e = rw (fits, read_case) (rw r (left_over ∙ rw (e, line_case)))

        pub case_ending : ends_at (drop at page) ≡ true → read_case page at ≡ Ending (at + upto 10 (drop at page))
        unfolding read_case
        case_ending f = rw (fits, read_case) (rw r (left_over ∙ rw (not_both (has_lf (drop at page)) (line_at (drop at page)) f, line_case) (rw f)))

        pub case_stray : opens (line_at (drop at page)) ≡ false → ends_at (drop at page) ≡ false → read_case page at ≡ Stray (at + runs (drop at page))
        unfolding read_case
        case_stray e f = rw (fits, read_case) (rw r (left_over ∙ rw (e, line_case) (rw f)))

-- what stands at a position ends after it and within the page
pub record Stands (page : List ℕ) (at to : ℕ) : Type 0 where
  pub within : at < length page
  pub from : at ≤ to
  pub most : to ≤ length page

abbrev pub Ends : List ℕ → ℕ → ReadCase → Type 0
Ends page at TooLong = Unit {0}
Ends page at NoStart = Unit {0}
Ends page at AtLength = Unit {0}
Ends page at (Opening to) = Stands page at to
Ends page at (Ending to) = Stands page at to
Ends page at (Stray to) = Stands page at to

module _ (page : List ℕ) (at : ℕ) where
  ended : (n : ℕ) → 0 < length (drop at page) → n ≤ length (drop at page) → Stands page at (at + n)
  ended n h k = let d = length-drop at page in record { within = omega (arith, d, h); from = omega arith; most = omega (arith, d, h, k) }

  pub stands : Ends page at (read_case page at)
  unfolding read_case
  stands = go (leb (length page) page_most) (readable page at) (drop at page) refl
    where
      line : (s : List ℕ) → drop at page ≡ s → 0 < length s → (a b : Bool)
          → Ends page at (elim a as (λ x. ReadCase) [ true ↦ Opening (at + runs s) | false ↦ elim b as (λ x. ReadCase) [ true ↦ Ending (at + upto 10 s) | false ↦ Stray (at + runs s) ] ])
      line s e h true b = ended (runs s) (omega (arith, ap length e, h)) (omega (arith, ap length e, runs_most s))
      line s e h false true = ended (upto 10 s) (omega (arith, ap length e, h)) (omega (arith, ap length e, upto_length 10 s))
      line s e h false false = ended (runs s) (omega (arith, ap length e, h)) (omega (arith, ap length e, runs_most s))

      go : (a b : Bool) (s : List ℕ) → drop at page ≡ s
          → Ends page at (elim a as (λ x. ReadCase) [ true ↦ elim b as (λ x. ReadCase) [ true ↦ rest_case s at | false ↦ NoStart ] | false ↦ TooLong ])
      go false b s e = tt
      go true false s e = tt
      go true true [] e = tt
      go true true (c ∷ s) e = line (c ∷ s) e (omega arith) (opens (line_at (c ∷ s))) (ends_at (c ∷ s))

-- ---- what an answer of the code says of a read into lent bytes, which were d and are e
abbrev pub Leaves : Kind → ReadOutcome → List ℕ → List ℕ → Type 0
Leaves k o d e = (k ≡ kind_of o) × (e ≡ read_bytes o d)

abbrev pub Tells : ReadAt (Unit {0}) → PageRead → List ℕ → List ℕ → Type 0
Tells r x d e = (told_read_into r ≡ outline x) × (e ≡ read_bytes x.outcome d)

-- a read into the first 241 of them
front_bytes : (o : ReadOutcome) (d : List ℕ) {r : List ℕ} → IsFirstChunk d r record_size → read_bytes o r ++ drop record_size d ≡ read_bytes o d
front_bytes (a_record p) d {r} h =
    let n : length r ≡ record_size = omega (arith, ap length h.same, length-take record_size d, h.enough) in
    ap (λ (l : List ℕ). l ++ drop record_size d) (stored_whole p r (omega (arith, n)) ∙ ap (λ (l : List ℕ). encoded p ++ l) (drop_of_length-le r {i = record_size} (omega (arith, n))) ∙ append-nil (encoded p))
    ∙ sym (stored_whole p d h.enough)
front_bytes the_end d h = ap (λ (l : List ℕ). l ++ drop record_size d) h.same ∙ take-append-drop record_size d
front_bytes (a_refusal k n) d h = ap (λ (l : List ℕ). l ++ drop record_size d) h.same ∙ take-append-drop record_size d

pub tells_front : (r : ReadAt (Unit {0})) (x : PageRead) (d : List ℕ) {b e : List ℕ} → IsFirstChunk d b record_size → Tells r x b e → Tells r x d (e ++ drop record_size d)
tells_front r x d h t = (t.0, ap (λ (l : List ℕ). l ++ drop record_size d) t.1 ∙ front_bytes x.outcome d h)

-- from a case to the read at a position
module _ (page : List ℕ) (at : ℕ) {x : ReadCase} (e : read_case page at ≡ x) where
  pub by_case : read_at page at ≡ read_by x page at
  unfolding read_at
  by_case = ap (λ (y : ReadCase). read_by y page at) e

  pub tells_by : (r : ReadAt (Unit {0})) (d : List ℕ) {f : List ℕ} → Tells r (read_by x page at) d f → Tells r (read_at page at) d f
  tells_by r d {f} h = subst (λ (y : PageRead). Tells r y d f) (sym by_case) h

  pub ends_by : Ends page at x
  ends_by = subst (Ends page at) e (stands page at)

-- a field's read by its tag; its next position, on which nothing else hangs
tagged_next : (t : Tagged) (next : ℕ) → (read_tagged t next).next ≡ next
tagged_next untagged next = refl
tagged_next (tagged o body) next = refl

tagged_outcome : (t : Tagged) (next n : ℕ) → (read_tagged t next).outcome ≡ (read_tagged t n).outcome
tagged_outcome untagged next n = refl
tagged_outcome (tagged o body) next n = refl

module _ (text : List ℕ) (next : ℕ) where
  pub field_tagged : {t : Tagged} → t ≡ tag_in options text → read_field text next ≡ read_tagged t next
  unfolding read_field
  field_tagged q = ap (λ (t : Tagged). read_tagged t next) (sym q)

  pub field_next : (read_field text next).next ≡ next
  unfolding read_field
  field_next = tagged_next (tag_in options text) next

  pub field_tells : (r : ReadAt (Unit {0})) (d : List ℕ) {e : List ℕ} → r.next ≡ next → Leaves (told_kind r.outcome) (read_field text 0).outcome d e → Tells r (read_field text next) d e
  unfolding read_field
  field_tells r d n h =
      let q = tagged_outcome (tag_in options text) 0 next in (
        (λ i. record { kind = (h.0 ∙ ap kind_of q) i; next = (n ∙ sym field_next) i }),
        h.1 ∙ ap (λ (o : ReadOutcome). read_bytes o d) q,
      )

-- ---- a field's body by its option's reader
body_kind : (w : Result (Unit {0}) ParseError) (p : Party) → told_body w ≡ kind_of (outcome_of (told w) p)
body_kind (Ok t) p = refl
body_kind (Err e) p = refl

stored_bytes : (q : Reply) (p : Party) (d : List ℕ) → (storing q p d).bytes ≡ read_bytes (outcome_of q p) d
stored_bytes accepted p d = refl
stored_bytes (refused k n) p d = refl

pub body_leaves : (o : PartyOption) (body : List ℕ) (next : ℕ) (w : Result (Unit {0}) ParseError) (d : List ℕ) {e : List ℕ} → record_size ≤ length d → told_into w e ≡ read_into (read o body) d
    → Leaves (told_body w) (read_tagged (tagged o body) next).outcome d e
body_leaves o body next w d size into =
    let r = read o body in
    let h = into ∙ into_whole r d size in (
      body_kind w r.party ∙ ap (λ (y : Reply). kind_of (outcome_of y r.party)) (replied r d w h),
      ap (λ (i : Into). i.bytes) h ∙ stored_bytes r.reply r.party d,
    )

-- a field whose tag is found
pub field_leaves : (text : List ℕ) {o : Option Tag} {t : Tag} → told_tag o ≡ tag_in options text → o ≡ Some t → (w : Result (Unit {0}) ParseError) (d : List ℕ) {e : List ℕ}
    → record_size ≤ length d → told_into w e ≡ read_into (read t.option t.body.now) d → Leaves (told_body w) (read_field text 0).outcome d e
field_leaves text {t = t} found is w d {e} size into =
    subst (λ (x : PageRead). Leaves (told_body w) x.outcome d e) (sym (field_tagged text 0 (ap told_tag (sym is) ∙ found))) (body_leaves t.option t.body.now 0 w d size into)

-- ---- by the bytes that are lent
pub lent_whole : (page : List ℕ) (at : ℕ) (d : List ℕ) → record_size ≤ length d → read_lent page at d ≡ read_at page at
lent_whole page at d h = rw (le-leb record_size (length d) h)
