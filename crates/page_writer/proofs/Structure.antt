-- A page of fields with any tail: where each field opens, what its read gives, and where the next is. Assumes nothing.
use mathlib.Core.Path.{◌≡◌, refl, sym, ◌∙◌, ap, subst}
use mathlib.Core.Bool.{true, false, or-true, false≢true}
use mathlib.Core.List.{List, [], ◌∷◌, ◌++◌, append_assoc, append-nil}
use Prim.Native.Nat.{ℕ, suc, ◌+◌, ◌≤◌, ◌<◌}
use native.Mathlib.Omega.{arith}
use lib.Dec.{eqb}
use lib.ListN.{length, length-append}
use lib.Seq.{get_or-append_seam, get_or-append-add}
use Rattle.party.specs.Limits.{options}
use Rattle.field_utils.specs.Lines.{upto, starts, is_empty, without_cr}
use Rattle.field_utils.proofs.Tests.{Line}
use Rattle.writer.specs.Writing.{joined}
use Rattle.writer.proofs.Relined.{All}
use Rattle.page_reader.specs.Pages.{page_most, line_at, opens, is_end, ends_page, ends_at, runs, past, tag_in, ReadOutcome, the_end, a_refusal, PageRead, bodiless, read_field, starts_line, read_at}
use Rattle.page_reader.specs.Index.{no_field, tagged_as, field_at}
use Rattle.page_reader.proofs.Cases.{field_next}
use Rattle.page_reader.proofs.Starts.{Opens, opens_read, opens_met, read_length, meets_length, opening, read_ending, meets_ending}
use Rattle.page_reader.proofs.Runs.{followed}
use Rattle.page_writer.specs.Adding.{any_boundary, with_lf, end_line}
use Rattle.page_writer.specs.Delivered.{IsEndLine}
use Rattle.page_writer.specs.WholePage.{Field, text_of, page_of, Gives, ReadsAs}
use Rattle.page_writer.proofs.Pieces.{up_to_boundary, none_cut, runs_cut, text_cut, cut_within, first_cut}

-- ---- the start of a line
starts_after : (q : List ℕ) → starts_line (with_lf q) (length (with_lf q)) ≡ true
starts_after q =
    let n : length (with_lf q) ≡ suc (length q) = let k = length-append q (10 ∷ []) in omega arith in
    ap (starts_line (with_lf q)) n ∙ ap (λ (c : ℕ). eqb c 10) (get_or-append_seam q 10 [] 0)

starts_append : (x y : List ℕ) → starts_line x (length x) ≡ true → starts_line y (length y) ≡ true → starts_line (x ++ y) (length (x ++ y)) ≡ true
starts_append x [] a b = ap (λ (l : List ℕ). starts_line l (length l)) (append-nil x) ∙ a
starts_append x (c ∷ y) a b =
    let n : length (x ++ c ∷ y) ≡ suc (length x + length y) = let k = length-append x (c ∷ y) in omega arith in
    ap (starts_line (x ++ c ∷ y)) n ∙ (ap (λ (d : ℕ). eqb d 10) (get_or-append-add x (c ∷ y) (length y) 0) ∙ b)

-- ---- a field of lines
opens_some : (l rest : List ℕ) → opens l ≡ true → 0 < length (l ++ rest)
unfolding starts
opens_some [] rest e = absurd (false≢true e)
opens_some (b ∷ l) rest e = omega arith

joined_some : (l : List ℕ) (ls : List (List ℕ)) (rest : List ℕ) → opens l ≡ true → 0 < length (joined (l ∷ ls) ++ rest)
unfolding joined
joined_some l [] rest e = opens_some l rest e
joined_some l (m ∷ ms) rest e = omega (arith, opens_some l (10 ∷ joined (m ∷ ms)) e, length-append (l ++ 10 ∷ joined (m ∷ ms)) rest)

-- a field of lines is read up to the first later line that is an opening or end line
module _ (l : List ℕ) (ls : List (List ℕ)) (rest : List ℕ) (h : All Line (l ∷ ls)) (o : opens l ≡ true) (e : followed rest ≡ true) (pre : List ℕ) (a : starts_line pre (length pre) ≡ true) where
  abbrev t : List ℕ
  t = joined (l ∷ ls) ++ 10 ∷ rest

  abbrev cut : List ℕ
  cut = joined (l ∷ up_to_boundary ls)

  pub opens_cut : length (pre ++ t) ≤ page_most → Opens (pre ++ t) (length pre) (without_cr cut) (length pre + suc (length cut))
  opens_cut m =
      let at = length pre in
      let f : opens (line_at t) ≡ true = ap opens (first_cut l ls rest h e) ∙ o in
      let w = cut_within l ls rest h e in
      let y : past (pre ++ t) (at + runs t) ≡ at + suc (length cut) = omega (arith, length-append pre t, w, runs_cut l ls rest h e) in
      let k = opening pre t a m (joined_some l ls (10 ∷ rest) o) f (omega (arith, w)) in
      record { to = k.to; case = k.case; reads = k.reads ∙ ap without_cr (text_cut l ls rest h e); leads = k.leads ∙ y }

-- ---- fields
-- a text of lines that opens a field
pub record Lined (text : List ℕ) : Type 0 where
  pub first : List ℕ
  pub later : List (List ℕ)
  pub joins : text ≡ joined (first ∷ later)
  pub lines : All Line (first ∷ later)
  pub opening : opens first ≡ true

-- a field that keeps its neighbours: no later line is an opening or end line, and its text without a CR is read as the field says
pub record Sound (f : Field) : Type 0 where
  pub lined : Lined (text_of f)
  pub bounded : any_boundary lined.later ≡ false
  pub gives : (next : ℕ) → Gives (read_field (without_cr (text_of f)) next) f

-- ---- the fields of a page, and its tail
pub page_append : (fs gs : List Field) (tail : List ℕ) → page_of (fs ++ gs) tail ≡ page_of fs [] ++ page_of gs tail
unfolding page_of
page_append [] gs tail = refl
page_append (f ∷ fs) gs tail = ap (◌++◌ (with_lf (text_of f))) (page_append fs gs tail) ∙ sym (append_assoc (with_lf (text_of f)) (page_of fs []) (page_of gs tail))

pub page_tail : (fs : List Field) (tail : List ℕ) → page_of fs tail ≡ page_of fs [] ++ tail
unfolding page_of
page_tail fs tail = ap (λ (x : List Field). page_of x tail) (sym (append-nil fs)) ∙ page_append fs [] tail

pub fields_start : (fs : List Field) → starts_line (page_of fs []) (length (page_of fs [])) ≡ true
unfolding page_of
fields_start [] = refl
fields_start (f ∷ fs) = starts_append (with_lf (text_of f)) (page_of fs []) (starts_after (text_of f)) (fields_start fs)

-- a page by the lines of its first field
pub lined_page : (f : Field) (d : Lined (text_of f)) (fs : List Field) (tail : List ℕ) → page_of (f ∷ fs) tail ≡ joined (d.first ∷ d.later) ++ 10 ∷ page_of fs tail
unfolding page_of
lined_page f d fs tail = append_assoc (text_of f) (10 ∷ []) (page_of fs tail) ∙ ap (λ (x : List ℕ). x ++ 10 ∷ page_of fs tail) d.joins

-- what may follow fields, and what reading it gives: nothing and 17; our end line and more, or any end line, and the end
pub data Tail : List ℕ → ReadOutcome → ℕ → Type 0 where
  nothing : Tail [] (a_refusal 17 0) 0
  ending : (more : List ℕ) → Tail (end_line ++ more) the_end 2
  whole : (e : List ℕ) → IsEndLine e → Tail e the_end (length e)

pub tail_followed : {tail : List ℕ} {last : ReadOutcome} {n : ℕ} → Tail tail last n → followed tail ≡ true
unfolding line_at upto starts without_cr is_end ends_page
tail_followed nothing = refl
tail_followed (ending more) = refl
tail_followed (whole e h) = rw (h.ends, or-true (opens (line_at e))) (or-true (is_empty e))

ends_some : (e : List ℕ) → ends_at e ≡ true → 0 < length e
unfolding line_at upto is_end ends_page
ends_some [] h = absurd (false≢true h)
ends_some (b ∷ e) h = omega arith

tail_read : {tail : List ℕ} {last : ReadOutcome} {n : ℕ} → Tail tail last n → (pre : List ℕ) → starts_line pre (length pre) ≡ true → length (pre ++ tail) ≤ page_most
    → read_at (pre ++ tail) (length pre) ≡ bodiless last (length pre + n)
unfolding line_at upto starts without_cr is_end ends_page
tail_read nothing pre a m = read_length pre [] a m refl ∙ ap (bodiless (a_refusal 17 0)) (let z : length pre ≡ length pre + 0 = omega arith in z)
tail_read (ending more) pre a m =
    read_ending pre (end_line ++ more) a m (omega arith) refl ∙ ap (bodiless the_end) (let z : past (pre ++ (end_line ++ more)) (length pre + 1) ≡ length pre + 2 = omega (arith, length-append pre (end_line ++ more)) in z)
tail_read (whole e h) pre a m =
    read_ending pre e a m (ends_some e h.ends) h.ends ∙ ap (bodiless the_end) (let z : past (pre ++ e) (length pre + upto 10 e) ≡ length pre + length e = omega (arith, length-append pre e, h.whole) in z)

tail_met : {tail : List ℕ} {last : ReadOutcome} {n : ℕ} → Tail tail last n → (pre : List ℕ) → starts_line pre (length pre) ≡ true → length (pre ++ tail) ≤ page_most
    → field_at (pre ++ tail) (length pre) ≡ no_field
unfolding line_at upto starts without_cr is_end ends_page
tail_met nothing pre a m = meets_length pre [] a m refl
tail_met (ending more) pre a m = meets_ending pre (end_line ++ more) a m (omega arith) refl
tail_met (whole e h) pre a m = meets_ending pre e a m (ends_some e h.ends) h.ends

module _ {tail : List ℕ} {last : ReadOutcome} {n : ℕ} (t : Tail tail last n) where
  -- a page begins with an opening or end line, or is empty
  page_followed : (fs : List Field) → All Sound fs → followed (page_of fs tail) ≡ true
  unfolding page_of
  page_followed [] h = tail_followed t
  page_followed (f ∷ fs) h =
      let d = h.0.lined in
      let s = joined (d.first ∷ d.later) ++ 10 ∷ page_of fs tail in
      let q : page_of (f ∷ fs) tail ≡ s = lined_page f d fs tail in
      let m : line_at s ≡ d.first = first_cut d.first d.later (page_of fs tail) d.lines (page_followed fs h.1) in
      ap followed q ∙ rw m (rw d.opening (or-true (is_empty s)))

  -- where a field opens after other bytes, its text is read without a CR, and the next position is past its LF
  field_opens : (f : Field) → Sound f → (fs : List Field) → All Sound fs → (pre : List ℕ) → starts_line pre (length pre) ≡ true
      → length (pre ++ page_of (f ∷ fs) tail) ≤ page_most → Opens (pre ++ page_of (f ∷ fs) tail) (length pre) (without_cr (text_of f)) (length pre + length (with_lf (text_of f)))
  field_opens f s fs h pre a m =
      let d = s.lined in
      let at = length pre in
      let q = lined_page f d fs tail in
      let x : joined (d.first ∷ up_to_boundary d.later) ≡ text_of f = ap (λ (ls : List (List ℕ)). joined (d.first ∷ ls)) (none_cut d.later s.bounded) ∙ sym d.joins in
      let k : at + suc (length (text_of f)) ≡ at + length (with_lf (text_of f)) = omega (arith, length-append (text_of f) (10 ∷ [])) in
      let c = opens_cut d.first d.later (page_of fs tail) d.lines d.opening (page_followed fs h) pre a (subst (λ (y : List ℕ). length (pre ++ y) ≤ page_most) q m) in
      subst (λ (y : List ℕ). Opens (pre ++ y) at (without_cr (text_of f)) (at + length (with_lf (text_of f)))) (sym q)
      (record { to = c.to; case = c.case; reads = c.reads ∙ ap without_cr x; leads = c.leads ∙ ap (λ (y : List ℕ). at + suc (length y)) x ∙ k })

-- the structure of a page of fields and a tail: each field opens at the length of those before it, its read is that of its text without a
-- CR before its LF, and the next opens past that; the tail is read after them, and is no field
pub record Structure (fs : List Field) (tail : List ℕ) (last : ReadOutcome) (n : ℕ) : Type 0 where
  pub field : (before : List Field) (f : Field) (later : List Field) → fs ≡ before ++ f ∷ later → let at = length (page_of before []) in
      read_at (page_of fs tail) at ≡ read_field (without_cr (text_of f)) (at + length (with_lf (text_of f)))
  pub met : (before : List Field) (f : Field) (later : List Field) → fs ≡ before ++ f ∷ later → let at = length (page_of before []) in
      field_at (page_of fs tail) at ≡ tagged_as (tag_in options (without_cr (text_of f))) at (length (without_cr (text_of f)))
  pub after : let at = length (page_of fs []) in read_at (page_of fs tail) at ≡ bodiless last (at + n)
  pub none : field_at (page_of fs tail) (length (page_of fs [])) ≡ no_field

pub all_later : {A : Type 0} (P : A → Type 0) (xs ys : List A) → All P (xs ++ ys) → All P ys
all_later P [] ys h = h
all_later P (x ∷ xs) ys h = all_later P xs ys h.1

pub structure : {tail : List ℕ} {last : ReadOutcome} {n : ℕ} → Tail tail last n → (fs : List Field) → All Sound fs → length (page_of fs tail) ≤ page_most → Structure fs tail last n
structure {tail} {last} {n} t fs h m =
    let opened : (before : List Field) (f : Field) (later : List Field) → fs ≡ before ++ f ∷ later → let at = length (page_of before []) in
    Opens (page_of fs tail) at (without_cr (text_of f)) (at + length (with_lf (text_of f))) =
    λ before f later e.
    let q : page_of fs tail ≡ page_of before [] ++ page_of (f ∷ later) tail = ap (λ (x : List Field). page_of x tail) e ∙ page_append before (f ∷ later) tail in
    let s = all_later Sound before (f ∷ later) (subst (All Sound) e h) in
    subst (λ (x : List ℕ). Opens x (length (page_of before [])) (without_cr (text_of f)) (length (page_of before []) + length (with_lf (text_of f)))) (sym q)
    (field_opens t f s.0 later s.1 (page_of before []) (fields_start before) (subst (λ (x : List ℕ). length x ≤ page_most) q m)) in
    let w = subst (λ (x : List ℕ). length x ≤ page_most) (page_tail fs tail) m in
    record {
      field = λ before f later e. opens_read (opened before f later e);
      met = λ before f later e. opens_met (opened before f later e);
      after = ap (λ (x : List ℕ). read_at x (length (page_of fs []))) (page_tail fs tail) ∙ tail_read t (page_of fs []) (fields_start fs) w;
      none = ap (λ (x : List ℕ). field_at x (length (page_of fs []))) (page_tail fs tail) ∙ tail_met t (page_of fs []) (fields_start fs) w;
    }

-- reading it from the start, where the tail is nothing or the end line alone: the fields, and then what the tail gives
module _ {tail : List ℕ} {last : ReadOutcome} {n : ℕ} (t : Tail tail last n) (k : length tail ≡ n) (fs : List Field) (m : length (page_of fs tail) ≤ page_most) where
  reads_from_lem : All Sound fs → (before later : List Field) → fs ≡ before ++ later → ReadsAs (page_of fs tail) (length (page_of before [])) later last
  unfolding ReadsAs page_of
  reads_from_lem h before [] e =
      let b : fs ≡ before = e ∙ append-nil before in
      let l : length (page_of fs []) + n ≡ length (page_of fs tail) = omega (arith, ap length (page_tail fs tail), length-append (page_of fs []) tail, k) in
      ap (λ (x : List Field). read_at (page_of fs tail) (length (page_of x []))) (sym b) ∙ (structure t fs h m).after ∙ ap (bodiless last) l
  reads_from_lem h before (f ∷ later) e =
      let at = length (page_of before []) in
      let r = (structure t fs h m).field before f later e in
      let s = all_later Sound before (f ∷ later) (subst (All Sound) e h) in
      let next = at + length (with_lf (text_of f)) in
      let x : next ≡ length (page_of (before ++ f ∷ []) []) =
      omega (arith, ap length (page_append before (f ∷ []) []), length-append (page_of before []) (page_of (f ∷ []) []), ap length (append-nil (with_lf (text_of f)))) in
      let y : (read_at (page_of fs tail) at).next ≡ length (page_of (before ++ f ∷ []) []) = ap (λ (z : PageRead). z.next) r ∙ field_next (without_cr (text_of f)) next ∙ x in (
        subst (λ (z : PageRead). Gives z f) (sym r) (s.0.gives next),
        subst (λ (z : ℕ). ReadsAs (page_of fs tail) z later last) (sym y) (reads_from_lem h (before ++ f ∷ []) later (e ∙ sym (append_assoc before (f ∷ []) later))),
      )

  pub reads : All Sound fs → ReadsAs (page_of fs tail) 0 fs last
  unfolding page_of
  reads h = reads_from_lem h [] fs refl
