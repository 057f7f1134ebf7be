-- An index beside a page of fields: the reads of the page in their turn, and what looking a field up gives. Assumes nothing.
use mathlib.Core.Path.{◌≡◌, refl, sym, ◌∙◌, ap, subst}
use mathlib.Core.Bool.{true, false}
use mathlib.Core.List.{List, [], ◌∷◌, ◌++◌, map, map-append, append_assoc, append-nil}
use Prim.Native.Nat.{ℕ, zero, suc, ◌+◌, ◌-◌, ◌≤◌, ◌<◌}
use native.Mathlib.Omega.{arith}
use borrow.Author.Tests.{eq-eqb, ne_eqb}
use lib.Dec.{eqb}
use lib.ListN.{length, get_or, length-append, length-map, get_or-append, get_or-map}
use lib.Seq.{get_or-append_seam}
use Rattle.party.specs.declared.Party.{Party}
use Rattle.party.specs.Party.{content}
use Rattle.field_utils.specs.Lines.{without_cr}
use Rattle.writer.specs.Writing.{written_field}
use Rattle.writer.proofs.Relined.{All}
use Rattle.page_reader.specs.Pages.{page_most, ReadOutcome, PageRead, bodiless, read_field, read_at}
use Rattle.page_reader.specs.Reads.{Read, read_here, is_the_end, is_last, reads}
use Rattle.page_reader.specs.Index.{Entry, index_size, entries_of, no_entry, Met, a_field, field_at, met_before, fields_in, found, entry_of, look_up}
use Rattle.page_reader.proofs.Cases.{field_next}
use Rattle.page_reader.proofs.InTurn.{rest, rest_start, rest_last, rest_next}
use Rattle.page_reader.proofs.Entries.{entries_length, look_none, look_past, look_found}
use Rattle.page_writer.specs.Adding.{with_lf, entry_for}
use Rattle.page_writer.specs.WholePage.{kept, page_of, Gives}
use Rattle.page_writer.specs.Indexed.{Indexed, IndexHolds}
use Rattle.page_writer.specs.IndexState.{IndexState, no_index, an_index}
use Rattle.page_writer.proofs.Structure.{Tail, nothing, ending, whole, Structure, structure, all_later}
use Rattle.page_writer.proofs.Records.{kept_met}
use Rattle.page_writer.proofs.Noting.{entries_from, from_length, from_start, Noted}
use Rattle.page_writer.proofs.Invariant.{Fit, fields_of, fields_snoc, fit_sound, fields_sound}

-- ---- lists
-- an element of a list, by those before it
nth : {A B : Type 0} (f : A → B) (xs : List A) (none : A) (y : B) (before : List B) (r : B) (later : List B) → map f xs ++ y ∷ [] ≡ before ++ r ∷ later → length before < length xs
    → r ≡ f (get_or xs (length before) none)
nth f xs none y before r later e h =
    sym (get_or-append_seam before r later (f none))
    ∙ ap (λ (l : List _). get_or l (length before) (f none)) (sym e)
    ∙ get_or-append (map f xs) (y ∷ []) (f none) (length before) (omega (arith, h, length-map xs f))
    ∙ get_or-map f xs (length before) none

all_at : {A : Type 0} (P : A → Type 0) (xs : List A) (none : A) → All P xs → (i : ℕ) → i < length xs → P (get_or xs i none)
all_at P [] none h i l = absurd (omega arith)
all_at P (x ∷ xs) none h zero l = h.0
all_at P (x ∷ xs) none h (suc i) l = all_at P xs none h.1 i (omega arith)

-- ---- the last read
tail_last : {tail : List ℕ} {last : ReadOutcome} {n : ℕ} → Tail tail last n → (at : ℕ) → is_last (bodiless last (at + n)) at ≡ true
tail_last nothing at = eq-eqb (at + 0) at (omega arith)
tail_last (ending more) at = refl
tail_last (whole e h) at = refl

module _ {tail : List ℕ} {last : ReadOutcome} {n : ℕ} (t : Tail tail last n) (list : List Party) (fit : All Fit list) (m : length (page_of (map kept list) tail) ≤ page_most) where
  abbrev page : List ℕ
  page = page_of (map kept list) tail

  structured : Structure (map kept list) tail last n
  structured = structure t (map kept list) (fields_sound list fit) m

  abbrev end : ℕ
  end = length (fields_of list)

  -- ---- a field in its turn
  module _ (before : List Party) (p : Party) (later : List Party) (e : list ≡ before ++ p ∷ later) where
    abbrev at : ℕ
    at = length (fields_of before)

    abbrev next : ℕ
    next = at + length (with_lf (written_field (content p)))

    splits : map kept list ≡ map kept before ++ kept p ∷ map kept later
    splits = ap (map kept) e ∙ map-append kept before (p ∷ later)

    fits : Fit p
    fits = (all_later Fit before (p ∷ later) (subst (All Fit) e fit)).0

    read_is : read_at page at ≡ read_field (without_cr (written_field (content p))) next
    read_is = structured.field (map kept before) (kept p) (map kept later) splits

    gives_here : Gives (read_at page at) (kept p)
    gives_here = subst (λ (r : PageRead). Gives r (kept p)) (sym read_is) ((fit_sound p fits).gives next)

    next_is : (read_at page at).next ≡ next
    next_is = ap (λ (r : PageRead). r.next) read_is ∙ field_next (without_cr (written_field (content p))) next

    goes_on : is_last (read_at page at) at ≡ false
    goes_on =
        let o : is_the_end (read_at page at).outcome ≡ false = ap is_the_end gives_here.1 in
        let k : eqb (read_at page at).next at ≡ false = ne_eqb (read_at page at).next at (λ q. omega (arith, q, next_is, length-append (written_field (content p)) (10 ∷ []))) in
        rw (o, k)

    met_here : field_at page at ≡ a_field (entry_for at (content p))
    met_here = structured.met (map kept before) (kept p) (map kept later) splits ∙ kept_met p fits.carried at

    next_at : next ≡ length (fields_of (before ++ p ∷ []))
    next_at = omega (arith, ap length (fields_snoc before p), length-append (fields_of before) (with_lf (written_field (content p))))

    further : list ≡ (before ++ p ∷ []) ++ later
    further = e ∙ sym (append_assoc before (p ∷ []) later)

  -- ---- the reads, from the start to the last
  abbrev read_of : Entry → Read
  read_of x = read_here page x.position

  rest_are : (before later : List Party) → list ≡ before ++ later
      → rest page (length (fields_of before)) ≡ map read_of (entries_from (length (fields_of before)) later) ++ read_here page end ∷ []
  unfolding entries_from
  rest_are before [] e =
      let z : length (fields_of before) ≡ end = ap (λ (x : List Party). length (fields_of x)) (sym (e ∙ append-nil before)) in
      ap (rest page) z ∙ rest_last page end (ap (λ (r : PageRead). is_last r end) structured.after ∙ tail_last t end)
  rest_are before (p ∷ later) e =
      let at = length (fields_of before) in
      let k = next_is before p later e ∙ next_at before p later e in
      rest_next page at (goes_on before p later e)
      ∙ ap (◌∷◌ (read_here page at))
      (ap (rest page) k ∙ rest_are (before ++ p ∷ []) later (further before p later e)
      ∙ ap (λ (i : ℕ). map read_of (entries_from i later) ++ read_here page end ∷ []) (sym (next_at before p later e)))

  reads_are : reads page ≡ map read_of (entries_from 0 list) ++ read_here page end ∷ []
  unfolding page_of
  reads_are = sym (rest_start page) ∙ rest_are [] list refl

  -- each entry is met
  abbrev MetAt : Entry → Type 0
  MetAt x = field_at page x.position ≡ a_field x

  all_met : (before later : List Party) → list ≡ before ++ later → All MetAt (entries_from (length (fields_of before)) later)
  unfolding entries_from
  all_met before [] e = tt
  all_met before (p ∷ later) e = (
    met_here before p later e,
    subst (λ (i : ℕ). All MetAt (entries_from i later)) (sym (next_at before p later e)) (all_met (before ++ p ∷ []) later (further before p later e)),
  )

  mets : All MetAt (entries_from 0 list)
  unfolding page_of
  mets = all_met [] list refl

  fields_in_lem : (es : List Entry) → All MetAt es → fields_in page (map read_of es ++ read_here page end ∷ []) ≡ es
  unfolding fields_in
  fields_in_lem [] h = ap (λ (x : Met). met_before x []) structured.none
  fields_in_lem (x ∷ es) h = ap (λ (y : Met). met_before y (fields_in page (map read_of es ++ read_here page end ∷ []))) h.0 ∙ ap (◌∷◌ x) (fields_in_lem es h.1)

  -- ---- an index that has their entries
  module _ (d : List ℕ) (size : length d ≡ index_size) (q : entries_of d ≡ entries_from 0 list) where
    count : length (entries_of d) ≡ length list
    count = ap length q ∙ from_length 0 list

    -- looking up the entry after so many
    look : (i : ℕ) (x : Entry) → i < length list → entry_of d (suc i) ≡ x → field_at page x.position ≡ a_field x → look_up page d (suc i) ≡ found (read_here page x.position)
    look i x h e f = look_found page d (suc i) m (omega arith) (omega (arith, h, count)) e f

    entry_in : (i : ℕ) → entry_of d (suc i) ≡ get_or (entries_from 0 list) i no_entry
    entry_in i = let z : suc i - 1 ≡ i = omega arith in ap (λ (j : ℕ). get_or (entries_of d) j no_entry) z ∙ ap (λ (l : List Entry). get_or l i no_entry) q

    pub indexed : Indexed d page list
    indexed = record {
      equals = q ∙ sym (ap (fields_in page) reads_are ∙ fields_in_lem (entries_from 0 list) mets);
      number = count;
      most = omega (arith, count, entries_length d size);
      step = λ before r later e h.
          let i = length before in
          let k : i < length (entries_from 0 list) = omega (arith, h, from_length 0 list) in
          let x = get_or (entries_from 0 list) i no_entry in
          look i x h (entry_in i) (all_at MetAt (entries_from 0 list) no_entry mets i k)
          ∙ ap found (sym (nth read_of (entries_from 0 list) no_entry (read_here page end) before r later (sym reads_are ∙ e) k));
      past = λ k h. look_past page d k m (omega (arith, h)) (omega (arith, h, count));
      zeroth = look_none page d 0 m refl;
      gives = λ before p later e.
          let i = length before in
          let at = length (fields_of before) in
          let rest = entries_from (at + length (with_lf (written_field (content p)))) later in
          let x : get_or (entries_from 0 list) i no_entry ≡ entry_for at (content p) =
          ap (λ (l : List Party). get_or (entries_from 0 l) i no_entry) e ∙ ap (λ (l : List Entry). get_or l i no_entry) (from_start before p later)
          ∙ ap (λ (j : ℕ). get_or (entries_from 0 before ++ entry_for at (content p) ∷ rest) j no_entry) (sym (from_length 0 before)) ∙ get_or-append_seam (entries_from 0 before) (entry_for at (content p)) rest no_entry in
          (read_here page at, look i (entry_for at (content p)) (omega (arith, ap length e, length-append before (p ∷ later))) (entry_in i ∙ x) (met_here before p later e), gives_here before p later e);
    }

  -- of what stands beside the page
  pub indexed_beside : (b : IndexState) → Noted b list → IndexHolds b page list
  indexed_beside no_index h = tt
  indexed_beside (an_index d) h = indexed d h.0 h.1
