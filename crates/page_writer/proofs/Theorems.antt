-- Demand 3 over the definitions. Assumes nothing.
use mathlib.Core.Path.{◌≡◌, refl, sym, ◌∙◌, ap, subst}
use mathlib.Core.Bool.{Bool, true, false, true≢false}
use mathlib.Core.List.{List, [], ◌∷◌, ◌++◌, map}
use mathlib.Core.Logic.{◌⊎◌, inl, inr}
use Prim.Native.Nat.{ℕ, ◌+◌, ◌*◌, ◌≤◌, ◌<◌, min}
use native.Mathlib.Omega.{arith}
use lib.Dec.{leb}
use lib.ListN.{length, take, drop, length-append}
use lib.Seq.{drop-drop}
use borrow.Author.Tests.{le-leb, leb-true, leb-false}
use Rattle.errors.specs.Refusals.{accepted, must, ◌then◌}
use Rattle.party.specs.declared.Party.{Party}
use Rattle.party.specs.Party.{content}
use Rattle.writer.specs.Writing.{written_field, put, identified59_f}
use Rattle.writer.specs.Given.{Given}
use Rattle.writer.proofs.Relined.{All}
use Rattle.writer.proofs.Theorems.{given_exact, necessary, written_most, written_less}
use Rattle.writer.proofs.Puts.{put_length, put_take, put_drop}
use Rattle.page_reader.specs.Pages.{page_most, the_end, a_refusal}
use Rattle.page_writer.specs.IndexState.{IndexState, no_index, an_index, is_indexed}
use Rattle.page_writer.specs.Adding.{is_carried, has_space, with_lf, end_line, Filed, position_after, refusal, Call, putting, record_space, asked, record_reply, tally_of, has_free_entry}
use Rattle.page_writer.specs.Fold.{Run, run, accepted_of}
use Rattle.page_writer.specs.WholePage.{OpenPage, add_step, closed_page, is_accepted, Model, Field, kept, new, page_of, ReadsAs, Alone, Overwrites}
use Rattle.page_writer.specs.Indexed.{IsEmpty, IndexHolds}
use Rattle.page_writer.specs.Demand3.{adds, model, accepted_adds, closing, identified_in, OpenReads, ClosedPage, ListedPage, WholePage}
use Rattle.page_writer.specs.Delivered.{DeliveredPage}
use Rattle.page_writer.proofs.Structure.{Sound, page_tail, nothing, ending, reads}
use Rattle.page_writer.proofs.Records.{new_sound}
use Rattle.page_writer.proofs.Alone.{alone_exact}
use Rattle.page_writer.proofs.Addings.{position≢refusal, close_by}
use Rattle.page_writer.proofs.Fold.{run_append}
use Rattle.page_writer.proofs.Noting.{entries_from, Noted}
use Rattle.page_writer.proofs.Invariant.{add_is, adds_untouched, Fit, fields_of, fit_sound, fields_sound, Invariant, ready, ran, listed}
use Rattle.page_writer.proofs.Indexed.{indexed_beside}
use Rattle.page_writer.proofs.Delivered.{delivered}

-- ---- the fields of accepted adds
-- some of them overwritten
overwritten_sound : (ps : List Party) → All Fit ps → (fs : List Field) → Overwrites ps fs → All Sound fs
unfolding Overwrites
overwritten_sound [] h [] o = tt
overwritten_sound [] h (f ∷ fs) o = absurd o
overwritten_sound (p ∷ ps) h [] o = absurd o
overwritten_sound (p ∷ ps) h (kept q ∷ fs) o = (subst (λ (x : Party). Sound (kept x)) (sym o.0) (fit_sound p h.0), overwritten_sound ps h.1 fs o.1)
overwritten_sound (p ∷ ps) h (new bytes ∷ fs) o = (new_sound bytes o.0, overwritten_sound ps h.1 fs o.1)

-- a field and its LF have 185 bytes, and three more in 59F with an identifier
fields_most : (ps : List Party) → All Fit ps → length (fields_of ps) ≤ 185 * length ps + 3 * identified_in ps
unfolding page_of identified_in
fields_most [] h = omega arith
fields_most (p ∷ ps) h = go (identified59_f (content p)) refl ((given_exact p).yes h.0.given) (fields_most ps h.1)
  where
    n : length (fields_of (p ∷ ps)) ≡ length (written_field (content p)) + 1 + length (fields_of ps)
    n = omega (arith, length-append (with_lf (written_field (content p))) (fields_of ps), length-append (written_field (content p)) (10 ∷ []))

    go : (t : Bool) → identified59_f (content p) ≡ t → Given p → length (fields_of ps) ≤ 185 * length ps + 3 * identified_in ps
        → length (fields_of (p ∷ ps)) ≤ 185 * length (p ∷ ps) + 3 * identified_in (p ∷ ps)
    go true e g m = rw (e, identified_in) (omega (arith, n, m, written_most p g))
    go false e g m = rw (e, identified_in) (omega (arith, n, m, written_less p g e))

identified_few : (ps : List Party) → identified_in ps ≤ length ps
unfolding identified_in
identified_few [] = omega arith
identified_few (p ∷ ps) = go (identified59_f (content p)) refl (identified_few ps)
  where
    go : (t : Bool) → identified59_f (content p) ≡ t → identified_in ps ≤ length ps → identified_in (p ∷ ps) ≤ length (p ∷ ps)
    go true e m = rw (e, identified_in) (omega arith)
    go false e m = rw (e, identified_in) (omega arith)

-- ---- after the adds from an empty page
start_noted : (b : IndexState) → IsEmpty b → Noted b []
unfolding entries_from
start_noted no_index e = tt
start_noted (an_index d) e = e

module _ (b : IndexState) (empty : IsEmpty b) (ps : List Party) (buffer : List ℕ) where
  abbrev len : ℕ
  len = length buffer

  abbrev s : OpenPage
  s = (adds b ps buffer).state

  abbrev m : Model
  m = (model b ps len).state

  abbrev list : List Party
  list = accepted_adds b ps buffer

  both_run : Invariant len (is_indexed b) s m × ((adds b ps buffer).answers ≡ (model b ps len).answers)
  unfolding page_of
  both_run = ran len (is_indexed b) _ _ (record { fields = refl; ends = refl; same = refl; used = refl; size = refl; fit = tt; room = λ n. absurd (omega arith); noted = start_noted b empty; kind = refl }) ps

  abbrev holds : Invariant len (is_indexed b) s m
  holds = both_run.0

  list_is : list ≡ m.list
  list_is = ap (λ (xs : List Filed). accepted_of ps (map is_accepted xs)) both_run.1 ∙ sym (listed len (is_indexed b) ps _)

  -- the bytes before the position are the fields of the accepted adds
  prefix : take s.position s.buffer ≡ fields_of list
  prefix = holds.fields ∙ ap fields_of (sym list_is)

  ends_at_lem : s.position ≡ length (fields_of list)
  ends_at_lem = holds.ends ∙ ap (λ (x : List Party). length (fields_of x)) (sym list_is)

  all_fit : All Fit list
  all_fit = subst (All Fit) (sym list_is) holds.fit

  untouched : drop s.position s.buffer ≡ drop s.position buffer
  untouched = adds_untouched buffer (record { buffer = buffer; position = 0; index = b }) refl ps

  -- an accepted add left space to close, and so there is in a buffer of 2 bytes
  room : 0 < length list → s.position + 2 ≤ min len page_most
  room n = let k = holds.room (omega (arith, n, ap length list_is)) in omega (arith, k, holds.same)

  some_fit : (ls : List Party) → list ≡ ls → (s.position ≤ page_most) × (2 ≤ len → s.position + 2 ≤ min len page_most)
  unfolding page_of
  some_fit [] q = let z : s.position ≡ 0 = ends_at_lem ∙ ap (λ (x : List Party). length (fields_of x)) q in (omega (arith, z), λ n. omega (arith, n, z))
  some_fit (p ∷ ls) q = let k = room (omega (arith, ap length q)) in (omega (arith, k), λ n. k)

  open_most : length (fields_of list) ≤ page_most
  open_most = omega (arith, (some_fit list refl).0, ends_at_lem)

  -- the index, if one is kept, has the entries of the accepted adds
  beside : Noted s.index list
  beside = subst (Noted s.index) (sym list_is) holds.noted

  -- an open page, at any point of a run: the fields of the accepted adds, and 17 after them
  pub open_page_lem : OpenReads s list buffer
  open_page_lem = record {
    bytes = prefix;
    reads = subst (λ (x : List ℕ). ReadsAs x 0 (map kept list) (a_refusal 17 0)) (sym prefix)
        (reads nothing refl (map kept list) open_most (fields_sound list all_fit));
    indexed = subst (λ (x : List ℕ). IndexHolds s.index x list) (sym prefix) (indexed_beside nothing list all_fit open_most s.index beside);
    after = untouched;
    size = holds.size;
  }

  -- ---- the closing, by whether there is space
  closing_is : (t : Bool) → has_space len (s.position + 2) ≡ t → closing b ps buffer ≡ putting (must t 24 0) s.buffer s.position end_line
  closing_is t e =
      close_by s.buffer s.position (ready len (is_indexed b) s m holds)
      ∙ ap (λ (b : Bool). putting (must b 24 0) s.buffer s.position end_line) (ap (λ (k : ℕ). has_space k (s.position + 2)) holds.size ∙ e)

  space_two : 2 ≤ len → has_space len (s.position + 2) ≡ true
  space_two n = le-leb _ _ ((some_fit list refl).1 n)

  -- what an accepted closing left
  record Closed (to : ℕ) : Type 0 where
    position : to ≡ s.position + length end_line
    bytes : (closing b ps buffer).buffer ≡ put s.buffer s.position end_line
    space : to ≤ min (length s.buffer) page_most

  closed_by : {to : ℕ} → (closing b ps buffer).answer ≡ position_after to → Closed to
  closed_by {to} a = go (has_space len (s.position + 2)) refl
    where
      go : (t : Bool) → has_space len (s.position + 2) ≡ t → Closed to
      go false e = absurd (position≢refusal (sym a ∙ ap (λ (c : Call). c.answer) (closing_is false e)))
      go true e =
          let q : position_after to ≡ position_after (s.position + 2) = sym a ∙ ap (λ (c : Call). c.answer) (closing_is true e) in
          let k : to ≡ s.position + 2 = cc in
          record { position = k; bytes = ap (λ (c : Call). c.buffer) (closing_is true e); space = omega (arith, k, leb-true (s.position + 2) (min len page_most) e, holds.size) }

  -- it gives a position within the buffer
  pub closing_within : {to : ℕ} → (closing b ps buffer).answer ≡ position_after to → to ≤ length (closing b ps buffer).buffer
  closing_within a =
      let d = closed_by a in
      omega (arith, d.space, ap length d.bytes, put_length s.buffer s.position end_line (omega (arith, d.space, d.position)))

  closed_page_lem : {to : ℕ} → (closing b ps buffer).answer ≡ position_after to → ClosedPage s list buffer to
  closed_page_lem {to} a =
      let d = closed_by a in
      let bytes = (closing b ps buffer).buffer in
      let k : s.position + length end_line ≤ length s.buffer = omega (arith, d.space, d.position) in
      let q : closed_page s to ≡ page_of (map kept list) end_line =
      ap (λ (n : ℕ). take n bytes) d.position ∙ ap (take (s.position + length end_line)) d.bytes ∙ put_take s.buffer s.position end_line k
      ∙ ap (λ (x : List ℕ). x ++ end_line) prefix ∙ sym (page_tail (map kept list) end_line) in
      let n : length (page_of (map kept list) end_line) ≡ to = omega (arith, ap length (page_tail (map kept list) end_line), length-append (fields_of list) end_line, ends_at_lem, d.position) in
      let w : length (closed_page s to) ≡ to = ap length q ∙ n in
      let within : length (page_of (map kept list) end_line) ≤ page_most = omega (arith, n, d.space) in
      record {
        reads = subst (λ (x : List ℕ). ReadsAs x 0 (map kept list) the_end) (sym q) (reads (ending []) refl (map kept list) within (fields_sound list all_fit));
        bytes = q;
        after = ap (λ (x : ℕ). drop x bytes) d.position ∙ ap (drop (s.position + length end_line)) d.bytes ∙ put_drop s.buffer s.position end_line k
            ∙ sym (drop-drop (length end_line) s.position s.buffer) ∙ ap (drop (length end_line)) untouched ∙ drop-drop (length end_line) s.position buffer
            ∙ ap (λ (x : ℕ). drop x buffer) (sym d.position);
        indexed = subst (λ (x : List ℕ). IndexHolds s.index x list) (sym q) (indexed_beside (ending []) list all_fit within s.index beside);
        most = omega (arith, w, d.space);
        bound_all = omega (arith, w, d.position, ends_at_lem, fields_most list all_fit, identified_few list);
        bound = λ z. omega (arith, w, d.position, ends_at_lem, fields_most list all_fit, z);
      }

  -- a refused one changes nothing
  unclosed_page : {k n : ℕ} → (closing b ps buffer).answer ≡ refusal k n → (closing b ps buffer ≡ record { answer = refusal 24 0; buffer = buffer }) × (len < 2) × (list ≡ [])
  unfolding page_of
  unclosed_page r = go (has_space len (s.position + 2)) refl list refl
    where
      short : (t : Bool) → leb 2 len ≡ t → has_space len (s.position + 2) ≡ false → len < 2
      short true q e = absurd (true≢false (sym (space_two (leb-true 2 len q)) ∙ e))
      short false q e = leb-false 2 len q

      go : (t : Bool) → has_space len (s.position + 2) ≡ t → (ls : List Party) → list ≡ ls
          → (closing b ps buffer ≡ record { answer = refusal 24 0; buffer = buffer }) × (len < 2) × (list ≡ [])
      go true e ls q = absurd (position≢refusal (sym (ap (λ (c : Call). c.answer) (closing_is true e)) ∙ r))
      go false e (p ∷ ls) q = absurd (omega (arith, short (leb 2 len) refl e, room (omega (arith, ap length q))))
      go false e [] q =
          let z : s.position ≡ 0 = ends_at_lem ∙ ap (λ (x : List Party). length (fields_of x)) q in
          let u : s.buffer ≡ buffer = ap (λ (n : ℕ). drop n s.buffer) (sym z) ∙ untouched ∙ ap (λ (n : ℕ). drop n buffer) z in
          (closing_is false e ∙ ap {B = Call} (λ (x : List ℕ). record { answer = refusal 24 0; buffer = x }) u, short (leb 2 len) refl e, q)

  -- the page that the adds left has the records of those that were accepted
  listed_page : ListedPage s list buffer
  listed_page = record {
    opened = open_page_lem;
    closed = closed_page_lem;
    overwritten = λ fs o n. reads (ending []) refl fs n (overwritten_sound list all_fit fs o);
    unclosed = unclosed_page;
    closes = λ n. ap (λ (c : Call). c.answer) (closing_is true (space_two n));
  }

-- ---- a record that a reader can give, with space for it, in its turn
module _ (b : IndexState) (empty : IsEmpty b) (before : List Party) (p : Party) (buffer : List ℕ) where
  abbrev at : OpenPage
  at = (adds b before buffer).state

  -- accepted with the position after, or refused with 23
  abbrev Exactly : Filed → Type 0
  Exactly a = (Alone p × (a ≡ position_after (at.position + length (with_lf (written_field (content p)))))) ⊎ ((Alone p → ⊥) × (a ≡ refusal 23 0))

  exact : Given p → record_space (length at.buffer) at.position (content p) ≡ true → has_free_entry at.index ≡ true → Exactly (add_step at p).answer
  unfolding record_reply asked
  exact g space free = go (is_carried (content p)) refl
    where
      answer : {t : Bool} → is_carried (content p) ≡ t → (add_step at p).answer ≡ (putting (must t 23 0 then accepted) at.buffer at.position (with_lf (written_field (content p)))).answer
      answer {t} e =
          let r : record_reply (length at.buffer) (is_indexed at.index) (tally_of at.position at.index) (content p) ≡ (must t 23 0 then accepted) = rw (necessary p g, e, space, free) in
          ap (λ (c : Call). c.answer) (add_is at.buffer at.position at.index (content p) (ready (length buffer) (is_indexed b) at _ (holds b empty before buffer)) r)

      go : (t : Bool) → is_carried (content p) ≡ t → Exactly (add_step at p).answer
      go true e = inl ((alone_exact p g).yes e, answer e)
      go false e = inr ((alone_exact p g).no e, answer e)

-- it answers in the run what it answers in its turn
turn_in : (b : IndexState) (before : List Party) (p : Party) (later : List Party) (buffer : List ℕ) {ps : List Party} → ps ≡ before ++ p ∷ later
    → let c = add_step (adds b before buffer).state p in (adds b ps buffer).answers ≡ (adds b before buffer).answers ++ c.answer ∷ (run add_step c.state later).answers
unfolding run
turn_in b before p later buffer e =
    ap (λ (x : List Party). (adds b x buffer).answers) e
    ∙ ap (λ (r : Run OpenPage Filed). r.answers) (run_append add_step (record { buffer = buffer; position = 0; index = b }) before (p ∷ later))

-- a closed page with CR LF and any end line
pub delivered_page : (b : IndexState) → IsEmpty b → (ps : List Party) (buffer e : List ℕ) → DeliveredPage b ps buffer e
delivered_page b empty ps buffer e d m = delivered (accepted_adds b ps buffer) (all_fit b empty ps buffer) e d m

-- demand 3: for every list of adds, every buffer, and no index or any empty one
pub whole_page : (b : IndexState) → IsEmpty b → (ps : List Party) (buffer : List ℕ) → WholePage b ps buffer
whole_page b empty ps buffer = record {
  listed = listed_page b empty ps buffer;
  in_turn_lem = λ before p later e. turn_in b before p later buffer e;
  exactly = λ before p later e. exact b empty before p buffer;
  answers = (both_run b empty ps buffer).1;
  position = (holds b empty ps buffer).same;
  list = list_is b empty ps buffer;
}
