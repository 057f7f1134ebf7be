-- Demand 3 through the C interface: the run of lent records is the run of their records. Assumes nothing.
use Prim.Native.Nat.{ℕ, suc, ◌+◌, ◌-◌, ◌<◌, ◌≤◌}
use mathlib.Core.Path.{◌≡◌, refl, sym, ap, ◌∙◌, subst}
use mathlib.Core.Bool.{Bool, true, false, ◌&&◌, false≢true}
use mathlib.Core.List.{List, [], ◌∷◌, map}
use native.Mathlib.Omega.{arith}
use borrow.Author.Tests.{le-leb, lt-leb}
use lib.Dec.{leb}
use lib.ListN.{length, get_or, take}
use Rattle.errors.specs.Refusals.{Reply, accepted, refused, must, ◌then◌}
use Rattle.errors.proofs.Replies.{refused≢accepted}
use Rattle.party.specs.declared.Party.{Party}
use Rattle.party.specs.Party.{blank, content, Same}
use Rattle.field_utils.specs.Names.{parse_lines, parse_name_and_address}
use Rattle.writer.specs.Writing.{written_field, name_lines}
use Rattle.writer.specs.Given.{are_names, is_given}
use Rattle.page_reader.specs.Pages.{ReadOutcome, a_record, the_end, PageRead, read_at}
use Rattle.page_reader.proofs.Entries.{found_here}
use Rattle.page_reader.proofs.Moves.{next_most}
use Rattle.page_writer.specs.IndexState.{IndexState, no_index, an_index, noting}
use Rattle.page_writer.specs.Adding.{writable, end_line, Filed, position_after, refusal, Call, putting, with_lf, asked, record_reply, add_reply, add, entry_for, add_index}
use Rattle.page_writer.specs.Fold.{Step, Run, run, accepted_of}
use Rattle.page_writer.specs.WholePage.{OpenPage, last_given as last_of, add_step as add_party, is_accepted, Field, kept, new, page_of, read_new, Gives as GivesField, ReadsAs, Overwrites}
use Rattle.page_writer.specs.Indexed.{IsEmpty, IndexHolds}
use Rattle.page_writer.specs.Demand3.{adds as party_adds, accepted_adds, closing as closing_of, ListedPage}
use Rattle.page_writer.proofs.Fold.{run_map, alike, accepted_map}
use Rattle.page_writer.proofs.Theorems.{whole_page}
use Rattle.record_bytes.specs.RecordBytes.{record_size, holds_record, decoded}
use Rattle.record_bytes.proofs.Laws.{loaded_not}
use Rattle.yewdome.specs.Interface.{position_room, Called, code_of, argument_reply, after_checks, code_or, read_code, read_call, page_read, filed_code, filed, page_add, page_add_index, page_close}
use Rattle.yewdome.specs.Code.{Named, Within}
use Rattle.yewdome.specs.Demand3.{is_position, last_given, add_step, adds, records, closing, page, moved_by, Gives, Reads, ExportedIndexState, answers_of, ExportedPage}
use Rattle.yewdome.proofs.Pages.{add_within, close_within, onward_from}
use Rattle.yewdome.proofs.Looks.{look_read}
use Rattle.yewdome.proofs.Theorems.{lent_named, page_loads, read_moved}

-- ---- an add
-- a number tells the answer: its position, or that there is none
abbrev Tells : ℕ → Filed → Type 0
Tells code (position_after n) = (is_position code ≡ true) × (code ≡ n)
Tells code (refusal k n) = is_position code ≡ false

below : (n : ℕ) → n < position_room → is_position n ≡ true
below n h = le-leb (suc n) position_room h

above : (n : ℕ) → position_room ≤ n → is_position n ≡ false
above n h = lt-leb (suc n) position_room (omega (arith, h))

code_tells : (a : Filed) → Within a → Tells (filed_code a) a
code_tells (position_after n) w = (below n (omega (arith, w)), refl)
code_tells (refusal k n) w = above (code_of (refused k n)) (omega (arith, w.0))

-- with the bytes that it left, and the index
abbrev Agrees : Called → Call → IndexState → IndexState → Type 0
Agrees c f after index = Tells c.code f.answer × (c.bytes ≡ f.buffer) × (after ≡ index)

-- no reader gives the blank record, as which bytes that are no record load
blank_not : is_given (content blank) ≡ false
unfolding is_given content are_names name_lines parse_name_and_address parse_lines
blank_not = refl

blank_agrees : (code : ℕ) → is_position code ≡ false → (buffer : List ℕ) (at : ℕ) (b : IndexState)
    → Agrees (record { code = code; bytes = buffer }) (add buffer at b (content blank)) b (add_index buffer at b (content blank))
unfolding add add_index add_reply record_reply asked
blank_agrees code h buffer at b = rw blank_not (go (writable buffer at))
  where
    go : (t : Bool)
        → Agrees (record { code = code; bytes = buffer }) (putting (must t 21 0 then refused 22 0) buffer at (with_lf (written_field (content blank)))) b
        (noting (must t 21 0 then refused 22 0) (entry_for at (content blank)) b)
    go true = (h, refl, refl)
    go false = (h, refl, refl)

-- bytes that 41 or 42 refuses are no record
no_record : (l : List ℕ) {k n : ℕ} → argument_reply l ≡ refused k n → holds_record l ≡ false
unfolding holds_record
no_record l e = go (leb record_size (length l)) (leb (get_or l 0 0) 10) e
  where
    go : (a b : Bool) {k n : ℕ} → (must a 42 0 then must b 41 0) ≡ refused k n → (a && b && leb (get_or l 1 0) 1) ≡ false
    go true true q = absurd (refused≢accepted (sym q))
    go true false q = refl
    go false b q = refl

pub add_agrees : (l buffer : List ℕ) (at : ℕ) (b : IndexState)
    → Agrees (page_add l buffer at b) (add buffer at b (content (decoded l))) (page_add_index l buffer at b) (add_index buffer at b (content (decoded l)))
add_agrees l buffer at b = go (argument_reply l) refl
  where
    f : Call
    f = add buffer at b (content (decoded l))

    go : (t : Reply) → argument_reply l ≡ t → Agrees (page_add l buffer at b) f (page_add_index l buffer at b) (add_index buffer at b (content (decoded l)))
    go accepted e = rw e (code_tells f.answer (add_within buffer at b (content (decoded l))), refl, refl)
    go (refused k n) e =
        let named : Named (refused k n) = subst Named e (lent_named (length l) (leb (get_or l 0 0) 10)) in
        rw (e, loaded_not l (no_record l e)) (blank_agrees (code_of (refused k n)) (above (code_of (refused k n)) (omega (arith, named.0))) buffer at b)

-- ---- a run of lent records is the run of their records
abbrev party_step : OpenPage → List ℕ → Step OpenPage Filed
party_step s l = add_party s (decoded l)

agreed : (code : ℕ) {bytes buffer : List ℕ} {after index : IndexState} (at : ℕ) (a : Filed) → Tells code a → bytes ≡ buffer → after ≡ index
    → ◌≡◌ {A = OpenPage} (record { buffer = bytes; position = last_given code at; index = after }) (record { buffer = buffer; position = last_of a at; index = index }) × (is_position code ≡ is_accepted a)
agreed code at (position_after n) t e f = let k : last_given code at ≡ code = rw (t.0, last_given) in (λ i. record { buffer = e i; position = (k ∙ t.1) i; index = f i }, t.0)
agreed code at (refusal k n) t e f = let m : last_given code at ≡ at = rw (t, last_given) in (λ i. record { buffer = e i; position = m i; index = f i }, t)

step_alike : (s t : OpenPage) (l : List ℕ) → s ≡ t → ((add_step s l).state ≡ (party_step t l).state) × (is_position (add_step s l).answer ≡ is_accepted (party_step t l).answer)
step_alike s t l e =
    subst (λ (x : OpenPage). ((add_step s l).state ≡ (party_step x l).state) × (is_position (add_step s l).answer ≡ is_accepted (party_step x l).answer)) e
    (let h = add_agrees l s.buffer s.position s.index in
    agreed (page_add l s.buffer s.position s.index).code s.position (add s.buffer s.position s.index (content (decoded l))).answer h.0 h.1 h.2)

-- the number of an add, by what the record's add answers
code_by : (l : List ℕ) (s : OpenPage) → (add_step s l).answer ≡ code_or (argument_reply l) (filed_code (party_step s l).answer)
code_by l s = go (argument_reply l)
  where
    c : Called
    c = filed (add s.buffer s.position s.index (content (decoded l)))

    go : (t : Reply) → (after_checks t c s.buffer).code ≡ code_or t c.code
    go accepted = refl
    go (refused k n) = refl

-- those of a run
answers_are : (s : OpenPage) (ls : List (List ℕ)) → (run add_step s ls).answers ≡ answers_of ls (run party_step s ls).answers
unfolding run answers_of
answers_are s [] = refl
answers_are s (l ∷ ls) =
    let c = (party_step s l).state in
    let later : (run add_step (add_step s l).state ls).answers ≡ answers_of ls (run party_step c ls).answers = ap (λ (t : OpenPage). (run add_step t ls).answers) (step_alike s s l refl).0 ∙ answers_are c ls in
    λ i. code_by l s i ∷ later i

-- ---- reading
module _ (page : List ℕ) (at : ℕ) (into : List ℕ) (i : record_size ≤ length into) where
  read_is : {r : PageRead} → read_at page at ≡ r → page_read page at into ≡ read_call r at into
  read_is e = rw (le-leb record_size (length into) i, e)

  -- the bytes moved past lead to the next position
  next_is : at + moved_by (page_read page at into) ≡ (read_at page at).next
  next_is =
      let r = read_at page at in
      let m : moved_by (page_read page at into) ≡ r.next - at = ap moved_by (read_is refl) ∙ read_moved r.outcome (r.next - at) (omega (arith, next_most page at)) in
      omega (arith, m, onward_from page at)

  record_given : (q p : Party) → (read_at page at).outcome ≡ a_record q → Same q p → Gives (page_read page at into) at into (kept p)
  record_given q p e s =
      let n : (page_read page at into).code ≡ (read_at page at).next - at = ap (λ (c : Called). c.code) (read_is refl) ∙ ap (λ (x : ReadOutcome). read_code x ((read_at page at).next - at)) e in
      (below (page_read page at into).code (omega (arith, n, next_most page at)), ap content (page_loads page at into q i e) ∙ s)

  field_given : (f : Field) → GivesField (read_at page at) f → Gives (page_read page at into) at into f
  field_given (kept p) g = record_given g.0 p g.1 g.2
  field_given (new bytes) g = read_is (g ∙ ap (read_new bytes) (sym next_is))

reads : (page : List ℕ) (at : ℕ) (fs : List Field) → ReadsAs page at fs the_end → Reads page at fs
unfolding Reads ReadsAs
reads page at [] h = λ into i. (omega (arith, onward_from page at, ap (λ (r : PageRead). r.next) h), read_is page at into i h)
reads page at (f ∷ fs) h = λ into i.
    (field_given page at into i f h.0, subst (λ (k : ℕ). Reads page k fs) (sym (next_is page at into i)) (reads page (read_at page at).next fs h.1))

-- ---- looking up
looks_as : (b : IndexState) (page : List ℕ) (list : List Party) → IndexHolds b page list → ExportedIndexState b page list
looks_as no_index page list h = tt
looks_as (an_index d) page list h = record {
  indexed = h;
  step = λ before r later e l into. look_read page d (suc (length before)) into r (h.step before r later e l);
  gives = λ before p later e into i.
      let g = h.gives before p later e in
      let r = g.0 in
      let k = suc (length before) in
      let f = found_here page d k g.1 in
      subst (λ (c : Called). (is_position c.code ≡ true) × Same (decoded c.bytes) p) (sym (look_read page d k into r g.1))
      (record_given page r.at into i g.2.0 p (ap (λ (x : PageRead). x.outcome) (sym f) ∙ g.2.1) g.2.2);
}

-- ---- demand 3
module _ (b : IndexState) (empty : IsEmpty b) (lents : List (List ℕ)) (buffer : List ℕ) where
  abbrev ps : List Party
  ps = map decoded lents

  abbrev left : OpenPage
  left = (party_adds b ps buffer).state

  alike_run : ((adds b lents buffer).state ≡ left) × (map is_position (adds b lents buffer).answers ≡ map is_accepted (party_adds b ps buffer).answers)
  alike_run =
      let start : OpenPage = record { buffer = buffer; position = 0; index = b } in
      let r = alike add_step party_step is_position is_accepted (λ (s t : OpenPage). s ≡ t) step_alike start start refl lents in
      let m = run_map add_party decoded start lents in
      (r.0 ∙ ap (λ (x : Run OpenPage Filed). x.state) m, r.1 ∙ ap (λ (x : Run OpenPage Filed). map is_accepted x.answers) m)

  list : records b lents buffer ≡ accepted_adds b ps buffer
  list = accepted_map decoded lents (map is_position (adds b lents buffer).answers) ∙ ap (accepted_of ps) alike_run.1

  closing_is : closing b lents buffer ≡ filed (closing_of b ps buffer)
  closing_is = ap (λ (x : OpenPage). page_close x.buffer x.position) alike_run.0

  code_is : (closing b lents buffer).code ≡ filed_code (closing_of b ps buffer).answer
  code_is = ap (λ (c : Called). c.code) closing_is

  -- the closed page is that of `whole_page`
  closed : is_position (closing b lents buffer).code ≡ true → (to : ℕ) × ((closing_of b ps buffer).answer ≡ position_after to) × (page b lents buffer ≡ take to (closing_of b ps buffer).buffer)
  closed h = go (closing_of b ps buffer).answer refl
    where
      go : (a : Filed) → (closing_of b ps buffer).answer ≡ a → (to : ℕ) × ((closing_of b ps buffer).answer ≡ position_after to) × (page b lents buffer ≡ take to (closing_of b ps buffer).buffer)
      go (position_after to) e = (to, e, ap (λ (k : ℕ). take k (closing b lents buffer).bytes) (code_is ∙ ap filed_code e) ∙ ap (λ (x : Called). take to x.bytes) closing_is)
      go (refusal k n) e =
          let w : Named (refused k n) = subst Within e (close_within left.buffer left.position) in
          absurd (false≢true (sym (above (code_of (refused k n)) (omega (arith, w.0))) ∙ (ap is_position (sym (code_is ∙ ap filed_code e)) ∙ h)))

  listed : ListedPage (adds b lents buffer).state (records b lents buffer) buffer
  listed =
      subst (λ (s : OpenPage). ListedPage s (records b lents buffer) buffer) (sym alike_run.0)
      (subst (λ (x : List Party). ListedPage left x buffer) (sym list) (whole_page b empty ps buffer).listed)

  pub exported_page : ExportedPage b lents buffer
  exported_page = record {
    state = alike_run.0;
    accepted_adds_lem = list;
    answers = answers_are (record { buffer = buffer; position = 0; index = b }) lents
        ∙ ap (λ (r : Run OpenPage Filed). answers_of lents r.answers) (run_map add_party decoded (record { buffer = buffer; position = 0; index = b }) lents);
    listed = listed;
    reads = λ h.
        let c = closed h in
        subst (λ (x : List ℕ). Reads x 0 (map kept (records b lents buffer))) (sym c.2)
        (reads _ 0 (map kept (records b lents buffer)) (subst (λ (x : List Party). ReadsAs (take c.0 (closing_of b ps buffer).buffer) 0 (map kept x) the_end) (sym list) ((whole_page b empty ps buffer).listed.closed c.1).reads));
    open_looks = subst (λ (s : OpenPage). ExportedIndexState s.index (take s.position s.buffer) (records b lents buffer)) (sym alike_run.0)
        (subst (λ (x : List Party). ExportedIndexState left.index (take left.position left.buffer) x) (sym list)
        (looks_as left.index _ (accepted_adds b ps buffer) (whole_page b empty ps buffer).listed.opened.indexed));
    looks = λ h.
        let c = closed h in
        subst (λ (s : OpenPage). ExportedIndexState s.index (page b lents buffer) (records b lents buffer)) (sym alike_run.0)
        (subst (λ (x : List ℕ). ExportedIndexState left.index x (records b lents buffer)) (sym c.2)
        (subst (λ (x : List Party). ExportedIndexState left.index (take c.0 (closing_of b ps buffer).buffer) x) (sym list)
        (looks_as left.index _ (accepted_adds b ps buffer) ((whole_page b empty ps buffer).listed.closed c.1).indexed)));
    closes = λ n.
        let e = (whole_page b empty ps buffer).listed.closes n in
        let w = subst Within e (close_within left.buffer left.position) in
        ap is_position (code_is ∙ ap filed_code e) ∙ below (left.position + 2) (omega (arith, w));
    overwritten = λ fs o m. reads (page_of fs end_line) 0 fs ((whole_page b empty ps buffer).listed.overwritten fs (subst (λ (x : List Party). Overwrites x fs) list o) m);
  }
