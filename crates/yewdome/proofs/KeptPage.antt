-- A page whose fields are kept is filed as its very bytes, and a step of filing tells whether its field is. Assumes nothing.
use Prim.Native.Nat.{ℕ, zero, suc, ◌+◌, ◌-◌, ◌/◌, ◌≤◌, ◌<◌, min}
use mathlib.Core.Path.{◌≡◌, refl, sym, ap, ◌∙◌, subst}
use mathlib.Core.Bool.{Bool, true, false, ◌&&◌, false≢true, true≢false}
use mathlib.Core.List.{List, [], ◌∷◌, ◌++◌, map, append_assoc, append-nil}
use native.Mathlib.Omega.{arith}
use lib.Dec.{ltb, eqb}
use lib.ListN.{length, take, drop, get_or, length-append, length-drop, length-take}
use lib.Seq.{drop-drop, length-take-le, take-append-add}
use borrow.Author.Tests.{eqb-true, eqb-false, eq-eqb, ltb-true, le-leb, leb-true, lt-ltb}
use Rattle.errors.specs.Refusals.{Reply, accepted}
use Rattle.party.specs.declared.PartyOption.{PartyOption}
use Rattle.party.specs.declared.Party.{Party}
use Rattle.party.specs.Decides.{Decides}
use Rattle.party.specs.Party.{Content, content}
use Rattle.field_utils.specs.Lines.{without_cr}
use Rattle.field_utils.proofs.Tests.{both_left, both_right, both, either_left}
use Rattle.reader.specs.Options.{read}
use Rattle.writer.specs.Writing.{joined, written_body, written_field, put}
use Rattle.writer.specs.Given.{Given}
use Rattle.writer.proofs.Relined.{All}
use Rattle.writer.proofs.Sizes.{joined_length}
use Rattle.writer.proofs.Back.{accepted_is}
use Rattle.writer.proofs.Theorems.{necessary}
use Rattle.page_reader.specs.Pages.{page_most, less_cr, runs, ReadOutcome, a_record, the_end, a_refusal, PageRead, read_field, read_at}
use Rattle.page_reader.specs.Reads.{Read, read_here, is_the_end, is_last, reads_from, reads}
use Rattle.page_reader.proofs.Cases.{runs_most}
use Rattle.page_reader.proofs.Runs.{Closed, runs_closed}
use Rattle.page_reader.proofs.Moves.{field_at, next_most}
use Rattle.page_reader.proofs.Records.{Gave, refusal≢record, end≢record, record_gave, end_gave, end_first}
use Rattle.page_writer.specs.Adding.{any_boundary, is_carried, has_space, with_lf, end_line, Filed, position_after, refusal, asked, Tally, tallied, record_reply}
use Rattle.page_writer.specs.WholePage.{OpenPage, add_step, is_accepted, Model, model_by, model_step, kept, page_of}
use Rattle.page_writer.specs.IndexState.{no_index}
use Rattle.page_writer.specs.Fold.{Step, run, accepted_of}
use Rattle.page_writer.specs.Demand3.{adds, accepted_adds, closing, ListedPage}
use Rattle.page_writer.proofs.Pieces.{up_to_boundary, runs_cut}
use Rattle.page_writer.proofs.Structure.{Lined, Sound, page_tail, ending, reads as sound_reads}
use Rattle.page_writer.proofs.Records.{tagged_lined}
use Rattle.page_writer.proofs.Alone.{cut_weight, alone_most, alone_exact}
use Rattle.page_writer.proofs.Invariant.{Fit, fields_of}
use Rattle.page_writer.proofs.Theorems.{closing_within, whole_page}
use Rattle.kept.specs.Kept.{ends_lf, is_none}
use Rattle.kept.specs.Fields.{came_at, causes_by, is_record, is_kept_at}
use Rattle.kept.proofs.Laws.{ends_by}
use Rattle.kept.proofs.FieldExact.{field_decided}
use Rattle.yewdome.specs.Filing.{record_of, records_in, records_of, filed_as, file_outcome, file_step, open_page}
use Rattle.yewdome.specs.Interface.{position_room, causes_unit, causes_code, caused_number, number_step, file_numbers}
use Rattle.yewdome.specs.Code.{Named}
use Rattle.yewdome.specs.KeptPage.{FiledStep, FiledExact, are_kept, is_stray, from_opening, first_at, last_at, between, party_lines, FiledAsCame, KeptPage, KeptSpace, are_plain, answers_from, ToldPage}
use Rattle.yewdome.proofs.Pages.{add_taken, reply_of, page_line}
use Rattle.yewdome.proofs.Walks.{named_by, ended_by, answer_end}
use Rattle.yewdome.proofs.Theorems.{high}
use Rattle.yewdome.proofs.Causes.{code_none}

-- ---- a record that a reader gave is one that a reader can give
given_by : (o : PartyOption) (body : List ℕ) {p : Party} → (read o body).reply ≡ accepted → (read o body).party ≡ p → Given p
unfolding content
given_by o body {p} e q =
    let option : p.option ≡ o = ap (λ (x : Party). x.option) (sym q) ∙ ap (λ (s : Content). s.option) (accepted_is o body e).says in
    record { body = body; accepts = ap (λ (k : PartyOption). (read k body).reply) option ∙ e; same = ap (λ (k : PartyOption). content (read k body).party) option ∙ ap content q }

-- ---- a field that is kept, and closed by an LF
module _ (page : List ℕ) (at : ℕ) (p : Party) (q : (read_at page at).outcome ≡ a_record p) (n : is_none (causes_by page at (a_record p)) ≡ true) (c : at + runs (drop at page) < length page) where
  abbrev s : List ℕ
  s = drop at page

  abbrev g : Gave page at p
  g = record_gave page at p q

  abbrev field : List ℕ
  field = written_field (content p)

  abbrev rest : List ℕ
  rest = drop (suc (runs s)) s

  given : Given p
  given = given_by g.option g.body g.accepts g.party

  same : field ≡ came_at page at
  same = (field_decided page at p q).yes n

  closed : Closed s (runs s)
  closed = runs_closed s (omega (arith, c, length-drop at page))

  field_length : length field ≡ runs s
  field_length = ap length same ∙ length-take-le (runs s) s (runs_most s)

  splits : s ≡ field ++ 10 ∷ rest
  splits = closed.splits ∙ ap (λ (l : List ℕ). l ++ 10 ∷ rest) (sym same)

  lined : Lined field
  unfolding written_field content
  lined = tagged_lined p.option (written_body (content p))

  -- no line of it after the first is an opening or end line, or it would have run less far
  bounded : any_boundary lined.later ≡ false
  bounded = go (any_boundary lined.later) refl
    where
      go : (t : Bool) → any_boundary lined.later ≡ t → t ≡ false
      go false e = refl
      go true e =
          let ls = lined.later in
          let ran : runs s ≡ length (joined (lined.first ∷ up_to_boundary ls)) =
          ap runs (splits ∙ ap (λ (l : List ℕ). l ++ 10 ∷ rest) lined.joins) ∙ runs_cut lined.first ls rest lined.lines closed.follows in
          absurd (omega (arith, ran, field_length, ap length lined.joins, cut_weight ls e, joined_length (lined.first ∷ ls) (omega arith), joined_length (lined.first ∷ up_to_boundary ls) (omega arith)))

  -- read by itself it is the field that was read on the page
  text_is : without_cr field ≡ field_at page at
  text_is =
      let m : runs s ≡ at + runs s - at = omega arith in
      ap without_cr same ∙ ap (λ (k : ℕ). without_cr (take k s)) m ∙ ap (λ (t : Bool). less_cr t (take (at + runs s - at) s)) (sym (lt-ltb (at + runs s) (length page) c))

  sound : Sound (kept p)
  sound = record {
    lined = lined;
    bounded = bounded;
    gives = λ next. (p, ap (λ (t : List ℕ). (read_field t next).outcome) text_is ∙ g.gives next, refl);
  }

  -- so a page carries its record
  pub field_fit : Fit p
  field_fit = record { given = necessary p given; carried = go (is_carried (content p)) refl }
    where
      go : (t : Bool) → is_carried (content p) ≡ t → is_carried (content p) ≡ true
      go true e = e
      go false e = absurd ((alone_exact p given).no e (sound_reads (ending []) refl (kept p ∷ []) (alone_most p given) (sound, tt)))

  pub next_is : (read_at page at).next ≡ at + length (with_lf field)
  next_is = omega (arith, g.next, c, field_length, length-append field (10 ∷ []))

  pub field_part : (last : ℕ) → (read_at page at).next ≤ last → with_lf field ++ take (last - (read_at page at).next) (drop (read_at page at).next page) ≡ take (last - at) s
  field_part last h =
      let m : length (with_lf field) + (last - (read_at page at).next) ≡ last - at = omega (arith, next_is, h) in
      let d : rest ≡ drop (read_at page at).next page = drop-drop (suc (runs s)) at page ∙ ap (λ (k : ℕ). drop k page) (let z : at + suc (runs s) ≡ (read_at page at).next = omega (arith, next_is, field_length, length-append field (10 ∷ [])) in z) in
      let w : s ≡ with_lf field ++ drop (read_at page at).next page = splits ∙ sym (append_assoc field (10 ∷ []) rest) ∙ ap (◌++◌ (with_lf field)) d in
      sym (take-append-add (with_lf field) (drop (read_at page at).next page) (last - (read_at page at).next)) ∙ ap (take (length (with_lf field) + (last - (read_at page at).next))) (sym w) ∙ ap (λ (k : ℕ). take k s) m

-- ---- the reads of a page from a position on, of which all but the last give records of kept fields, and the last the end
record Came (page : List ℕ) (at : ℕ) (rs : List Read) : Type 0 where
  fields : fields_of (records_in rs) ≡ take (last_at rs - at) (drop at page)
  fit : All Fit (records_in rs)
  onward : at ≤ last_at rs
  ended : (read_at page (last_at rs)).outcome ≡ the_end

ended_is : (x : ReadOutcome) → is_the_end x ≡ true → x ≡ the_end
ended_is (a_record p) e = absurd (false≢true e)
ended_is the_end e = refl
ended_is (a_refusal k n) e = absurd (false≢true e)

came_last : (page : List ℕ) (at : ℕ) → is_the_end (read_at page at).outcome ≡ true → Came page at (read_here page at ∷ [])
unfolding records_in last_at page_of
came_last page at e =
    let q = ended_is (read_at page at).outcome e in
    let none : records_in (read_here page at ∷ []) ≡ [] = ap (λ (x : ReadOutcome). record_of x []) q in
    record {
      fields = ap fields_of none ∙ ap (λ (k : ℕ). take k (drop at page)) (let z : 0 ≡ at - at = omega arith in z);
      fit = subst (All Fit) (sym none) tt;
      onward = omega arith;
      ended = q;
    }

came_next : (page : List ℕ) (at : ℕ) → is_kept_at page at ≡ true → (r : Read) (rs : List Read) → Came page (read_at page at).next (r ∷ rs) → Came page at (read_here page at ∷ r ∷ rs)
unfolding records_in last_at page_of
came_next page at e r rs w = go (read_at page at).outcome refl
  where
    last : ℕ
    last = last_at (r ∷ rs)

    go : (x : ReadOutcome) → (read_at page at).outcome ≡ x → Came page at (read_here page at ∷ r ∷ rs)
    go (a_record p) q =
        let told : is_none (causes_by page at (a_record p)) ≡ true = ap (λ (x : ReadOutcome). is_none (causes_by page at x)) (sym q) ∙ both_right (is_record (read_at page at).outcome) (is_none (causes_by page at (read_at page at).outcome)) e in
        let c : at + runs (drop at page) < length page = omega (arith, w.onward, (end_gave page last w.ended).within, (record_gave page at p q).next) in
        let some : records_in (read_here page at ∷ r ∷ rs) ≡ p ∷ records_in (r ∷ rs) = ap (λ (x : ReadOutcome). record_of x (records_in (r ∷ rs))) q in
        record {
          fields = ap fields_of some ∙ ap (◌++◌ (with_lf (written_field (content p)))) w.fields ∙ field_part page at p q told c last w.onward;
          fit = subst (All Fit) (sym some) (field_fit page at p q told c, w.fit);
          onward = omega (arith, w.onward, next_is page at p q told c);
          ended = w.ended;
        }
    go the_end q = absurd (false≢true (ap is_record (sym q) ∙ both_left (is_record (read_at page at).outcome) (is_none (causes_by page at (read_at page at).outcome)) e))
    go (a_refusal k n) q = absurd (false≢true (ap is_record (sym q) ∙ both_left (is_record (read_at page at).outcome) (is_none (causes_by page at (read_at page at).outcome)) e))

came : (n : ℕ) (page : List ℕ) (at : ℕ) → are_kept page (reads_from n page at) ≡ true → Came page at (reads_from n page at)
unfolding reads_from are_kept
came zero page at e = absurd (false≢true e)
came (suc n) page at e = go (is_last r at) refl (reads_from n page r.next) refl (came n page r.next) e
  where
    r : PageRead
    r = read_at page at

    go : (l : Bool) → is_last r at ≡ l → (rs : List Read) → reads_from n page r.next ≡ rs → (are_kept page (reads_from n page r.next) ≡ true → Came page r.next (reads_from n page r.next))
        → are_kept page (read_here page at ∷ elim l as (λ x. List Read) [ true ↦ [] | false ↦ reads_from n page r.next ]) ≡ true
        → Came page at (read_here page at ∷ elim l as (λ x. List Read) [ true ↦ [] | false ↦ reads_from n page r.next ])
    go true l rs q ih k = came_last page at k
    go false l [] q ih k =
        absurd (true≢false (sym (ap (λ (x : List Read). are_kept page (read_here page at ∷ x)) (sym q) ∙ k) ∙ either_left (is_the_end r.outcome) (eqb r.next at) l))
    go false l (x ∷ rs) q ih k =
        let both : (is_kept_at page at && are_kept page (x ∷ rs)) ≡ true = ap (λ (y : List Read). are_kept page (read_here page at ∷ y)) (sym q) ∙ k in
        let w : Came page r.next (x ∷ rs) = subst (Came page r.next) q (ih (ap (are_kept page) q ∙ both_right (is_kept_at page at) (are_kept page (x ∷ rs)) both)) in
        subst (λ (y : List Read). Came page at (read_here page at ∷ y)) (sym q) (came_next page at (both_left (is_kept_at page at) (are_kept page (x ∷ rs)) both) x rs w)

-- ---- the adds of records that a page carries, with room for all of them, are all accepted
module _ (len : ℕ) where
  fit_accepted : (p : Party) (t : Tally) → Fit p → t.position + length (with_lf (written_field (content p))) + 2 ≤ min len page_most → record_reply len false t (content p) ≡ accepted
  unfolding record_reply asked
  fit_accepted p t f h = rw (f.given, f.carried, le-leb (t.position + length (with_lf (written_field (content p))) + 2) (min len page_most) h)

  model_all : (ps : List Party) (m : Model) → All Fit ps → m.tally.position + length (fields_of ps) + 2 ≤ min len page_most → (run (model_step len false) m ps).state.list ≡ m.list ++ ps
  unfolding run page_of
  model_all [] m f h = sym (append-nil m.list)
  model_all (p ∷ ps) m f h =
      let text = with_lf (written_field (content p)) in
      let n = length-append text (fields_of ps) in
      let next : Model = record { list = m.list ++ p ∷ []; tally = tallied m.tally (content p) } in
      let step : (model_step len false m p).state ≡ next = ap (λ (r : Reply). (model_by r m p).state) (fit_accepted p m.tally f.0 (omega (arith, h, n))) in
      ap (λ (x : Model). (run (model_step len false) x ps).state.list) step ∙ model_all ps next f.1 (omega (arith, h, n)) ∙ append_assoc m.list (p ∷ []) ps

-- ---- the reads from the first opening on
record Opened (page : List ℕ) : Type 0 where
  at : ℕ
  rs : List Read
  are : from_opening (reads page) ≡ rs
  records : records_of page ≡ records_in rs
  first : first_at rs ≡ at
  came_at_lem : Came page at rs

-- from a position on
opened_from : (page : List ℕ) (n at : ℕ) → from_opening (reads page) ≡ reads_from n page at → records_of page ≡ records_in (reads_from n page at) → are_kept page (from_opening (reads page)) ≡ true → Opened page
unfolding reads_from are_kept
opened_from page n at q r e =
    let k : are_kept page (reads_from n page at) ≡ true = ap (are_kept page) (sym q) ∙ e in
    record { at = at; rs = reads_from n page at; are = q; records = r; first = first n k; came_at_lem = came n page at k }
  where
    first : (n : ℕ) → are_kept page (reads_from n page at) ≡ true → first_at (reads_from n page at) ≡ at
    first zero k = absurd (false≢true k)
    first (suc n) k = refl

stray_none : (x : ReadOutcome) (later : List Party) → is_stray x ≡ true → record_of x later ≡ later
stray_none (a_record p) later e = absurd (false≢true e)
stray_none the_end later e = refl
stray_none (a_refusal k n) later e = refl

-- the reads after the first, by whether that is the last
abbrev tail_by : List ℕ → Bool → List Read
tail_by page l = elim l as (λ x. List Read) [ true ↦ [] | false ↦ reads_from (length page) page (read_at page 0).next ]

opening_by : (page : List ℕ) {t l : Bool} → is_stray (read_at page 0).outcome ≡ t → is_last (read_at page 0) 0 ≡ l → from_opening (reads page) ≡ (elim t as (λ x. List Read) [ true ↦ tail_by page l | false ↦ reads page ])
unfolding reads_from
opening_by page s q = λ i. elim (s i) as (λ x. List Read) [ true ↦ tail_by page (q i) | false ↦ reads page ]

stray_records : (page : List ℕ) → is_stray (read_at page 0).outcome ≡ true → is_last (read_at page 0) 0 ≡ false → records_of page ≡ records_in (tail_by page false)
unfolding reads_from records_in
stray_records page s q =
    ap (λ (b : Bool). record_of (read_at page 0).outcome (records_in (tail_by page b))) q ∙ stray_none (read_at page 0).outcome (records_in (tail_by page false)) s

opened : (page : List ℕ) → are_kept page (from_opening (reads page)) ≡ true → Opened page
unfolding are_kept
opened page e = go (is_stray (read_at page 0).outcome) refl (is_last (read_at page 0) 0) refl
  where
    go : (t : Bool) → is_stray (read_at page 0).outcome ≡ t → (l : Bool) → is_last (read_at page 0) 0 ≡ l → Opened page
    go false s l q = opened_from page (suc (length page)) 0 (opening_by page s q) refl e
    go true s true q = absurd (false≢true (ap (are_kept page) (sym (opening_by page s q)) ∙ e))
    go true s false q = opened_from page (length page) (read_at page 0).next (opening_by page s q) (stray_records page s q) e

-- ---- the page
module _ (page : List ℕ) (k : are_kept page (from_opening (reads page)) ≡ true) where
  abbrev o : Opened page
  o = opened page k

  abbrev ps : List Party
  ps = records_of page

  abbrev last : ℕ
  last = last_at o.rs

  part_is : party_lines page ≡ fields_of ps
  part_is =
      ap (between page) o.are ∙ ap (λ (f : ℕ). take (last - f) (drop f page)) o.first ∙ sym o.came_at_lem.fields ∙ ap fields_of (sym o.records)

  all_fit : All Fit ps
  all_fit = subst (All Fit) (sym o.records) o.came_at_lem.fit

  -- an LF closes the end line, so that it has two bytes
  two : ends_lf page ≡ true → last + 2 ≤ length page
  two lf = go (eqb (suc last) (length page)) refl
    where
      w : last < length page
      w = (end_gave page last o.came_at_lem.ended).within

      go : (t : Bool) → eqb (suc last) (length page) ≡ t → last + 2 ≤ length page
      go true e =
          let n : length page - 1 ≡ last = let z = eqb-true (suc last) (length page) e in omega (arith, z) in
          let b : eqb (get_or page last 0) 10 ≡ true = ap (λ (m : ℕ). eqb (get_or page m 0) 10) (sym n) ∙ sym (ends_by page (λ z. omega (arith, z, w))) ∙ lf in
          absurd (omega (arith, eqb-true (get_or page last 0) 10 b, end_first page last o.came_at_lem.ended))
      go false e = let z = eqb-false (suc last) (length page) e in omega (arith, w, z)

  module _ (buffer : List ℕ) where
    kept_space_by : ends_lf page ≡ true → length page ≤ length buffer → has_space (length buffer) (length (party_lines page) + 2) ≡ true
    kept_space_by lf room =
        le-leb (length (party_lines page) + 2) (min (length buffer) page_most)
        (omega (arith, two lf, room, (end_gave page last o.came_at_lem.ended).most, ap length (part_is ∙ ap fields_of o.records ∙ o.came_at_lem.fields), length-take (last - o.at) (drop o.at page)))

    -- where all were added, the closed page is their fields
    module _ (all : accepted_adds no_index ps buffer ≡ ps) (closable : 2 ≤ length buffer) where
      w : ListedPage (adds no_index ps buffer).state (accepted_adds no_index ps buffer) buffer
      w = (whole_page no_index tt ps buffer).listed

      abbrev to : ℕ
      to = (adds no_index ps buffer).state.position + 2

      bytes : take to (closing no_index ps buffer).buffer ≡ party_lines page ++ end_line
      bytes =
          (w.closed (w.closes closable)).bytes ∙ ap (λ (x : List Party). page_of (map kept x) end_line) all ∙ page_tail (map kept ps) end_line ∙ ap (λ (x : List ℕ). x ++ end_line) (sym part_is)

      ends : to ≡ length (party_lines page) + 2
      ends = omega (arith, ap length bytes, length-append (party_lines page) end_line, length-take to (closing no_index ps buffer).buffer, closing_within no_index tt ps buffer (w.closes closable))

      as_came : FiledAsCame page buffer
      as_came = record {
        answer = w.closes closable ∙ ap position_after ends;
        bytes = ap (λ (n : ℕ). take n (closing no_index ps buffer).buffer) (sym ends) ∙ bytes;
        after = ap (λ (n : ℕ). drop n (closing no_index ps buffer).buffer) (sym ends) ∙ (w.closed (w.closes closable)).after ∙ ap (λ (n : ℕ). drop n buffer) ends;
      }

    -- with space for all, all are
    spaced : has_space (length buffer) (length (party_lines page) + 2) ≡ true → FiledAsCame page buffer
    spaced space =
        let n = leb-true (length (party_lines page) + 2) (min (length buffer) page_most) space in
        let m = model_all (length buffer) ps (record { list = []; tally = record { position = 0; entries = 0 } }) all_fit (omega (arith, n, ap length part_is)) in
        as_came ((whole_page no_index tt ps buffer).list ∙ m) (omega (arith, n))

-- a page whose fields are kept is filed as its very bytes, from its first opening to its end line, with space for them
pub kept_page : (page buffer : List ℕ) → KeptPage page buffer
kept_page page buffer k = spaced page k buffer

-- which there is in a buffer as long as the page, where that ends in LF
pub kept_space : (page buffer : List ℕ) → KeptSpace page buffer
kept_space page buffer k = kept_space_by page k buffer

-- ---- a step
module _ (page : List ℕ) (s : OpenPage) (at : ℕ) (p : Party) where
  abbrev step : ReadOutcome → Step OpenPage ReadOutcome
  step x = file_outcome s x

  -- the read gave the record, and the add took it
  record Took : Type 0 where
    reads : (read_at page at).outcome ≡ a_record p
    position : ℕ
    adds_it : (add_step s p).answer ≡ position_after position
    puts : (step (read_at page at).outcome).state.buffer ≡ put s.buffer s.position (with_lf (written_field (content p)))

  took : (step (read_at page at).outcome).answer ≡ a_record p → Took
  took e = go (read_at page at).outcome refl e
    where
      added : (q : Party) → (read_at page at).outcome ≡ a_record q → (f : Filed) → (add_step s q).answer ≡ f → filed_as f q ≡ a_record p → Took
      added q r (position_after n) a t =
          let same : q ≡ p = cc in
          record {
            reads = r ∙ ap a_record same;
            position = n;
            adds_it = ap (λ (x : Party). (add_step s x).answer) (sym same) ∙ a;
            puts = ap (λ (x : ReadOutcome). (step x).state.buffer) r ∙ (add_taken s.buffer s.position s.index (content q) a).1 ∙ ap (λ (x : Party). put s.buffer s.position (with_lf (written_field (content x)))) same;
          }
      added q r (refusal k n) a t = absurd (refusal≢record t)

      go : (x : ReadOutcome) → (read_at page at).outcome ≡ x → (step x).answer ≡ a_record p → Took
      go (a_record q) r t = added q r (add_step s q).answer refl t
      go the_end r t = absurd (end≢record t)
      go (a_refusal k n) r t = absurd (refusal≢record t)

  filed_step : (step (read_at page at).outcome).answer ≡ a_record p → FiledStep page s at p
  filed_step e =
      let t = took e in
      let k = causes_code (causes_by page at (a_record p)) in
      record {
        puts = t.puts;
        tells = ap (λ (x : ReadOutcome). caused_number page (read_here page at) x / causes_unit) e ∙ high causes_unit k ((read_at page at).next - at) (omega (arith, next_most page at));
        exact = subst (λ (b : Bool). Decides b (written_field (content p) ≡ came_at page at)) (sym (code_none (causes_by page at (a_record p)))) (field_decided page at p t.reads);
      }

-- a step of filing tells by its answer whether the field that it puts on the new page is the field as it came
pub filed_exact : (page : List ℕ) (s : OpenPage) (at : ℕ) → FiledExact page s at
filed_exact page s at p e = filed_step page s at p e

-- ---- the answers of filing: where they are plain, every field is kept and every record was added
module _ (page : List ℕ) where
  record Plain (s : OpenPage) (rs : List Read) : Type 0 where
    kept_all : are_kept page rs ≡ true
    all_added : accepted_of (records_in rs) (map is_accepted (run add_step s (records_in rs)).answers) ≡ records_in rs

  plain_last : (s : OpenPage) (at : ℕ) → is_the_end (read_at page at).outcome ≡ true → Plain s (read_here page at ∷ [])
  unfolding records_in are_kept run accepted_of
  plain_last s at e =
      let none : records_in (read_here page at ∷ []) ≡ [] = ap (λ (x : ReadOutcome). record_of x []) (ended_is (read_at page at).outcome e) in
      record { kept_all = e; all_added = ap (λ (ps : List Party). accepted_of ps (map is_accepted (run add_step s ps).answers)) none ∙ sym none }

  plain_next : (s : OpenPage) (at : ℕ) (p : Party) → (read_at page at).outcome ≡ a_record p → is_kept_at page at ≡ true → {n : ℕ} → (add_step s p).answer ≡ position_after n → (r : Read) (rs : List Read)
      → Plain (add_step s p).state (r ∷ rs) → Plain s (read_here page at ∷ r ∷ rs)
  unfolding records_in are_kept run accepted_of
  plain_next s at p q k a r rs w =
      let ps = records_in (r ∷ rs) in
      let some : records_in (read_here page at ∷ r ∷ rs) ≡ p ∷ ps = ap (λ (x : ReadOutcome). record_of x ps) q in
      let added : accepted_of (p ∷ ps) (map is_accepted (run add_step s (p ∷ ps)).answers) ≡ p ∷ ps =
      ap (λ (f : Filed). accepted_of (p ∷ ps) (is_accepted f ∷ map is_accepted (run add_step (add_step s p).state ps).answers)) a ∙ ap (◌∷◌ p) w.all_added in
      record {
        kept_all = both (is_kept_at page at) (are_kept page (r ∷ rs)) k w.kept_all;
        all_added = ap (λ (xs : List Party). accepted_of xs (map is_accepted (run add_step s xs).answers)) some ∙ added ∙ sym some;
      }

  -- a number below 65,536 is that of a record that was filed, and has no cause
  plain_step : (s : OpenPage) (at : ℕ) → (number_step page s (read_here page at)).answer < position_room → (p : Party) × Took page s at p × (is_kept_at page at ≡ true)
  plain_step s at h = go (file_step s (read_here page at)).answer refl
    where
      number : {x : ReadOutcome} → (file_step s (read_here page at)).answer ≡ x → (number_step page s (read_here page at)).answer ≡ caused_number page (read_here page at) x
      number e = ap (caused_number page (read_here page at)) e

      go : (x : ReadOutcome) → (file_step s (read_here page at)).answer ≡ x → (p : Party) × Took page s at p × (is_kept_at page at ≡ true)
      go (a_record p) e =
          let t = took page s at p e in
          let c = causes_by page at (a_record p) in
          let none : causes_code c ≡ 0 = omega (arith, h, number e) in
          let keeps : is_none c ≡ true = sym (code_none c) ∙ eq-eqb (causes_code c) 0 none in
          (p, t, ap (λ (x : ReadOutcome). is_record x && is_none (causes_by page at x)) t.reads ∙ keeps)
      go the_end e = absurd (omega (arith, h, number e))
      go (a_refusal k n) e = absurd (omega (arith, h, number e, (subst (λ (x : ReadOutcome). Named (reply_of x)) e (named_by true s (read_at page at).outcome (page_line page at))).0))

  plain_end : (s : OpenPage) (at : ℕ) → eqb ((number_step page s (read_here page at)).answer / position_room) 1 ≡ true → is_the_end (read_at page at).outcome ≡ true
  plain_end s at h =
      sym (ended_by true s (read_at page at).outcome)
      ∙ answer_end page at true (file_step s (read_here page at)).answer (named_by true s (read_at page at).outcome (page_line page at)) (eqb-true ((number_step page s (read_here page at)).answer / position_room) 1 h)

  -- the numbers of a run over reads
  abbrev numbers : OpenPage → List Read → List ℕ
  numbers s rs = (run (number_step page) s rs).answers

  plain : (n at : ℕ) (s : OpenPage) → are_plain (numbers s (reads_from n page at)) ≡ true → Plain s (reads_from n page at)
  unfolding reads_from run are_plain
  plain zero at s e = absurd (false≢true e)
  plain (suc n) at s e = go (is_last (read_at page at) at) refl (reads_from n page (read_at page at).next) refl (plain n (read_at page at).next) e
    where
      next : ℕ
      next = (read_at page at).next

      tail : Bool → List Read
      tail l = elim l as (λ x. List Read) [ true ↦ [] | false ↦ reads_from n page next ]

      more : (r : Read) (rs : List Read) → ((t : OpenPage) → are_plain (numbers t (r ∷ rs)) ≡ true → Plain t (r ∷ rs)) → are_plain (numbers s (read_here page at ∷ r ∷ rs)) ≡ true → Plain s (read_here page at ∷ r ∷ rs)
      more r rs ih k =
          let c = number_step page s (read_here page at) in
          let w = plain_step s at (ltb-true c.answer position_room (both_left (ltb c.answer position_room) (are_plain (numbers c.state (r ∷ rs))) k)) in
          let later = ih c.state (both_right (ltb c.answer position_room) (are_plain (numbers c.state (r ∷ rs))) k) in
          plain_next s at w.0 w.1.reads w.2 w.1.adds_it r rs (subst (λ (t : OpenPage). Plain t (r ∷ rs)) (ap (λ (x : ReadOutcome). (file_outcome s x).state) w.1.reads) later)

      go : (l : Bool) → is_last (read_at page at) at ≡ l → (rs : List Read) → reads_from n page next ≡ rs → ((t : OpenPage) → are_plain (numbers t (reads_from n page next)) ≡ true → Plain t (reads_from n page next))
          → are_plain (numbers s (read_here page at ∷ tail l)) ≡ true → Plain s (read_here page at ∷ tail l)
      go true l rs q ih k = plain_last s at (plain_end s at k)
      go false l [] q ih k = subst (λ (rs : List Read). Plain s (read_here page at ∷ rs)) (sym q) (plain_last s at (plain_end s at (ap (λ (rs : List Read). are_plain (numbers s (read_here page at ∷ rs))) (sym q) ∙ k)))
      go false l (r ∷ rs) q ih k =
          subst (λ (x : List Read). Plain s (read_here page at ∷ x)) (sym q)
          (more r rs (subst (λ (x : List Read). (t : OpenPage) → are_plain (numbers t x) ≡ true → Plain t x) q ih) (ap (λ (x : List Read). are_plain (numbers s (read_here page at ∷ x))) (sym q) ∙ k))

-- ---- the page that the answers tell
module _ (page buffer : List ℕ) (closable : 2 ≤ length buffer) where
  abbrev start : OpenPage
  start = open_page buffer 0

  told_by : (rs : List Read) → from_opening (reads page) ≡ rs → records_of page ≡ records_in rs → Plain page start rs → FiledAsCame page buffer
  told_by rs q r w =
      as_came page (ap (are_kept page) q ∙ w.kept_all) buffer
      (ap (λ (ps : List Party). accepted_of ps (map is_accepted (run add_step start ps).answers)) r ∙ w.all_added ∙ sym r) closable

  -- what stands before the first opening is not filed
  stray_state : (x : ReadOutcome) → is_stray x ≡ true → (file_outcome start x).state ≡ start
  stray_state (a_record p) e = absurd (false≢true e)
  stray_state the_end e = refl
  stray_state (a_refusal k n) e = refl

  told : are_plain (answers_from page (file_numbers page buffer).answers) ≡ true → FiledAsCame page buffer
  unfolding reads_from run are_plain
  told e = go (is_stray (read_at page 0).outcome) refl (is_last (read_at page 0) 0) refl
    where
      answers : List ℕ
      answers = (file_numbers page buffer).answers

      by : {t : Bool} → is_stray (read_at page 0).outcome ≡ t → are_plain (elim t as (λ x. List ℕ) [ true ↦ drop 1 answers | false ↦ answers ]) ≡ true
      by q = ap (λ (t : Bool). are_plain (elim t as (λ x. List ℕ) [ true ↦ drop 1 answers | false ↦ answers ])) (sym q) ∙ e

      later : {l : Bool} → is_stray (read_at page 0).outcome ≡ true → is_last (read_at page 0) 0 ≡ l → are_plain (numbers page start (tail_by page l)) ≡ true
      later {l} t q = (λ i. are_plain (numbers page (sym (stray_state (read_at page 0).outcome t) i) (tail_by page (sym q i)))) ∙ by t

      go : (t : Bool) → is_stray (read_at page 0).outcome ≡ t → (l : Bool) → is_last (read_at page 0) 0 ≡ l → FiledAsCame page buffer
      go false t l q = told_by (reads page) (opening_by page t q) refl (plain page (suc (length page)) 0 start (by t))
      go true t true q = absurd (false≢true (later t q))
      go true t false q = told_by (tail_by page false) (opening_by page t q) (stray_records page t q) (plain page (length page) (read_at page 0).next start (later t q))

-- a page of which the answers tell that every field was filed as it came is filed as its very bytes
pub told_page : (page buffer : List ℕ) → ToldPage page buffer
told_page page buffer e closable = told page buffer closable e
