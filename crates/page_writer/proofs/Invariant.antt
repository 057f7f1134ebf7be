-- What each add of a run keeps: the bytes before the position are the fields of the model's list. Assumes nothing.
use mathlib.Core.Path.{◌≡◌, refl, sym, ◌∙◌, ap, subst}
use mathlib.Core.Bool.{Bool, true}
use mathlib.Core.List.{List, [], ◌∷◌, ◌++◌, append_assoc, append-nil, map, map-id}
use Prim.Native.Nat.{ℕ, ◌+◌, ◌≤◌, ◌<◌, min}
use native.Mathlib.Omega.{arith}
use lib.Dec.{leb}
use lib.ListN.{length, take, drop, length-append, length-take, take-append-drop}
use lib.Seq.{drop-drop}
use borrow.Author.Tests.{le-leb}
use Rattle.errors.specs.Refusals.{Reply, accepted, refused, must, ◌then◌}
use Rattle.party.specs.declared.Party.{Party}
use Rattle.party.specs.Party.{Content, content}
use Rattle.field_utils.proofs.Tests.{both}
use Rattle.writer.specs.Writing.{written_field}
use Rattle.writer.specs.Given.{is_given}
use Rattle.writer.proofs.Theorems.{given_exact}
use Rattle.writer.proofs.Puts.{put_length, put_take, put_drop}
use Rattle.writer.proofs.Relined.{All}
use Rattle.page_reader.specs.Pages.{page_most, starts_line}
use Rattle.page_reader.proofs.Starts.{starts_prefix}
use Rattle.page_writer.specs.IndexState.{IndexState, is_indexed, is_free, noting}
use Rattle.page_writer.specs.Adding.{is_carried, writable, with_lf, Filed, position_after, putting, record_space, asked, record_reply, tally_of, has_free_entry, add_reply, add, entry_for, add_index}
use Rattle.page_writer.specs.Fold.{Step, run, accepted_of}
use Rattle.page_writer.specs.WholePage.{OpenPage, last_given, add_step, is_accepted, Model, model_by, model_step, kept, page_of}
use Rattle.page_writer.proofs.Addings.{reply_fit, reply_space, reply_free, add_record_lem}
use Rattle.page_writer.proofs.Fold.{run_keeps, alike}
use Rattle.page_writer.proofs.Noting.{Noted, noted_free, noted_more, noting_kind}
use Rattle.page_writer.proofs.Structure.{Sound, fields_start}
use Rattle.page_writer.proofs.Records.{kept_sound}

-- an add, by its reply
pub add_is : (buffer : List ℕ) (at : ℕ) (b : IndexState) (s : Content) {r : Reply} → writable buffer at ≡ true → record_reply (length buffer) (is_indexed b) (tally_of at b) s ≡ r
    → add buffer at b s ≡ putting r buffer at (with_lf (written_field s))
unfolding add add_reply
add_is buffer at b s w e =
    ap (λ (t : Bool). putting (must t 21 0 then record_reply (length buffer) (is_indexed b) (tally_of at b) s) buffer at (with_lf (written_field s))) w ∙ ap (λ (x : Reply). putting x buffer at (with_lf (written_field s))) e

-- as a step
abbrev step_by : Reply → OpenPage → Party → Step OpenPage Filed
step_by r s p =
    let c = putting r s.buffer s.position (with_lf (written_field (content p))) in
    record { state = record { buffer = c.buffer; position = last_given c.answer s.position; index = noting r (entry_for s.position (content p)) s.index }; answer = c.answer }

step_is : (s : OpenPage) (p : Party) {r : Reply} → add_reply s.buffer s.position s.index (content p) ≡ r → add_step s p ≡ step_by r s p
unfolding add add_index
step_is s p e = ap (λ (r : Reply). step_by r s p) e

-- no byte after the position changes
module _ (buffer : List ℕ) where
  abbrev Untouched : OpenPage → Type 0
  Untouched s = drop s.position s.buffer ≡ drop s.position buffer

  put_untouched : (r : Reply) (s : OpenPage) (p : Party) → (r ≡ accepted → s.position + length (with_lf (written_field (content p))) ≤ length s.buffer) → Untouched s
      → Untouched (step_by r s p).state
  put_untouched accepted s p room h =
      let text = with_lf (written_field (content p)) in
      put_drop s.buffer s.position text (room refl) ∙ sym (drop-drop (length text) s.position s.buffer) ∙ ap (drop (length text)) h
      ∙ drop-drop (length text) s.position buffer
  put_untouched (refused k n) s p room h = h

  pub adds_untouched : (s : OpenPage) → Untouched s → (ps : List Party) → Untouched (run add_step s ps).state
  adds_untouched =
      run_keeps add_step Untouched
      (λ s p h. let r = add_reply s.buffer s.position s.index (content p) in
      subst (λ (c : Step OpenPage Filed). Untouched c.state) (sym (step_is s p refl))
      (put_untouched r s p (λ e. omega (arith, reply_space (length s.buffer) (is_indexed s.index) (tally_of s.position s.index) (content p) (add_record_lem s.buffer s.position s.index (content p) e))) h))

-- ---- the invariant
-- a record that a page carries
pub record Fit (p : Party) : Type 0 where
  pub given : is_given (content p) ≡ true
  pub carried : is_carried (content p) ≡ true

-- the fields of records
abbrev pub fields_of : List Party → List ℕ
fields_of ps = page_of (map kept ps) []

pub fit_sound : (p : Party) → Fit p → Sound (kept p)
fit_sound p h = kept_sound p ((given_exact p).yes h.given) h.carried

pub fields_sound : (ps : List Party) → All Fit ps → All Sound (map kept ps)
fields_sound [] h = tt
fields_sound (p ∷ ps) h = (fit_sound p h.0, fields_sound ps h.1)

-- the bytes before the position are the fields of the list, and the position is their length; the buffer's length is kept, every record of
-- the list is one that a page carries, and closing has room; an index is kept or not, and has the entries of the fields. Of the bytes after
-- the position nothing is said.
pub record Invariant (len : ℕ) (indexed : Bool) (s : OpenPage) (m : Model) : Type 0 where
  pub fields : take s.position s.buffer ≡ fields_of m.list
  pub ends : s.position ≡ length (fields_of m.list)
  pub same : s.position ≡ m.tally.position
  pub used : m.tally.entries ≡ length m.list
  pub size : length s.buffer ≡ len
  pub fit : All Fit m.list
  pub room : 0 < length m.list → m.tally.position + 2 ≤ min len page_most
  pub noted : Noted s.index m.list
  pub kind : is_indexed s.index ≡ indexed

fit_snoc : (ps : List Party) (p : Party) → All Fit ps → Fit p → All Fit (ps ++ p ∷ [])
fit_snoc [] p h k = (k, tt)
fit_snoc (q ∷ ps) p h k = (h.0, fit_snoc ps p h.1 k)

pub fields_snoc : (ps : List Party) (p : Party) → fields_of (ps ++ p ∷ []) ≡ fields_of ps ++ with_lf (written_field (content p))
unfolding page_of
fields_snoc [] p = append-nil (with_lf (written_field (content p)))
fields_snoc (q ∷ ps) p = ap (◌++◌ (with_lf (written_field (content q)))) (fields_snoc ps p) ∙ sym (append_assoc (with_lf (written_field (content q))) (fields_of ps) (with_lf (written_field (content p))))

module _ (len : ℕ) (indexed : Bool) (s : OpenPage) (m : Model) (h : Invariant len indexed s m) where
  within : s.position ≤ len
  within = omega (arith, ap length h.fields, h.ends, h.size, length-take s.position s.buffer)

  -- the position is one to write at
  pub ready : writable s.buffer s.position ≡ true
  unfolding writable
  ready =
      let f = fields_of m.list in
      let split : s.buffer ≡ f ++ drop s.position s.buffer = sym (take-append-drop s.position s.buffer) ∙ ap (λ (x : List ℕ). x ++ drop s.position s.buffer) h.fields in
      let starts : starts_line s.buffer s.position ≡ true =
      ap (starts_line s.buffer) h.ends ∙ ap (λ (x : List ℕ). starts_line x (length f)) split ∙ starts_prefix f (drop s.position s.buffer) ∙ fields_start (map kept m.list) in
      both (leb s.position (length s.buffer)) (starts_line s.buffer s.position) (le-leb s.position (length s.buffer) (omega (arith, within, h.size))) starts

  -- an entry is free in the run where one is in the model
  free_is : has_free_entry s.index ≡ is_free indexed m.tally.entries
  free_is = noted_free s.index m.list h.noted ∙ (λ i. is_free (h.kind i) (sym h.used i))

  module _ (p : Party) where
    abbrev text : List ℕ
    text = with_lf (written_field (content p))

    -- an add keeps it, and answers what the model does
    abbrev Kept : Step OpenPage Filed → Step Model Filed → Type 0
    Kept a b = Invariant len indexed a.state b.state × (a.answer ≡ b.answer)

    by_reply : (r : Reply) → record_reply len indexed m.tally (content p) ≡ r → Kept (step_by r s p) (model_by r m p)
    by_reply (refused k n) e = (h, refl)
    by_reply accepted e =
        let space : s.position + length text + 2 ≤ min len page_most = let k = reply_space len indexed m.tally (content p) e in omega (arith, k, h.same) in
        let room : s.position + length text ≤ length s.buffer = omega (arith, space, h.size) in
        let f = reply_fit len indexed m.tally (content p) e in
        let q = fields_snoc m.list p in (
          record {
            fields = put_take s.buffer s.position text room ∙ ap (λ (x : List ℕ). x ++ text) h.fields ∙ sym q;
            ends = omega (arith, h.ends, ap length q, length-append (fields_of m.list) text);
            same = omega (arith, h.same);
            used = omega (arith, h.used, length-append m.list (p ∷ []));
            size = put_length s.buffer s.position text room ∙ h.size;
            fit = fit_snoc m.list p h.fit (record { given = f.0; carried = f.1 });
            room = λ n. omega (arith, space, h.same);
            noted = subst (λ (k : ℕ). Noted (noting accepted (entry_for k (content p)) s.index) (m.list ++ p ∷ [])) (sym h.ends)
                (noted_more s.index m.list p h.noted (free_is ∙ reply_free len indexed m.tally (content p) e));
            kind = noting_kind accepted (entry_for s.position (content p)) s.index ∙ h.kind;
          },
          ap (λ (k : ℕ). position_after (k + length text)) h.same,
        )

    reply_is : add_reply s.buffer s.position s.index (content p) ≡ record_reply len indexed m.tally (content p)
    unfolding add_reply record_reply
    reply_is =
        ap (λ (t : Bool). must t 21 0 then record_reply (length s.buffer) (is_indexed s.index) (tally_of s.position s.index) (content p)) ready
        ∙ (λ i. asked (content p) then must (record_space (h.size i) (h.same i) (content p)) 24 0 then must (free_is i) 31 0)

    add_keeps : Kept (add_step s p) (model_step len indexed m p)
    add_keeps = subst (λ (a : Step OpenPage Filed). Kept a (model_step len indexed m p)) (sym (step_is s p reply_is)) (by_reply (record_reply len indexed m.tally (content p)) refl)

-- it holds after a run, and the run answers what the model does
pub ran : (len : ℕ) (indexed : Bool) (s : OpenPage) (m : Model) → Invariant len indexed s m → (ps : List Party) → let a = run add_step s ps in let b = run (model_step len indexed) m ps in
    Invariant len indexed a.state b.state × (a.answers ≡ b.answers)
ran len indexed s m h ps =
    let r = alike add_step (model_step len indexed) (λ (a : Filed). a) (λ (a : Filed). a) (Invariant len indexed) (λ s m p h. add_keeps len indexed s m h p) s m h ps in
    (r.0, sym (map-id (run add_step s ps).answers) ∙ (r.1 ∙ map-id (run (model_step len indexed) m ps).answers))

-- the model's list is the accepted adds
pub listed : (len : ℕ) (indexed : Bool) (ps : List Party) (m : Model) → let r = run (model_step len indexed) m ps in r.state.list ≡ m.list ++ accepted_of ps (map is_accepted r.answers)
unfolding run accepted_of
listed len indexed [] m = sym (append-nil m.list)
listed len indexed (p ∷ ps) m = go (record_reply len indexed m.tally (content p)) (listed len indexed ps)
  where
    go : (r : Reply) → ((m : Model) → let a = run (model_step len indexed) m ps in a.state.list ≡ m.list ++ accepted_of ps (map is_accepted a.answers))
        → let c = model_by r m p in let a = run (model_step len indexed) c.state ps in a.state.list ≡ m.list ++ accepted_of (p ∷ ps) (is_accepted c.answer ∷ map is_accepted a.answers)
    go accepted ih = ih _ ∙ append_assoc m.list (p ∷ []) _
    go (refused k n) ih = ih m
