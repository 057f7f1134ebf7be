-- Adding and closing by their cases, and the field of a record written out. Assumes nothing.
use mathlib.Core.Path.{◌≡◌, refl, sym, ◌∙◌, ap}
use mathlib.Core.Bool.{Bool, true, false}
use mathlib.Core.List.{List, [], ◌∷◌, ◌++◌}
use Prim.Native.Nat.{ℕ, ◌+◌, ◌-◌, ◌≤◌, ◌<◌, min}
use native.Mathlib.Omega.{arith}
use lib.ListN.{length, take, drop, set, length-append, length-drop}
use lib.Seq.{take_at, drop-append_seam}
use borrow.Author.Tests.{leb-true}
use Rattle.errors.specs.Refusals.{Reply, accepted, refused, must, ◌then◌}
use Rattle.errors.proofs.Replies.{must_held, then_first, then_second}
use Rattle.party.specs.declared.Party.{Party}
use Rattle.party.specs.Limits.{place_of}
use Rattle.party.specs.Party.{IsParty, Content, content}
use Rattle.field_utils.specs.Tags.{tag_of}
use Rattle.record_bytes.specs.RecordBytes.{record_size, encoded, decoded}
use Rattle.record_bytes.proofs.Theorems.{encoded_size}
use Rattle.writer.specs.Writing.{written_body, written_field, placed, field_most}
use Rattle.writer.specs.Given.{is_given}
use Rattle.writer.specs.Placing.{Measured, length_is, refused_with, Placing, measure, place}
use Rattle.writer.specs.Code.{Puts}
use Rattle.writer.proofs.Theorems.{given_exact, written_most, measure_and_place}
use Rattle.writer.proofs.Pairs.{measure_22, measured, unmeasured}
use Rattle.writer.proofs.Capped.{bytes_say, option_stored, given_stored, field_stored, body_stored, encoded_stored}
use Rattle.writer.proofs.Puts.{puts_byte, space, both, placed_fits}
use Rattle.page_reader.specs.Pages.{page_most}
use Rattle.page_reader.specs.Index.{Entry}
use Rattle.page_writer.specs.IndexState.{IndexState, no_index, is_indexed, is_free, noting}
use Rattle.page_writer.specs.Adding.{is_carried, writable, has_space, with_lf, end_line, position_after, refusal, Call, putting, record_space, asked, Tally, record_reply, tally_of, has_free_entry, add_reply, add, entry_for, add_index, close}
use Rattle.page_writer.specs.Code.{line_reply, field_call}

pub position≢refusal : {m k n : ℕ} → position_after m ≡ refusal k n → ⊥
position≢refusal e = let z : ◌≡◌ {A = ℕ} 0 1 = cc in omega arith

-- ---- adding
module _ (buffer : List ℕ) (at : ℕ) (b : IndexState) (s : Content) where
  pub add_by : add buffer at b s ≡ putting (add_reply buffer at b s) buffer at (with_lf (written_field s))
  unfolding add
  add_by = refl

  pub add_21 : writable buffer at ≡ false → add buffer at b s ≡ record { answer = refusal 21 0; buffer = buffer }
  unfolding add add_reply
  add_21 w = rw w

  -- by what a page asks of the record
  pub add_asked : {r : Reply} → writable buffer at ≡ true → asked s ≡ r
      → add buffer at b s ≡ putting (r then line_reply (length buffer) at (written_field s) 2 (has_free_entry b)) buffer at (with_lf (written_field s))
  unfolding add add_reply record_reply
  add_asked w e = rw (w, e)

-- an accepted one
module _ (len : ℕ) (indexed : Bool) (t : Tally) (s : Content) (e : record_reply len indexed t s ≡ accepted) where
  passed : asked s ≡ accepted
  unfolding record_reply
  passed = then_first _ _ e

  spaced : (must (record_space len t.position s) 24 0 then must (is_free indexed t.entries) 31 0) ≡ accepted
  unfolding record_reply
  spaced = then_second (asked s) _ e

  pub reply_fit : (is_given s ≡ true) × (is_carried s ≡ true)
  unfolding asked
  reply_fit = (must_held (is_given s) 22 0 (then_first _ _ passed), must_held (is_carried s) 23 0 (then_second (must (is_given s) 22 0) _ passed))

  pub reply_space : t.position + length (with_lf (written_field s)) + 2 ≤ min len page_most
  reply_space = leb-true _ _ (must_held (record_space len t.position s) 24 0 (then_first _ _ spaced))

  pub reply_free : is_free indexed t.entries ≡ true
  reply_free = must_held (is_free indexed t.entries) 31 0 (then_second (must (record_space len t.position s) 24 0) _ spaced)

pub add_record_lem : (buffer : List ℕ) (at : ℕ) (b : IndexState) (s : Content) → add_reply buffer at b s ≡ accepted → record_reply (length buffer) (is_indexed b) (tally_of at b) s ≡ accepted
unfolding add_reply
add_record_lem buffer at b s e = then_second (must (writable buffer at) 21 0) _ e

-- what a call answers tells its reply
module _ (r : Reply) (buffer : List ℕ) (at : ℕ) (text : List ℕ) {e : List ℕ} where
  pub put_accepted : {to : ℕ} → ◌≡◌ {A = Call} (record { answer = position_after to; buffer = e }) (putting r buffer at text) → (r ≡ accepted) × (to ≡ at + length text)
  put_accepted {to} q = go r q
    where
      go : (r : Reply) → ◌≡◌ {A = Call} (record { answer = position_after to; buffer = e }) (putting r buffer at text) → (r ≡ accepted) × (to ≡ at + length text)
      go accepted q = let a : position_after to ≡ position_after (at + length text) = ap (λ (c : Call). c.answer) q in (refl, cc)
      go (refused k n) q = absurd (position≢refusal (ap (λ (c : Call). c.answer) q))

  pub put_refused : {k n : ℕ} → ◌≡◌ {A = Call} (record { answer = refusal k n; buffer = e }) (putting r buffer at text) → r ≡ refused k n
  put_refused {k} {n} q = go r q
    where
      go : (r : Reply) → ◌≡◌ {A = Call} (record { answer = refusal k n; buffer = e }) (putting r buffer at text) → r ≡ refused k n
      go accepted q = absurd (position≢refusal (sym (ap (λ (c : Call). c.answer) q)))
      go (refused i j) q = let a : refusal k n ≡ refusal i j = ap (λ (c : Call). c.answer) q in cc

-- the index after it
module _ (buffer : List ℕ) (at : ℕ) (b : IndexState) (s : Content) {r : Reply} where
  pub index_by : add_reply buffer at b s ≡ r → add_index buffer at b s ≡ noting r (entry_for at s) b
  unfolding add_index
  index_by e = ap (λ (x : Reply). noting x (entry_for at s) b) e

-- where there is none, none
pub index_none : (buffer : List ℕ) (at : ℕ) (s : Content) → add_index buffer at no_index s ≡ no_index
index_none buffer at s = go (add_reply buffer at no_index s) refl
  where
    go : (r : Reply) → add_reply buffer at no_index s ≡ r → add_index buffer at no_index s ≡ no_index
    go accepted e = index_by buffer at no_index s e
    go (refused k n) e = index_by buffer at no_index s e

-- the entry of a field from a position to the one after its LF
pub entry_is : (p : Party) (at : ℕ) {next : ℕ} → next ≡ at + length (with_lf (written_field (content p)))
    → ◌≡◌ {A = Entry} (record { tag = place_of p.option; position = at; len = next - at - 1 }) (entry_for at (content p))
unfolding content
entry_is p at {next} e =
    let f = written_field (content p) in
    let n : next - at - 1 ≡ length f = omega (arith, e, length-append f (10 ∷ [])) in
    ap {B = Entry} (λ (k : ℕ). record { tag = place_of p.option; position = at; len = k }) n

-- ---- a record that was stored as bytes is added as it is
module _ (p : Party) (h : IsParty p) (d : List ℕ) (l : record_size ≤ length d) (buffer : List ℕ) (at : ℕ) where
  reply_stored : (b : IndexState) → add_reply buffer at b (bytes_say p h d l) ≡ add_reply buffer at b (content p)
  unfolding add_reply record_reply asked is_carried
  reply_stored b = rw (given_stored p h d l, body_stored p h d l, field_stored p h d l)

  add_stored : (b : IndexState) → add buffer at b (bytes_say p h d l) ≡ add buffer at b (content p)
  unfolding add
  add_stored b = rw (reply_stored b, field_stored p h d l)

  index_stored : (b : IndexState) → add_index buffer at b (bytes_say p h d l) ≡ add_index buffer at b (content p)
  unfolding add_index
  index_stored b = rw (reply_stored b, field_stored p h d l, option_stored p h d l)

-- and so are its bytes alone
module _ (p : Party) (h : IsParty p) (buffer : List ℕ) (at : ℕ) (b : IndexState) where
  pub add_encoded : add buffer at b (content (decoded (encoded p))) ≡ add buffer at b (content p)
  add_encoded = ap (λ (s : List ℕ). add buffer at b (content (decoded s))) (encoded_stored p h) ∙ add_stored p h (encoded p) (omega (arith, encoded_size p h)) buffer at b

  pub index_encoded : add_index buffer at b (content (decoded (encoded p))) ≡ add_index buffer at b (content p)
  index_encoded = ap (λ (s : List ℕ). add_index buffer at b (content (decoded s))) (encoded_stored p h) ∙ index_stored p h (encoded p) (omega (arith, encoded_size p h)) buffer at b

-- ---- closing
module _ (buffer : List ℕ) (at : ℕ) where
  pub close_21 : writable buffer at ≡ false → close buffer at ≡ record { answer = refusal 21 0; buffer = buffer }
  unfolding close
  close_21 w = rw w

  pub close_by : writable buffer at ≡ true → close buffer at ≡ putting (must (has_space (length buffer) (at + 2)) 24 0) buffer at end_line
  unfolding close
  close_by w = rw w

-- ---- what a page asks of a record
pub asked_unmeasured : (s : Content) {k l : ℕ} → measure s ≡ refused_with k l → asked s ≡ refused k l
unfolding asked
asked_unmeasured s {k} {l} m =
    let e = unmeasured s m in
    let same : refused_with 22 0 ≡ refused_with k l = measure_22 s e ∙ m in
    rw e cc

pub asked_by : (s : Content) {t : Bool} → is_given s ≡ true → is_carried s ≡ t → asked s ≡ must t 23 0
unfolding asked
asked_by s g c = rw (g, c)

-- ---- the parts of a field that is written out
pub tag_within : (p : Party) → length (tag_of p.option) ≤ length (written_field (content p))
unfolding written_field content
tag_within p = omega (arith, length-append (tag_of p.option) (written_body (content p)))

field_body : (p : Party) {field : List ℕ} → field ≡ written_field (content p) → drop (length (tag_of p.option)) field ≡ written_body (content p)
unfolding written_field content
field_body p e = ap (drop (length (tag_of p.option))) e ∙ drop-append_seam (tag_of p.option) (written_body (content p))

-- a record's, as it is added
pub field_is : (p : Party) (buffer : List ℕ) (at : ℕ) (b : IndexState) {field body : List ℕ} → is_given (content p) ≡ true → writable buffer at ≡ true
    → field ≡ written_field (content p) → body ≡ drop (length (tag_of p.option)) field → field_call buffer at field body (has_free_entry b) ≡ add buffer at b (content p)
unfolding is_carried
field_is p buffer at b {field} g w f s =
    (λ j. field_call buffer at (f j) ((s ∙ field_body p f) j) (has_free_entry b))
    ∙ sym (add_asked buffer at b (content p) w (asked_by (content p) g refl))

-- ---- a record placed in a room for it
-- the record is given, and the first n bytes of the room are its field
pub record Held (p : Party) (room : List ℕ) (n : ℕ) : Type 0 where
  pub given : is_given (content p) ≡ true
  pub size : length room ≡ field_most
  pub len : n ≡ length (written_field (content p))
  pub text : take n room ≡ written_field (content p)

module _ (p : Party) (d : List ℕ) (z : length d ≡ field_most) {e : List ℕ} where
  -- what is answered there is what measuring answers
  pub room_measured : {m : Measured} → (record { answer = m; buffer = e }) ≡ place (content p) d → measure (content p) ≡ m
  room_measured q = sym ((measure_and_place p d).agrees (omega (arith, z))) ∙ ap (λ (x : Placing). x.answer) (sym q)

  pub room_held : {n : ℕ} → (record { answer = length_is n; buffer = e }) ≡ place (content p) d → Held p e n
  room_held {n} q =
      let f = written_field (content p) in
      let m = room_measured q in
      let s = (measure_and_place p d).measured m in
      let g = (measured (content p) m).0 in
      let most = written_most p ((given_exact p).yes g) in
      let b : e ≡ f ++ drop n d = ap (λ (x : Placing). x.buffer) (q ∙ s.enough (omega (arith, s.exact))) in
      record {
        given = g;
        size = ap length b ∙ omega (arith, s.exact, length-append f (drop n d), length-drop n d);
        len = s.exact;
        text = ap (take n) b ∙ take_at f (drop n d) n (sym s.exact);
      }

-- ---- a text that was put, and the LF after it
pub line_puts : (d : List ℕ) (at : ℕ) (f : List ℕ) → at + length f < length d → {e : List ℕ} → e ≡ placed d at f → Puts d at (with_lf f) (set e (at + length f) 10) (at + length f + 1)
line_puts d at f h {e} q =
    let first : Puts d at f e (at + length f) = record { bytes = q ∙ placed_fits d at f (omega arith); ends = refl } in
    let room : at + length (f ++ 10 ∷ []) ≤ length d = let n = length-append f (10 ∷ []) in omega arith in
    both f (10 ∷ []) first room (puts_byte e (at + length f) 10 (let k = space f (10 ∷ []) first room in omega arith))
