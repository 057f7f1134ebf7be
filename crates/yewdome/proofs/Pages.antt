-- What reading a page, adding and closing answer in numbers. Assumes nothing.
use Prim.Native.Nat.{ℕ, ◌+◌, ◌-◌, ◌≤◌, min}
use mathlib.Core.Path.{◌≡◌, refl, sym, ap, ◌∙◌, subst}
use mathlib.Core.List.{List}
use mathlib.Core.Logic.{⊎_elim}
use native.Mathlib.Omega.{arith}
use borrow.Author.Tests.{leb-true}
use lib.Dec.{leb}
use Rattle.std.specs.Prelude.{Result, Ok, Err}
use Rattle.errors.specs.declared.ParseError.{ParseError}
use lib.ListN.{length}
use Rattle.errors.specs.Refusals.{Reply, accepted, refused, must, ◌then◌}
use Rattle.errors.proofs.Replies.{must_held, then_second, then_assoc}
use Rattle.party.specs.declared.Party.{Party}
use Rattle.party.specs.Party.{Content, content}
use Rattle.reader.specs.Reading.{room_reply}
use Rattle.reader.specs.Options.{read}
use Rattle.writer.specs.Writing.{written_field, put}
use Rattle.writer.specs.Given.{is_given}
use Rattle.page_reader.specs.Pages.{page_most, ReadOutcome, a_record, the_end, a_refusal, outcome_of, read_at, lent_by, read_lent, read_bytes, PageRead, Kind, kind_of, Outline, outline}
use Rattle.page_reader.proofs.Moves.{stays_or_moves, next_most, every_read}
use Rattle.page_writer.specs.IndexState.{IndexState, is_indexed}
use Rattle.page_writer.specs.Adding.{is_carried, writable, has_space, with_lf, end_line, position_after, Call, putting, record_space, asked, record_reply, tally_of, has_free_entry, add_reply, add, add_index, close, told_filed, told_call}
use Rattle.page_writer.proofs.Addings.{position≢refusal, reply_space}
use Rattle.record_bytes.specs.RecordBytes.{record_size, decoded}
use Rattle.yewdome.specs.Interface.{Called, argument_reply, read_code, page_read, filed_code, filed, page_add, page_add_index}
use Rattle.yewdome.specs.Code.{Named, Within, Small, answer_code, IsMove, move_code}
use Rattle.yewdome.proofs.LineBounds.{must_line, must_then, read_line}

-- ---- adding and closing: a refusal names no line, and a position is within a page
putting_within : (r : Reply) (buffer : List ℕ) (at : ℕ) (text : List ℕ) → Named r → (r ≡ accepted → at + length text ≤ page_most) → Within (putting r buffer at text).answer
putting_within accepted buffer at text n h = h refl
putting_within (refused k n) buffer at text m h = m

pub add_within : (buffer : List ℕ) (at : ℕ) (b : IndexState) (s : Content) → Within (add buffer at b s).answer
unfolding add add_reply record_reply asked
add_within buffer at b s =
    let space = record_space (length buffer) at s in
    let last = must space 24 0 then must (has_free_entry b) 31 0 in
    putting_within (must (writable buffer at) 21 0 then record_reply (length buffer) (is_indexed b) (tally_of at b) s) buffer at (with_lf (written_field s))
    (subst (λ (r : Reply). Named (must (writable buffer at) 21 0 then r)) (sym (then_assoc (must (is_given s) 22 0) (must (is_carried s) 23 0) last))
    (must_then (writable buffer at) 21 0 (must (is_given s) 22 0 then must (is_carried s) 23 0 then last) (omega arith) (omega arith)
    (must_then (is_given s) 22 0 (must (is_carried s) 23 0 then last) (omega arith) (omega arith)
    (must_then (is_carried s) 23 0 last (omega arith) (omega arith)
    (must_then space 24 0 (must (has_free_entry b) 31 0) (omega arith) (omega arith) (must_line (has_free_entry b) 31 0 (omega arith) (omega arith)))))))
    (λ e. omega (arith, reply_space (length buffer) (is_indexed b) (tally_of at b) s (then_second (must (writable buffer at) 21 0) _ e)))

-- an accepted add puts the field and its LF, and is past them
pub add_taken : (buffer : List ℕ) (at : ℕ) (b : IndexState) (s : Content) {to : ℕ} → (add buffer at b s).answer ≡ position_after to → let text = with_lf (written_field s) in (to ≡ at + length text) × ((add buffer at b s).buffer ≡ put buffer at text)
unfolding add
add_taken buffer at b s {to} e = go (add_reply buffer at b s) e
  where
    text : List ℕ
    text = with_lf (written_field s)

    go : (r : Reply) → (putting r buffer at text).answer ≡ position_after to → (to ≡ at + length text) × ((putting r buffer at text).buffer ≡ put buffer at text)
    go accepted q = (cc, refl)
    go (refused k n) q = absurd (position≢refusal (sym q))

pub close_within : (buffer : List ℕ) (at : ℕ) → Within (close buffer at).answer
unfolding close
close_within buffer at =
    let space = has_space (length buffer) (at + 2) in
    putting_within (must (writable buffer at) 21 0 then must space 24 0) buffer at end_line
    (must_then (writable buffer at) 21 0 (must space 24 0) (omega arith) (omega arith) (must_line space 24 0 (omega arith) (omega arith)))
    (λ e. omega (arith, leb-true (at + 2) (min (length buffer) page_most) (must_held space 24 0 (then_second (must (writable buffer at) 21 0) _ e))))

-- what the code answers is within, and its number is told
module _ (r : Result ℕ ParseError) {last : List ℕ} {f : Call} (e : told_call r last ≡ f) where
  pub filed_small : Within f.answer → Small r
  filed_small h = go r (subst (λ (x : Call). Within x.answer) (sym e) h)
    where
      go : (r : Result ℕ ParseError) → Within (told_filed r) → Small r
      go (Ok n) w = omega (arith, w)
      go (Err x) w = w

  pub filed_told : {code : ℕ} → code ≡ answer_code r → (record { code = code; bytes = last }) ≡ filed f
  filed_told q = ap {B = Called} (λ (k : ℕ). record { code = k; bytes = last }) (q ∙ go r) ∙ ap filed e
    where
      go : (r : Result ℕ ParseError) → answer_code r ≡ filed_code (told_filed r)
      go (Ok n) = refl
      go (Err x) = refl

-- the record that was loaded is the one that was added
module _ (record_bytes buffer : List ℕ) (at : ℕ) (b : IndexState) {p : Party} (a : argument_reply record_bytes ≡ accepted) (l : p ≡ decoded record_bytes) where
  pub adds : filed (add buffer at b (content p)) ≡ page_add record_bytes buffer at b
  adds = ap (λ (x : Party). filed (add buffer at b (content x))) l ∙ rw a

  pub adds_index : add_index buffer at b (content p) ≡ page_add_index record_bytes buffer at b
  adds_index = ap (λ (x : Party). add_index buffer at b (content x)) l ∙ rw a

-- ---- reading
-- a read's refusal
abbrev pub reply_of : ReadOutcome → Reply
reply_of (a_record p) = accepted
reply_of the_end = accepted
reply_of (a_refusal k n) = refused k n

-- what a read gave, without its record, tells its number and its refusal
pub kind_code : (o : ReadOutcome) (moved : ℕ) → move_code (kind_of o) moved ≡ read_code o moved
kind_code (a_record p) moved = refl
kind_code the_end moved = refl
kind_code (a_refusal k n) moved = refl

pub kind_within : (o : ReadOutcome) (moved : ℕ) → Named (reply_of o) → moved ≤ page_most → IsMove (kind_of o) moved
kind_within (a_record p) moved n m = m
kind_within the_end moved n m = m
kind_within (a_refusal k l) moved n m = (n, m)

outcome_line : (r : Reply) (p : Party) → Named r → Named (reply_of (outcome_of r p))
outcome_line accepted p h = tt
outcome_line (refused k n) p h = h

pub page_line : (page : List ℕ) (at : ℕ) → Named (reply_of (read_at page at).outcome)
page_line =
    every_read (λ x. Named (reply_of x)) (λ o body. outcome_line (read o body).reply (read o body).party (read_line o body)) (λ k h. (h, omega arith)) tt

module _ (page : List ℕ) (at : ℕ) where
  pub onward_from : at ≤ (read_at page at).next
  onward_from = ⊎_elim (λ s. omega (arith, s)) (λ m. omega (arith, m.past)) (stays_or_moves page at)

  -- a read into lent bytes: its refusal, and where it leads
  by_lent : (t : Reply) → Named t → let r = lent_by t (read_at page at) at in Named (reply_of r.outcome) × (at ≤ r.next) × (r.next ≤ at + page_most)
  by_lent accepted n = (page_line page at, onward_from, next_most page at)
  by_lent (refused k l) n = (n, omega arith, omega arith)

  module _ (bytes : List ℕ) where
    pub lent_bounded : let r = read_lent page at bytes in Named (reply_of r.outcome) × (at ≤ r.next) × (r.next ≤ at + page_most)
    lent_bounded = by_lent (room_reply (length bytes)) (must_line (leb record_size (length bytes)) 42 0 (omega arith) (omega arith))

    -- the read of the code, and what it stored
    module _ {k : Kind} {next : ℕ} (e : (record { kind = k; next = next }) ≡ outline (read_lent page at bytes)) where
      abbrev r : PageRead
      r = read_lent page at bytes

      pub answer_next : (at ≤ next) × (next ≤ at + page_most)
      answer_next = subst (λ (n : ℕ). (at ≤ n) × (n ≤ at + page_most)) (sym (ap (λ (y : Outline). y.next) e)) (lent_bounded.1, lent_bounded.2)

      pub answer_move : IsMove k (next - at)
      answer_move = subst (λ (y : Outline). IsMove y.kind (y.next - at)) (sym e) (kind_within r.outcome (r.next - at) lent_bounded.0 (omega (arith, lent_bounded)))

      pub reads : {code : ℕ} {out : List ℕ} → code ≡ move_code k (next - at) → out ≡ read_bytes r.outcome bytes → (record { code = code; bytes = out }) ≡ page_read page at bytes
      reads q o =
          let told = q ∙ ap (λ (y : Outline). move_code y.kind (y.next - at)) e ∙ kind_code r.outcome (r.next - at) in
          λ i. record { code = told i; bytes = o i }
