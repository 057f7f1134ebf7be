-- A step of the loop over a page, from what `page_reader::read_at_into` and `page_writer::add_record` give. Assumes nothing.
use Prim.Native.Nat.{ℕ, ◌+◌, ◌*◌, ◌-◌, ◌≤◌}
use mathlib.Core.Path.{◌≡◌, refl, sym, ap, ◌∙◌, subst}
use mathlib.Core.Bool.{Bool, true, false, ◌&&◌, true≢false, false≢true}
use mathlib.Core.List.{List}
use native.Mathlib.Omega.{arith}
use lib.ListN.{length, replicate}
use Rattle.std.specs.Prelude.{Result, Ok, Err}
use Rattle.errors.specs.declared.ParseError.{ParseError}
use Rattle.errors.specs.Refusals.{told_error}
use Rattle.party.specs.declared.Party.{Party}
use Rattle.party.specs.Party.{content}
use Rattle.writer.specs.Writing.{written_field}
use Rattle.page_reader.specs.Pages.{page_most, ReadOutcome, a_record, the_end, a_refusal, PageRead, read_at, read_lent, read_bytes, Kind, kind_of, Outline, outline}
use Rattle.page_reader.proofs.Moves.{next_most}
use Rattle.page_reader.specs.Reads.{read_here}
use Rattle.page_writer.specs.IndexState.{no_index}
use Rattle.page_writer.specs.Adding.{with_lf, Filed, Call, add, told_filed, told_call}
use Rattle.page_writer.specs.Fold.{Step}
use Rattle.page_writer.specs.WholePage.{OpenPage, last_given}
use Rattle.page_writer.proofs.Addings.{index_none}
use Rattle.kept.specs.Fields.{causes_by}
use Rattle.record_bytes.specs.RecordBytes.{record_size, decoded}
use Rattle.yewdome.specs.Filing.{open_page, filed_as}
use Rattle.yewdome.specs.Interface.{causes_unit, packed, code_of, read_code, causes_code, caused_number, page_kept}
use Rattle.yewdome.specs.Code.{Small, IsMove, move_code, step_by, is_record, told_step}
use Rattle.yewdome.proofs.Pages.{kind_code, kind_within, add_within, add_taken, filed_small, page_line, onward_from}
use Rattle.yewdome.proofs.Theorems.{page_loads}

-- what a read of the code gave, with room for a record
pub record Given (page : List ℕ) (at : ℕ) (k : Kind) (next : ℕ) (into : List ℕ) : Type 0 where
  pub gave : (record { kind = k; next = next }) ≡ outline (read_at page at)
  pub loads : {p : Party} → (read_at page at).outcome ≡ a_record p → decoded into ≡ p

-- where the record lent to it is zeros
pub read : (page : List ℕ) (at : ℕ) {k : Kind} {next : ℕ} {into : List ℕ} → let r = read_lent page at (replicate record_size 0) in
    (record { kind = k; next = next }) ≡ outline r → into ≡ read_bytes r.outcome (replicate record_size 0) → Given page at k next into
read page at e i = record { gave = e; loads = λ {p} q. ap decoded i ∙ page_loads page at (replicate record_size 0) p (omega arith) q }

module _ {page : List ℕ} {at : ℕ} {k : Kind} {next : ℕ} {into : List ℕ} (g : Given page at k next into) where
  abbrev r : PageRead
  r = read_at page at

  abbrev moved : ℕ
  moved = next - at

  kind : k ≡ kind_of r.outcome
  kind = ap (λ (y : Outline). y.kind) g.gave

  goes_to : next ≡ r.next
  goes_to = ap (λ (y : Outline). y.next) g.gave

  pub onward : (at ≤ next) × (next ≤ at + page_most)
  onward = (omega (arith, goes_to, onward_from page at), omega (arith, goes_to, next_most page at))

  pub is_move : IsMove k moved
  is_move = subst (λ (y : Outline). IsMove y.kind (y.next - at)) (sym g.gave) (kind_within r.outcome (r.next - at) (page_line page at) (omega (arith, next_most page at)))

  -- the number of a read, by its outcome
  number : {n : ℕ} → n ≡ move_code k moved → {x : ReadOutcome} → r.outcome ≡ x → n ≡ read_code x (r.next - at)
  number q {x} e = q ∙ ap (λ (y : Outline). move_code y.kind (y.next - at)) g.gave ∙ kind_code r.outcome (r.next - at) ∙ ap (λ (x : ReadOutcome). read_code x (r.next - at)) e

  -- a record
  by_outcome : {b : Bool} → is_record k ≡ b → {x : ReadOutcome} → r.outcome ≡ x → is_record (kind_of x) ≡ b
  by_outcome e q = ap is_record (sym (kind ∙ ap kind_of q)) ∙ e

  pub is_read : is_record k ≡ true → (r.outcome ≡ a_record (decoded into)) × (r.next ≡ at + moved)
  is_read e = go r.outcome refl
    where
      go : (x : ReadOutcome) → r.outcome ≡ x → (r.outcome ≡ a_record (decoded into)) × (r.next ≡ at + moved)
      go (a_record p) q = (q ∙ ap a_record (sym (g.loads q)), omega (arith, goes_to, onward))
      go the_end q = absurd (false≢true (by_outcome e q))
      go (a_refusal i m) q = absurd (false≢true (by_outcome e q))

  -- a read with the causes beside it
  pub kept_none : is_record k ≡ false → {n : ℕ} → n ≡ move_code k moved → n ≡ page_kept page at
  kept_none l {n} c = go r.outcome refl
    where
      go : (x : ReadOutcome) → r.outcome ≡ x → n ≡ page_kept page at
      go (a_record p) q = absurd (true≢false (by_outcome l q))
      go the_end q = number c q ∙ ap (caused_number page (read_here page at)) (sym q)
      go (a_refusal i m) q = number c q ∙ ap (caused_number page (read_here page at)) (sym q)

  pub kept_some : is_record k ≡ true → {n : ℕ} → n ≡ causes_code (causes_by page at r.outcome) → n * causes_unit + moved ≡ page_kept page at
  kept_some l {n} e = go r.outcome refl
    where
      go : (x : ReadOutcome) → r.outcome ≡ x → n * causes_unit + moved ≡ page_kept page at
      go (a_record p) q =
          (λ i. (e ∙ ap (λ (x : ReadOutcome). causes_code (causes_by page at x)) q) i * causes_unit + (goes_to i - at)) ∙ ap (caused_number page (read_here page at)) (sym q)
      go the_end q = absurd (false≢true (by_outcome l q))
      go (a_refusal i m) q = absurd (false≢true (by_outcome l q))

  -- a step that files nothing: at the end, at a refusal, and where no record is filed
  module _ (files : Bool) (now : List ℕ) (position : ℕ) where
    abbrev s : OpenPage
    s = open_page now position

    pub none_filed : (files && is_record k) ≡ false → {n : ℕ} → n ≡ move_code k moved → told_step n now position ≡ step_by files page s (read_here page at)
    none_filed l {n} c = go files r.outcome refl l
      where
        go : (b : Bool) (x : ReadOutcome) → r.outcome ≡ x → (b && is_record k) ≡ false → told_step n now position ≡ step_by b page s (read_here page at)
        go true (a_record p) q h = absurd (true≢false (by_outcome h q))
        go true the_end q h = ap (λ (m : ℕ). told_step m now position) (number c q) ∙ rw q
        go true (a_refusal i m) q h = ap (λ (m : ℕ). told_step m now position) (number c q) ∙ rw q
        go false x q h = ap (λ (m : ℕ). told_step m now position) (number c refl)

pub moved_few : (page : List ℕ) (at : ℕ) {moved : ℕ} → (read_at page at).next ≡ at + moved → moved ≤ page_most
moved_few page at moves = omega (arith, moves, next_most page at)

-- ---- a record, added
module _ (page : List ℕ) (at : ℕ) (into : List ℕ) (moved : ℕ) (read : (read_at page at).outcome ≡ a_record (decoded into)) (moves : (read_at page at).next ≡ at + moved) (now : List ℕ) (position : ℕ) (f : Result ℕ ParseError) {left : List ℕ} (a : told_call f left ≡ add now position no_index (content (decoded into))) where
  abbrev p : Party
  p = decoded into

  abbrev c : Call
  c = add now position no_index (content p)

  abbrev to_step : Step OpenPage ℕ
  to_step = step_by true page (open_page now position) (read_here page at)

  -- the step, by what the add answered
  abbrev after : Filed → Step OpenPage ℕ
  after x = record { state = open_page left (last_given x position); answer = caused_number page (read_here page at) (filed_as x p) }

  is_after : {x : Filed} → told_filed f ≡ x → after x ≡ to_step
  is_after q =
      let r = read_at page at in
      let told : after (told_filed f) ≡ step_by true page (open_page now position) (record { at = at; gave = record { outcome = a_record p; body = r.body; next = r.next } }) =
      λ j. record { state = record { buffer = (a j).buffer; position = last_given (a j).answer position; index = sym (index_none now position (content p)) j }; answer = caused_number page (read_here page at) (filed_as (a j).answer p) } in
      ap after (sym q) ∙ told ∙ (λ j. step_by true page (open_page now position) (record { at = at; gave = record { outcome = sym read j; body = r.body; next = r.next } }))

  past : moved ≡ (read_at page at).next - at
  past = omega (arith, moves)

  pub add_small : Small f
  add_small = filed_small f a (add_within now position no_index (content p))

  -- it was filed: how many bytes were written, and what the step answers
  pub filed_as_lem : {to : ℕ} → f ≡ Ok to → (position ≤ to) × (to - position ≡ length (with_lf (written_field (content p))))
  filed_as_lem {to} q =
      let w1 : to ≡ position + length (with_lf (written_field (content p))) = (add_taken now position no_index (content p) (sym (ap (λ (x : Call). x.answer) a) ∙ ap told_filed q)).0 in
      (omega (arith, w1), omega (arith, w1))

  pub was_filed : {to : ℕ} → f ≡ Ok to → {k : ℕ} → k ≡ causes_code (causes_by page at (read_at page at).outcome) → told_step (k * causes_unit + moved) left to ≡ to_step
  was_filed {to} q e =
      (λ j. told_step ((e ∙ ap (λ (x : ReadOutcome). causes_code (causes_by page at x)) read) j * causes_unit + past j) left to) ∙ is_after (ap told_filed q)

  pub was_refused : {e : ParseError} → f ≡ Err e → {k : ℕ} → k ≡ code_of (told_error e) → told_step (packed k moved) left position ≡ to_step
  was_refused q z = (λ j. told_step (packed (z j) (past j)) left position) ∙ is_after (ap told_filed q)
