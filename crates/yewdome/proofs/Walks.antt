-- The loop over a page: what is left of the run after each read. Assumes nothing.
use Prim.Native.Nat.{ℕ, suc, ◌+◌, ◌*◌, ◌-◌, ◌/◌, ◌≤◌, ◌<◌}
use mathlib.Core.Path.{◌≡◌, refl, sym, ap, ◌∙◌, subst}
use mathlib.Core.Bool.{Bool, true, false, ◌||◌}
use mathlib.Core.List.{List, [], ◌∷◌, map}
use native.Mathlib.Nat.{div-eq_of_lt}
use native.Mathlib.Omega.{arith}
use borrow.Author.Tests.{lt-ltb, le-ltb}
use lib.ListN.{length, set}
use Rattle.std.specs.Prelude.{Option, Some, None}
use lib.Dec.{eqb}
use Rattle.errors.specs.Refusals.{accepted, refused}
use Rattle.party.specs.declared.Party.{Party}
use Rattle.party.specs.Party.{content}
use Rattle.writer.specs.Code.{Puts}
use Rattle.writer.proofs.Puts.{puts_byte, space, Partway, finished, kept, next}
use Rattle.page_reader.specs.Pages.{page_most, ReadOutcome, a_record, the_end, a_refusal, PageRead, read_at, kind_of, outline}
use Rattle.page_reader.specs.Reads.{Read, read_here, is_the_end, is_last, reads}
use Rattle.page_reader.proofs.Moves.{next_most}
use Rattle.page_reader.proofs.InTurn.{read_moves, rest, rest_some, rest_last, rest_next, reads_most, reads_few}
use Rattle.page_writer.specs.Adding.{Filed, position_after, refusal, add}
use Rattle.page_writer.specs.Fold.{Step, Run, run}
use Rattle.page_writer.specs.WholePage.{OpenPage}
use Rattle.page_writer.proofs.Fold.{run_length}
use Rattle.kept.specs.Fields.{causes_by}
use Rattle.yewdome.specs.Filing.{filed_as, open_page}
use Rattle.yewdome.specs.Interface.{position_room, causes_unit, pack_unit, code_of, read_code, causes_code, page_close, read_number, listing, page_answers, file_numbers, filing, page_file}
use Rattle.yewdome.specs.Code.{Named, Within, outcome_by, answer_by, step_by, walk_by, ends, follows, told_step, Walks}
use Rattle.yewdome.proofs.Pages.{add_within, reply_of}
use Rattle.yewdome.proofs.Theorems.{high}

-- ---- a step's answer
-- its refusal has a number from 1 on
filed_named : (f : Filed) (p : Party) → Within f → Named (reply_of (filed_as f p))
filed_named (position_after n) p h = tt
filed_named (refusal k n) p h = h

pub named_by : (files : Bool) (s : OpenPage) (x : ReadOutcome) → Named (reply_of x) → Named (reply_of (outcome_by files s x).answer)
named_by true s (a_record p) h = filed_named (add s.buffer s.position s.index (content p)).answer p (add_within s.buffer s.position s.index (content p))
named_by true s the_end h = tt
named_by true s (a_refusal k n) h = h
named_by false s x h = h

-- it is the end where the read is
filed_ended : (f : Filed) (p : Party) → is_the_end (filed_as f p) ≡ false
filed_ended (position_after n) p = refl
filed_ended (refusal k n) p = refl

pub ended_by : (files : Bool) (s : OpenPage) (x : ReadOutcome) → is_the_end (outcome_by files s x).answer ≡ is_the_end x
ended_by true s (a_record p) = filed_ended (add s.buffer s.position s.index (content p)).answer p
ended_by true s the_end = refl
ended_by true s (a_refusal k n) = refl
ended_by false s x = refl

-- its number tells whether it is the end
module _ (moved : ℕ) (h : moved ≤ page_most) where
  code_end : (x : ReadOutcome) → Named (reply_of x) → read_code x moved / position_room ≡ 1 → is_the_end x ≡ true
  code_end (a_record p) n e =
      let z : moved / position_room ≡ 0 = div-eq_of_lt (omega (arith, h)) in
      absurd (omega (arith, sym z ∙ e))
  code_end the_end n e = refl
  code_end (a_refusal k l) n e =
      let c : read_code (a_refusal k l) moved ≡ code_of (refused k l) * position_room * position_room + moved = omega arith in
      absurd (omega (arith, sym (high position_room (code_of (refused k l) * position_room) moved (omega (arith, h))) ∙ ap (λ (m : ℕ). m / position_room) (sym c) ∙ e, n.0))

-- so does a filed one's
module _ (page : List ℕ) (at : ℕ) where
  abbrev past : ℕ
  past = (read_at page at).next - at

  past_few : past ≤ page_most
  past_few = omega (arith, next_most page at)

  -- a record's, with its causes
  caused_high : (k : ℕ) → (k * causes_unit + past) / position_room ≡ 2 * k
  caused_high k =
      let e : k * causes_unit + past ≡ 2 * k * position_room + past = omega arith in
      ap (λ (m : ℕ). m / position_room) e ∙ high position_room (2 * k) past (omega (arith, past_few))

  pub answer_end : (files : Bool) (x : ReadOutcome) → Named (reply_of x) → answer_by files page (read_here page at) x / position_room ≡ 1 → is_the_end x ≡ true
  answer_end true (a_record p) n e = let k = causes_code (causes_by page at (a_record p)) in absurd (omega (arith, sym (caused_high k) ∙ e))
  answer_end true the_end n e = refl
  answer_end true (a_refusal k l) n e = code_end past past_few (a_refusal k l) n e
  answer_end false x n e = code_end past past_few x n e

-- ---- where the next read is
next_by : (r : PageRead) (at : ℕ) → follows (outline r) at ≡ elim (is_last r at) [ true ↦ None | false ↦ Some r.next ]
next_by r at = ap (λ (b : Bool). elim (b || eqb r.next at) as (λ b. Option ℕ) [ true ↦ None | false ↦ Some r.next ]) (go r.outcome)
  where
    go : (x : ReadOutcome) → ends (kind_of x) ≡ is_the_end x
    go (a_record p) = refl
    go the_end = refl
    go (a_refusal k n) = refl

module _ (r : PageRead) (at : ℕ) {o : Option ℕ} (e : o ≡ follows (outline r) at) where
  pub none_last : o ≡ None → is_last r at ≡ true
  none_last q = go (is_last r at) (sym q ∙ e ∙ next_by r at)
    where
      go : (b : Bool) → ◌≡◌ {A = Option ℕ} None (elim b [ true ↦ None | false ↦ Some r.next ]) → b ≡ true
      go true h = refl
      go false h = cc

  pub some_next : {n : ℕ} → o ≡ Some n → (is_last r at ≡ false) × (n ≡ r.next)
  some_next {n} q = go (is_last r at) (sym q ∙ e ∙ next_by r at)
    where
      go : (b : Bool) → Some n ≡ elim b [ true ↦ None | false ↦ Some r.next ] → (b ≡ false) × (n ≡ r.next)
      go true h = absurd cc
      go false h = (refl, cc)

-- ---- the run
module _ (files : Bool) (page : List ℕ) where
  -- from a position on
  abbrev pub left : OpenPage → ℕ → Run OpenPage ℕ
  left s at = run (step_by files page) s (rest page at)

  -- the read at a position
  abbrev turn : OpenPage → ℕ → Step OpenPage ℕ
  turn s at = step_by files page s (read_here page at)

  left_last : (s : OpenPage) (at : ℕ) → is_last (read_at page at) at ≡ true → left s at ≡ record { state = (turn s at).state; answers = (turn s at).answer ∷ [] }
  unfolding run
  left_last s at e = ap (run (step_by files page) s) (rest_last page at e)

  left_next : (s : OpenPage) (at : ℕ) → is_last (read_at page at) at ≡ false → let l = left (turn s at).state (read_at page at).next in
      left s at ≡ record { state = l.state; answers = (turn s at).answer ∷ l.answers }
  unfolding run
  left_next s at e = ap (run (step_by files page) s) (rest_next page at e)

  module _ (buffer answers : List ℕ) where
    -- the loop's invariant: what is left ends as the whole run does, and the answers so far are stored
    pub record Partly (s : OpenPage) (numbers : List ℕ) (at count : ℕ) : Type 0 where
      pub within : at ≤ length page
      pub state : (left s at).state ≡ (walk_by files page buffer).state
      pub stored : Partway answers 0 (walk_by files page buffer).answers numbers count (left s at).answers

    -- or nothing is left
    pub record Whole (s : OpenPage) (numbers : List ℕ) (count : ℕ) : Type 0 where
      pub state : s ≡ (walk_by files page buffer).state
      pub puts : Puts answers 0 (walk_by files page buffer).answers numbers count

    -- by where the next read is
    abbrev pub Going : OpenPage → List ℕ → Option ℕ → ℕ → Type 0
    Going s numbers (Some at) count = Partly s numbers at count
    Going s numbers None count = Whole s numbers count

    -- while the page is not read to its last, there is a number lent for the next answer
    pub there : length page < length answers → {s : OpenPage} {numbers : List ℕ} {at count : ℕ} → Partly s numbers at count → count < length answers
    there room {s} {numbers} {at} v =
        let w = v.stored in
        let fits : 0 + length (walk_by files page buffer).answers ≤ length answers = omega (arith, run_length (step_by files page) (open_page buffer 0) (reads page), reads_most page, room) in
        omega (arith, kept w fits, space w.done (left s at).answers w.puts (rw w.left fits), run_length (step_by files page) s (rest page at), rest_some page at)

    -- and with no more numbers nothing is left
    pub none_left : length page < length answers → (s : OpenPage) (numbers : List ℕ) (o : Option ℕ) {count : ℕ} → Going s numbers o count → length answers ≤ count → o ≡ None
    none_left room s numbers None g h = refl
    none_left room s numbers (Some at) g h = absurd (omega (arith, h, there room g))

    -- the code's step at a position, in a turn of the loop: its answer, with the position and the buffer that it left
    pub record Turn (s : OpenPage) (numbers : List ℕ) (at count answer position : ℕ) (now : List ℕ) : Type 0 where
      pub room : length page < length answers
      pub inv : Partly s numbers at count
      pub step : told_step answer now position ≡ turn s at

    pub count_few : length (walk_by files page buffer).answers ≤ suc page_most
    count_few = omega (arith, run_length (step_by files page) (open_page buffer 0) (reads page), reads_few page)

module _
    {files : Bool} {page buffer answers : List ℕ} {s : OpenPage} {numbers : List ℕ} {at count answer position : ℕ} {now : List ℕ}
    (t : Turn files page buffer answers s numbers at count answer position now)
  where
    abbrev whole : List ℕ
    whole = (walk_by files page buffer).answers

    fits : 0 + length whole ≤ length answers
    fits = omega (arith, run_length (step_by files page) (open_page buffer 0) (reads page), reads_most page, t.room)

    -- it is stored, whatever is left
    stores : (later : List ℕ) → (left files page s at).answers ≡ (turn files page s at).answer ∷ later → Partway answers 0 whole (set numbers count answer) (count + 1) later
    stores later e =
        let w : Partway answers 0 whole numbers count (answer ∷ later) = subst (Partway answers 0 whole numbers count) (e ∙ ap (λ (x : Step OpenPage ℕ). x.answer ∷ later) (sym t.step)) t.inv.stored in
        next (answer ∷ []) later w fits (puts_byte numbers count answer (omega (arith, kept w fits, there files page buffer answers t.room t.inv)))

    finishes : is_last (read_at page at) at ≡ true → Whole files page buffer answers (open_page now position) (set numbers count answer) (count + 1)
    finishes e =
        let l = left_last files page s at e in
        record {
          state = ap (λ (x : Step OpenPage ℕ). x.state) t.step ∙ ap (λ (x : Run OpenPage ℕ). x.state) (sym l) ∙ t.inv.state;
          puts = finished (stores [] (ap (λ (x : Run OpenPage ℕ). x.answers) l));
        }

    continues : is_last (read_at page at) at ≡ false → {to : ℕ} → to ≡ (read_at page at).next → Partly files page buffer answers (open_page now position) (set numbers count answer) to (count + 1)
    continues e {to} q =
        let later : left files page (turn files page s at).state (read_at page at).next ≡ left files page (open_page now position) to = sym (λ j. left files page (t.step j).state (q j)) in
        let l = left_next files page s at e in
        let state : (left files page s at).state ≡ (left files page (open_page now position) to).state = ap (λ (x : Run OpenPage ℕ). x.state) l ∙ ap (λ (x : Run OpenPage ℕ). x.state) later in
        record {
          within = omega (arith, q, (read_moves page at e).1);
          state = sym state ∙ t.inv.state;
          stored = stores (left files page (open_page now position) to).answers
              (ap (λ (x : Run OpenPage ℕ). x.answers) l ∙ ap (λ (x : Run OpenPage ℕ). (turn files page s at).answer ∷ x.answers) later);
        }

    pub goes_on : (o : Option ℕ) → o ≡ follows (outline (read_at page at)) at → Going files page buffer answers (open_page now position) (set numbers count answer) o (count + 1)
    goes_on None e = finishes (none_last (read_at page at) at e refl)
    goes_on (Some n) e = let w = some_next (read_at page at) at e refl in continues w.0 w.1

-- what was walked, where nothing is left
module _ {files : Bool} {page buffer answers : List ℕ} {now numbers : List ℕ} {count position : ℕ} where
  pub walked : {o : Option ℕ} → Going files page buffer answers (open_page now position) numbers o count → o ≡ None → {bytes : List ℕ} → bytes ≡ now → Walks files page buffer answers count position bytes numbers
  walked {o} g e q =
      let w : Going files page buffer answers (open_page now position) numbers None count = subst (λ (o : Option ℕ). Going files page buffer answers (open_page now position) numbers o count) e g in
      record { state = ap (λ (bs : List ℕ). open_page bs position) q ∙ w.state; puts = w.puts }

-- ---- what the calls give
read_numbers : (page : List ℕ) (s : OpenPage) (rs : List Read) → (run (step_by false page) s rs).answers ≡ map read_number rs
unfolding run
read_numbers page s [] = refl
read_numbers page s (r ∷ rs) = ap (◌∷◌ (read_number r)) (read_numbers page s rs)

module _ (page answers : List ℕ) where
  -- 43
  module _ (short : length answers ≤ length page) where
    pub answers_short : (record { code = 43 * position_room; answers = answers }) ≡ page_answers page answers
    answers_short = rw (le-ltb (length page) (length answers) short)

    pub file_short : (buffer : List ℕ) → (record { code = 43 * position_room; bytes = buffer; answers = answers }) ≡ page_file page buffer answers
    file_short buffer = rw (le-ltb (length page) (length answers) short)

  module _ {files : Bool} {buffer bytes numbers : List ℕ} {count position : ℕ} (w : Walks files page buffer answers count position bytes numbers) where
    counted : count ≡ length (walk_by files page buffer).answers
    counted = omega (arith, w.puts.ends)

    pub walked_few : count ≤ suc page_most
    walked_few = omega (arith, counted, count_few files page buffer answers)

  module _ (room : length page < length answers) {buffer bytes numbers : List ℕ} {count position : ℕ} where
    pub lists : Walks false page buffer answers count position bytes numbers → (record { code = count; answers = numbers }) ≡ page_answers page answers
    lists w =
        let tells : (record { code = count; answers = numbers }) ≡ listing accepted (walk_by false page buffer).answers answers = λ j. record { code = counted w j; answers = w.puts.bytes j } in
        tells ∙ ap (λ (ns : List ℕ). listing accepted ns answers) (read_numbers page (open_page buffer 0) (reads page)) ∙ rw (lt-ltb (length page) (length answers) room)

    pub files_all : Walks true page buffer answers count position bytes numbers → {last : List ℕ} {code : ℕ} → (record { code = code; bytes = last }) ≡ page_close bytes position
        → (record { code = count * pack_unit + code; bytes = last; answers = numbers }) ≡ page_file page buffer answers
    files_all w {last} {code} e =
        let d : (record { code = code; bytes = last }) ≡ page_close (walk_by true page buffer).state.buffer (walk_by true page buffer).state.position = e ∙ ap (λ (s : OpenPage). page_close s.buffer s.position) w.state in
        let closes : (record { code = count * pack_unit + code; bytes = last; answers = numbers }) ≡ filing accepted (file_numbers page buffer) buffer answers =
        λ j. record { code = counted w j * pack_unit + (d j).code; bytes = (d j).bytes; answers = w.puts.bytes j } in
        closes ∙ rw (lt-ltb (length page) (length answers) room)
