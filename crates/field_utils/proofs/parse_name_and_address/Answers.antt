-- `parse_name_and_address` meets its contract. Of the lines: what all of them say is what those that are left say, and those passed
-- are filled. Of a line's bytes: the test of all is the test of those left. Assumes nothing.
use Rattle.std.proofs.Common.{Bor, ◌≡◌, ℕ, suc, ◌+◌, ◌-◌, ◌≤◌, Bool, List, [], ◌∷◌, length, take, drop, sym, refl, ap, ◌∙◌, subst, arith, length-take, drop-drop, Option, None, Some}
use Rattle.std.proofs.lemmas.List.{drop-take}
use Rattle.std.proofs.lemmas.Option.{none-some, same_Some}
use Rattle.std.proofs.lemmas.Result.{err_from_is_err_and}
use Rattle.errors.specs.Refusals.{Reply, accepted, refused, must}
use Rattle.party.specs.declared.PartyOption.{PartyOption}
use Rattle.party.specs.declared.Limits.{Limits}
use Rattle.party.specs.declared.Part.{Part}
use Rattle.party.specs.Text.{part_in, texts_in, four, four_texts}
use Rattle.party.specs.declared.Numbering.{Numbering}
use Rattle.swift_utils.specs.Bytes.{all, legal}
use Rattle.swift_utils.proofs.Classes.{class_legal, all_fails, all_done}
use Rattle.swift_utils.proofs.Table.{by_entries}
use Rattle.swift_utils.proofs.Parts.{part}
use Rattle.field_utils.specs.declared.lines.Lines.{Lines}
use Rattle.field_utils.specs.Lines.{lines}
use Rattle.field_utils.specs.Names.{parse_line, parse_count, dropped_prefix, NamesRead, read_names}
use Rattle.field_utils.specs.Cursor.{next_line, GivesLine, kept_place, line_places, name_places}
use Rattle.field_utils.specs.Code.{parse_shape, given_names}
use Rattle.field_utils.proofs.Places.{Found, given, found, ended, next_done}
use Rattle.field_utils.proofs.NameLines.{kept_room, line_refused, line_bytes, read_refused}
use Rattle.field_utils.proofs.NameTexts.{Passed, no_parts, passed_none, passed_refused, passed_more, passed_past, passed_all}
use Rattle.field_utils.proofs.AllBytes.{all_part}
use Rattle.field_utils.proofs.NamePlaces.{marked_none, marked_more, marked_past, marked_all}
use Rattle.field_utils.proofs.parse_name_and_address.Goals as goal
use Rattle.field_utils.proofs.parse_name_and_address.Goals.{in_default, in-Some+in_ok-parse_line+then-loop-b-test+then-not-is_legal, After-loop-b, After-part_of-text, At-lines, At-loop-b, Joined-next}

-- at the head of the loop over the lines
module _ (t : At-lines) where
  abbrev body : List ℕ
  body = t.args.lines.text.now

  -- how many body lines precede, and how many names were counted
  abbrev earlier : ℕ
  earlier = t.args.start_idx

  abbrev count : ℕ
  count = t.lines.count

  abbrev parts : List Part
  parts = t.lines.parts

  abbrev digits : List ℕ
  digits = t.lines.digits

  -- where the next line starts
  abbrev place : ℕ
  place = t.lines.lines.at

  abbrev option : PartyOption
  option = t.args.option

  abbrev limits : Limits
  limits = t.limits_of-limits.result.now

  abbrev numbering : Numbering
  numbering = limits.numbering

  -- how many bytes of a line are not kept
  abbrev skip : ℕ
  skip = t.dropped_prefix-kept.result

  abbrev names : List (List ℕ)
  names = lines (drop t.args.lines.at body)

  -- where the lines of the names stand
  abbrev places : List Part
  places = line_places body t.args.lines.at

  -- what the contract says
  abbrev answer : NamesRead
  answer = read_names option (suc earlier) names

  -- what a call of the iterator says of a line that it gave
  module _ {r : Option Part} {after : Lines} {p : Part} (g : GivesLine t.lines.lines r after) (e : r ≡ Some p) where
    text_stays : after.text ≡ t.args.lines.text
    text_stays = g.text ∙ t.lines.invariant.0

    fits : Found body place p after.at
    fits = subst (λ (x : Bor (List ℕ)). Found x.now place p after.at) t.lines.invariant.0 (found g e)

    is_next : next_line body place ≡ Some (record { part = p; rest = after.at })
    is_next = subst (λ (x : Bor (List ℕ)). next_line x.now place ≡ Some (record { part = p; rest = after.at })) t.lines.invariant.0 (given g e)

    is_there : {l : List ℕ} → l ≡ part_in after.text.now p → l ≡ part_in body p
    is_there h = h ∙ ap (λ (x : Bor (List ℕ)). part_in x.now p) text_stays

    -- those before it have passed
    passed_before : {l : List ℕ} → l ≡ part_in after.text.now p → Passed body numbering limits.name_max earlier skip names count parts digits (l ∷ lines (drop after.at body))
    passed_before h = subst (Passed _ _ _ _ _ _ _ _ _) (fits.line ∙ ap (λ (l : List ℕ). l ∷ lines (drop after.at body)) (sym (is_there h))) t.lines.invariant.2

-- where a line was found
module _ (k : After-part_of-text) where
  abbrev top : At-lines
  top = (goal.at.After-part_of-text k).At-lines

  abbrev there : Part
  there = k.in-Some.part

  abbrev line : List ℕ
  line = k.part_of-text.result.now

  -- its place among the names, and its body line
  abbrev turn : ℕ
  turn = count top + 1

  abbrev number : ℕ
  number = earlier top + turn

  abbrev onward : ℕ
  onward = k.next.new.self.at

  found_there : Found (body top) (place top) there onward
  found_there = fits top k.next.ensures.steps k.in-Some.is

  counts : turn ≤ onward
  counts = omega (arith, found_there.moved, k.lines.invariant.1)

  so_far : Passed (body top) (numbering top) (limits top).name_max (earlier top) (skip top) (names top) (count top) (parts top) (digits top) (line ∷ lines (drop onward (body top)))
  so_far = passed_before top k.next.ensures.steps k.in-Some.is k.part_of-text.ensures

  -- what the line says before its bytes, and whole
  abbrev shape : Reply
  shape = parse_shape (numbering top) (limits top).name_max number turn line

  abbrev says : Reply
  says = parse_line (numbering top) (limits top).name_max number turn line

  -- a refusal of this line is that of the names
  refusal : {r j : ℕ} → says ≡ refused r j → ◌≡◌ {A = NamesRead} (record { reply = refused r j; count = 0; texts = four_texts []; digits = four 0 [] }) (answer top)
  refusal e = sym (read_refused (option top) k.limits_of-limits.ensures (suc (earlier top)) (names top) (passed_refused so_far e))

-- past the test of its number and its length, at its bytes: those left say the rest
by_bytes : (l : At-loop-b) {t : Bool}
    → all legal (part l.loop-b.b-index (length l.untested-b-items.result.now) l.untested-b-items.result.now) ≡ t
    → says (goal.at.At-loop-b l).After-part_of-text ≡ must t 3 (number (goal.at.At-loop-b l).After-part_of-text)
by_bytes l h = line_bytes _ _ _ _ _ (sym l.in_ok-parse_line.ensures) (l.loop-b.invariant ∙ h)

-- a line that passed
module _ (e : After-loop-b) where
  abbrev at_line : After-part_of-text
  at_line = (goal.at.After-loop-b e).After-part_of-text

  passes : says at_line ≡ accepted
  passes = by_bytes (goal.at.After-loop-b e).At-loop-b (all_done legal e.untested-b-items.result.now _ (length e.untested-b-items.result.now) e.loop-b-test.false)

  line_is : line at_line ≡ part_in (body (top at_line)) (there at_line)
  line_is = is_there (top at_line) e.next.ensures.steps e.in-Some.is e.part_of-text.ensures

  -- what is kept of it starts before its end
  room : skip (top at_line) ≤ (there at_line).len
  room =
      let k = at_line in
      omega (
        arith,
        kept_room (numbering (top k)) (limits (top k)).name_max (number k) (turn k) (line k) (sym e.in_ok-parse_line.ensures),
        e.dropped_prefix-kept.ensures,
        ap length line_is,
        length-take (there k).len (drop (there k).start (body (top k))),
      )

  -- that is the part of the body from there on
  kept_is : part_in (body (top at_line)) (kept_place (skip (top at_line)) (there at_line)) ≡ drop (skip (top at_line)) (line at_line)
  kept_is =
      let k = at_line in
      let s = drop (there k).start (body (top k)) in
      let n = (there k).len - skip (top k) in
      let whole : (there k).len ≡ skip (top k) + n = omega (arith, room) in
      ap (take n) (sym (drop-drop (skip (top k)) (there k).start (body (top k)))) ∙ sym (drop-take (skip (top k)) n s) ∙ ap (λ (m : ℕ). drop (skip (top k)) (take m s)) (sym whole) ∙ ap (drop (skip (top k))) (sym line_is)

pub lines-init : goal.lines-init
unfolding four
lines-init c =
    let body = c.args.lines.text.now in
    (refl, omega arith, passed_none body _ _ _ _ _ (no_parts body) refl, marked_none body _ _ refl, omega arith)

pub returns-in_err-parse_line-clause-result_value : goal.returns-in_err-parse_line-clause-result_value
returns-in_err-parse_line-clause-result_value c =
    let at = (goal.at.returns-in_err-parse_line-clause-result_value c).After-part_of-text in
    let p = err_from_is_err_and c.from_residual.result c.from_residual.ensures.1 in
    rw (p.1, p.2) (refusal at (line_refused _ _ _ _ _ (sym c.in_err-parse_line.ensures)))

-- where the test of all bytes passed, those of a line are legal
pub untested-b-items-requires : goal.untested-b-items-requires
untested-b-items-requires c = λ e.
    let k = (goal.at.untested-b-items-requires c).After-part_of-text in
    let from = c.args.lines.at in
    let all_legal = sym (by_entries 1 legal class_legal _ c.rest.result.now c.class_table.ensures) ∙ sym c.all_in-known.ensures ∙ e in
    ap (all legal) (is_there (top k) c.next.ensures.steps c.in-Some.is c.part_of-text.ensures)
    ∙ all_part legal (body (top k)) from (there k).start (there k).len (omega (arith, c.lines.invariant.4, (found_there k).onward)) (sym (ap (all legal) c.rest.ensures) ∙ all_legal)

pub overflow_add-start : goal.overflow_add-start
overflow_add-start c =
    let at = goal.at.overflow_add-start c in
    let f = found_there at.After-part_of-text in
    omega (arith, room at.After-loop-b, f.before, f.within)

pub overflow_sub-len : goal.overflow_sub-len
overflow_sub-len c = room (goal.at.overflow_sub-len c).After-loop-b

pub lines-preserved-then-count-lt4 : goal.lines-preserved-then-count-lt4
lines-preserved-then-count-lt4 c =
    let at = goal.at.lines-preserved-then-count-lt4 c in
    let k = at.After-part_of-text in
    let g = c.next.ensures.steps in (
      text_stays (top k) g c.in-Some.is,
      counts k,
      passed_more (so_far k) (passes at.After-loop-b) _ c.if-count-lt4.true (kept_is at.After-loop-b) c.digit_of.ensures,
      marked_more c.lines.invariant.3 (is_next (top k) g c.in-Some.is) c.if-count-lt4.true,
      omega (arith, c.lines.invariant.4, (found_there k).moved),
    )

pub lines-preserved : goal.lines-preserved
lines-preserved c =
    let at = goal.at.lines-preserved c in
    let k = at.After-part_of-text in
    let g = c.next.ensures.steps in (
      text_stays (top k) g c.in-Some.is,
      counts k,
      passed_past (so_far k) (passes at.After-loop-b) c.if-count-lt4.false,
      marked_past c.lines.invariant.3 (is_next (top k) g c.in-Some.is) c.if-count-lt4.false,
      omega (arith, c.lines.invariant.4, (found_there k).moved),
    )

-- the loop was left with the line of an illegal byte, or with no line left
module _ (m : Joined-next) where
  abbrev last : At-lines
  last = (goal.at.Joined-next m).At-lines

  illegal_refused : {n : ℕ} → m.match-next.illegal ≡ Some n → ◌≡◌ {A = NamesRead} (record { reply = refused 3 n; count = 0; texts = four_texts []; digits = four 0 [] }) (answer last)
  illegal_refused {n} e =
      elim m.match-next.branch [
        | in_default w ↦ absurd (none-some n (sym w.illegal-is ∙ e))
        | in-Some+in_ok-parse_line+then-loop-b-test+then-not-is_legal w ↦
            let l = w.untested-b-items.result.now in
            let fails = all_fails legal l w.loop-b.b-index (length l) w.loop-b-test.true (omega arith) (sym w.is_legal.ensures ∙ w.if-not-is_legal.true) in
            let says = line_bytes _ _ _ _ _ (sym w.in_ok-parse_line.ensures) (w.loop-b.invariant ∙ fails) in
            rw (same_Some _ _ (sym e ∙ w.illegal-is)) (sym (read_refused (option last) m.limits_of-limits.ensures (suc (earlier last)) (names last) (passed_refused (passed_before last m.next.ensures.steps w.in-Some.is w.part_of-text.ensures) says)))
      ]

  no_more : m.match-next.illegal ≡ None → m.next.result ≡ None
  no_more e =
      elim m.match-next.branch [
        | in_default w ↦ w.in_default.is
        | in-Some+in_ok-parse_line+then-loop-b-test+then-not-is_legal w ↦ absurd (none-some _ (sym e ∙ w.illegal-is))
      ]

  none_left : m.match-next.illegal ≡ None → (lines (drop (place last) (body last)) ≡ []) × (length (body last) ≤ place last)
  none_left e = subst (λ (x : Bor (List ℕ)). (lines (drop (place last) x.now) ≡ []) × (length x.now ≤ place last)) m.lines.invariant.0 (ended m.next.ensures.steps (no_more e))

  -- with none left, what the count says
  by_count : {r : Reply} → m.match-next.illegal ≡ None → r ≡ parse_count (limits last).max_names (count last) → given_names r (count last) (texts_in (body last) (parts last)) (digits last) ≡ answer last
  by_count e says =
      let none = (none_left e).0 in
      ap (λ (r : Reply). given_names r (count last) (texts_in (body last) (parts last)) (digits last)) says
      ∙ sym (passed_all (option last) m.limits_of-limits.ensures m.dropped_prefix-kept.ensures (subst (Passed _ _ _ _ _ _ _ _ _) none m.lines.invariant.2))

pub returns-in-Some-illegal-clause-result_value : goal.returns-in-Some-illegal-clause-result_value
returns-in-Some-illegal-clause-result_value c = illegal_refused (goal.at.returns-in-Some-illegal-clause-result_value c).Joined-next c.in-Some-illegal.is

pub returns-in_err-parse_count-clause-result_value : goal.returns-in_err-parse_count-clause-result_value
returns-in_err-parse_count-clause-result_value c =
    let p = err_from_is_err_and c.from_residual-in_err-parse_count.result c.from_residual-in_err-parse_count.ensures.1 in
    rw (p.1, p.2) (by_count (goal.at.returns-in_err-parse_count-clause-result_value c).Joined-next c.in_default-illegal.is c.in_err-parse_count.ensures)

pub returns-clause-result_value : goal.returns-clause-result_value
returns-clause-result_value c = by_count (goal.at.returns-clause-result_value c).Joined-next c.in_default-illegal.is c.in_ok-parse_count.ensures

pub returns-clause-places : goal.returns-clause-places
returns-clause-places c =
    let m = (goal.at.returns-clause-places c).Joined-next in
    let kept = c.dropped_prefix-kept.ensures ∙ ap (λ (l : Limits). dropped_prefix l.numbering) c.limits_of-limits.ensures in
    marked_all c.lines.invariant.3 (next_done (body (last m)) (place (last m)) (none_left m c.in_default-illegal.is).1) ∙ ap (λ (k : ℕ). name_places accepted k (places (last m))) kept
