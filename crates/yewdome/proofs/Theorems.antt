-- What a caller in another language gets: a number that tells the answer, and a record that loads as the one that was read. Assumes nothing.
use Prim.Native.Nat.{ℕ, ◌+◌, ◌*◌, ◌/◌, ◌%◌, ◌<◌, ◌≤◌}
use mathlib.Core.Path.{◌≡◌, refl, sym, ap, ◌∙◌, subst}
use mathlib.Core.Bool.{Bool}
use mathlib.Core.List.{List, ◌++◌}
use native.Mathlib.Nat.{add-zero, add_comm, div-eq_of_lt, mod-eq_of_lt, mul-add-div_right, add-mul-mod_self_right}
use native.Mathlib.Omega.{arith}
use borrow.Author.Tests.{leb-true, le-leb}
use lib.Dec.{leb}
use lib.ListN.{length, get_or, take, drop}
use Rattle.errors.specs.Refusals.{Reply, accepted, refused, must}
use Rattle.errors.proofs.Replies.{must_held, then_first}
use Rattle.party.specs.declared.Party.{Party}
use Rattle.party.specs.Limits.{option_at}
use Rattle.party.specs.Party.{content}
use Rattle.reader.specs.Reading.{Reading}
use Rattle.reader.specs.Options.{read}
use Rattle.reader.specs.declared.choices.Choice.{Choice}
use Rattle.reader.specs.Choices.{parse, parse_with_variant}
use Rattle.reader.proofs.Every.{every_parse, every_variant}
use Rattle.writer.specs.Writing.{written_field}
use Rattle.writer.specs.Placing.{Measured, length_is, refused_with, measure, place}
use Rattle.writer.proofs.Theorems.{measure_and_place}
use Rattle.page_reader.specs.Pages.{page_most, ReadOutcome, a_record, the_end, a_refusal, outcome_of, read_at, body_place}
use Rattle.page_reader.proofs.Moves.{every_read}
use Rattle.page_reader.proofs.Bodies.{body_there, body_most_lem}
use Rattle.record_bytes.specs.RecordBytes.{record_size, stored, decoded}
use Rattle.yewdome.specs.Interface.{position_room, pack_unit, Called, code_of, arguments_reply, argument_reply, after_checks, stored_call, given, party_read, choice_at, party_parse, party_parse_with_variant, measured_code, code_or, party_measure, placed_call, party_place, read_code, page_read, page_body}
use Rattle.yewdome.specs.Code.{Named, Measurable}
use Rattle.yewdome.proofs.LineBounds.{must_line, must_then, read_line}
use Rattle.reader.proofs.Loading.{Loads, blank_loads, read_loads, stored_loads}
use Rattle.yewdome.proofs.Answers.{parse_line_lem, variant_line, measure_within, place_within, measures, places}

-- ---- every reading's record loads as it was stored
pub parse_loads : (choice : Choice) (body : List ℕ) → Loads (parse choice body).party
parse_loads = every_parse (λ r. Loads r.party) read_loads (λ k h. blank_loads)

pub variant_loads : (choice : Choice) (body : List ℕ) (letter : ℕ) → Loads (parse_with_variant choice body letter).party
variant_loads = every_variant (λ r. Loads r.party) read_loads (λ k h. blank_loads)

-- ---- a number below 65,536 is no refusal's
pub no_refusal : (r : Reply) → Named r → code_of r < position_room → r ≡ accepted
no_refusal accepted n h = refl
no_refusal (refused k l) n h = absurd (omega (arith, n.0, h))

pub lent_named : (len : ℕ) (known : Bool) → Named (arguments_reply len known)
lent_named len known = must_then (leb record_size len) 42 0 (must known 41 0) (omega arith) (omega arith) (must_line known 41 0 (omega arith) (omega arith))

pub asked_passed : (r : Reply) (c : Called) (bytes : List ℕ) → Named r → (after_checks r c bytes).code < position_room → r ≡ accepted
asked_passed accepted c bytes n h = refl
asked_passed (refused k l) c bytes n h = no_refusal (refused k l) n h

code_passed : (r : Reply) (code : ℕ) → Named r → code_or r code < position_room → r ≡ accepted
code_passed accepted code n h = refl
code_passed (refused k l) code n h = no_refusal (refused k l) n h

pub lent_size : (len : ℕ) (known : Bool) → arguments_reply len known ≡ accepted → record_size ≤ len
lent_size len known e = leb-true record_size len (must_held (leb record_size len) 42 0 (then_first _ (must known 41 0) e))

-- ---- what a call leaves
module _ (known : Bool) (r : Reading) (bytes : List ℕ) (n : Named r.reply) (e : (given known r bytes).code ≡ 0) where
  abbrev c : Called
  c = stored_call r.reply r.party bytes

  a : arguments_reply (length bytes) known ≡ accepted
  a = asked_passed (arguments_reply (length bytes) known) c bytes (lent_named (length bytes) known) (omega (arith, e))

  gave : given known r bytes ≡ c
  gave = rw a

  -- the reading accepts, and the bytes load as its record
  pub accepts : r.reply ≡ accepted
  accepts = no_refusal r.reply n (omega (arith, e, ap (λ (x : Called). x.code) gave))

  pub loads : Loads r.party → decoded (given known r bytes).bytes ≡ r.party
  loads l =
      let is : c.bytes ≡ stored r.party bytes = rw accepts in
      ap (λ (x : Called). decoded x.bytes) gave ∙ (ap decoded is ∙ stored_loads r.party bytes l (lent_size (length bytes) known a))

-- where a call's number is 0, the bytes load as the record that was read
pub party_read_loads : (option : ℕ) (body bytes : List ℕ) → (party_read option body bytes).code ≡ 0 → decoded (party_read option body bytes).bytes ≡ (read (option_at option) body).party
party_read_loads option body bytes e = loads (leb option 10) (read (option_at option) body) bytes (read_line (option_at option) body) e (read_loads (option_at option) body)

pub party_parse_loads : (choice : ℕ) (body bytes : List ℕ) → (party_parse choice body bytes).code ≡ 0 → decoded (party_parse choice body bytes).bytes ≡ (parse (choice_at choice) body).party
party_parse_loads choice body bytes e = loads (leb choice 6) (parse (choice_at choice) body) bytes (parse_line_lem (choice_at choice) body) e (parse_loads (choice_at choice) body)

pub party_variant_loads : (choice : ℕ) (body : List ℕ) (letter : ℕ) (bytes : List ℕ) → (party_parse_with_variant choice body letter bytes).code ≡ 0
    → decoded (party_parse_with_variant choice body letter bytes).bytes ≡ (parse_with_variant (choice_at choice) body letter).party
party_variant_loads choice body letter bytes e =
    loads (leb choice 6) (parse_with_variant (choice_at choice) body letter) bytes (variant_line (choice_at choice) body letter) e (variant_loads (choice_at choice) body letter)

-- ---- what a page's read leaves
abbrev OutcomeLoads : ReadOutcome → Type 0
OutcomeLoads (a_record p) = Loads p
OutcomeLoads the_end = Unit {0}
OutcomeLoads (a_refusal k n) = Unit {0}

outcome_loads : (r : Reply) (p : Party) → Loads p → OutcomeLoads (outcome_of r p)
outcome_loads accepted p l = l
outcome_loads (refused k n) p l = tt

-- where a read gives a record and there is room for it, the bytes load as that record
pub page_loads : (page : List ℕ) (at : ℕ) (bytes : List ℕ) (p : Party) → record_size ≤ length bytes → (read_at page at).outcome ≡ a_record p → decoded (page_read page at bytes).bytes ≡ p
page_loads page at bytes p h e =
    let l : Loads p = subst OutcomeLoads e (every_read OutcomeLoads (λ o body. outcome_loads (read o body).reply (read o body).party (read_loads o body)) (λ k i. tt) tt page at) in
    let is : (page_read page at bytes).bytes ≡ stored p bytes = rw (le-leb record_size (length bytes) h, e) in
    ap decoded is ∙ stored_loads p bytes l h

-- ---- what was measured and written
told_length : (m : Measured) → Measurable m → measured_code m < position_room → m ≡ length_is (measured_code m)
told_length (length_is n) w h = refl
told_length (refused_with k l) w h = absurd (omega (arith, w.0, h))

-- a number below 65,536 says that the lent record passes, and that its field was written, with so many bytes
pub record Writes (record_bytes buffer : List ℕ) : Type 0 where
  pub passes : argument_reply record_bytes ≡ accepted
  pub accepts : (place (content (decoded record_bytes)) buffer).answer ≡ length_is (party_place record_bytes buffer).code

pub write_accepts : (record_bytes buffer : List ℕ) → (party_place record_bytes buffer).code < position_room → Writes record_bytes buffer
write_accepts record_bytes buffer h =
    let p = decoded record_bytes in
    let c = place (content p) buffer in
    let a : argument_reply record_bytes ≡ accepted = asked_passed (argument_reply record_bytes) (placed_call c) buffer (lent_named (length record_bytes) (leb (get_or record_bytes 0 0) 10)) h in
    let is : measured_code c.answer ≡ (party_place record_bytes buffer).code = ap (λ (x : Called). x.code) (places record_bytes a buffer) in
    record { passes = a; accepts = told_length c.answer (place_within p buffer) (omega (arith, is, h)) ∙ ap length_is is }

-- one that measuring gave says that too, and is the length of the field: so many bytes are enough to place it, and it takes no other;
-- fewer are 24
pub record Measures (record_bytes buffer : List ℕ) : Type 0 where
  pub passes : argument_reply record_bytes ≡ accepted
  pub exact : party_measure record_bytes ≡ length (written_field (content (decoded record_bytes)))
  pub enough : party_measure record_bytes ≤ length buffer
      → party_place record_bytes buffer ≡ record { code = party_measure record_bytes; bytes = written_field (content (decoded record_bytes)) ++ drop (party_measure record_bytes) buffer }
  pub short : length buffer < party_measure record_bytes → party_place record_bytes buffer ≡ record { code = code_of (refused 24 0); bytes = buffer }

pub measure_accepts : (record_bytes buffer : List ℕ) → party_measure record_bytes < position_room → Measures record_bytes buffer
measure_accepts record_bytes buffer h =
    let p = decoded record_bytes in
    let a : argument_reply record_bytes ≡ accepted = code_passed (argument_reply record_bytes) (measured_code (measure (content p))) (lent_named (length record_bytes) (leb (get_or record_bytes 0 0) 10)) h in
    let is : measured_code (measure (content p)) ≡ party_measure record_bytes = measures record_bytes a in
    let s = (measure_and_place p buffer).measured (told_length (measure (content p)) (measure_within p) (omega (arith, is, h)) ∙ ap length_is is) in
    record {
      passes = a;
      exact = s.exact;
      enough = λ e. sym (places record_bytes a buffer) ∙ ap placed_call (s.enough e);
      short = λ e. sym (places record_bytes a buffer) ∙ ap placed_call (s.short e);
    }

-- ---- numbers
-- a number below w beside a multiple of w: both are told
pub high : (w k n : ℕ) → n < w → (k * w + n) / w ≡ k
high w k n h = mul-add-div_right (omega arith) k n ∙ (ap (λ (m : ℕ). k + m) (div-eq_of_lt h) ∙ add-zero k)

pub low : (w k n : ℕ) → n < w → (k * w + n) % w ≡ n
low w k n h = ap (λ (m : ℕ). m % w) (add_comm (k * w) n) ∙ (add-mul-mod_self_right n k w ∙ mod-eq_of_lt h)

-- a refusal's number and line are told by its code: the line is below 65,536
pub code_number : (k n : ℕ) → n < position_room → code_of (refused k n) / position_room ≡ k
code_number k n h = high position_room k n h

pub code_line : (k n : ℕ) → n < position_room → code_of (refused k n) % position_room ≡ n
code_line k n h = low position_room k n h

-- a read's refusal and how far it moved are told by its number: it moves past at most 32,768 bytes (`next_most`)
pub read_code_lem : (k n moved : ℕ) → moved ≤ page_most → read_code (a_refusal k n) moved / pack_unit ≡ code_of (refused k n)
read_code_lem k n moved h = high pack_unit (code_of (refused k n)) moved (omega (arith, h))

pub read_moved : (o : ReadOutcome) (moved : ℕ) → moved ≤ page_most → read_code o moved % position_room ≡ moved
read_moved (a_record p) moved h = mod-eq_of_lt (omega (arith, h))
read_moved the_end moved h = low position_room 1 moved (omega (arith, h))
read_moved (a_refusal k n) moved h =
    let e : read_code (a_refusal k n) moved ≡ code_of (refused k n) * position_room * position_room + moved = omega arith in
    ap (λ (m : ℕ). m % position_room) e ∙ low position_room (code_of (refused k n) * position_room) moved (omega (arith, h))

-- a body's place and its length are told by their number, and the bytes there are the body that the read hands back
pub page_body_lem : (page : List ℕ) (at : ℕ) → let n = page_body page at in take (n % pack_unit) (drop (n / pack_unit) page) ≡ (read_at page at).body
page_body_lem page at =
    let place = body_place page at in
    let small : place.len < pack_unit = omega (arith, body_most_lem page at) in
    ap (λ (k : ℕ). take k (drop (page_body page at / pack_unit) page)) (low pack_unit place.start place.len small)
    ∙ (ap (λ (k : ℕ). take place.len (drop k page)) (high pack_unit place.start place.len small) ∙ (body_there page at).bytes)
