-- What a call answers, by the test that it ends at. Assumes nothing.
use Prim.Native.Nat.{ℕ, suc, ◌+◌, ◌≤◌}
use mathlib.Core.Path.{◌≡◌, refl, sym, ap, ◌∙◌, subst}
use mathlib.Core.Bool.{Bool, true, false, ◌||◌}
use mathlib.Core.List.{List, [], ◌∷◌}
use native.Mathlib.Omega.{arith}
use lib.Dec.{leb}
use lib.ListN.{length}
use borrow.Author.Tests.{leb-true}
use Rattle.std.specs.Prelude.{Option, Result, Ok, Err, ok_or}
use Rattle.std.specs.Bool.{then_some}
use Rattle.std.specs.Result.{result_and}
use Rattle.errors.specs.declared.ParseError.{ParseError}
use Rattle.errors.specs.Refusals.{Reply, accepted, refused, must, ◌then◌, told}
use Rattle.errors.proofs.Replies.{refused≢accepted, must_held, then_first}
use Rattle.party.specs.declared.PartyOption.{PartyOption}
use Rattle.party.specs.declared.Party.{Party}
use Rattle.party.specs.Party.{content}
use Rattle.swift_utils.specs.Bytes.{all}
use Rattle.field_utils.specs.Lines.{lines}
use Rattle.reader.specs.Reading.{Reading, Into, storing, room_reply, read_into, told_into}
use Rattle.reader.specs.Options.{ascii, body_most, body_reply, read}
use Rattle.reader.proofs.LineCounts.{lines_most}
use Rattle.reader.specs.declared.choices.Choice.{Choice}
use Rattle.reader.specs.Choices.{tried_text, refusing, parse, options_of, parse_with_variant}
use Rattle.reader.proofs.Every.{each, parse_by, variant_by, every_parse, every_variant}
use Rattle.profile.specs.Profile.{holds_bic, is_inside, lines_reply, profile_reply, profiled, read_profiled, parse_profiled, parse_with_variant_profiled}
use Rattle.writer.specs.Writing.{field_most, written_field, fits}
use Rattle.writer.specs.Given.{is_given}
use Rattle.writer.specs.Placing.{Placing, measuring, placing, measure, place, told_measured, told_placing}
use Rattle.writer.proofs.Back.{accepted_is}
use Rattle.writer.proofs.Theorems.{given_exact, written_most}
use Rattle.page_writer.specs.IndexState.{IndexState}
use Rattle.record_bytes.specs.RecordBytes.{record_size, decoded}
use Rattle.yewdome.specs.declared.CallError.{CallError}
use Rattle.yewdome.specs.Interface.{Called, code_of, arguments_reply, argument_reply, after_checks, index_after_checks, stored_call, given, measured_code, code_or, party_measure, placed_call, party_place}
use Rattle.yewdome.specs.Code.{Named, told_call_error, told_check, allowed, checked, Measurable, Small, answer_code}
use Rattle.yewdome.proofs.LineBounds.{must_line, must_then, giving_line, read_line}

-- ---- the tests of what is lent
-- a call that does not pass them answers their refusal
pub refuses : {T : Type 0} (t : Reply) (x : T) {r : Reply} → allowed t x ≡ Err r → {n : ℕ} → n ≡ code_of r → (c : Called) (bytes : List ℕ) → (record { code = n; bytes = bytes }) ≡ after_checks t c bytes
refuses accepted x e q c bytes = cc
refuses (refused k n) x {r} e q c bytes =
    let same : r ≡ refused k n = cc in ap {B = Called} (λ (m : ℕ). record { code = m; bytes = bytes }) (q ∙ ap code_of same)

pub refuses_index : {T : Type 0} (t : Reply) (x : T) {r : Reply} → allowed t x ≡ Err r → (after b : IndexState) → b ≡ index_after_checks t after b
refuses_index accepted x e after b = cc
refuses_index (refused k n) x e after b = refl

pub refuses_code : {T : Type 0} (t : Reply) (x : T) {r : Reply} → allowed t x ≡ Err r → (n : ℕ) → code_of r ≡ code_or t n
refuses_code accepted x e n = cc
refuses_code (refused k l) x {r} e n = let same : r ≡ refused k l = cc in ap code_of same

-- whose number is a tested record's
pub refuses_named : {T : Type 0} (len : ℕ) (known : Bool) (x : T) {r : Reply} → allowed (arguments_reply len known) x ≡ Err r → Named r
refuses_named len known x e =
    go (arguments_reply len known) (must_then (leb record_size len) 42 0 (must known 41 0) (omega arith) (omega arith) (must_line known 41 0 (omega arith) (omega arith))) e
  where
    go : (t : Reply) → Named t → {r : Reply} → allowed t x ≡ Err r → Named r
    go accepted h q = cc
    go (refused k n) h {r} q = let same : refused k n ≡ r = cc in subst Named same h

-- and one that does has what it asks for
pub passes : {T : Type 0} (t : Reply) {x y : T} → allowed t x ≡ Ok y → (t ≡ accepted) × (y ≡ x)
passes accepted e = (refl, cc)
passes (refused k n) e = cc

pub asked : {T : Type 0} (len : ℕ) (known : Bool) (x : T) → checked len (then_some known x) ≡ allowed (arguments_reply len known) x
asked len known x = go (leb record_size len) known
  where
    go : (a b : Bool) → (elim a [ true ↦ ok_or (then_some b x) (refused 41 0) | false ↦ Err (refused 42 0) ]) ≡ allowed (must a 42 0 then must b 41 0) x
    go true true = refl
    go true false = refl
    go false b = refl

-- ---- reading
-- a reading into lent bytes, after the tests of the lent record
into : (r : Reply) (p : Party) (bytes : List ℕ) → ◌≡◌ {A = Called} (record { code = code_of (storing r p bytes).reply; bytes = (storing r p bytes).bytes }) (stored_call r p bytes)
into accepted p bytes = refl
into (refused k n) p bytes = refl

pub reads : (known : Bool) (r : Reading) (bytes : List ℕ) (o : Result (Unit {0}) ParseError) {out : List ℕ} {n : ℕ} → arguments_reply (length bytes) known ≡ accepted → told_into o out ≡ read_into r bytes → n ≡ code_of (told o)
    → ◌≡◌ {A = Called} (record { code = n; bytes = out }) (given known r bytes)
reads known r bytes o {out} {n} e i c =
    ap {B = Called} (λ (k : ℕ). record { code = k; bytes = out }) c
    ∙ ap {B = Called} (λ (x : Into). record { code = code_of x.reply; bytes = x.bytes })
    (i ∙ ap (λ (t : Reply). storing (t then r.reply) r.party bytes) (then_first (room_reply (length bytes)) (must known 41 0) e))
    ∙ into r.reply r.party bytes
    ∙ sym (ap (λ (t : Reply). after_checks t (stored_call r.reply r.party bytes) bytes) e)

-- and what is said of it is 42, or what the reading says
pub reads_named : (r : Reading) (bytes : List ℕ) (o : Result (Unit {0}) ParseError) {out : List ℕ} → told_into o out ≡ read_into r bytes → Named r.reply → Named (told o)
reads_named r bytes o i h =
    subst Named (sym (ap (λ (x : Into). x.reply) i ∙ by (room_reply (length bytes) then r.reply)))
    (must_then (leb record_size (length bytes)) 42 0 r.reply (omega arith) (omega arith) h)
  where
    by : (t : Reply) → (storing t r.party bytes).reply ≡ t
    by accepted = refl
    by (refused k n) = refl

-- a call that reads by what a place names: `R` is the reading, and `g` is what the tests gave
module _ {T : Type 0} (known : Bool) (x : T) (R : T → Reading) (bytes : List ℕ) {o : Option T} (k : o ≡ then_some known x) (g : Result T CallError) (h : told_check g ≡ checked (length bytes) o) where
  is_allowed : told_check g ≡ allowed (arguments_reply (length bytes) known) x
  is_allowed = h ∙ ap (checked (length bytes)) k ∙ asked (length bytes) known x

  pub not_read : {e : CallError} → g ≡ Err e → {n : ℕ} → n ≡ code_of (told_call_error e) → (record { code = n; bytes = bytes }) ≡ given known (R x) bytes
  not_read e q = refuses (arguments_reply (length bytes) known) x (sym is_allowed ∙ ap told_check e) q (stored_call (R x).reply (R x).party bytes) bytes

  pub not_read_named : {e : CallError} → g ≡ Err e → Named (told_call_error e)
  not_read_named e = refuses_named (length bytes) known x (sym is_allowed ∙ ap told_check e)

  module _ {y : T} (e : g ≡ Ok y) where
    has_passed : (arguments_reply (length bytes) known ≡ accepted) × (y ≡ x)
    has_passed = passes (arguments_reply (length bytes) known) (sym is_allowed ∙ ap told_check e)

    -- into the lent record
    module _ (d : Result (Unit {0}) ParseError) (out : List ℕ) (i : told_into d out ≡ read_into (R y) bytes) {m : Result ℕ ParseError} (a : m ≡ result_and d (Ok 0)) where
      pub read_small : Named (R y).reply → Small m
      read_small n = rw a (go d (reads_named (R y) bytes d i n))
        where
          go : (d : Result (Unit {0}) ParseError) → Named (told d) → Small (result_and d (Ok 0))
          go (Ok t) w = omega arith
          go (Err e) w = w

      pub was_read : {n : ℕ} → n ≡ answer_code m → (record { code = n; bytes = out }) ≡ given known (R x) bytes
      was_read q = reads known (R x) bytes d has_passed.0 (i ∙ ap (λ (z : T). read_into (R z) bytes) has_passed.1) (q ∙ ap answer_code a ∙ go d)
        where
          go : (d : Result (Unit {0}) ParseError) → answer_code (result_and d (Ok 0)) ≡ code_of (told d)
          go (Ok t) = refl
          go (Err e) = refl

    -- and where a record by value is stored there
    pub was_stored : (d : Reading) → d ≡ R y → {c : Called} → c ≡ stored_call d.reply d.party bytes → c ≡ given known (R x) bytes
    was_stored d i q = q ∙ ap (λ (r : Reading). stored_call r.reply r.party bytes) (i ∙ ap R has_passed.1) ∙ rw has_passed.0

pub parse_line_lem : (choice : Choice) (body : List ℕ) → Named (parse choice body).reply
parse_line_lem = every_parse (λ r. Named r.reply) read_line (λ k h. (h, omega arith))

pub variant_line : (choice : Choice) (body : List ℕ) (letter : ℕ) → Named (parse_with_variant choice body letter).reply
variant_line = every_variant (λ r. Named r.reply) read_line (λ k h. (h, omega arith))

-- under the profile the line named is one of the body's: what was accepted has at most 2,048 bytes
abbrev Fits : List ℕ → Reading → Type 0
Fits body r = r.reply ≡ accepted → body_reply body ≡ accepted

read_fits : (body : List ℕ) (o : PartyOption) → Fits body (read o body)
read_fits body o e = (accepted_is o body e).fits

refused_fits : (body : List ℕ) (k : ℕ) → 1 ≤ k → Fits body (refusing k 0)
refused_fits body k h e = absurd (refused≢accepted e)

parse_fits : (choice : Choice) (body : List ℕ) → Fits body (parse choice body)
parse_fits choice body = parse_by (Fits body) (refused_fits body) choice body (λ b. each (λ o. Fits body (read o (tried_text choice body))) (λ o e. b) (options_of choice))

variant_fits : (choice : Choice) (body : List ℕ) (letter : ℕ) → Fits body (parse_with_variant choice body letter)
variant_fits choice body letter = variant_by (Fits body) (refused_fits body) choice body letter (each (λ o. Fits body (read o body)) (read_fits body) (options_of choice)) (parse_fits choice body)

lines_line : (p : Party) (n : ℕ) (after : Bool) (ls : List (List ℕ)) → n + length ls ≤ suc body_most → Named (lines_reply p n after ls)
unfolding lines_reply
lines_line p n after [] h = tt
lines_line p n after (l ∷ ls) h =
    must_then (is_inside n after (holds_bic p l) l) 32 n (lines_reply p (suc n) (after || holds_bic p l) ls) (omega arith) (omega arith)
    (lines_line p (suc n) (after || holds_bic p l) ls (omega arith))

profiled_line : (r : Reading) (body : List ℕ) → Named r.reply → Fits body r → Named (profiled r body).reply
unfolding profiled profile_reply
profiled_line r body h f = giving_line (r.reply then profile_reply r.party body) r.party (go r.reply h f)
  where
    go : (t : Reply) → Named t → (t ≡ accepted → body_reply body ≡ accepted) → Named (t then profile_reply r.party body)
    go accepted k b =
        let most = leb-true (length body) body_most (must_held (leb (length body) body_most) 12 0 (then_first _ (must (all ascii body) 13 0) (b refl))) in
        lines_line r.party 1 false (lines body) (omega (arith, lines_most body))
    go (refused k n) h b = h

module _ (body : List ℕ) where
  pub profile_read_line : (o : PartyOption) → Named (read_profiled o body).reply
  profile_read_line o = profiled_line (read o body) body (read_line o body) (read_fits body o)

  pub profile_parse_line : (choice : Choice) → Named (parse_profiled choice body).reply
  profile_parse_line choice = profiled_line (parse choice body) body (parse_line_lem choice body) (parse_fits choice body)

  pub profile_variant_line : (choice : Choice) (letter : ℕ) → Named (parse_with_variant_profiled choice body letter).reply
  profile_variant_line choice letter = profiled_line (parse_with_variant choice body letter) body (variant_line choice body letter) (variant_fits choice body letter)

-- ---- measuring and placing
-- a refusal names no line, and a field has at most `field_most` bytes
measuring_within : (r : Reply) (text : List ℕ) → Named r → (r ≡ accepted → length text ≤ field_most) → Measurable (measuring r text)
measuring_within accepted text n h = h refl
measuring_within (refused k l) text n h = n

placing_answers : (r : Reply) (text buffer : List ℕ) → measuring r text ≡ (placing r text buffer).answer
placing_answers accepted text buffer = refl
placing_answers (refused k l) text buffer = refl

module _ (p : Party) where
  abbrev given_test : Reply
  given_test = must (is_given (content p)) 22 0

  most : given_test ≡ accepted → length (written_field (content p)) ≤ field_most
  most e = written_most p ((given_exact p).yes (must_held (is_given (content p)) 22 0 e))

  pub measure_within : Measurable (measure (content p))
  unfolding measure
  measure_within = measuring_within given_test (written_field (content p)) (must_line (is_given (content p)) 22 0 (omega arith) (omega arith)) most

  pub place_within : (buffer : List ℕ) → Measurable (place (content p) buffer).answer
  unfolding place
  place_within buffer =
      let space = fits buffer 0 (written_field (content p)) in
      let r = given_test then must space 24 0 in
      subst Measurable (placing_answers r (written_field (content p)) buffer)
      (measuring_within r (written_field (content p))
      (must_then (is_given (content p)) 22 0 (must space 24 0) (omega arith) (omega arith) (must_line space 24 0 (omega arith) (omega arith)))
      (λ e. most (then_first given_test (must space 24 0) e)))

-- the record that was lent is the one that was measured or placed
module _ (record_bytes : List ℕ) (a : argument_reply record_bytes ≡ accepted) where
  pub measures : measured_code (measure (content (decoded record_bytes))) ≡ party_measure record_bytes
  measures = rw a

  pub places : (buffer : List ℕ) → placed_call (place (content (decoded record_bytes)) buffer) ≡ party_place record_bytes buffer
  places buffer = rw a

-- what they answered is within, and is told
module _ (r : Result ℕ ParseError) where
  pub measured_small : Measurable (told_measured r) → Small r
  measured_small = go r
    where
      go : (r : Result ℕ ParseError) → Measurable (told_measured r) → Small r
      go (Ok n) h = omega (arith, h)
      go (Err e) h = h

  pub measured_told : answer_code r ≡ measured_code (told_measured r)
  measured_told = go r
    where
      go : (r : Result ℕ ParseError) → answer_code r ≡ measured_code (told_measured r)
      go (Ok n) = refl
      go (Err e) = refl

  pub placed_told : {last : List ℕ} {c : Placing} {code : ℕ} → told_placing r last ≡ c → code ≡ answer_code r → (record { code = code; bytes = last }) ≡ placed_call c
  placed_told {last = last} e q = ap {B = Called} (λ (k : ℕ). record { code = k; bytes = last }) (q ∙ measured_told) ∙ ap placed_call e
