-- What is claimed of the Rust, used: each theorem at an instance that a weaker one does not reach, down to single readings and texts.
use mathlib.Core.Path.{◌≡◌, refl, ap}
use mathlib.Core.Bool.{true, false}
use mathlib.Core.List.{List, [], ◌∷◌, map}
use mathlib.Core.Option.{Option, some}
use Prim.Native.Nat.{ℕ, suc}
use native.Mathlib.Omega.{arith}
use lib.ListN.{length, get_or, replicate}
use Rattle.errors.specs.Refusals.{accepted, refused}
use Rattle.party.specs.declared.PartyOption.{PartyOption}
use Rattle.party.specs.declared.PartyOption.TheVariants.{Field50F, Field50G, Field50H, Field50K, Field50L, Field59NoOption, Field59F}
use Rattle.party.specs.declared.Party.{Party}
use Rattle.party.specs.Limits.{place_of}
use Rattle.party.specs.Text.{padded, text_of, four}
use Rattle.party.specs.Party.{content, Same}
use Rattle.swift_utils.specs.Bytes.{bytes, letter, digit, alphanumeric, signs, legal}
use Rattle.swift_utils.specs.Checks.{parse_swift_chars, parse_account, bic_length, parse_bic}
use Rattle.field_utils.specs.Lines.{upto, onto, starts, lines}
use Rattle.field_utils.specs.Trim.{white, trimmed_start, keep, trimmed_end, trimmed}
use Rattle.field_utils.specs.Identifier.{is_numbered, second_slash, identifier_reply, parse_party_identifier}
use Rattle.field_utils.specs.Names.{parse_line, parse_lines, parse_name_and_address}
use Rattle.field_utils.specs.Tags.{tag_of}
use Rattle.reader.specs.Reading.{Reading, party_of}
use Rattle.reader.specs.Options.{account_head, short_account_head, after_head, body_reply, read}
use Rattle.reader.specs.declared.choices.Choice.{Choice}
use Rattle.reader.specs.declared.choices.Choice.TheVariants.{Field50InstructingParty, Field50OrderingCustomerAFK, Field59}
use Rattle.reader.specs.Detection.{any_numbered, first_line, last_line, bic_like, test_line}
use Rattle.reader.specs.Choices.{refusing, first_that, parse, options_of, pick_of, parse_with_variant}
use Rattle.reader.proofs.Trials.{by_choice}
use Rattle.writer.specs.Writing.{name_lines, written_lines, joined, written_body, written_field}
use Rattle.writer.specs.Writing as writer
use Rattle.writer.specs.Given.{is_line, are_names, is_given}
use Rattle.writer.proofs.Theorems.{given_exact}
use Rattle.swift_mt_message.specs.Std.{Str, Result, Err, Panic}
use Rattle.swift_mt_message.specs.Std as std
use Rattle.swift_mt_message.specs.SwiftUtils as swift
use Rattle.swift_mt_message.specs.FieldUtils as fields
use Rattle.swift_mt_message.specs.Field50 as rust50
use Rattle.swift_mt_message.specs.Field59 as rust59
use Rattle.swift_mt_message.specs.Structs.{parts_of}
use Rattle.swift_mt_message.specs.Structs as structs
use Rattle.swift_mt_message.specs.Enums as enums
use Rattle.swift_mt_message.specs.Writing.{less_empty, WrittenAs}
use Rattle.swift_mt_message.specs.Equal.{as_party, record_in, renumbered, rust_read, rust_parse, rust_parse_with_variant, illegal_account, FGH}
use Rattle.swift_mt_message.specs.Cases.{Value, Case, by, no, Reader, answered}
use Rattle.swift_mt_message.specs.Cases as cases
use Rattle.swift_mt_message.specs.Listed.{cases_of}
use Rattle.swift_mt_message.proofs.Equal.{equal}
use Rattle.swift_mt_message.proofs.Writing.{writes}
use Rattle.swift_mt_message.proofs.Values.{reads_and_writes}
use Rattle.swift_mt_message.proofs.Panics.{no_panic}
use Rattle.swift_mt_message.proofs.Listed.{listed}

-- our definitions compute where this is unfolded
computes : Unit {0}
unfolding padded text_of letter digit alphanumeric signs legal parse_swift_chars parse_account bic_length parse_bic upto onto starts lines is_numbered second_slash identifier_reply parse_party_identifier parse_line parse_lines parse_name_and_address four party_of account_head after_head read first_line illegal_account white trimmed_start keep trimmed_end trimmed short_account_head any_numbered last_line bic_like test_line first_that parse pick_of parse_with_variant content name_lines written_lines joined written_body written_field writer.identified59_f is_line are_names is_given tag_of
computes = tt

-- 50F with other digits; 59F with an identifier, and one that is refused in its second line; 50H with an account that the two take
-- otherwise, alone and before a name that neither takes; a body as long as it may be, of the greatest byte
abbrev sevens : Str
sevens = bytes "X\n7/A\n7/B"

abbrev identified : Str
identified = bytes "/1\n1/A\n2/B"

abbrev out_of_turn : Str
out_of_turn = bytes "/1\n2/A"

abbrev tilde : Str
tilde = bytes "/~\nA"

abbrev tildes : Str
tildes = bytes "/~\nA~"

abbrev edge : Str
edge = replicate 2048 127

-- the readings of them
abbrev takes : Party → Option Reading
takes p = some (record { reply = accepted; party = p })

abbrev refuses : ℕ → ℕ → Option Reading
refuses k n = some (refusing k n)

abbrev one_two : Party
one_two = as_party Field50F (some (bytes "X")) [] (bytes "A" ∷ bytes "B" ∷ [])

abbrev identified59_f : Party
identified59_f = as_party Field59F (some (bytes "1")) [] (bytes "1/A" ∷ bytes "2/B" ∷ [])

abbrev tilde50_h : Party
tilde50_h = as_party Field50H (some (bytes "~")) [] (bytes "A" ∷ [])

-- ---- options
pub record OptionsWitness : Type 0 where
  pub option : rust_read Field59F identified ≡ takes identified59_f
  pub option_refused : rust_read Field59F out_of_turn ≡ refuses 6 2
  pub option_edge : rust_read Field50K edge ≡ refuses 4 1
  pub digits : rust_read Field50F sevens ≡ takes one_two
  pub digits_refused : rust_read Field50F (bytes "X\n7/A\nB") ≡ refuses 5 3
  -- where the two differ, and where they do not
  pub account : rust_read Field50H tilde ≡ refuses 3 1
  pub account_legal : rust_read Field50H (bytes "/1\nA~") ≡ refuses 3 2
  pub reads_on : read Field50H tilde ≡ record { reply = accepted; party = tilde50_h }
  pub differs : (read Field50H tildes).reply ≡ refused 3 1 → ⊥

pub options_witness : OptionsWitness
unfolding computes
options_witness = record {
  option = (equal identified refl).option Field59F (λ e. omega (arith, ap place_of e)) (λ e. omega (arith, ap place_of e));
  option_refused = (equal out_of_turn refl).option Field59F (λ e. omega (arith, ap place_of e)) (λ e. omega (arith, ap place_of e));
  option_edge = (equal edge refl).option Field50K (λ e. omega (arith, ap place_of e)) (λ e. omega (arith, ap place_of e));
  digits = (equal sevens refl).at_50F;
  digits_refused = (equal (bytes "X\n7/A\nB") refl).at_50F;
  account = (equal tilde refl).at_50H;
  account_legal = (equal (bytes "/1\nA~") refl).at_50H;
  reads_on = (equal tilde refl).reads_on refl;
  differs = (equal tildes refl).differs refl;
}

-- ---- choices
-- 50G's account and BIC
abbrev with_bic : Str
with_bic = bytes "/1\nABCDEFGH"

abbrev bic50_g : Party
bic50_g = as_party Field50G (some (bytes "1")) (bytes "ABCDEFGH") []

-- the second option of AFK is 50A, and that of FGH 50G
afk_not_fgh : Field50OrderingCustomerAFK ≡ FGH → ⊥
afk_not_fgh e = omega (arith, ap (λ (c : Choice). get_or (map place_of (options_of c)) 1 0) e)

pub record ChoicesWitness : Type 0 where
  -- without 50F: detected as the second that is tried, and trimmed; by a letter, which picks, and by none
  pub detected : rust_parse Field59 identified ≡ takes identified59_f
  pub detected_trimmed : rust_parse Field50InstructingParty (bytes " A\n") ≡ takes (as_party Field50L (some (bytes "A")) [] [])
  pub by_letter : rust_parse_with_variant Field59 identified 70 ≡ takes identified59_f
  pub by_letter_refused : rust_parse_with_variant Field59 out_of_turn 70 ≡ refuses 6 2
  pub by_none : rust_parse_with_variant Field59 (bytes "/1\nA") 0 ≡ takes (as_party Field59NoOption (some (bytes "1")) [] (bytes "A" ∷ []))
  -- with it: other digits
  pub detected_50F : rust_parse Field50OrderingCustomerAFK sevens ≡ takes one_two
  pub by_letter_50F : rust_parse_with_variant Field50OrderingCustomerAFK sevens 70 ≡ takes one_two
  pub by_K : rust_parse_with_variant Field50OrderingCustomerAFK (bytes "A\n~") 75 ≡ refuses 3 2

pub choices_witness : ChoicesWitness
unfolding computes
choices_witness = record {
  detected = (equal identified refl).detected Field59 refl;
  detected_trimmed = (equal (bytes " A\n") refl).detected Field50InstructingParty refl;
  by_letter = (equal identified refl).by_letter Field59 refl 70 refl;
  by_letter_refused = (equal out_of_turn refl).by_letter Field59 refl 70 refl;
  by_none = (equal (bytes "/1\nA") refl).by_letter Field59 refl 0 refl;
  detected_50F = (equal sevens refl).detected_50F Field50OrderingCustomerAFK afk_not_fgh;
  by_letter_50F = (equal sevens refl).by_letter_50F Field50OrderingCustomerAFK afk_not_fgh 70 refl;
  by_K = (equal (bytes "A\n~") refl).by_letter_50F Field50OrderingCustomerAFK afk_not_fgh 75 refl;
}

pub record FghWitness : Type 0 where
  -- the Rust refuses what ours takes for a 50H
  pub tilde_detected : rust_parse FGH tilde ≡ refuses 11 0
  pub tilde_by_H : rust_parse_with_variant FGH tilde 72 ≡ refuses 3 1
  pub tilde_by_A : rust_parse_with_variant FGH tilde 65 ≡ refuses 11 0
  pub ours : parse FGH tilde ≡ record { reply = accepted; party = tilde50_h }
  -- and no other
  pub sevens_detected : rust_parse FGH sevens ≡ takes one_two
  pub sevens_by_F : rust_parse_with_variant FGH sevens 70 ≡ takes one_two
  pub sevens_by_none : rust_parse_with_variant FGH sevens 0 ≡ takes one_two
  pub bic_by_G : rust_parse_with_variant FGH with_bic 71 ≡ takes bic50_g
  pub bic_by_H : rust_parse_with_variant FGH with_bic 72 ≡ takes (as_party Field50H (some (bytes "1")) [] (bytes "ABCDEFGH" ∷ []))
  pub bic_by_Z : rust_parse_with_variant FGH with_bic 90 ≡ takes bic50_g

pub fgh_witness : FghWitness
unfolding computes
fgh_witness = record {
  tilde_detected = (equal tilde refl).fgh;
  tilde_by_H = (equal tilde refl).fgh_by_H;
  tilde_by_A = (equal tilde refl).fgh_by_other 65 refl refl;
  ours = (equal tilde refl).fgh_reads refl;
  sevens_detected = (equal sevens refl).fgh;
  sevens_by_F = (equal sevens refl).fgh_by_F;
  sevens_by_none = (equal sevens refl).fgh_by_other 0 refl refl;
  bic_by_G = (equal with_bic refl).fgh_by_G;
  bic_by_H = (equal with_bic refl).fgh_by_H;
  bic_by_Z = (equal with_bic refl).fgh_by_other 90 refl refl;
}

-- ---- writing
-- a body is read as a record
abbrev ReadAs : Str → Party → Type 0
ReadAs body p = ((read p.option body).reply ≡ accepted) × Same (read p.option body).party p

-- what the readers give of the two: with its own digits, and with an identifier
abbrev own : Party
own = (read Field50F sevens).party

abbrev ours59_f : Party
ours59_f = (read Field59F identified).party

-- the Rust's structs of them
abbrev struct50_f : rust50.Field50F
struct50_f = record { party_identifier = bytes "X"; name_and_address = bytes "A" ∷ bytes "B" ∷ [] }

abbrev struct59_f : rust59.Field59F
struct59_f = record { party_identifier = some (bytes "1"); name_and_address = bytes "1/A" ∷ bytes "2/B" ∷ [] }

pub record WritesWitness : Type 0 where
  -- with the digits set a body is read as the record, the Rust's struct has it, and its text is ours
  pub given : (body : Str) × ReadAs body one_two
  pub same : Same (record_in (parts_of Field50F struct50_f)) one_two
  pub text : rust50.Field50F·to_swift_string struct50_f ≡ bytes ":50F:X\n1/A\n2/B"
  -- with an identifier, one LF more
  pub less : less_empty (rust59.Field59F·to_swift_string struct59_f) ≡ bytes ":59F:/1\n1/A\n2/B"
  pub longer : length (rust59.Field59F·to_swift_string struct59_f) ≡ 16

pub writes_witness : WritesWitness
unfolding computes
writes_witness =
    let w = writes own ((given_exact own).yes refl) in
    let i = writes ours59_f ((given_exact ours59_f).yes refl) in
    record { given = (w.given.body, (w.given.accepts, w.given.same)); same = w.same; text = w.text.equal refl; less = i.text.less refl; longer = i.text.longer refl }

-- ---- reading, then writing
-- what the Rust does with the two computes where this is unfolded
rust_computes : Unit {0}
unfolding std.if_ok std.arm std.for_from std.in_front std.split_inclusive std.strip_suffix std.line_of std.let_lines std.find std.is_alphabetic std.is_digit std.is_alphanumeric std.digits swift.swift_special swift.rust_parse_swift_chars swift.rust_parse_bic fields.parse_code fields.rust_parse_remaining fields.rust_parse_party_identifier rust50.Field50F·line rust50.Field50F·parse rust50.Field50F·numbered rust50.Field50F·to_swift_string rust50.numbered rust50.is_variant rust50.Field50OrderingCustomerAFK·parse rust50.Field50OrderingCustomerAFK·parse_with_variant rust50.Field50OrderingCustomerAFK·to_swift_string rust59.Field59F·line rust59.Field59F·names rust59.Field59F·parse rust59.written rust59.Field59F·to_swift_string rust59.Field59A·bic rust59.Field59A·parse rust59.Field59·numbered_at rust59.Field59·numbered rust59.Field59·parse rust59.Field59·to_swift_string
rust_computes = tt

-- a text of the Rust and our reading of the same body: ours accepts, its record is what a body is read as, with its own digits and with
-- those set, and of the latter ours writes the text
abbrev Writes : Str → Reading → Type 0
Writes text r = (r.reply ≡ accepted) × ((body : Str) × ReadAs body r.party) × ((body : Str) × ReadAs body (renumbered r.party)) × (text ≡ written_field (content (renumbered r.party)))

-- the same without the LF that it has more
abbrev WritesLess : Str → Reading → Type 0
WritesLess text r = (r.reply ≡ accepted) × (less_empty text ≡ written_field (content (renumbered r.party))) × (length text ≡ suc (length (written_field (content (renumbered r.party)))))

pub record ValuesWitness : Type 0 where
  pub option : Writes (bytes ":50F:X\n1/A\n2/B") (read Field50F sevens)
  pub option_59F : WritesLess (bytes ":59F:/1\n\n1/A\n2/B") (read Field59F identified)
  pub detected : Writes (bytes ":50F:X\n1/A\n2/B") (parse Field50OrderingCustomerAFK sevens)
  pub detected_59F : WritesLess (bytes ":59F:/1\n\n1/A\n2/B") (parse Field59 identified)
  pub by_letter : Writes (bytes ":50F:X\n1/A\n2/B") (parse_with_variant Field50OrderingCustomerAFK sevens 70)
  pub by_none : Writes (bytes ":50F:X\n1/A\n2/B") (parse_with_variant Field50OrderingCustomerAFK sevens 0)

-- what `reads_and_writes` gives, in these terms
written : {r : Reading} {text : Str} → WrittenAs r text → writer.identified59_f (content (renumbered r.party)) ≡ false → Writes text r
written w e = (w.accepts, (w.given.body, (w.given.accepts, w.given.same)), (w.renumbered_given.body, (w.renumbered_given.accepts, w.renumbered_given.same)), w.agrees.equal e)

written_less : {r : Reading} {text : Str} → WrittenAs r text → writer.identified59_f (content (renumbered r.party)) ≡ true → WritesLess text r
written_less w e = (w.accepts, w.agrees.less e, w.agrees.longer e)

pub values_witness : ValuesWitness
unfolding computes rust_computes
values_witness = record {
  option = written ((reads_and_writes sevens refl).option Field50F struct50_f refl) refl;
  option_59F = written_less ((reads_and_writes identified refl).option Field59F struct59_f refl) refl;
  detected = written ((reads_and_writes sevens refl).detected Field50OrderingCustomerAFK (rust50.AFK·F struct50_f) refl) refl;
  detected_59F = written_less ((reads_and_writes identified refl).detected Field59 (rust59.Field59·F struct59_f) refl) refl;
  by_letter = written ((reads_and_writes sevens refl).by_letter Field50OrderingCustomerAFK 70 refl (rust50.AFK·F struct50_f) refl) refl;
  by_none = written ((reads_and_writes sevens refl).by_letter Field50OrderingCustomerAFK 0 refl (rust50.AFK·F struct50_f) refl) refl;
}

-- ---- panics: of every ASCII body of at most 2,048 bytes
abbrev Returns : {A : Type 0} → (Str → Result A) → Type 0
Returns f = (body : Str) → body_reply body ≡ accepted → f body ≡ Panic → ⊥

-- by every text for a variant, and by none
abbrev ReturnsBy : {A : Type 0} → (Str → Option Str → Result A) → Type 0
ReturnsBy f = (variant : Option Str) → Returns (λ (body : Str). f body variant)

pub record PanicsWitness : Type 0 where
  pub option : (o : PartyOption) → Returns (structs.parse o)
  pub detected : (c : Choice) → Returns (enums.parse c)
  pub by_variant : (c : Choice) → ReturnsBy (enums.rust_parse_with_variant c)

pub panics_witness : PanicsWitness
panics_witness = record {
  option = λ o body q. (no_panic body q).option o;
  detected =
      by_choice (λ c. Returns (enums.parse c)) (λ body q. (no_panic body q).instructing.detects) (λ body q. (no_panic body q).fgh.detects) (λ body q. (no_panic body q).afk.detects)
      (λ body q. (no_panic body q).ncf.detects) (λ body q. (no_panic body q).at_creditor.detects) (λ body q. (no_panic body q).at_field59.detects) (λ body q. (no_panic body q).at_debtor.detects);
  by_variant =
      by_choice (λ c. ReturnsBy (enums.rust_parse_with_variant c)) (λ v body q. (no_panic body q).instructing.by_variant v) (λ v body q. (no_panic body q).fgh.by_variant v) (λ v body q. (no_panic body q).afk.by_variant v)
      (λ v body q. (no_panic body q).ncf.by_variant v) (λ v body q. (no_panic body q).at_creditor.by_variant v) (λ v body q. (no_panic body q).at_field59.by_variant v) (λ v body q. (no_panic body q).at_debtor.by_variant v);
}

-- ---- the listed cases: the fourth of FGH, and all of every reader
pub record ListedWitness : Type 0 where
  pub by_H : answered cases.FGH (by "H" "/~\nA" (no 3 1)) ≡ Err 3 1
  pub every : (r : Reader) → map (answered r) (cases_of r) ≡ map (λ (c : Case). c.answer) (cases_of r)

pub listed_witness : ListedWitness
listed_witness = record { by_H = ap (λ (xs : List (Result Value)). get_or xs 3 Panic) (listed cases.FGH); every = listed }
