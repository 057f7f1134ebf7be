-- A reading's record, stored and loaded again, is the record. Assumes nothing.
use Rattle.std.specs.Prelude.{Result, Ok, Err}
use Prim.Native.Nat.{ℕ, zero, suc, ◌-◌, ◌<◌, ◌≤◌}
use mathlib.Core.Path.{◌≡◌, refl, sym, ◌∙◌, ap, subst}
use mathlib.Core.Bool.{Bool, true, false, and-eq-true_iff}
use mathlib.Core.List.{List, [], ◌∷◌, ◌++◌, map}
use native.Mathlib.Omega.{arith}
use borrow.Author.Tests.{leb-true}
use lib.Dec.{leb, eqb}
use lib.ListN.{length, get_or, take, drop, replicate, length-append, length-take, length-map, length-replicate}
use lib.Seq.{get_or-take}
use Rattle.errors.specs.declared.ParseError.{ParseError}
use Rattle.errors.specs.Refusals.{Reply, accepted, refused, must, ◌then◌}
use Rattle.errors.proofs.Replies.{refused≢accepted, must_held, then_second}
use Rattle.party.specs.declared.PartyOption.{PartyOption}
use Rattle.party.specs.declared.PartyOption.TheVariants.{Field50NoOption}
use Rattle.party.specs.declared.Layout.{Layout}
use Rattle.party.specs.declared.Layout.TheVariants.{BicOnly, TextOnly, ByLines}
use Rattle.party.specs.declared.Text.{Text}
use Rattle.party.specs.declared.Party.{Party}
use Rattle.party.specs.Limits.{limits_of}
use Rattle.party.specs.Text.{text_most, padded, text_of, four}
use Rattle.party.specs.Party.{blank}
use Rattle.party.proofs.Options.{by_option}
use Rattle.field_utils.specs.Lines.{lines}
use Rattle.field_utils.specs.Names.{parse_name_and_address, parse_lines}
use Rattle.reader.specs.Reading.{Reading, giving, Into, told_answer, answer_from, storing, read_into, told_into, Found, party_of}
use Rattle.reader.specs.Options.{Head, head_by, with_names, with_bic, after_head, after, from_head, is_counted, by_lines, found_by, body_reply, read}
use Rattle.record_bytes.specs.RecordBytes.{record_size, texts_of, encoded, stored, decoded}
use Rattle.record_bytes.proofs.Laws.{none, Sizes, stored_whole}
use Rattle.record_bytes.proofs.Theorems.{loads_back}
use Rattle.reader.proofs.Into.{into_whole}

-- ---- a reader's texts: 38 bytes, of which at most 38 are used
record Good (t : Text) : Type 0 where
  size : length t.bytes ≡ text_most
  len : t.len ≤ text_most

good : (l : List ℕ) → Good (text_of l)
unfolding text_of padded
good l = record {
  size = omega (arith, length-append (take text_most l) (replicate (text_most - length (take text_most l)) 0), length-replicate {A = ℕ} (text_most - length (take text_most l)) 0, length-take text_most l);
  len = omega (arith, length-take text_most l);
}

good_at : (names : List (List ℕ)) (i : ℕ) → i < 4 → Good (get_or (map text_of names ++ (text_of [] ∷ text_of [] ∷ text_of [] ∷ text_of [] ∷ [])) i none)
good_at [] zero h = good []
good_at [] (suc zero) h = good []
good_at [] (suc (suc zero)) h = good []
good_at [] (suc (suc (suc zero))) h = good []
good_at [] (suc (suc (suc (suc i)))) h = absurd (omega arith)
good_at (l ∷ names) zero h = good l
good_at (l ∷ names) (suc i) h = good_at names i (omega arith)

-- ---- a record of at most four names loads as it was stored, whatever follows it
abbrev pub Loads : Party → Type 0
Loads p = (rest : List ℕ) → decoded (encoded p ++ rest) ≡ p

found_loads : (o : PartyOption) (f : Found) → length f.names ≤ 4 → Loads (party_of o f)
unfolding party_of four
found_loads o f few rest =
    loads_back (party_of o f) rest (simp (length-take, length-append) (omega arith)) (simp (length-take, length-append) (omega arith)) sizes
    (record { account = omega (arith, (good f.account).len); bic = omega (arith, (good f.bic).len); count = omega arith; name = λ i h. omega (arith, (name i h).len) })
  where
    name : (i : ℕ) → i < 4 → Good (get_or (party_of o f).name_and_address i none)
    name i h = rw (get_or-take 4 (map text_of f.names ++ (text_of [] ∷ text_of [] ∷ text_of [] ∷ text_of [] ∷ [])) i none h) (good_at f.names i h)

    sizes : Sizes (texts_of (party_of o f))
    sizes zero h = (good f.account).size
    sizes (suc zero) h = (good f.bic).size
    sizes (suc (suc i)) h = (name i (omega (arith, simp (length-take, length-append) at h))).size

-- ---- an accepted body gives at most four names
abbrev Few : Found → Type 0
Few f = f.reply ≡ accepted → length f.names ≤ 4

most_four : (o : PartyOption) → (limits_of o).max_names ≤ 4
most_four =
    by_option (λ o. (limits_of o).max_names ≤ 4) (omega arith) (omega arith) (omega arith) (omega arith) (omega arith) (omega arith) (omega arith) (omega arith) (omega arith) (omega arith) (omega arith)

names_few : (o : PartyOption) (n : ℕ) (h : Head) (ls : List (List ℕ)) → Few (with_names o n h ls)
unfolding parse_name_and_address
names_few o n h ls e =
    let m = (limits_of o).max_names in
    let counted = must_held _ 7 0 (then_second (parse_lines (limits_of o).numbering (limits_of o).name_max n 1 ls) _ e) in
    let most = leb-true (length ls) m ((and-eq-true_iff (leb 1 (length ls)) (leb (length ls) m)).0 counted).1 in
    simp length-map (omega (arith, most, most_four o))

bic_few : (n : ℕ) (h : Head) (ls : List (List ℕ)) → Few (with_bic n h ls)
bic_few n h [] e = omega arith
bic_few n h (l ∷ ls) e = omega arith

after_few : (r : Reply) (f : Found) → Few f → Few (after r f)
after_few r f few e = few (then_second r f.reply e)

rest_few : (o : PartyOption) (n : ℕ) (h : Head) (ls : List (List ℕ)) → Few (after_head o n h ls)
unfolding after_head
rest_few o n h ls = go (eqb (limits_of o).max_names 0)
  where
    go : (t : Bool) → Few (elim t [ true ↦ with_bic n h ls | false ↦ with_names o n h ls ])
    go true = bic_few n h ls
    go false = names_few o n h ls

head_few : (o : PartyOption) (h : Head) (all_lines later : List (List ℕ)) → Few (from_head o h all_lines later)
head_few o h all_lines later = go h.present
  where
    go : (t : Bool) → Few (elim t [ true ↦ after h.reply (after_head o 2 h later) | false ↦ after h.reply (after_head o 1 h all_lines) ])
    go true = after_few h.reply (after_head o 2 h later) (rest_few o 2 h later)
    go false = after_few h.reply (after_head o 1 h all_lines) (rest_few o 1 h all_lines)

lines_few : (o : PartyOption) (ls : List (List ℕ)) → Few (by_lines o ls)
lines_few o [] e = absurd (refused≢accepted e)
lines_few o (l ∷ ls) e =
    after_few (must (is_counted o (length (l ∷ ls))) 1 0) (from_head o (head_by (limits_of o).first o l) (l ∷ ls) ls) (head_few o (head_by (limits_of o).first o l) (l ∷ ls) ls)
    e

found_few : (f : Layout) (o : PartyOption) (body : List ℕ) → Few (found_by f o body)
found_few BicOnly o body e = omega arith
found_few TextOnly o body e = omega arith
found_few ByLines o body e = lines_few o (lines body) e

-- ---- every reading: its record loads, or it is the blank one beside a refusal
abbrev pub Whole : Reply → Party → Type 0
Whole accepted p = Loads p
Whole (refused k n) p = p ≡ blank

abbrev pub Back : Reading → Type 0
Back r = Whole r.reply r.party

pub read_back : (o : PartyOption) (body : List ℕ) → Back (read o body)
unfolding read
read_back o body = go (body_reply body then f.reply) (then_second (body_reply body) f.reply)
  where
    f : Found
    f = found_by (limits_of o).layout o body

    go : (r : Reply) → (r ≡ accepted → f.reply ≡ accepted) → Back (giving r (party_of o f))
    go accepted h = found_loads o f (found_few (limits_of o).layout o body (h refl))
    go (refused k n) h = refl

-- ---- so does every reading's record, the blank one too
pub blank_loads : Loads blank
unfolding party_of four
blank_loads = found_loads Field50NoOption (record { reply = accepted; present = false; account = []; bic = []; names = []; digits = [] }) (omega arith)

whole_loads : (r : Reply) (p : Party) → Whole r p → Loads p
whole_loads accepted p w = w
whole_loads (refused k n) p w = subst Loads (sym w) blank_loads

pub read_loads : (o : PartyOption) (body : List ℕ) → Loads (read o body).party
read_loads o body = whole_loads (read o body).reply (read o body).party (read_back o body)

-- ---- in bytes that are as many as a record's
pub stored_loads : (p : Party) (bytes : List ℕ) → Loads p → record_size ≤ length bytes → decoded (stored p bytes) ≡ p
stored_loads p bytes loads size = ap decoded (stored_whole p bytes size) ∙ loads (drop record_size bytes)

-- the answer by value, of a reading into bytes that are as many as a record's
pub answered : (r : Reading) (o : Result (Unit {0}) ParseError) (d e : List ℕ) → Back r → record_size ≤ length d → told_into o e ≡ read_into r d → told_answer (answer_from o e) ≡ r
answered r o d e back size told = go r.reply r.party o back (told ∙ into_whole r d size)
  where
    go : (q : Reply) (p : Party) (o : Result (Unit {0}) ParseError) → Whole q p → told_into o e ≡ storing q p d → told_answer (answer_from o e) ≡ (record { reply = q; party = p })
    go accepted p (Ok t) loads h =
        ap {B = Reading} (λ (p : Party). record { reply = accepted; party = p })
        (ap (λ (i : Into). decoded i.bytes) h ∙ stored_loads p d loads size)
    go accepted p (Err x) loads h = absurd (refused≢accepted (ap (λ (i : Into). i.reply) h))
    go (refused k n) p (Ok t) is h = absurd (refused≢accepted (sym (ap (λ (i : Into). i.reply) h)))
    go (refused k n) p (Err x) is h = λ i. record { reply = (h i).reply; party = sym is i }
