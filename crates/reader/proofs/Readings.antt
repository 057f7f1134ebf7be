-- From an answer of the code to the reading that it must be. Assumes nothing.
use mathlib.Core.Path.{◌≡◌, refl, sym, ◌∙◌, ap}
use mathlib.Core.Bool.{true, false}
use mathlib.Core.List.{List, [], map}
use Rattle.std.specs.Prelude.{Ok, Err, Option, None, Some, is_some}
use Rattle.std.specs.Option.{unwrap_or}
use Prim.Native.Nat.{ℕ}
use lib.ListN.{length}
use lib.Seq.{take-length}
use borrow.Author.Tests.{eq-eqb, ne_eqb}
use Rattle.errors.specs.declared.ParseError.{ParseError}
use Rattle.errors.specs.Refusals.{Reply, accepted, refused, told_error}
use Rattle.party.specs.declared.PartyOption.{PartyOption}
use Rattle.party.specs.declared.Limits.{Limits}
use Rattle.party.specs.declared.Text.{Text}
use Rattle.party.specs.declared.Parts.{Parts}
use Rattle.party.specs.declared.Party.{Party}
use Rattle.party.specs.Limits.{limits_of}
use Rattle.party.specs.declared.Part.{Part}
use Rattle.party.specs.Text.{text_of, part_in}
use Rattle.party.specs.Party.{party_in}
use Rattle.swift_utils.specs.Bytes.{among}
use Rattle.field_utils.specs.Names.{parse_name_and_address, kept, digit_of, NamesRead, names_or, read_names}
use Rattle.reader.specs.Reading.{Reading, giving, Found, party_of}
use Rattle.reader.specs.Options.{Head, account_reply, with_names, with_bic, after_head, text_only}
use Rattle.reader.specs.Code.{told_parts, head_at, reading_of}

module _ (o : PartyOption) (f : Found) (body : List ℕ) where
  pub refusing : (e : ParseError) → f.reply ≡ told_error e → told_parts body (Err e) ≡ reading_of o f
  refusing e q = sym (ap (λ (s : Reply). giving s (party_of o f)) q)

  pub accepting : (q : Parts) → f.reply ≡ accepted → party_in body q ≡ party_of o f → told_parts body (Ok q) ≡ reading_of o f
  accepting q t h =
      ap {B = Reading} (λ (p : Party). record { reply = accepted; party = p }) h
      ∙ sym (ap (λ (s : Reply). giving s (party_of o f)) t)

-- the head at a part that may be none, as the code asks for it
pub head_present : (body : List ℕ) (a : Option Part) → is_some a ≡ (head_at body a).present
head_present body None = refl
head_present body (Some p) = refl

pub head_text : (body : List ℕ) (a : Option Part) → part_in body (unwrap_or a (record { start = 0; len = 0 })) ≡ (head_at body a).text
head_text body None = refl
head_text body (Some p) = refl

-- the part that is all of a body
pub whole_part : (body : List ℕ) {p : Part} → p ≡ record { start = 0; len = length body } → part_in body p ≡ body
whole_part body e = ap (part_in body) e ∙ take-length body

-- a reading says what is said of it
pub giving_reply : (r : Reply) (p : Party) → (giving r p).reply ≡ r
giving_reply accepted p = refl
giving_reply (refused k n) p = refl

-- what the names give, by their reply
names_or_lem : (r : Reply) (ns : List (List ℕ)) (ds : List ℕ) → (names_or r ns ds).reply ≡ r
names_or_lem accepted ns ds = refl
names_or_lem (refused k n) ns ds = refl

pub names_reply : (o : PartyOption) (n : ℕ) (ls : List (List ℕ)) → (read_names o n ls).reply ≡ parse_name_and_address o n ls
unfolding read_names
names_reply o n ls = names_or_lem (parse_name_and_address o n ls) (map (kept (limits_of o).numbering) ls) (map (digit_of (limits_of o).numbering) ls)

-- a record with names
pub party_named : (o : PartyOption) (n : ℕ) (h : Head) (ls : List (List ℕ)) {t u : Text} {w : NamesRead} → parse_name_and_address o n ls ≡ accepted
    → t ≡ text_of h.text → u ≡ text_of [] → w ≡ read_names o n ls
    → ◌≡◌ {A = Party}
    (record { option = o; present = h.present; account = t; bic = u; count = w.count; name_and_address = w.texts; digits = w.digits })
    (party_of o (with_names o n h ls))
unfolding party_of read_names
party_named o n h ls passed e f d =
    let all = d ∙ ap (λ (r : Reply). names_or r (map (kept (limits_of o).numbering) ls) (map (digit_of (limits_of o).numbering) ls)) passed in
    λ i. record { option = o; present = h.present; account = e i; bic = f i; count = (all i).count; name_and_address = (all i).texts; digits = (all i).digits }

-- a body that is a text, with and without an LF
pub text_lf : (o : PartyOption) (body : List ℕ) → among body 10 ≡ true → (text_only o body).reply ≡ refused 1 0
text_lf o body e = rw e

pub text_line : (o : PartyOption) (body : List ℕ) → among body 10 ≡ false → (text_only o body).reply ≡ account_reply o body
text_line o body e = rw e

-- the lines after the head, by whether the option has names
module _ (o : PartyOption) {m : Limits} (e : m ≡ limits_of o) (n : ℕ) (h : Head) (ls : List (List ℕ)) where
  pub rest_bic : m.max_names ≡ 0 → after_head o n h ls ≡ with_bic n h ls
  unfolding after_head
  rest_bic z = let k : (limits_of o).max_names ≡ 0 = ap (λ (l : Limits). l.max_names) (sym e) ∙ z in rw (eq-eqb _ _ k, after_head)

  pub rest_names : (m.max_names ≡ 0 → ⊥) → after_head o n h ls ≡ with_names o n h ls
  unfolding after_head
  rest_names z = rw (ne_eqb (limits_of o).max_names 0 (λ k. z (ap (λ (l : Limits). l.max_names) e ∙ k)), after_head)
