-- An option that is ruled out refuses, so that the first option that accepts is found among those that are open. Assumes nothing.
use mathlib.Core.Path.{◌≡◌, refl, sym, ◌∙◌, ap}
use mathlib.Core.Bool.{Bool, true, false, not, ◌&&◌, false≢true}
use mathlib.Core.List.{List, [], ◌∷◌, ◌++◌}
use Prim.Native.Nat.{ℕ}
use lib.ListN.{length, drop}
use types.Run.{hit}
use Rattle.errors.specs.Refusals.{Reply, accepted, refused, must}
use Rattle.errors.proofs.Replies.{refused≢accepted, must_held, then_first, then_second}
use Rattle.party.specs.declared.PartyOption.{PartyOption}
use Rattle.party.specs.declared.PartyOption.TheVariants.{Field50A, Field50G, Field59A}
use Rattle.party.specs.declared.First.TheVariants.{Identified, ShortAccount}
use Rattle.party.specs.Limits.{limits_of}
use Rattle.party.proofs.Options.{by_option}
use Rattle.swift_utils.specs.Checks.{bic_length, parse_bic}
use Rattle.field_utils.specs.Lines.{starts, lines}
use Rattle.field_utils.specs.Identifier.{Identifier}
use Rattle.field_utils.proofs.Identifiers.{identifier_absent, identifier_given}
use Rattle.reader.specs.Reading.{Reading, Found, party_of}
use Rattle.reader.specs.Options.{Head, identifier_head, head_by, with_bic, after_head, after, from_head, is_counted, by_lines, found_by, body_reply, read_own, read}
use Rattle.reader.specs.Code.{has_account, account_by}
use Rattle.reader.proofs.Heads.{by_some, by_none, by_first}
use Rattle.reader.proofs.Readings.{giving_reply, rest_bic}
use Rattle.reader.proofs.Bodies.{body_passed}
use Rattle.reader.specs.declared.choices.Choice.{Choice}
use Rattle.reader.specs.declared.choices.Choice.TheVariants.{Field50InstructingParty, Field50OrderingCustomerFGH, Field50OrderingCustomerAFK, Field50OrderingCustomerNCF, Field50Creditor, Field59, Field59Debtor}
use Rattle.reader.specs.declared.choices.Trial.{Trial}
use Rattle.reader.specs.Detection.{first_line, test_line, holds}
use Rattle.reader.specs.Choices.{trials_of, tried_text, when, wanted, or_else, first_that}
use Rattle.reader.specs.ChoicesCode.{asked_text, short_bic_line, ruled_out, is_open}
use Rattle.reader.proofs.Trials.{by_choice}
use Rattle.reader.proofs.Trimmed.{tried_body}

-- ---- an option's BIC, where it accepts
-- it has 8 or 11 bytes
abbrev Long : List ℕ → Type 0
Long l = bic_length (length l) ≡ true

bic_long_lem : (n : ℕ) (l : List ℕ) → parse_bic n l ≡ accepted → Long l
unfolding parse_bic
bic_long_lem n l e = must_held (bic_length (length l)) 9 n (then_first _ _ e)

rest_long : (n : ℕ) (h : Head) (ls : List (List ℕ)) → (with_bic n h ls).reply ≡ accepted → Long (first_line ls)
unfolding first_line
rest_long n h [] e = absurd (refused≢accepted e)
rest_long n h (l ∷ ls) e = bic_long_lem n l e

-- it is the line after the head, or the first where there is no head
abbrev bic_at : Bool → List (List ℕ) → List ℕ
bic_at t ls = elim t [ true ↦ first_line (drop 1 ls) | false ↦ first_line ls ]

module _ (o : PartyOption) (none : (limits_of o).max_names ≡ 0) where
  after_long : (n : ℕ) (h : Head) (ls : List (List ℕ)) → (after_head o n h ls).reply ≡ accepted → Long (first_line ls)
  after_long n h ls e = rest_long n h ls (sym (ap (λ (f : Found). f.reply) (rest_bic o refl n h ls none)) ∙ e)

  lines_long : (l : List ℕ) (ls : List (List ℕ)) {t : Bool} → (head_by (limits_of o).first o l).present ≡ t → (by_lines o (l ∷ ls)).reply ≡ accepted → Long (bic_at t (l ∷ ls))
  lines_long l ls p e = go _ p
    where
      h : Head
      h = head_by (limits_of o).first o l

      found : (from_head o h (l ∷ ls) ls).reply ≡ accepted
      found = then_second (must (is_counted o (length (l ∷ ls))) 1 0) _ e

      whole : (t : Bool) → h.present ≡ t → (elim t as (λ x. Found) [ true ↦ after h.reply (after_head o 2 h ls) | false ↦ after h.reply (after_head o 1 h (l ∷ ls)) ]).reply ≡ accepted
      whole t q = sym (ap (λ (u : Bool). (elim u as (λ x. Found) [ true ↦ after h.reply (after_head o 2 h ls) | false ↦ after h.reply (after_head o 1 h (l ∷ ls)) ]).reply) q) ∙ found

      go : (t : Bool) → h.present ≡ t → Long (bic_at t (l ∷ ls))
      go true q = after_long 2 h ls (then_second h.reply _ (whole true q))
      go false q = after_long 1 h (l ∷ ls) (then_second h.reply _ (whole false q))

-- 50A's head is there where the first line has a slash, 59A's where it is an account
identified : (l : List ℕ) → (head_by Identified Field50A l).present ≡ starts 47 l
identified l = go (starts 47 l) refl
  where
    go : (t : Bool) → starts 47 l ≡ t → (head_by Identified Field50A l).present ≡ t
    go true e = ap (λ (i : Identifier). (identifier_head i).present) (identifier_given Field50A 1 l e)
    go false e = ap (λ (i : Identifier). (identifier_head i).present) (identifier_absent Field50A 1 l e)

short : (l : List ℕ) → (head_by ShortAccount Field59A l).present ≡ has_account ShortAccount Field59A l
short l = go (has_account ShortAccount Field59A l) refl
  where
    by : (head_by ShortAccount Field59A l).present ≡ (account_by ShortAccount Field59A l).present
    by = ap (λ (h : Head). h.present) (sym (by_first ShortAccount Field59A l (hit (2 ∷ 3 ∷ []) 3 tt)))

    go : (t : Bool) → has_account ShortAccount Field59A l ≡ t → (head_by ShortAccount Field59A l).present ≡ t
    go true e = by ∙ ap (λ (h : Head). h.present) (by_some ShortAccount Field59A l e)
    go false e = by ∙ ap (λ (h : Head). h.present) (by_none ShortAccount Field59A l e)

-- ---- what is ruled out is refused
not_both : (b : Bool) → not b ≡ true → b ≡ true → ⊥
not_both b e f = false≢true (ap not (sym f) ∙ e)

module _ (text : List ℕ) where
  abbrev Rules : PartyOption → Type 0
  Rules o = ruled_out o text (lines text) ≡ true → (found_by (limits_of o).layout o text).reply ≡ accepted → ⊥

  in_lines : (o : PartyOption) (line : List (List ℕ) → List ℕ) → ((l : List ℕ) (ls : List (List ℕ)) → (by_lines o (l ∷ ls)).reply ≡ accepted → Long (line (l ∷ ls)))
      → not (bic_length (length (line (lines text)))) ≡ true → (by_lines o (lines text)).reply ≡ accepted → ⊥
  in_lines o line long = go (lines text)
    where
      go : (ls : List (List ℕ)) → not (bic_length (length (line ls))) ≡ true → (by_lines o ls).reply ≡ accepted → ⊥
      go [] r e = refused≢accepted e
      go (l ∷ ls) r e = not_both (bic_length (length (line (l ∷ ls)))) r (long l ls e)

  rules : (o : PartyOption) → Rules o
  unfolding first_line test_line short_bic_line
  rules =
      by_option Rules (λ r e. false≢true r) (in_lines Field50A test_line (λ l ls. lines_long Field50A refl l ls (identified l))) (λ r e. false≢true r) (λ r e. false≢true r)
      (λ r e. not_both (bic_length (length text)) r (bic_long_lem 1 text e)) (λ r e. false≢true r)
      (in_lines Field50G (λ ls. first_line (drop 1 ls)) (λ l ls. lines_long Field50G refl l ls refl)) (λ r e. false≢true r) (λ r e. false≢true r)
      (in_lines Field59A short_bic_line (λ l ls. lines_long Field59A refl l ls (short l))) (λ r e. false≢true r)

-- an option that is ruled out by the text and its lines refuses the text
pub ruled_out_lem : (o : PartyOption) (text : List ℕ) → ruled_out o text (lines text) ≡ true → (read_own o text).reply ≡ accepted → ⊥
ruled_out_lem o text r e = rules text o r (sym (giving_reply (found_by (limits_of o).layout o text).reply (party_of o (found_by (limits_of o).layout o text))) ∙ e)

-- ---- the first option that accepts, of those that are open
-- the options that are tried
abbrev pub open_of : List ℕ → List (List ℕ) → List Trial → List PartyOption
open_of text ls [] = []
open_of text ls (t ∷ ts) = when (is_open t.0 t.1 text ls) t.0 ++ open_of text ls ts

-- an option that does not accept is passed
passed : (o : PartyOption) (os : List PartyOption) (text : List ℕ) → ((read o text).reply ≡ accepted → ⊥) → first_that (o ∷ os) text ≡ first_that os text
unfolding first_that
passed o os text h = go (read o text).reply h
  where
    go : (r : Reply) → (r ≡ accepted → ⊥) → elim r as (λ x. Reading) [ accepted ↦ read o text | refused k n ↦ first_that os text ] ≡ first_that os text
    go accepted h = absurd (h refl)
    go (refused k n) h = refl

module _ (text : List ℕ) (q : body_reply text ≡ accepted) where
  open_first : (ts : List Trial) → first_that (open_of text (lines text) ts) text ≡ first_that (wanted (lines text) ts) text
  unfolding first_that
  open_first [] = refl
  open_first (t ∷ ts) = go (ruled_out o text (lines text)) (holds t.1 (lines text)) refl (open_first ts)
    where
      o : PartyOption
      o = t.0

      go : (r h : Bool) → ruled_out o text (lines text) ≡ r → first_that (open_of text (lines text) ts) text ≡ first_that (wanted (lines text) ts) text
          → first_that (when (not r && h) o ++ open_of text (lines text) ts) text ≡ first_that (when h o ++ wanted (lines text) ts) text
      go true true e ih =
          ih
          ∙ sym (passed o (wanted (lines text) ts) text (λ a. ruled_out_lem o text e (ap (λ (w : Reading). w.reply) (sym (body_passed o text q)) ∙ a)))
      go true false e ih = ih
      go false true e ih = ap (or_else (read o text)) ih
      go false false e ih = ih

-- of a body that passes 12 and 13
pub open_that : (choice : Choice) (body : List ℕ) → body_reply body ≡ accepted → let text = tried_text choice body in
    first_that (open_of text (lines (asked_text choice body)) (trials_of choice)) text ≡ first_that (wanted (lines body) (trials_of choice)) text
open_that choice body q =
    by_choice (λ c. body_reply (tried_text c body) ≡ accepted → first_that (open_of (tried_text c body) (lines (asked_text c body)) (trials_of c)) (tried_text c body) ≡ first_that (wanted (lines body) (trials_of c)) (tried_text c body))
    (λ p. open_first (tried_text Field50InstructingParty body) p (trials_of Field50InstructingParty))
    (λ p. open_first body p (trials_of Field50OrderingCustomerFGH)) (λ p. open_first body p (trials_of Field50OrderingCustomerAFK)) (λ p. open_first body p (trials_of Field50OrderingCustomerNCF))
    (λ p. open_first body p (trials_of Field50Creditor)) (λ p. open_first body p (trials_of Field59)) (λ p. open_first body p (trials_of Field59Debtor))
    choice (tried_body body q choice)
