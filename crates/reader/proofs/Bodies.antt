-- What a body's lines say, by the count and the first line; and what a body says, by 12 and 13. Assumes nothing.
use mathlib.Core.Path.{◌≡◌, refl, sym, ◌∙◌, ap}
use mathlib.Core.Bool.{Bool, true, false}
use mathlib.Core.List.{List, ◌∷◌}
use Prim.Native.Nat.{ℕ, ◌≤◌}
use lib.ListN.{length}
use borrow.Author.Tests.{leb-true}
use Rattle.errors.specs.declared.ParseError.{ParseError}
use Rattle.errors.specs.Refusals.{Reply, accepted, refused, told_error, must, ◌then◌}
use Rattle.errors.proofs.Replies.{must_held, then_first}
use Rattle.party.specs.declared.PartyOption.{PartyOption}
use Rattle.party.specs.Limits.{limits_of}
use Rattle.party.specs.Party.{blank}
use Rattle.swift_utils.specs.Bytes.{all}
use Rattle.reader.specs.Reading.{giving, Found, party_of}
use Rattle.reader.specs.Options.{Head, is_counted, body_most, head_by, after_head, after, from_head, by_lines, found_by, ascii, body_reply, read_own, read}
use Rattle.reader.specs.Code.{passed_head}

refused_head : (o : PartyOption) (t : Bool) (text : List ℕ) (k n : ℕ) (all_lines later : List (List ℕ))
    → (from_head o (record { present = t; text = text; reply = refused k n }) all_lines later).reply ≡ refused k n
refused_head o true text k n all_lines later = refl
refused_head o false text k n all_lines later = refl

module _ (o : PartyOption) (l : List ℕ) (ls : List (List ℕ)) where
  abbrev Counted : Bool → Type 0
  Counted t = is_counted o (length (l ∷ ls)) ≡ t

  pub lines_count : Counted false → (by_lines o (l ∷ ls)).reply ≡ refused 1 0
  lines_count e = ap (λ (t : Bool). must t 1 0 then (from_head o (head_by (limits_of o).first o l) (l ∷ ls) ls).reply) e

  module _ {h : Head} (e : h ≡ head_by (limits_of o).first o l) (c : Counted true) where
    opened : by_lines o (l ∷ ls) ≡ from_head o h (l ∷ ls) ls
    opened =
        ap (λ (t : Bool). after (must t 1 0) (from_head o (head_by (limits_of o).first o l) (l ∷ ls) ls)) c
        ∙ ap (λ (g : Head). from_head o g (l ∷ ls) ls) (sym e)

    pub head_refused : {k n : ℕ} → h.reply ≡ refused k n → (by_lines o (l ∷ ls)).reply ≡ refused k n
    head_refused {k} {n} r =
        ap (λ (f : Found). f.reply) opened
        ∙ ap (λ (s : Reply). (from_head o (record { present = h.present; text = h.text; reply = s }) (l ∷ ls) ls).reply) r
        ∙ refused_head o h.present h.text k n (l ∷ ls) ls

    passed : {t : Bool} {text : List ℕ} → h.present ≡ t → h.text ≡ text → h.reply ≡ accepted → h ≡ passed_head t text
    passed p x r = λ i. record { present = p i; text = x i; reply = r i }

    pub head_there : {text : List ℕ} → h.present ≡ true → h.text ≡ text → h.reply ≡ accepted → by_lines o (l ∷ ls) ≡ after_head o 2 (passed_head true text) ls
    head_there p x r = opened ∙ ap (λ (g : Head). from_head o g (l ∷ ls) ls) (passed p x r)

    pub head_none : {text : List ℕ} → h.present ≡ false → h.text ≡ text → h.reply ≡ accepted → by_lines o (l ∷ ls) ≡ after_head o 1 (passed_head false text) (l ∷ ls)
    head_none p x r = opened ∙ ap (λ (g : Head). from_head o g (l ∷ ls) ls) (passed p x r)

module _ (o : PartyOption) (body : List ℕ) where
  pub body_refused : (e : ParseError) → body_reply body ≡ told_error e → read o body ≡ (record { reply = told_error e; party = blank })
  unfolding read
  body_refused e q = ap (λ (r : Reply). giving (r then (found_by (limits_of o).layout o body).reply) (party_of o (found_by (limits_of o).layout o body))) q

  pub body_passed : body_reply body ≡ accepted → read o body ≡ read_own o body
  unfolding read
  body_passed q = ap (λ (r : Reply). giving (r then (found_by (limits_of o).layout o body).reply) (party_of o (found_by (limits_of o).layout o body))) q

pub body_length : (body : List ℕ) → body_reply body ≡ accepted → length body ≤ body_most
body_length body q = leb-true (length body) body_most (must_held _ 12 0 (then_first _ (must (all ascii body) 13 0) q))
