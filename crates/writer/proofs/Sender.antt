-- What is written of a body that was read are the lines that came. Assumes nothing.
use mathlib.Core.Path.{◌≡◌, refl, sym, ◌∙◌, ap, subst}
use mathlib.Core.Bool.{true, false, false≢true}
use mathlib.Core.List.{List, [], ◌∷◌, ◌++◌, map, append-nil}
use Prim.Native.Nat.{ℕ, suc, ◌≤◌}
use native.Mathlib.Omega.{arith}
use lib.ListN.{length, drop, get_or}
use Rattle.errors.specs.Refusals.{accepted}
use Rattle.errors.proofs.Replies.{refused≢accepted}
use Rattle.party.specs.declared.PartyOption.{PartyOption}
use Rattle.party.specs.declared.PartyOption.TheVariants.{Field50F}
use Rattle.party.specs.declared.Numbering.TheVariants.{Numbered}
use Rattle.party.specs.Party.{Content}
use Rattle.party.specs.Limits.{limits_of}
use Rattle.field_utils.specs.Lines.{lines, is_empty}
use Rattle.field_utils.specs.Identifier.{is_numbered}
use Rattle.reader.specs.Reading.{giving, party_of}
use Rattle.reader.specs.Options.{after_head, read, body_reply, by_lines}
use Rattle.reader.proofs.Bodies.{body_passed}
use Rattle.writer.specs.Writing.{written_lines, joined, written_body}
use Rattle.writer.specs.ReadBack.{last_empty, earlier_cr}
use Rattle.writer.specs.Sender.{read_lines, Leads, content_of, SenderLines, Keeps50F}
use Rattle.writer.proofs.Relined.{lines_are, lines_joined, relined_same}
use Rattle.writer.proofs.NamePasses.{AllPass}
use Rattle.writer.proofs.Contents.{used_of, found_content}
use Rattle.writer.proofs.Facts.{Facts, names_are}
use Rattle.writer.proofs.Back.{Accepted, accepted_is, back_fits}

-- of every option and every body that it accepts
pub sender_lines : (o : PartyOption) (body : List ℕ) → (read o body).reply ≡ accepted → SenderLines o body
sender_lines o body e =
    let a = accepted_is o body e in
    subst (λ (s : Content). Leads o (written_lines s) (read_lines (limits_of o).layout body)) (sym a.says) a.good.lines

-- ---- 50F
-- the last of numbered lines is not empty
not_empty : (l : List ℕ) → is_numbered l ≡ true → is_empty l ≡ false
unfolding is_numbered
not_empty [] e = absurd (false≢true e)
not_empty (d ∷ l) e = refl

last_numbered : (longest k : ℕ) (l : List ℕ) (ls : List (List ℕ)) → 1 ≤ length ls → AllPass Numbered longest k ls → last_empty (l ∷ ls) ≡ false
unfolding last_empty
last_numbered longest k l [] h p = absurd (omega arith)
last_numbered longest k l (m ∷ []) h p = not_empty m p.0.number
last_numbered longest k l (m ∷ n ∷ ls) h p = last_numbered longest (suc k) m (n ∷ ls) (omega arith) p.1

-- what 50F finds in lines: the digits of those after the first; and the last line that is written of it is not empty
found_digits : (ls : List (List ℕ)) → (by_lines Field50F ls).digits ≡ map (λ (l : List ℕ). get_or l 0 0) (drop 1 ls)
unfolding after_head
found_digits [] = refl
found_digits (l ∷ ls) = refl

found_last : (ls : List (List ℕ)) → (by_lines Field50F ls).reply ≡ accepted → Facts (found_content Field50F (by_lines Field50F ls)) → last_empty (written_lines (found_content Field50F (by_lines Field50F ls))) ≡ false
unfolding after_head written_lines
found_last [] e h = absurd (refused≢accepted e)
found_last (l ∷ ls) e h =
    let p = (names_are Field50F _ _ _ h.names).pass refl in
    last_numbered 33 1 l _ p.least p.each

module _ (body : List ℕ) (e : (read Field50F body).reply ≡ accepted) where
  a : Accepted Field50F body
  a = accepted_is Field50F body e

  same_lines : written_lines (content_of Field50F body) ≡ lines body
  same_lines =
      let s = sender_lines Field50F body e in
      let ws = written_lines (content_of Field50F body) in
      sym (s.are ∙ ap (λ (rest : List (List ℕ)). ws ++ rest) (s.all (λ z. omega arith)) ∙ append-nil ws)

  last : last_empty (lines body) ≡ false
  last = ap last_empty (sym (sym (ap written_lines a.says) ∙ same_lines)) ∙ found_last (lines body) a.good.reply a.good.facts

  lines_again : earlier_cr (lines body) ≡ false → lines (written_body (content_of Field50F body)) ≡ lines body
  unfolding written_body
  lines_again c = ap (λ (ls : List (List ℕ)). lines (joined ls)) same_lines ∙ lines_joined (lines body) (lines_are body) ∙ relined_same (lines body) last c

  fits : body_reply (written_body (content_of Field50F body)) ≡ accepted
  fits =
      ap (λ (s : Content). body_reply (written_body s)) a.says ∙ back_fits Field50F _ _ _ (used_of (by_lines Field50F (lines body)).bic) _ _ a.good.facts

  pub keeps_50F : Keeps50F body
  keeps_50F = record {
    lines = same_lines;
    digits = ap (λ (s : Content). s.digits) a.says ∙ found_digits (lines body);
    again = λ c.
        body_passed Field50F (written_body (content_of Field50F body)) fits
        ∙ ap (λ (ls : List (List ℕ)). giving (by_lines Field50F ls).reply (party_of Field50F (by_lines Field50F ls))) (lines_again c)
        ∙ sym (body_passed Field50F body a.fits);
  }
