-- The bodies whose account 50H takes and the Rust does not: what the options say of them. Assumes nothing.
use mathlib.Core.Path.{◌≡◌, sym, ◌∙◌, ap}
use mathlib.Core.Bool.{Bool, true, false, not, and-eq-true_iff, false≢true}
use mathlib.Core.List.{List, [], ◌∷◌}
use mathlib.Core.Option.{some}
use Prim.Native.Nat.{ℕ, suc, ◌≤◌}
use native.Mathlib.Omega.{arith}
use lib.Dec.{leb}
use lib.ListN.{length, drop}
use borrow.Author.Tests.{not-true}
use Rattle.errors.specs.Refusals.{Reply, accepted, refused, must, ◌then◌}
use Rattle.errors.proofs.Replies.{refused≢accepted, must_held, then_first, then_second, then_assoc}
use Rattle.party.specs.declared.PartyOption.{PartyOption}
use Rattle.party.specs.declared.PartyOption.TheVariants.{Field50F, Field50G, Field50H}
use Rattle.party.specs.declared.Numbering.TheVariants.{Unnumbered}
use Rattle.swift_utils.specs.Bytes.{between, all, legal}
use Rattle.swift_utils.specs.Checks.{parse_swift_chars, parse_account}
use Rattle.field_utils.specs.Lines.{lines, starts}
use Rattle.field_utils.specs.Names.{parse_line, parse_lines, parse_count, parse_name_and_address}
use Rattle.reader.specs.Reading.{Reading, giving, Found, party_of}
use Rattle.reader.proofs.Readings.{giving_reply}
use Rattle.reader.specs.Options.{account_reply, is_counted, after_head, by_lines, body_reply, read}
use Rattle.reader.specs.Code.{reading_of}
use Rattle.reader.proofs.Bodies.{body_passed}
use Rattle.reader.specs.Detection.{first_line}
use Rattle.swift_mt_message.specs.Std.{Str, slash}
use Rattle.swift_mt_message.specs.Equal.{as_party, illegal_account}
use Rattle.swift_mt_message.proofs.Bodies.{names_party, kept_whole}

-- what such lines are
pub record Illegal (ls : List Str) : Type 0 where
  pub two : leb 2 (length ls) ≡ true
  pub slashed : starts slash (first_line ls) ≡ true
  pub fits : between 1 34 (length (drop 1 (first_line ls))) ≡ true
  pub other : all legal (drop 1 (first_line ls)) ≡ false

pub illegal : (ls : List Str) → illegal_account ls ≡ true → Illegal ls
unfolding illegal_account
illegal ls e =
    let a = (and-eq-true_iff _ (not (all legal (drop 1 (first_line ls))))).0 e in
    let b = (and-eq-true_iff _ (between 1 34 (length (drop 1 (first_line ls))))).0 a.0 in
    let c = (and-eq-true_iff (leb 2 (length ls)) (starts 47 (first_line ls))).0 b.0 in
    record { two = c.0; slashed = c.1; fits = b.1; other = not-true _ a.1 }

-- the reply of a reading
replied : (o : PartyOption) (f : Found) → (reading_of o f).reply ≡ f.reply
replied o f = giving_reply f.reply (party_of o f)

-- an account or identifier that passes is of legal bytes
passes : (shortest longest : ℕ) (s : Str) → parse_account shortest longest 1 s ≡ accepted → all legal s ≡ true
unfolding parse_account parse_swift_chars
passes shortest longest s e = must_held (all legal s) 3 1 (then_second (must (between shortest longest (length s)) 2 1) (must (all legal s) 3 1) e)

-- neither 50F nor 50G accepts them
not_F : (ls : List Str) → Illegal ls → (by_lines Field50F ls).reply ≡ accepted → ⊥
unfolding first_line starts
not_F [] i e = false≢true i.slashed
not_F ([] ∷ ls) i e = false≢true i.slashed
not_F ((b ∷ s) ∷ ls) i e =
    let count = must (is_counted Field50F (length ((b ∷ s) ∷ ls))) 1 0 in
    let account = account_reply Field50F (b ∷ s) in
    let whole = passes 1 35 (b ∷ s) (then_first account _ (then_second count (account then _) e)) in
    false≢true (sym i.other ∙ ((and-eq-true_iff (legal b) (all legal s)).0 whole).1)

not_G : (ls : List Str) → Illegal ls → (by_lines Field50G ls).reply ≡ accepted → ⊥
unfolding first_line
not_G [] i e = refused≢accepted e
not_G (l ∷ ls) i e =
    let count = must (is_counted Field50G (length (l ∷ ls))) 1 0 in
    let first = must (starts slash l) 2 1 in
    let account = account_reply Field50G (drop 1 l) in
    false≢true (sym i.other ∙ passes 1 34 (drop 1 l) (then_second first account (then_first (first then account) _ (then_second count ((first then account) then _) e))))

module _ (body : Str) (q : body_reply body ≡ accepted) (i : Illegal (lines body)) where
  pub F-refuses : (read Field50F body).reply ≡ accepted → ⊥
  F-refuses e = not_F (lines body) i (sym (ap (λ (r : Reading). r.reply) (body_passed Field50F body q) ∙ replied Field50F (by_lines Field50F (lines body))) ∙ e)

  pub G-refuses : (read Field50G body).reply ≡ accepted → ⊥
  G-refuses e = not_G (lines body) i (sym (ap (λ (r : Reading). r.reply) (body_passed Field50G body q) ∙ replied Field50G (by_lines Field50G (lines body))) ∙ e)

-- 50H reads on, as document 01 has it: its names are tested next
reads_names : (ls : List Str) → Illegal ls
    → reading_of Field50H (by_lines Field50H ls)
    ≡ giving (parse_name_and_address Field50H 2 (drop 1 ls)) (as_party Field50H (some (drop 1 (first_line ls))) [] (drop 1 ls))
unfolding first_line starts party_of after_head
reads_names [] i = absurd (false≢true i.slashed)
reads_names (l ∷ ls) i =
    rw (i.two, i.slashed, i.fits)
    (ap (giving (parse_name_and_address Field50H 2 ls)) (sym (names_party Field50H true (drop 1 l) ls) ∙ ap (as_party Field50H (some (drop 1 l)) []) (kept_whole ls)))

-- a refusal of names is of their count, of a length or of a later line
step : (a b : Bool) (n : ℕ) (r : Reply) → 2 ≤ n → (r ≡ refused 3 1 → ⊥) → ((must a 4 n then must b 3 n) then r) ≡ refused 3 1 → ⊥
step true true n r h f e = f e
step true false n r h f e = let z : n ≡ 1 = cc in omega arith
step false b n r h f e = let z : ◌≡◌ {A = ℕ} 4 3 = cc in omega arith

never : (n k count : ℕ) (ls : List Str) → 2 ≤ n → (parse_lines Unnumbered 35 n k ls then parse_count 4 count) ≡ refused 3 1 → ⊥
unfolding parse_lines parse_line parse_swift_chars
never n k count [] h e = go (between 1 4 count) e
  where
    go : (b : Bool) → must b 7 0 ≡ refused 3 1 → ⊥
    go true f = refused≢accepted (sym f)
    go false f = let z : ◌≡◌ {A = ℕ} 7 3 = cc in omega arith
never n k count (l ∷ ls) h e =
    step (leb (length l) 35) (all legal l) n _ h (never (suc n) (suc k) count ls (omega arith))
    (sym (then_assoc (must (leb (length l) 35) 4 n then must (all legal l) 3 n) (parse_lines Unnumbered 35 (suc n) (suc k) ls) (parse_count 4 count)) ∙ e)

module _ (body : Str) (q : body_reply body ≡ accepted) (i : Illegal (lines body)) where
  pub reads_on : read Field50H body
      ≡ giving (parse_name_and_address Field50H 2 (drop 1 (lines body))) (as_party Field50H (some (drop 1 (first_line (lines body)))) [] (drop 1 (lines body)))
  reads_on = body_passed Field50H body q ∙ reads_names (lines body) i

  pub differs : (read Field50H body).reply ≡ refused 3 1 → ⊥
  unfolding parse_name_and_address
  differs e = never 2 1 (length (drop 1 (lines body))) (drop 1 (lines body)) (omega arith) (sym (ap (λ (r : Reading). r.reply) reads_on ∙ giving_reply (parse_name_and_address Field50H 2 (drop 1 (lines body))) _) ∙ e)
