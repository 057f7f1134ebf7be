-- A record that passes the test for 22 is read from a body, the one of its lines. Assumes nothing.
use mathlib.Core.Path.{◌≡◌, refl, sym, ◌∙◌, ap}
use mathlib.Core.Bool.{true}
use mathlib.Core.List.{List, [], ◌∷◌, ◌++◌}
use Prim.Native.Nat.{ℕ, ◌≤◌}
use native.Mathlib.Omega.{arith}
use lib.Dec.{leb}
use lib.ListN.{length, take, length-take}
use borrow.Author.Tests.{le-leb}
use Rattle.errors.specs.Refusals.{Reply, accepted}
use Rattle.errors.proofs.Replies.{must_passes, then_passes}
use Rattle.party.specs.declared.PartyOption.{PartyOption}
use Rattle.party.specs.declared.Party.{Party}
use Rattle.party.specs.Text.{used}
use Rattle.party.specs.Party.{Content, content, names_of, Same}
use Rattle.party.specs.declared.Layout.{Layout}
use Rattle.party.specs.declared.Layout.TheVariants.{BicOnly, TextOnly, ByLines}
use Rattle.party.specs.Limits.{limits_of}
use Rattle.swift_utils.specs.Bytes.{all}
use Rattle.field_utils.proofs.Tests.{Line}
use Rattle.reader.specs.Reading.{Reading, Found, giving, party_of}
use Rattle.reader.specs.Options.{ascii, body_reply, by_lines, found_by, read, body_most}
use Rattle.reader.proofs.Bodies.{body_passed}
use Rattle.writer.specs.Writing.{written_lines, joined}
use Rattle.writer.specs.Given.{Given, is_given}
use Rattle.writer.proofs.Relined.{All, weight, closed, lines_closed}
use Rattle.writer.proofs.Contents.{content_with, content_with_lem, content_party}
use Rattle.writer.proofs.Ascii.{all_more}
use Rattle.writer.proofs.Facts.{Facts, facts}
use Rattle.writer.proofs.Written.{found_of, Reads, written_found}
use Rattle.writer.proofs.Witness.{Plain, found_content_back, fitting, written_plain}
use Rattle.writer.proofs.Sizes.{written_183, closed_length, joined_most}

-- ---- bodies of plain lines
pub lines_of : (ls : List (List ℕ)) → All Plain ls → All Line ls
lines_of [] h = tt
lines_of (l ∷ ls) h = (h.0.line, lines_of ls h.1)

pub joined_ascii : (ls : List (List ℕ)) → All Plain ls → all ascii (joined ls) ≡ true
unfolding joined
joined_ascii [] h = refl
joined_ascii (l ∷ []) h = h.0.bytes
joined_ascii (l ∷ m ∷ ls) h = all_more ascii l (10 ∷ joined (m ∷ ls)) h.0.bytes (joined_ascii (m ∷ ls) h.1)

closed_ascii : (ls : List (List ℕ)) → All Plain ls → all ascii (closed ls) ≡ true
closed_ascii [] h = refl
closed_ascii (l ∷ ls) h = all_more ascii (l ++ 13 ∷ []) (10 ∷ closed ls) (all_more ascii l (13 ∷ []) h.0.bytes refl) (closed_ascii ls h.1)

pub body_fits : (body : List ℕ) → length body ≤ body_most → all ascii body ≡ true → body_reply body ≡ accepted
body_fits body h e = then_passes _ _ (must_passes (leb (length body) body_most) 12 0 (le-leb _ _ h)) (must_passes (all ascii body) 13 0 e)

-- ---- a body that gives a record: its lines each followed by CR LF; for 50C and 50L its text
pub body_for : Layout → List (List ℕ) → List ℕ
body_for BicOnly ls = joined ls
body_for TextOnly ls = joined ls
body_for ByLines ls = closed ls

body_for_found : (layout : Layout) (o : PartyOption) (s : Content) → Reads layout o s → All Plain (written_lines s) → found_by layout o (body_for layout (written_lines s)) ≡ found_of s
unfolding body_for
body_for_found BicOnly o s r h = r
body_for_found TextOnly o s r h = r
body_for_found ByLines o s r h = ap (by_lines o) (lines_closed (written_lines s) (lines_of (written_lines s) h)) ∙ r

body_for_fits : (layout : Layout) (ls : List (List ℕ)) → weight ls ≤ 183 → All Plain ls → body_reply (body_for layout ls) ≡ accepted
unfolding body_for
body_for_fits BicOnly ls n h = body_fits (joined ls) (omega (arith, joined_most ls 183 (omega arith))) (joined_ascii ls h)
body_for_fits TextOnly ls n h = body_fits (joined ls) (omega (arith, joined_most ls 183 (omega arith))) (joined_ascii ls h)
body_for_fits ByLines ls n h = body_fits (closed ls) (omega (arith, closed_length ls)) (closed_ascii ls h)

-- ---- a body in which an option finds something is read as that
pub read_found : (o : PartyOption) (body : List ℕ) (f : Found) → body_reply body ≡ accepted → found_by (limits_of o).layout o body ≡ f → f.reply ≡ accepted
    → read o body ≡ record { reply = accepted; party = party_of o f }
read_found o body f b e r =
    body_passed o body b ∙ ap (λ (g : Found). giving g.reply (party_of o g)) e ∙ ap (λ (w : Reply). giving w (party_of o f)) r

-- what a record says, by its parts
abbrev pub parts : Party → Content
parts p = content_with p.option p.present p.count (used p.account) (used p.bic) (names_of p.count p) (take p.count p.digits)

pub given_facts : (p : Party) → is_given (content p) ≡ true → Facts (parts p)
given_facts p e = facts (parts p) (ap is_given (sym (content_with_lem p)) ∙ e)

-- a record in whose lines its option finds what it says is read from a body
pub same_found : (p : Party) (body : List ℕ) → Facts (parts p) → body_reply body ≡ accepted → found_by (limits_of p.option).layout p.option body ≡ found_of (parts p)
    → ((read p.option body).reply ≡ accepted) × Same (read p.option body).party p
same_found p body h b e =
    let o = p.option in
    let r : read o body ≡ (record { reply = accepted; party = party_of o (found_of (parts p)) }) = read_found o body (found_of (parts p)) b e refl in (
      ap (λ (w : Reading). w.reply) r,
      ap (λ (w : Reading). content w.party) r ∙ content_party o (found_of (parts p)) (fitting o _ _ _ _ _ _ h) ∙ found_content_back o _ _ _ _ _ _ (omega (arith, length-take p.count p.digits)) h ∙ sym (content_with_lem p),
    )

pub sufficient : (p : Party) → is_given (content p) ≡ true → Given p
sufficient p e =
    let o = p.option in
    let s = parts p in
    let h = given_facts p e in
    let plain = written_plain o _ _ _ _ _ _ h in
    let layout = (limits_of o).layout in
    let f = same_found p (body_for layout (written_lines s)) h (body_for_fits layout (written_lines s) (written_183 o _ _ _ _ _ _ h) plain) (body_for_found layout o s (written_found _ _ _ _ _ o p.present h) plain) in
    record { body = body_for layout (written_lines s); accepts = f.0; same = f.1 }
