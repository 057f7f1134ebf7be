-- What a user of the writer gets: the test for 22 is exact, measuring says what placing does, and when a written body is read back. Assumes
-- nothing.
use mathlib.Core.Path.{◌≡◌, sym, ◌∙◌, ap, subst}
use mathlib.Core.Bool.{true, false, true≢false}
use mathlib.Core.List.{List}
use Prim.Native.Nat.{ℕ, ◌≤◌}
use lib.ListN.{length}
use Rattle.errors.specs.Refusals.{accepted}
use Rattle.party.specs.declared.Party.{Party}
use Rattle.party.specs.Decides.{Decides}
use Rattle.party.specs.Party.{Content, content, Same}
use Rattle.party.specs.Limits.{limits_of}
use Rattle.reader.specs.Options.{found_by, read}
use Rattle.writer.specs.Writing.{written_lines, written_body, written_field, field_most, identified59_f}
use Rattle.writer.specs.Given.{Given, is_given}
use Rattle.writer.specs.Placing.{Pair}
use Rattle.writer.specs.ReadBack.{is_read_back, ReadsBack}
use Rattle.writer.specs.Sender.{read_lines}
use Rattle.writer.proofs.Relined.{weight}
use Rattle.writer.proofs.Contents.{content_with_lem, found_content}
use Rattle.writer.proofs.Facts.{Facts, is_given_lem}
use Rattle.writer.proofs.Pairs.{pair}
use Rattle.writer.proofs.Sizes.{field_most_lem, field_less}
use Rattle.writer.proofs.Sufficient.{parts, given_facts, same_found, sufficient}
use Rattle.writer.proofs.Necessary.{light}
use Rattle.writer.proofs.Back.{accepted_is, back_fits, back_found, back_no}

pub necessary : (p : Party) → Given p → is_given (content p) ≡ true
necessary p g =
    let a = accepted_is p.option g.body g.accepts in
    ap is_given (sym g.same ∙ a.says) ∙ is_given_lem _ a.good.facts

-- a record passes the test for 22 if and only if a reader can give it, whatever its lengths, count, presence, option and bytes
pub given_exact : (p : Party) → Decides (is_given (content p)) (Given p)
given_exact p = record { yes = sufficient p; no = λ e g. true≢false (sym (necessary p g) ∙ e) }

module _ (p : Party) (g : Given p) where
  h : Facts (parts p)
  h = given_facts p (necessary p g)

  body : written_body (content p) ≡ written_body (parts p)
  body = ap written_body (content_with_lem p)

  -- what reading a body says of the record
  abbrev Read : List ℕ → Type 0
  Read b = ((read p.option b).reply ≡ accepted) × Same (read p.option b).party p

  read_back : is_read_back (content p) ≡ true → ReadsBack p
  read_back e =
      let e' : is_read_back (parts p) ≡ true = ap is_read_back (sym (content_with_lem p)) ∙ e in
      let f : Read (written_body (parts p)) =
      same_found p (written_body (parts p)) h (back_fits _ _ _ _ _ _ _ h) (back_found _ _ _ _ _ _ _ h e') in
      let r : Read (written_body (content p)) = subst Read (sym body) f in
      record { accepts = r.0; same = r.1 }

  not_back : is_read_back (content p) ≡ false → ReadsBack p → ⊥
  not_back e r =
      let o = p.option in
      let e' : is_read_back (parts p) ≡ false = ap is_read_back (sym (content_with_lem p)) ∙ e in
      let q : Read (written_body (parts p)) = subst Read body (r.accepts, r.same) in
      let a = accepted_is o (written_body (parts p)) q.0 in
      let same : found_content o (found_by (limits_of o).layout o (written_body (parts p))) ≡ parts p = sym a.says ∙ q.1 ∙ content_with_lem p in
      back_no _ _ _ _ _ o p.present h e'
      (record { reply = a.good.reply; heavy = subst (λ (s : Content). weight (written_lines s) ≤ weight (read_lines (limits_of o).layout (written_body (parts p)))) same (light a.good) })

  -- a record that a reader can give is read back from its written body if and only if its last written line is not empty and no earlier one
  -- ends in CR
  pub reading_back : Decides (is_read_back (content p)) (ReadsBack p)
  reading_back = record { yes = read_back; no = not_back }

  -- its written field has at most 187 bytes, and at most 184 but for 59F with an identifier
  pub written_most : length (written_field (content p)) ≤ field_most
  written_most = subst (λ (s : Content). length (written_field s) ≤ field_most) (sym (content_with_lem p)) (field_most_lem _ _ _ _ _ _ _ h)

  pub written_less : identified59_f (content p) ≡ false → length (written_field (content p)) ≤ 184
  written_less e =
      subst (λ (s : Content). length (written_field s) ≤ 184) (sym (content_with_lem p)) (field_less _ _ _ _ _ _ _ h (ap identified59_f (sym (content_with_lem p)) ∙ e))

-- of every record value and every buffer: measuring gives the exact length of the field that placing puts there, or 22; placing needs just
-- that space
pub measure_and_place : (p : Party) (buffer : List ℕ) → Pair (content p) buffer
measure_and_place p buffer = pair (content p) buffer (λ e. written_most p (sufficient p e))
