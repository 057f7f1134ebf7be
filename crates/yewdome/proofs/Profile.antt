-- What members rely on under the network profile: it changes no record, and what it takes a page accepts. Assumes nothing.
use mathlib.Core.Path.{◌≡◌, refl, sym, ◌∙◌, ap, subst}
use mathlib.Core.Bool.{Bool, true, false, not, ◌||◌}
use mathlib.Core.List.{List, [], ◌∷◌}
use Prim.Native.Nat.{ℕ, suc, ◌≤◌}
use native.Mathlib.Omega.{arith}
use borrow.Author.Tests.{not-true}
use Rattle.errors.specs.Refusals.{Reply, accepted, refused, must, ◌then◌}
use Rattle.errors.proofs.Replies.{refused≢accepted, must_held, then_first, then_second}
use Rattle.party.specs.declared.PartyOption.{PartyOption}
use Rattle.party.specs.declared.PartyOption.TheVariants.{Field50C, Field50L}
use Rattle.party.specs.declared.Party.{Party}
use Rattle.party.specs.Limits.{limits_of}
use Rattle.party.specs.Party.{Content, content}
use Rattle.party.proofs.Options.{by_option}
use Rattle.swift_utils.specs.Bytes.{among}
use Rattle.field_utils.specs.Lines.{lines}
use Rattle.field_utils.specs.Trim.{trimmed}
use Rattle.field_utils.proofs.Tests.{Line}
use Rattle.reader.specs.Reading.{Reading}
use Rattle.reader.specs.Options.{account_reply, text_only, found_by, read}
use Rattle.reader.specs.declared.choices.Choice.{Choice}
use Rattle.reader.specs.Choices.{refusing, parse, parse_with_variant}
use Rattle.reader.proofs.Every.{body_parse, body_variant}
use Rattle.profile.specs.Profile.{holds_bic, is_inside, lines_reply, profile_reply, profiled}
use Rattle.profile.proofs.Laws.{lines_none, lines_fault, lines_pass, profiled_refused, profiled_pass}
use Rattle.writer.specs.Writing.{written_lines, written_body, written_field}
use Rattle.writer.specs.Given.{is_given}
use Rattle.writer.specs.ReadBack.{ends_cr}
use Rattle.writer.proofs.Relined.{lines_rest, pieces_joined}
use Rattle.writer.proofs.Contents.{found_content}
use Rattle.writer.proofs.Facts.{is_given_lem}
use Rattle.writer.proofs.Witness.{written_plain}
use Rattle.writer.proofs.Sufficient.{lines_of}
use Rattle.writer.specs.Sender.{read_lines}
use Rattle.reader.proofs.Readings.{giving_reply}
use Rattle.writer.proofs.Back.{accepted_is, text_least}
use Rattle.page_writer.specs.Adding.{lines_carried, is_carried, with_lf, Call, putting, add}
use Rattle.page_writer.proofs.Addings.{add_asked, asked_by}
use Rattle.yewdome.specs.Profile.{OnlyRefuses, PageAccepts, Promise, Profile}
use Rattle.yewdome.proofs.ProfileBic.{Held, read_held, tried_held, none_held}
use Rattle.yewdome.proofs.ProfileLines.{Front, Carried, carried_lines, under_carried, carried_first, some_bytes, bic_front, trimmed_cr}

-- ---- the record of an accepted text, where a page carries the lines that are read of it
module _ (o : PartyOption) (text : List ℕ) (e : (read o text).reply ≡ accepted) where
  abbrev p : Party
  p = (read o text).party

  abbrev s : Content
  s = found_content o (found_by (limits_of o).layout o text)

  says : content p ≡ s
  says = (accepted_is o text e).says

  pub read_given : is_given (content p) ≡ true
  read_given = ap is_given says ∙ is_given_lem s (accepted_is o text e).good.facts

  read_carried : Carried (read_lines (limits_of o).layout text) → is_carried (content p) ≡ true
  unfolding is_carried written_body
  read_carried h =
      let g = (accepted_is o text e).good in
      let ws = written_lines s in
      ap is_carried says ∙ ap lines_carried (pieces_joined ws g.some (lines_of ws (written_plain o _ _ _ _ _ _ g.facts))) ∙ carried_lines ws g.some (carried_first ws g.lines.rest (subst Carried g.lines.are h))

-- ---- the lines that are read of a body, and of one that is trimmed
-- 50L
text_front : (text : List ℕ) → (text_only Field50L text).reply ≡ accepted → ends_cr text ≡ false → Front text
text_front text e c =
    let a : account_reply Field50L text ≡ accepted = then_second (must (not (among text 10)) 1 0) _ e in
    record { cr = c; some = some_bytes text (omega (arith, text_least Field50L text a)) }

-- the one line of a text without LF
text_lines : (text : List ℕ) → (text_only Field50L text).reply ≡ accepted → Carried (lines text) → Front text
text_lines text e h =
    let line : Line text = not-true _ (must_held (not (among text 10)) 1 0 (then_first _ _ e)) in
    let a : account_reply Field50L text ≡ accepted = then_second (must (not (among text 10)) 1 0) _ e in
    let some = some_bytes text (omega (arith, text_least Field50L text a)) in
    let q : lines text ≡ text ∷ [] = lines_rest text line ∙ rw some in
    (subst Carried q h).0

abbrev Lined : PartyOption → Type 0
Lined o = (text : List ℕ) → (found_by (limits_of o).layout o text).reply ≡ accepted → Carried (lines text) → Carried (read_lines (limits_of o).layout text)

lined : (o : PartyOption) → Lined o
lined =
    by_option Lined (λ t e h. h) (λ t e h. h) (λ t e h. h) (λ t e h. h) (λ t e h. (bic_front t e, tt)) (λ t e h. (text_lines t e h, tt)) (λ t e h. h) (λ t e h. h) (λ t e h. h)
    (λ t e h. h) (λ t e h. h)

-- ---- a reading of a body that passes the profile: a page carries its record
pub record Takes (p : Party) : Type 0 where
  pub given : is_given (content p) ≡ true
  pub carried : is_carried (content p) ≡ true

module _ (body : List ℕ) where
  abbrev pub Taken : Reading → Type 0
  Taken r = r.reply ≡ accepted → profile_reply r.party body ≡ accepted → Takes r.party

  pub read_taken : (o : PartyOption) → Taken (read o body)
  read_taken o e h =
      record { given = read_given o body e; carried = read_carried o body e (lined o body (accepted_is o body e).good.reply (under_carried (read o body).party body h)) }

  -- `Field50InstructingParty` reads the trimmed body
  tried_c : Taken (read Field50C (trimmed body))
  tried_c e h =
      let r = (accepted_is Field50C (trimmed body) e).good.reply in
      record { given = read_given Field50C (trimmed body) e; carried = read_carried Field50C (trimmed body) e (bic_front (trimmed body) r, tt) }

  tried_l : Taken (read Field50L (trimmed body))
  tried_l e h =
      let r = (accepted_is Field50L (trimmed body) e).good.reply in
      record { given = read_given Field50L (trimmed body) e; carried = read_carried Field50L (trimmed body) e (text_front (trimmed body) r (trimmed_cr body), tt) }

  refused_taken : (k : ℕ) → 1 ≤ k → Taken (refusing k 0)
  refused_taken k h e = absurd (refused≢accepted e)

  pub parse_taken : (choice : Choice) → Taken (parse choice body)
  parse_taken = body_parse Taken refused_taken body read_taken tried_c tried_l

  pub variant_taken : (choice : Choice) (letter : ℕ) → Taken (parse_with_variant choice body letter)
  variant_taken = body_variant Taken refused_taken body read_taken tried_c tried_l

-- ---- a line of the body holds its BIC
module _ (body : List ℕ) where
  refused_held : (k : ℕ) → 1 ≤ k → Held body (refusing k 0)
  refused_held k h e = absurd (refused≢accepted e)

  parse_held : (choice : Choice) → Held body (parse choice body)
  parse_held = body_parse (Held body) refused_held body (read_held body) (tried_held body) (none_held body (trimmed body))

  variant_held : (choice : Choice) (letter : ℕ) → Held body (parse_with_variant choice body letter)
  variant_held = body_variant (Held body) refused_held body (read_held body) (tried_held body) (none_held body (trimmed body))

-- ---- a page accepts it
pub page_accepts : (p : Party) → Takes p → PageAccepts p
page_accepts p t = record {
  adds = λ buffer at b w space free.
      let c : add buffer at b (content p) ≡ putting accepted buffer at (with_lf (written_field (content p))) = add_asked buffer at b (content p) w (asked_by (content p) t.given t.carried) ∙ rw (space, free) in
      ap (λ (x : Call). x.answer) c;
}

-- ---- the profile
-- a refusal of its own is 32
lines_32 : (p : Party) (m : ℕ) (after : Bool) (ls : List (List ℕ)) {k n : ℕ} → lines_reply p m after ls ≡ refused k n → k ≡ 32
lines_32 p m after [] e = absurd (refused≢accepted (sym e ∙ lines_none p m after [] refl))
lines_32 p m after (l ∷ ls) {k} {n} e = go (is_inside m after (holds_bic p l) l) refl (lines_32 p (suc m) (after || holds_bic p l) ls)
  where
    go : (t : Bool) → is_inside m after (holds_bic p l) l ≡ t → (lines_reply p (suc m) (after || holds_bic p l) ls ≡ refused k n → k ≡ 32) → k ≡ 32
    go true i ih = ih (sym (lines_pass p m after (l ∷ ls) l ls refl i) ∙ e)
    go false i ih = let q : refused k n ≡ refused 32 m = sym e ∙ lines_fault p m after (l ∷ ls) l ls refl i in cc

module _ (r : Reading) (body : List ℕ) where
  under_reply : (profiled r body).reply ≡ (r.reply then profile_reply r.party body)
  unfolding profiled
  under_reply = giving_reply (r.reply then profile_reply r.party body) r.party

  pub under_accepted : (profiled r body).reply ≡ accepted → (r.reply ≡ accepted) × (profile_reply r.party body ≡ accepted)
  under_accepted e = let h = sym under_reply ∙ e in (then_first r.reply _ h, then_second r.reply _ h)

  pub under_same : (profiled r body).reply ≡ accepted → r ≡ profiled r body
  under_same e = let h = under_accepted e in sym (profiled_pass r body h.0 h.1)

  profile_32 : {k n : ℕ} → profile_reply r.party body ≡ refused k n → k ≡ 32
  unfolding profile_reply
  profile_32 e = lines_32 r.party 1 false (lines body) e

  only_refuses : OnlyRefuses r (profiled r body)
  only_refuses = record {
    same = under_same;
    stands = profiled_refused r body;
    number = λ a e. profile_32 (sym (ap (λ (t : Reply). t then profile_reply r.party body) a) ∙ sym under_reply ∙ e);
  }

  pub promise : Taken body r → Held body r → Promise body r (profiled r body)
  promise t h = record {
    refuses = only_refuses;
    accepts = λ e. let a = under_accepted e in page_accepts (profiled r body).party (subst (λ (q : Reading). Takes q.party) (under_same e) (t a.0 a.1));
    held = h;
  }

pub profile : (body : List ℕ) → Profile body
profile body = record {
  by_option = λ o. promise (read o body) body (read_taken body o) (read_held body o);
  detected = λ choice. promise (parse choice body) body (parse_taken body choice) (parse_held body choice);
  by_letter = λ choice letter. promise (parse_with_variant choice body letter) body (variant_taken body choice letter) (variant_held body choice letter);
}
