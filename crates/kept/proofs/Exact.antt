-- The written body of the record of a body is the body exactly when that is kept. Assumes nothing.
use mathlib.Core.Path.{◌≡◌, refl, sym, ◌∙◌, ap, subst}
use mathlib.Core.Bool.{Bool, true, false, not, ◌&&◌, ◌||◌, and-true, false≢true, true≢false}
use mathlib.Core.List.{List, [], ◌∷◌, ◌++◌, append-nil}
use Prim.Native.Nat.{ℕ, zero, suc, ◌+◌, ◌-◌, ◌≤◌, ◌<◌}
use native.Mathlib.Omega.{arith}
use lib.Dec.{ltb, eqb}
use lib.ListN.{length, get_or, length-append}
use borrow.Author.Tests.{eqb-true, eqb-false, lt-ltb, le-ltb, ltb-true, ltb-false, not-true}
use Rattle.errors.specs.Refusals.{accepted, must}
use Rattle.errors.proofs.Replies.{refused≢accepted, must_held, then_first, then_second}
use Rattle.party.specs.declared.PartyOption.{PartyOption}
use Rattle.party.specs.declared.PartyOption.TheVariants.{Field50NoOption, Field50A, Field50F, Field50K, Field50C, Field50L, Field50G, Field50H, Field59NoOption, Field59A, Field59F}
use Rattle.party.specs.Decides.{Decides}
use Rattle.party.specs.Limits.{limits_of}
use Rattle.party.proofs.Laws.{holds, fails}
use Rattle.party.specs.Text.{Used}
use Rattle.party.specs.Party.{Content, content}
use Rattle.swift_utils.specs.Bytes.{among}
use Rattle.field_utils.specs.Lines.{lines}
use Rattle.field_utils.specs.Trim.{trimmed}
use Rattle.field_utils.proofs.Tests.{Line, either_left, either_right}
use Rattle.reader.specs.Reading.{Reading, Found}
use Rattle.reader.specs.Options.{found_by, read}
use Rattle.reader.specs.declared.choices.Choice.{Choice}
use Rattle.reader.specs.Choices.{refusing, tried_text, after_check, parse, is_letter, options_of, pick_of, parse_with_variant, is_picked, read_text}
use Rattle.reader.proofs.Trials.{by_choice}
use Rattle.reader.proofs.Every.{each, parse_by}
use Rattle.writer.specs.Writing.{name_lines, written_lines, joined, written_body}
use Rattle.writer.specs.Sender.{read_lines, Leads}
use Rattle.writer.proofs.Relined.{weight, lines_rest}
use Rattle.writer.proofs.Weights.{lines_weight}
use Rattle.writer.proofs.Sizes.{weight_append, joined_length}
use Rattle.writer.proofs.Contents.{content_with, found_content}
use Rattle.writer.proofs.Facts.{Facts}
use Rattle.writer.proofs.Necessary.{letters_free}
use Rattle.writer.proofs.Back.{Accepted, accepted_is, bic_least, text_least}
use Rattle.kept.specs.Kept.{has_cr_lf, ends_lf, bic_line, is_after_bic, causes_of, is_none, kept_of, kept_parse_with_variant}
use Rattle.kept.specs.Claims.{IsExact, KeptExact}
use Rattle.kept.proofs.Laws.{after_none, after_by}
use Rattle.kept.proofs.Trims.{trimmed_most, trimmed_same}
use Rattle.kept.proofs.Lines.{crlf_weight, lf_weight, lines_same}

-- ---- the lines that an option reads are the lines of the body
one_line : (x : List ℕ) → Line x → 0 < length x → lines x ≡ x ∷ []
one_line [] h n = absurd (omega arith)
one_line (b ∷ l) h n = lines_rest (b ∷ l) h

pub read_lines_lem : (o : PartyOption) (body : List ℕ) → (found_by (limits_of o).layout o body).reply ≡ accepted → read_lines (limits_of o).layout body ≡ lines body
read_lines_lem Field50NoOption body e = refl
read_lines_lem Field50A body e = refl
read_lines_lem Field50F body e = refl
read_lines_lem Field50K body e = refl
read_lines_lem Field50C body e = sym (one_line body (letters_free 1 body e) (omega (arith, bic_least 1 body e)))
read_lines_lem Field50L body e =
    let free : among body 10 ≡ false = not-true _ (must_held (not (among body 10)) 1 0 (then_first _ _ e)) in
    sym (one_line body free (omega (arith, text_least Field50L body (then_second (must (not (among body 10)) 1 0) _ e))))
read_lines_lem Field50G body e = refl
read_lines_lem Field50H body e = refl
read_lines_lem Field59NoOption body e = refl
read_lines_lem Field59A body e = refl
read_lines_lem Field59F body e = refl

-- ---- how many lines are written where there is a BIC, and that the last of them is it, whatever follows
module _ (count : ℕ) (u v : Used) (us : List Used) (ds : List ℕ) where
  bic_lines : (o : PartyOption) (present : Bool) → Facts (content_with o present count u v us ds) → ((limits_of o).bic_count ≡ 0 → ⊥) → let ls = written_lines (content_with o present count u v us ds) in
      (length ls ≡ bic_line present) × ((rest : List (List ℕ)) → get_or (ls ++ rest) (bic_line present - 1) [] ≡ v.bytes)
  unfolding written_lines name_lines
  bic_lines Field50NoOption present h n = absurd (n refl)
  bic_lines Field50A true h n = (refl, λ rest. refl)
  bic_lines Field50A false h n = (refl, λ rest. refl)
  bic_lines Field50F present h n = absurd (n refl)
  bic_lines Field50K present h n = absurd (n refl)
  bic_lines Field50C true h n = absurd (false≢true h.presence)
  bic_lines Field50C false h n = (refl, λ rest. refl)
  bic_lines Field50L present h n = absurd (n refl)
  bic_lines Field50G true h n = (refl, λ rest. refl)
  bic_lines Field50G false h n = absurd (false≢true h.presence)
  bic_lines Field50H present h n = absurd (n refl)
  bic_lines Field59NoOption present h n = absurd (n refl)
  bic_lines Field59A true h n = (refl, λ rest. refl)
  bic_lines Field59A false h n = (refl, λ rest. refl)
  bic_lines Field59F present h n = absurd (n refl)

-- the line of that number is the BIC that was found
pub bic_there : (o : PartyOption) (body : List ℕ) → (read o body).reply ≡ accepted → ((limits_of o).bic_count ≡ 0 → ⊥) → let f = found_by (limits_of o).layout o body in
    get_or (lines body) (bic_line f.present - 1) [] ≡ f.bic
bic_there o body e n =
    let a = accepted_is o body e in
    let f = found_by (limits_of o).layout o body in
    ap (λ (ls : List (List ℕ)). get_or ls (bic_line f.present - 1) []) (sym (read_lines_lem o body a.good.reply) ∙ a.good.lines.are)
    ∙ (bic_lines _ _ _ _ _ o f.present a.good.facts n).1 a.good.lines.rest

-- ---- the lines of an accepted body: those that are written, and those after the BIC
some_rest : (n k : ℕ) → ltb n (n + k) ≡ ltb 0 k
some_rest n zero = le-ltb n (n + 0) (omega arith)
some_rest n (suc k) = lt-ltb n (n + suc k) (omega arith) ∙ sym (lt-ltb 0 (suc k) (omega arith))

length_none : (ls : List (List ℕ)) → length ls ≡ 0 → ls ≡ []
length_none [] e = refl
length_none (l ∷ ls) e = absurd (omega arith)

-- without a BIC, all are written
all_written : (o : PartyOption) (body : List ℕ) (ws : List (List ℕ)) → (limits_of o).bic_count ≡ 0 → 0 < length ws → (l : Leads o ws (read_lines (limits_of o).layout body)) → l.rest ≡ []
all_written Field50NoOption body ws z n l = l.all (λ e. omega (arith, e))
all_written Field50A body ws z n l = absurd (omega (arith, z))
all_written Field50F body ws z n l = l.all (λ e. omega (arith, e))
all_written Field50K body ws z n l = l.all (λ e. omega (arith, e))
all_written Field50C body ws z n l = absurd (omega (arith, z))
all_written Field50L body ws z n l = length_none l.rest (omega (arith, n, ap length l.are, length-append ws l.rest))
all_written Field50G body ws z n l = absurd (omega (arith, z))
all_written Field50H body ws z n l = l.all (λ e. omega (arith, e))
all_written Field59NoOption body ws z n l = l.all (λ e. omega (arith, e))
all_written Field59A body ws z n l = absurd (omega (arith, z))
all_written Field59F body ws z n l = l.all (λ e. omega (arith, e))

record Parts (body : List ℕ) (ws : List (List ℕ)) (after : Bool) : Type 0 where
  rest : List (List ℕ)
  are : lines body ≡ ws ++ rest
  some : 0 < length ws
  later : after ≡ ltb 0 (length rest)

parts : (o : PartyOption) (body : List ℕ) → (read o body).reply ≡ accepted
    → let p = (read o body).party in Parts body (written_lines (content p)) (is_after_bic p.option p.present body)
unfolding content
parts o body e = subst (λ (s : Content). Parts body (written_lines s) (is_after_bic s.option s.present body)) (sym a.says) found
  where
    a : Accepted o body
    a = accepted_is o body e

    f : Found
    f = found_by (limits_of o).layout o body

    ws : List (List ℕ)
    ws = written_lines (found_content o f)

    rest : List (List ℕ)
    rest = a.good.lines.rest

    are : lines body ≡ ws ++ rest
    are = sym (read_lines_lem o body a.good.reply) ∙ a.good.lines.are

    later : (t : Bool) → eqb (limits_of o).bic_count 0 ≡ t → is_after_bic o f.present body ≡ ltb 0 (length rest)
    later true z =
        let n = eqb-true (limits_of o).bic_count 0 z in
        after_none o f.present body n ∙ ap (λ (ls : List (List ℕ)). ltb 0 (length ls)) (sym (all_written o body ws n a.good.some a.good.lines))
    later false z =
        let n = eqb-false (limits_of o).bic_count 0 z in
        let k : length (lines body) ≡ bic_line f.present + length rest = ap length are ∙ length-append ws rest ∙ ap (λ (m : ℕ). m + length rest) (bic_lines _ _ _ _ _ o f.present a.good.facts n).0 in
        after_by o f.present body n ∙ ap (ltb (bic_line f.present)) k ∙ some_rest (bic_line f.present) (length rest)

    found : Parts body (written_lines (found_content o f)) (is_after_bic o f.present body)
    found = record { rest = rest; are = are; some = a.good.some; later = later (eqb (limits_of o).bic_count 0) refl }

-- ---- the written lines, joined, beside the text that was read
-- no cause stands in a text
abbrev pub is_plain : List ℕ → Bool → Bool
is_plain text after = not (has_cr_lf text || ends_lf text || after)

-- what is written is the text where none does, and less where one does
pub record Compared (text written : List ℕ) (plain : Bool) : Type 0 where
  pub most : length written ≤ length text
  pub same : plain ≡ true → written ≡ text
  pub less : plain ≡ false → length written < length text

some_weight : (ls : List (List ℕ)) → 0 < length ls → 0 < weight ls
some_weight [] h = absurd (omega arith)
some_weight (l ∷ ls) h = omega arith

compared : (text : List ℕ) (ws : List (List ℕ)) (after : Bool) → Parts text ws after → Compared text (joined ws) (is_plain text after)
compared text ws after p = go (has_cr_lf text) (ends_lf text) after refl refl p.later
  where
    weighs : suc (length (joined ws)) + weight p.rest ≡ weight (lines text)
    weighs = omega (arith, joined_length ws p.some, weight_append ws p.rest, ap weight p.are)

    shorter : length (joined ws) < length text → Compared text (joined ws) false
    shorter n = record { most = omega (arith, n); same = λ e. absurd (false≢true e); less = λ e. n }

    go : (c d f : Bool) → has_cr_lf text ≡ c → ends_lf text ≡ d → f ≡ ltb 0 (length p.rest) → Compared text (joined ws) (not (c || d || f))
    go true d f x y z = shorter (omega (arith, weighs, crlf_weight text x))
    go false true f x y z = shorter (omega (arith, weighs, lf_weight text y))
    go false false true x y z = shorter (omega (arith, weighs, lines_weight text, some_weight p.rest (ltb-true 0 (length p.rest) (sym z))))
    go false false false x y z =
        let none : p.rest ≡ [] = length_none p.rest (let k = ltb-false 0 (length p.rest) (sym z) in omega (arith, k)) in
        record {
          most = omega (arith, weighs, lines_weight text);
          same = λ e. ap joined (sym (append-nil ws) ∙ ap (◌++◌ ws) (sym none) ∙ sym p.are) ∙ lines_same text x y;
          less = λ e. absurd (true≢false e);
        }

-- of a reading of a text
abbrev pub Reads : List ℕ → Reading → Type 0
Reads text r = r.reply ≡ accepted → Compared text (written_body (content r.party)) (is_plain text (is_after_bic r.party.option r.party.present text))

pub option_reads : (text : List ℕ) (o : PartyOption) → Reads text (read o text)
unfolding content written_body
option_reads text o e = compared text _ _ (parts o text e)

refused_reads : (text : List ℕ) (k : ℕ) → 1 ≤ k → Reads text (refusing k 0)
refused_reads text k h e = absurd (refused≢accepted e)

-- ---- the causes, told apart
pub none_is : (o : PartyOption) (present : Bool) (text : List ℕ) (blanks closing : Bool) → is_none (causes_of o present text blanks closing) ≡ (is_plain text (is_after_bic o present text) && not blanks && not closing)
unfolding causes_of
none_is o present text blanks closing = go (has_cr_lf text || ends_lf text || is_after_bic o present text) blanks closing
  where
    go : (x b c : Bool) → not (x || b || c) ≡ (not x && not b && not c)
    go true b c = refl
    go false true c = refl
    go false false c = refl

-- what was read of what came is all of it, or is less
pub record Left (text came : List ℕ) (cut : Bool) : Type 0 where
  pub most : length text ≤ length came
  pub same : cut ≡ false → text ≡ came
  pub less : cut ≡ true → length text < length came

-- what is written is what came exactly where there is no cause in the text, and nothing was cut from it
pub decided : (text written came : List ℕ) (plain cut : Bool) → Compared text written plain → Left text came cut → Decides (plain && not cut) (written ≡ came)
decided text written came true true c l = fails (λ q. omega (arith, ap length q, c.most, l.less refl))
decided text written came true false c l = holds (c.same refl ∙ l.same refl)
decided text written came false cut c l = fails (λ q. omega (arith, ap length q, c.less refl, l.most))

-- where there is one, or something was cut, it is less
pub lesser : (text written came : List ℕ) (plain cut : Bool) → Compared text written plain → Left text came cut → (plain && not cut) ≡ false → length written < length came
lesser text written came true true c l e = omega (arith, c.most, l.less refl)
lesser text written came true false c l e = absurd (true≢false e)
lesser text written came false cut c l e = omega (arith, c.less refl, l.most)

-- ---- what trimming leaves of a body
abbrev Trims : List ℕ → List ℕ → Type 0
Trims text body = Left text body (ltb (length text) (length body))

trims : (text body : List ℕ) → length text ≤ length body → (length body ≤ length text → text ≡ body) → Trims text body
trims text body m s = record { most = m; same = λ e. s (ltb-false (length text) (length body) e); less = λ e. ltb-true (length text) (length body) e }

whole_trims : (body : List ℕ) → Trims body body
whole_trims body = trims body body (omega arith) (λ h. refl)

tried_trims : (body : List ℕ) (choice : Choice) → Trims (tried_text choice body) body
tried_trims body = by_choice (λ c. Trims (tried_text c body) body) (trims (trimmed body) body (trimmed_most body) (trimmed_same body)) w w w w w w
  where
    w : Trims body body
    w = whole_trims body

-- ---- every reader
exact : (r : Reading) (text body : List ℕ) → Reads text r → Trims text body → IsExact body r (kept_of r text body)
unfolding kept_of
exact r text body reads t e =
    let o = r.party.option in
    let blanks = ltb (length text) (length body) in
    let plain = is_plain text (is_after_bic o r.party.present text) in
    rw e
    (subst (λ (b : Bool). Decides b (written_body (content r.party) ≡ body)) (sym (none_is o r.party.present text blanks false ∙ and-true (plain && not blanks)))
    (decided text (written_body (content r.party)) body plain blanks (reads e) t))

-- a choice reads what it tries
parse_reads : (body : List ℕ) (choice : Choice) → Reads (tried_text choice body) (parse choice body)
parse_reads body choice =
    let text = tried_text choice body in
    parse_by (Reads text) (refused_reads text) choice body (λ e. each (λ o. Reads text (read o text)) (option_reads text) (options_of choice))

-- by a letter, the body where that picks an option, else what it tries
module _ (body : List ℕ) (letter : ℕ) (detects : Reading) where
  picked_reads : (os : List PartyOption) → is_picked letter os ≡ true → Reads body (pick_of letter os body detects)
  unfolding is_picked pick_of
  picked_reads [] e = absurd (false≢true e)
  picked_reads (o ∷ os) e = go (eqb letter (limits_of o).letter) refl (picked_reads os)
    where
      go : (t : Bool) → eqb letter (limits_of o).letter ≡ t → (is_picked letter os ≡ true → Reads body (pick_of letter os body detects)) → Reads body (pick_of letter (o ∷ os) body detects)
      go true q ih = rw (q, pick_of) (option_reads body o)
      go false q ih = rw (q, pick_of) (ih (rw q at e))

  not_picked : (os : List PartyOption) → is_picked letter os ≡ false → pick_of letter os body detects ≡ detects
  unfolding is_picked pick_of
  not_picked [] e = refl
  not_picked (o ∷ os) e =
      rw (either_left (eqb letter (limits_of o).letter) (is_picked letter os) e, pick_of) (not_picked os (either_right (eqb letter (limits_of o).letter) (is_picked letter os) e))

module _ (body : List ℕ) (choice : Choice) (letter : ℕ) where
  pick_exact : let r = pick_of letter (options_of choice) body (parse choice body) in IsExact body r (kept_of r (read_text choice body letter) body)
  pick_exact = go (is_picked letter (options_of choice)) refl
    where
      r : Reading
      r = pick_of letter (options_of choice) body (parse choice body)

      go : (t : Bool) → is_picked letter (options_of choice) ≡ t → IsExact body r (kept_of r (read_text choice body letter) body)
      go true e = rw (e, read_text) (exact r body body (picked_reads body letter (parse choice body) (options_of choice) e) (whole_trims body))
      go false e =
          rw (e, read_text)
          (exact r (tried_text choice body) body (subst (Reads (tried_text choice body)) (sym (not_picked body letter (parse choice body) (options_of choice) e)) (parse_reads body choice)) (tried_trims body choice))

  variant_exact : IsExact body (parse_with_variant choice body letter) (kept_parse_with_variant choice body letter)
  unfolding parse_with_variant
  variant_exact = go (is_letter letter)
    where
      go : (t : Bool) → let r = after_check (must t 14 0) (pick_of letter (options_of choice) body (parse choice body)) in IsExact body r (kept_of r (read_text choice body letter) body)
      go true = pick_exact
      go false = λ e. absurd (refused≢accepted e)

-- the written body is the body exactly when that is kept, whatever read it
pub kept_exact : (body : List ℕ) → KeptExact body
kept_exact body = record {
  option = λ o. exact (read o body) body body (option_reads body o) (whole_trims body);
  detected = λ choice. exact (parse choice body) (tried_text choice body) body (parse_reads body choice) (tried_trims body choice);
  by_letter = variant_exact body;
}
