-- When a written body is read back as its record. Assumes nothing.
use mathlib.Core.Path.{◌≡◌, refl, sym, ◌∙◌, ap}
use mathlib.Core.Bool.{Bool, true, false, not, ◌&&◌, false≢true, true≢false}
use mathlib.Core.List.{List, [], ◌∷◌}
use Prim.Native.Nat.{ℕ, ◌≤◌, ◌<◌}
use native.Mathlib.Omega.{arith}
use lib.Dec.{leb}
use lib.ListN.{length}
use borrow.Author.Tests.{leb-true, not-true}
use Rattle.errors.specs.Refusals.{Reply, accepted, must, ◌then◌}
use Rattle.errors.proofs.Replies.{refused≢accepted, must_held, then_first, then_second}
use Rattle.party.specs.declared.PartyOption.{PartyOption}
use Rattle.party.specs.declared.PartyOption.TheVariants.{Field50NoOption, Field50A, Field50F, Field50K, Field50C, Field50L, Field50G, Field50H, Field59NoOption, Field59A, Field59F}
use Rattle.party.specs.declared.Party.{Party}
use Rattle.party.specs.Limits.{limits_of}
use Rattle.party.specs.Text.{Used}
use Rattle.party.specs.Party.{Content, content}
use Rattle.party.specs.declared.Layout.{Layout}
use Rattle.party.specs.declared.Layout.TheVariants.{BicOnly, TextOnly, ByLines}
use Rattle.swift_utils.specs.Bytes.{all, between}
use Rattle.swift_utils.specs.Checks.{parse_account, bic_length, parse_bic}
use Rattle.swift_utils.proofs.Checks.{bic_length_least}
use Rattle.field_utils.specs.Lines.{lines, is_empty}
use Rattle.field_utils.proofs.Tests.{both_left, both_right, Line}
use Rattle.reader.specs.Reading.{giving, party_of}
use Rattle.reader.proofs.Readings.{giving_reply}
use Rattle.reader.specs.Options.{account_reply, ascii, body_reply, by_lines, found_by, read, body_most}
use Rattle.writer.specs.Writing.{name_lines, written_lines, joined, written_body, pieces}
use Rattle.writer.specs.Given.{is_account, is_bic}
use Rattle.writer.specs.ReadBack.{last_empty, earlier_cr, is_read_back}
use Rattle.writer.specs.Sender.{read_lines}
use Rattle.writer.proofs.Relined.{All, weight, relined, lines_joined, relined_same, relined_empty, relined_cr, pieces_joined}
use Rattle.writer.proofs.Contents.{content_with, content_party, found_content, line_free}
use Rattle.writer.proofs.Facts.{Facts, account_line, account_passes, bic_passes}
use Rattle.writer.proofs.Written.{found_of, Reads, written_found}
use Rattle.writer.proofs.Witness.{Plain, written_plain}
use Rattle.writer.proofs.Sizes.{written_183, joined_most}
use Rattle.writer.proofs.Sufficient.{lines_of, joined_ascii, body_fits}
use Rattle.writer.proofs.Necessary.{GoodIn, letters_free, found_good}

-- ---- what an accepted body gives
pub record Accepted (o : PartyOption) (body : List ℕ) : Type 0 where
  pub fits : body_reply body ≡ accepted
  pub good : GoodIn o (read_lines (limits_of o).layout body) (found_by (limits_of o).layout o body)
  pub says : content (read o body).party ≡ found_content o (found_by (limits_of o).layout o body)

giving_party : (r : Reply) (p : Party) → r ≡ accepted → (giving r p).party ≡ p
giving_party r p e = rw e

pub accepted_is : (o : PartyOption) (body : List ℕ) → (read o body).reply ≡ accepted → Accepted o body
unfolding read
accepted_is o body e =
    let f = found_by (limits_of o).layout o body in
    let r : (body_reply body then f.reply) ≡ accepted = sym (giving_reply (body_reply body then f.reply) (party_of o f)) ∙ e in
    let b = then_first (body_reply body) _ r in
    let a : all ascii body ≡ true = must_held (all ascii body) 13 0 (then_second (must (leb (length body) body_most) 12 0) _ b) in
    let g = found_good o body a (then_second (body_reply body) _ r) in
    record { fits = b; good = g; says = ap content (giving_party (body_reply body then f.reply) (party_of o f) r) ∙ content_party o f g.fits }

-- ---- read back
-- the two tests
abbrev plainly : List ℕ → Bool
plainly body = not (last_empty (pieces body)) && not (earlier_cr (pieces body))

not_last : (body : List ℕ) → plainly body ≡ true → last_empty (pieces body) ≡ false
not_last body e = not-true _ (both_left (not (last_empty (pieces body))) (not (earlier_cr (pieces body))) e)

not_cr : (body : List ℕ) → plainly body ≡ true → earlier_cr (pieces body) ≡ false
not_cr body e = not-true _ (both_right (not (last_empty (pieces body))) (not (earlier_cr (pieces body))) e)

some : (ls : List (List ℕ)) → last_empty (pieces (joined ls)) ≡ false → 0 < length ls
unfolding last_empty pieces joined
some [] e = absurd (true≢false e)
some (l ∷ ls) e = omega arith

joined_found : (layout : Layout) (o : PartyOption) (s : Content) → Reads layout o s → lines (joined (written_lines s)) ≡ written_lines s → found_by layout o (joined (written_lines s)) ≡ found_of s
joined_found BicOnly o s r e = r
joined_found TextOnly o s r e = r
joined_found ByLines o s r e = ap (by_lines o) e ∙ r

module _ (o : PartyOption) (present : Bool) (count : ℕ) (u v : Used) (us : List Used) (ds : List ℕ) (h : Facts (content_with o present count u v us ds)) where
  abbrev T : Content
  T = content_with o present count u v us ds

  abbrev ws : List (List ℕ)
  ws = written_lines T

  plain : All Plain ws
  plain = written_plain o present count u v us ds h

  pub back_fits : body_reply (written_body T) ≡ accepted
  unfolding written_body
  back_fits = body_fits (joined ws) (omega (arith, joined_most ws 182 (written_183 o present count u v us ds h))) (joined_ascii ws plain)

  pub back_found : is_read_back T ≡ true → found_by (limits_of o).layout o (written_body T) ≡ found_of T
  unfolding is_read_back written_body
  back_found e =
      let ls = lines_of ws plain in
      let last = not_last (joined ws) e in
      let p : pieces (joined ws) ≡ ws = pieces_joined ws (some ws last) ls in
      let same : lines (joined ws) ≡ ws = lines_joined ws ls ∙ relined_same ws (ap last_empty (sym p) ∙ last) (ap earlier_cr (sym p) ∙ not_cr (joined ws) e) in
      joined_found (limits_of o).layout o T (written_found count u v us ds o present h) same

-- ---- not read back
-- the lines of a body that is not read back weigh less than the record's
lighter : (ls : List (List ℕ)) → 0 < length ls → All Line ls → plainly (joined ls) ≡ false → weight (lines (joined ls)) < weight ls
lighter ls n h e = rw (lines_joined ls h) (go (last_empty ls) (earlier_cr ls) refl refl (rw (pieces_joined ls n h) at e))
  where
    go : (p q : Bool) → last_empty ls ≡ p → earlier_cr ls ≡ q → (not (last_empty ls) && not (earlier_cr ls)) ≡ false → weight (relined ls) < weight ls
    go true q a b f = relined_empty ls n a
    go false true a b f = relined_cr ls b
    go false false a b f = absurd (true≢false (rw (a, b) at f))

-- a body of lines
module _ (o : PartyOption) (present : Bool) (count : ℕ) (u v : Used) (us : List Used) (ds : List ℕ) (h : Facts (content_with o present count u v us ds)) where
  abbrev R : Content
  R = content_with o present count u v us ds

  -- its lines are read, and weigh no less than the record's
  lines_no : is_read_back R ≡ false → (by_lines o (lines (written_body R))).reply ≡ accepted → weight (written_lines R) ≤ weight (lines (written_body R)) → ⊥
  unfolding is_read_back written_body joined lines
  lines_no e r w =
      let ls = lines_of (written_lines R) (written_plain o present count u v us ds h) in
      omega (arith, w, lighter (written_lines R) (nonempty (written_lines R) r) ls e)
    where
      nonempty : (xs : List (List ℕ)) → (by_lines o (lines (joined xs))).reply ≡ accepted → 0 < length xs
      nonempty [] a = absurd (refused≢accepted a)
      nonempty (x ∷ xs) a = omega arith

-- a body that is one line with a byte is always read back
single : (x : List ℕ) → Line x → 0 < length x → plainly (joined (x ∷ [])) ≡ true
unfolding last_empty earlier_cr
single x h n = rw (pieces_joined (x ∷ []) (omega arith) (h, tt)) (go x n)
  where
    go : (y : List ℕ) → 0 < length y → (not (is_empty y) && true) ≡ true
    go [] k = absurd (omega arith)
    go (b ∷ y) k = refl

-- a BIC has a byte, and so has a 50L
pub bic_least : (n : ℕ) (x : List ℕ) → parse_bic n x ≡ accepted → 8 ≤ length x
unfolding parse_bic
bic_least n x e = bic_length_least (length x) (must_held (bic_length (length x)) 9 n (then_first _ _ e))

pub text_least : (o : PartyOption) (x : List ℕ) → account_reply o x ≡ accepted → (limits_of o).account_min ≤ length x
unfolding parse_account
text_least o x e =
    leb-true _ _ (both_left (leb (limits_of o).account_min (length x)) (leb (length x) (limits_of o).account_max) (must_held (between (limits_of o).account_min (limits_of o).account_max (length x)) 2 1 (then_first _ _ e)))

-- ---- by the option
module _ (count : ℕ) (u v : Used) (us : List Used) (ds : List ℕ) where
  abbrev Q : PartyOption → Bool → Content
  Q o present = content_with o present count u v us ds

  -- what reading its body gives weighs no less than the record's lines
  pub record Again (o : PartyOption) (present : Bool) : Type 0 where
    pub reply : (found_by (limits_of o).layout o (written_body (Q o present))).reply ≡ accepted
    pub heavy : weight (written_lines (Q o present)) ≤ weight (read_lines (limits_of o).layout (written_body (Q o present)))

  pub back_no : (o : PartyOption) (present : Bool) → Facts (Q o present) → is_read_back (Q o present) ≡ false → Again o present → ⊥
  unfolding is_read_back written_body written_lines name_lines
  back_no Field50NoOption present h e a = lines_no Field50NoOption present count u v us ds h e a.reply a.heavy
  back_no Field50A present h e a = lines_no Field50A present count u v us ds h e a.reply a.heavy
  back_no Field50F present h e a = lines_no Field50F present count u v us ds h e a.reply a.heavy
  back_no Field50K present h e a = lines_no Field50K present count u v us ds h e a.reply a.heavy
  back_no Field50C true h e a = absurd (false≢true h.presence)
  back_no Field50C false h e a =
      let x = v.bytes in
      let b : parse_bic 1 x ≡ accepted = bic_passes v (both_left (is_bic v) true h.bic) in
      true≢false (sym (single x (letters_free 1 x b) (omega (arith, bic_least 1 x b))) ∙ e)
  back_no Field50L false h e a = absurd (false≢true h.presence)
  back_no Field50L true h e a =
      let x = u.bytes in
      let i : is_account Field50L true u ≡ true = both_left (is_account Field50L true u) true h.account in
      let n = text_least Field50L x (account_passes Field50L u i) in
      true≢false (sym (single x (line_free u (account_line Field50L true u i)) (omega (arith, n))) ∙ e)
  back_no Field50G present h e a = lines_no Field50G present count u v us ds h e a.reply a.heavy
  back_no Field50H present h e a = lines_no Field50H present count u v us ds h e a.reply a.heavy
  back_no Field59NoOption present h e a = lines_no Field59NoOption present count u v us ds h e a.reply a.heavy
  back_no Field59A present h e a = lines_no Field59A present count u v us ds h e a.reply a.heavy
  back_no Field59F present h e a = lines_no Field59F present count u v us ds h e a.reply a.heavy
