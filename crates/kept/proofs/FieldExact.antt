-- The written field of a page's record is the field as it came exactly when it is kept. Assumes nothing.
use mathlib.Core.Path.{◌≡◌, refl, sym, ◌∙◌, ap, subst}
use mathlib.Core.Bool.{Bool, true, false, not, ◌&&◌, and-true, false≢true, true≢false}
use mathlib.Core.List.{List, [], ◌∷◌, ◌++◌, append_assoc}
use Prim.Native.Nat.{ℕ, suc, ◌+◌, ◌-◌, ◌≤◌, ◌<◌}
use native.Mathlib.Omega.{arith}
use lib.Dec.{ltb, eqb}
use lib.ListN.{length, take, drop, get_or, length-append, length-drop, get_or-eq_default}
use lib.Seq.{get_or-append_seam, length-take-le, get_or-drop}
use borrow.Author.Tests.{eqb-true, ltb-true, ltb-false, lt-ltb}
use Rattle.party.specs.declared.Part.{Part}
use Rattle.party.specs.declared.PartyOption.{PartyOption}
use Rattle.party.specs.declared.Party.{Party}
use Rattle.party.specs.Decides.{Decides}
use Rattle.party.specs.Party.{Content, content}
use Rattle.field_utils.specs.Lines.{without_cr}
use Rattle.field_utils.specs.Tags.{tag_of}
use Rattle.writer.specs.Writing.{written_body, written_field}
use Rattle.writer.specs.ReadBack.{ends_cr}
use Rattle.writer.proofs.Relined.{cr_kept}
use Rattle.writer.proofs.Back.{accepted_is}
use Rattle.writer.proofs.Fields.{tag_sizes}
use Rattle.page_reader.specs.Pages.{less_cr, runs, ReadOutcome, a_record, read_at}
use Rattle.page_reader.proofs.Cases.{runs_most}
use Rattle.page_reader.proofs.Runs.{runs_closed}
use Rattle.page_reader.proofs.Moves.{field_at}
use Rattle.page_reader.proofs.Records.{Gave, record_gave}
use Rattle.kept.specs.Kept.{is_after_bic, causes_of, is_none}
use Rattle.kept.specs.Fields.{came_at, is_closing_cr, causes_by, is_record}
use Rattle.kept.specs.Claims.{FieldExact}
use Rattle.kept.proofs.Exact.{is_plain, Compared, option_reads, none_is, Left, decided, lesser}

-- ---- a CR at the end of a text
cr_back : (l : List ℕ) → ends_cr l ≡ true → l ≡ without_cr l ++ 13 ∷ []
unfolding ends_cr without_cr
cr_back [] e = absurd (false≢true e)
cr_back (b ∷ []) e = rw (e, without_cr) (ap (λ (c : ℕ). c ∷ []) (eqb-true b 13 e))
cr_back (b ∷ a ∷ l) e = ap (◌∷◌ b) (cr_back (a ∷ l) e)

-- ---- what is left of a field as it came, by the byte after it
-- of the rest of a page from its opening on
module _ (s : List ℕ) where
  abbrev came : List ℕ
  came = take (runs s) s

  came_length : length came ≡ runs s
  came_length = length-take-le (runs s) s (runs_most s)

  -- the byte after a text is a CR
  abbrev cr_after : List ℕ → Bool
  cr_after text = eqb (get_or s (length text) 0) 13

  -- an LF closes it
  closed_left : runs s < length s → (t : Bool) → ends_cr came ≡ t → Left (without_cr came) came (cr_after (without_cr came))
  closed_left h true e =
      let back = cr_back came e in
      let splits : s ≡ without_cr came ++ 13 ∷ 10 ∷ drop (suc (runs s)) s =
      (runs_closed s h).splits ∙ ap (λ (l : List ℕ). l ++ 10 ∷ drop (suc (runs s)) s) back ∙ append_assoc (without_cr came) (13 ∷ []) (10 ∷ drop (suc (runs s)) s) in
      let n : length came ≡ suc (length (without_cr came)) = let k = length-append (without_cr came) (13 ∷ []) in omega (arith, ap length back, k) in
      let byte : get_or s (length (without_cr came)) 0 ≡ 13 = ap (λ (l : List ℕ). get_or l (length (without_cr came)) 0) splits ∙ get_or-append_seam (without_cr came) 13 (10 ∷ drop (suc (runs s)) s) 0 in
      subst (Left (without_cr came) came) (ap (λ (b : ℕ). eqb b 13) (sym byte)) (record { most = omega (arith, n); same = λ f. absurd (true≢false f); less = λ f. omega (arith, n) })
  closed_left h false e =
      let kept = cr_kept came e in
      let byte : get_or s (length came) 0 ≡ 10 = ap (λ (l : List ℕ). get_or l (length came) 0) (runs_closed s h).splits ∙ get_or-append_seam came 10 (drop (suc (runs s)) s) 0 in
      subst (λ (text : List ℕ). Left text came (cr_after text)) (sym kept)
      (subst (Left came came) (ap (λ (b : ℕ). eqb b 13) (sym byte)) (record { most = omega arith; same = λ f. refl; less = λ f. absurd (false≢true f) }))

  -- none closes it
  open_left : length s ≤ runs s → Left came came (cr_after came)
  open_left h =
      let byte : get_or s (length came) 0 ≡ 0 = get_or-eq_default s 0 (omega (arith, came_length, h)) in
      subst (Left came came) (ap (λ (b : ℕ). eqb b 13) (sym byte)) (record { most = omega arith; same = λ f. refl; less = λ f. absurd (false≢true f) })

-- ---- on a page
module _ (page : List ℕ) (at : ℕ) where
  abbrev s : List ℕ
  s = drop at page

  -- a text's place in the page, where it starts at the opening
  field_left : at < length page → Left (field_at page at) (came_at page at) (eqb (get_or page (at + length (field_at page at)) 0) 13)
  field_left h = go (ltb (at + runs s) (length page)) refl
    where
      n : at + runs s - at ≡ runs s
      n = omega arith

      told : (text : List ℕ) → Left text (came_at page at) (cr_after s text) → Left text (came_at page at) (eqb (get_or page (at + length text) 0) 13)
      told text l = subst (Left text (came_at page at)) (ap (λ (b : ℕ). eqb b 13) (get_or-drop at page (length text) 0)) l

      by : (t : Bool) → ltb (at + runs s) (length page) ≡ t → less_cr t (came_at page at) ≡ field_at page at
      by t e = ap (λ (m : ℕ). less_cr t (take m s)) (sym n) ∙ ap (λ (u : Bool). less_cr u (take (at + runs s - at) s)) (sym e)

      go : (t : Bool) → ltb (at + runs s) (length page) ≡ t → Left (field_at page at) (came_at page at) (eqb (get_or page (at + length (field_at page at)) 0) 13)
      go true e =
          subst (λ (text : List ℕ). Left text (came_at page at) (eqb (get_or page (at + length text) 0) 13)) (by true e)
          (told (without_cr (came_at page at)) (closed_left s (omega (arith, ltb-true (at + runs s) (length page) e, length-drop at page)) (ends_cr (came_at page at)) refl))
      go false e =
          subst (λ (text : List ℕ). Left text (came_at page at) (eqb (get_or page (at + length text) 0) 13)) (by false e)
          (told (came_at page at) (open_left s (omega (arith, ltb-false (at + runs s) (length page) e, length-drop at page))))

-- a tag in front of what was read and of what is written
front : (t : List ℕ) {text written : List ℕ} {plain : Bool} → Compared text written plain → Compared (t ++ text) (t ++ written) plain
front t {text} {written} c =
    let n = length-append t text in
    let m = length-append t written in
    record { most = omega (arith, n, m, c.most); same = λ e. ap (◌++◌ t) (c.same e); less = λ e. omega (arith, n, m, c.less e) }

module _ (page : List ℕ) (at : ℕ) (p : Party) (q : (read_at page at).outcome ≡ a_record p) where
  abbrev g : Gave page at p
  g = record_gave page at p q

  abbrev plain : Bool
  plain = is_plain g.body (is_after_bic p.option p.present g.body)

  -- the body stands after its tag, and the byte after it is that after the field's text
  closing : is_closing_cr page at ≡ eqb (get_or page (at + length (field_at page at)) 0) 13
  closing =
      let t = field_at page at in
      let n = length-append (tag_of g.option) g.body in
      let z : at + length t - length g.body + length g.body ≡ at + length t = omega (arith, n, ap length g.splits) in
      let behind : 0 < at + length t - length g.body = omega (arith, n, ap length g.splits, (tag_sizes g.option).0) in
      ap (λ (b : Part). ltb 0 b.start && eqb (get_or page (b.start + b.len) 0) 13) g.place
      ∙ (λ i. lt-ltb 0 _ behind i && eqb (get_or page (z i) 0) 13)

  -- the record's option is the tag's
  option_is : p.option ≡ g.option
  unfolding content
  option_is = ap (λ (x : Party). x.option) (sym g.party) ∙ ap (λ (x : Content). x.option) (accepted_is g.option g.body g.accepts).says

  body_compared : Compared g.body (written_body (content p)) plain
  body_compared =
      subst (λ (x : Party). Compared g.body (written_body (content x)) (is_plain g.body (is_after_bic x.option x.present g.body))) g.party (option_reads g.body g.option g.accepts)

  field_compared : Compared (field_at page at) (written_field (content p)) plain
  unfolding written_field content
  field_compared =
      subst (λ (t : List ℕ). Compared t (written_field (content p)) plain) (ap (λ (o : PartyOption). tag_of o ++ g.body) option_is ∙ sym g.splits) (front (tag_of p.option) body_compared)

  -- its causes
  none_told : is_none (causes_by page at (a_record p)) ≡ (plain && not (is_closing_cr page at))
  none_told =
      ap (λ (b : List ℕ). is_none (causes_of p.option p.present b false (is_closing_cr page at))) g.part
      ∙ none_is p.option p.present g.body false (is_closing_cr page at) ∙ ap (λ (b : Bool). b && not (is_closing_cr page at)) (and-true plain)

  left : Left (field_at page at) (came_at page at) (is_closing_cr page at)
  left = subst (Left (field_at page at) (came_at page at)) (sym closing) (field_left page at g.within)

  pub field_decided : Decides (is_none (causes_by page at (a_record p))) (written_field (content p) ≡ came_at page at)
  field_decided =
      subst (λ (b : Bool). Decides b (written_field (content p) ≡ came_at page at)) (sym none_told)
      (decided (field_at page at) (written_field (content p)) (came_at page at) plain (is_closing_cr page at) field_compared left)

  -- where it has one, the written field is shorter
  pub field_less : is_none (causes_by page at (a_record p)) ≡ false → length (written_field (content p)) < length (came_at page at)
  field_less e = lesser (field_at page at) (written_field (content p)) (came_at page at) plain (is_closing_cr page at) field_compared left (sym none_told ∙ e)

-- the written field is the field as it came exactly when it is kept
pub field_exact : (page : List ℕ) (at : ℕ) → FieldExact page at
field_exact page at p q =
    subst (λ (x : ReadOutcome). Decides (is_record x && is_none (causes_by page at x)) (written_field (content p) ≡ came_at page at)) (sym q) (field_decided page at p q)
