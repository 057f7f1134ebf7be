-- Which fields keep their neighbours and are read as their records: those that a page carries, and overwritten ones. Assumes nothing.
use mathlib.Core.Path.{◌≡◌, refl, sym, ◌∙◌, ap, subst}
use mathlib.Core.Bool.{Bool, true, false, not, ◌&&◌, ◌||◌, or-false}
use mathlib.Core.List.{List, [], ◌∷◌, ◌++◌, append_assoc}
use Prim.Native.Nat.{ℕ}
use native.Mathlib.Omega.{arith}
use lib.ListN.{length, drop}
use borrow.Author.Tests.{not-true}
use Rattle.errors.specs.Refusals.{Reply, accepted, refused}
use Rattle.party.specs.declared.PartyOption.{PartyOption}
use Rattle.party.specs.declared.Party.{Party}
use Rattle.party.specs.Party.{Content, content, Same}
use Rattle.party.specs.Limits.{options}
use Rattle.party.proofs.Options.{by_option}
use Rattle.field_utils.specs.Lines.{starts, without_cr}
use Rattle.field_utils.specs.Tags.{tag_of}
use Rattle.field_utils.proofs.Tests.{both_left, both_right, neither, either_left, either_right, Line}
use Rattle.writer.specs.Writing.{joined, written_body, written_field, pieces}
use Rattle.writer.specs.Given.{Given}
use Rattle.writer.specs.ReadBack.{ends_cr, last_empty, earlier_cr, is_read_back}
use Rattle.writer.proofs.Relined.{cr_kept, cr_front, ends_after}
use Rattle.writer.proofs.Theorems.{reading_back}
use Rattle.page_reader.specs.Pages.{opens, ends_page, is_boundary, begins, Tagged, tagged, tag_in, ReadOutcome, a_record, a_refusal, PageRead, outcome_of, read_tagged, read_field}
use Rattle.page_reader.proofs.Cases.{field_next}
use Rattle.page_reader.specs.Index.{a_field, tagged_as}
use Rattle.page_writer.specs.Adding.{any_line, any_cr, any_boundary, later_boundary, is_carried, entry_for}
use Rattle.page_writer.specs.WholePage.{kept, new, read_new, Gives, MayOverwrite}
use Rattle.page_writer.proofs.Pieces.{pieces_of}
use Rattle.page_writer.proofs.Structure.{Lined, Sound}

-- a text in front of the first line
pub joined_front : (t l : List ℕ) (ls : List (List ℕ)) → joined ((t ++ l) ∷ ls) ≡ t ++ joined (l ∷ ls)
unfolding joined
joined_front t l [] = refl
joined_front t l (m ∷ ms) = append_assoc t l (10 ∷ joined (m ∷ ms))

-- ---- tags
pub tag_line : (o : PartyOption) (x : List ℕ) → Line x → Line (tag_of o ++ x)
unfolding tag_of
tag_line o x h = by_option (λ (o : PartyOption). Line (tag_of o ++ x)) h h h h h h h h h h h o

pub tag_opens : (o : PartyOption) (x : List ℕ) → opens (tag_of o ++ x) ≡ true
unfolding tag_of starts
tag_opens o x = by_option (λ (o : PartyOption). opens (tag_of o ++ x) ≡ true) refl refl refl refl refl refl refl refl refl refl refl o

colon_opens : (x : List ℕ) → opens (58 ∷ x) ≡ true
unfolding starts
colon_opens x = refl

-- a text after an option's tag is that option's
tag_back : (o : PartyOption) (body : List ℕ) → tag_in options (tag_of o ++ body) ≡ tagged o body
unfolding tag_of tag_in begins
tag_back o body = by_option (λ (o : PartyOption). tag_in options (tag_of o ++ body) ≡ tagged o body) refl refl refl refl refl refl refl refl refl refl refl o

-- a CR at the end of what follows a tag is left off as without the tag
pub tag_less : (o : PartyOption) (x : List ℕ) → without_cr (tag_of o ++ x) ≡ tag_of o ++ without_cr x
unfolding tag_of ends_cr
tag_less o x = cr_front (tag_of o) x (by_option (λ (o : PartyOption). ends_cr (tag_of o) ≡ false) refl refl refl refl refl refl refl refl refl refl refl o)

-- ---- the lines of a field's text, which begins with a colon
unfoldable pub front_lined : (t : List ℕ) → ((x : List ℕ) → Line x → Line (t ++ x)) → ((x : List ℕ) → opens (t ++ x) ≡ true) → (body : List ℕ) → Lined (t ++ body)
front_lined t line colon body =
    let p = pieces_of body in
    record {
      first = t ++ p.first;
      later = p.later;
      joins = ap (◌++◌ t) p.joins ∙ sym (joined_front t p.first p.later);
      lines = (line p.first p.lines.0, p.lines.1);
      opening = colon p.first;
    }

abbrev pub tagged_lined : (o : PartyOption) (body : List ℕ) → Lined (tag_of o ++ body)
tagged_lined o = front_lined (tag_of o) (tag_line o) (tag_opens o)

abbrev new_lined : (bytes : List ℕ) → Lined (58 ∷ bytes)
new_lined = front_lined (58 ∷ []) (λ x h. h) colon_opens

pub later_none : (text : List ℕ) → later_boundary (pieces text) ≡ false → any_boundary (pieces_of text).later ≡ false
unfolding later_boundary
later_none text e = ap later_boundary (sym (pieces_of text).are) ∙ e

-- ---- new bytes
pub new_gives : (bytes : List ℕ) (next : ℕ) → Gives (read_field (without_cr (58 ∷ bytes)) next) (new bytes)
unfolding ends_cr
new_gives bytes next =
    subst (λ (x : List ℕ). Gives (read_field x next) (new bytes)) (sym (cr_front (58 ∷ []) bytes refl)) (ap (read_new bytes) (sym (field_next (58 ∷ without_cr bytes) next)))

-- lines of which none starts with a colon and none would be an end line
neither_any : (ls : List (List ℕ)) → any_line opens ls ≡ false → any_line (ends_page true) ls ≡ false → any_boundary ls ≡ false
unfolding any_line
neither_any [] o e = refl
neither_any (l ∷ ls) o e =
    neither (is_boundary true l) (any_boundary ls)
    (neither (opens l) (ends_page true l) (either_left (opens l) (any_line opens ls) o) (either_left (ends_page true l) (any_line (ends_page true) ls) e))
    (neither_any ls (either_right (opens l) (any_line opens ls) o) (either_right (ends_page true l) (any_line (ends_page true) ls) e))

pub new_sound : (bytes : List ℕ) → MayOverwrite bytes → Sound (new bytes)
unfolding front_lined
new_sound bytes m =
    let none : (is : List ℕ → Bool) → any_line is (drop 1 (pieces bytes)) ≡ false → any_line is (pieces_of bytes).later ≡ false = λ is e. ap (λ (ls : List (List ℕ)). any_line is (drop 1 ls)) (sym (pieces_of bytes).are) ∙ e in
    record { lined = new_lined bytes; bounded = neither_any (pieces_of bytes).later (none opens m.opening) (none (ends_page true) m.ending); gives = new_gives bytes }

-- ---- fields of records that a page carries
-- a line ends in CR: an earlier one, or the last, which is the text's end
any_cr_lem : (l : List ℕ) (ls : List (List ℕ)) → any_cr (l ∷ ls) ≡ (earlier_cr (l ∷ ls) || ends_cr (joined (l ∷ ls)))
unfolding any_line earlier_cr joined
any_cr_lem l [] = or-false (ends_cr l)
any_cr_lem l (m ∷ ls) = rw (ends_after l (joined (m ∷ ls)), any_cr_lem m ls) (or_assoc (ends_cr l))
  where
    or_assoc : (t : Bool) → (t || (earlier_cr (m ∷ ls) || ends_cr (joined (m ∷ ls)))) ≡ (t || earlier_cr (m ∷ ls) || ends_cr (joined (m ∷ ls)))
    or_assoc true = refl
    or_assoc false = refl

any_body : (body : List ℕ) → any_cr (pieces body) ≡ (earlier_cr (pieces body) || ends_cr body)
any_body body =
    let p = pieces_of body in
    ap any_cr p.are ∙ any_cr_lem p.first p.later ∙ ap (λ (ls : List (List ℕ)). earlier_cr ls || ends_cr (joined (p.first ∷ p.later))) (sym p.are) ∙ ap (λ (x : List ℕ). earlier_cr (pieces body) || ends_cr x) (sym p.joins)

module _ (s : Content) where
  abbrev body : List ℕ
  body = written_body s

  abbrev ls : List (List ℕ)
  ls = pieces body

  pub carried_bounded : is_carried s ≡ true → later_boundary ls ≡ false
  unfolding is_carried
  carried_bounded e = not-true _ (both_right (not (any_cr ls) && not (last_empty ls)) (not (later_boundary ls)) e)

  pub carried_any : is_carried s ≡ true → any_cr ls ≡ false
  unfolding is_carried
  carried_any e = not-true _ (both_left (not (any_cr ls)) (not (last_empty ls)) (both_left (not (any_cr ls) && not (last_empty ls)) (not (later_boundary ls)) e))

  pub carried_earlier : is_carried s ≡ true → earlier_cr ls ≡ false
  carried_earlier e = either_left (earlier_cr ls) (ends_cr body) (sym (any_body body) ∙ carried_any e)

  carried_end : is_carried s ≡ true → ends_cr body ≡ false
  carried_end e = either_right (earlier_cr ls) (ends_cr body) (sym (any_body body) ∙ carried_any e)

  -- where neither a boundary nor a CR at the end cuts the body, a page carries what is read back
  carried_is : later_boundary ls ≡ false → ends_cr body ≡ false → is_carried s ≡ is_read_back s
  unfolding is_carried is_read_back
  carried_is m c = rw (any_body body, m, c) (go (earlier_cr ls) (last_empty ls))
    where
      go : (a b : Bool) → (not (a || false) && not b && true) ≡ (not b && not a)
      go true true = refl
      go true false = refl
      go false true = refl
      go false false = refl

  pub carried_back : is_carried s ≡ true → is_read_back s ≡ true
  carried_back e = sym (carried_is (carried_bounded e) (carried_end e)) ∙ e

  pub not_back : is_carried s ≡ false → later_boundary ls ≡ false → ends_cr body ≡ false → is_read_back s ≡ false
  not_back e m c = sym (carried_is m c) ∙ e

-- an accepted reading, and what a read gives of it
abbrev pub IsRecord : ReadOutcome → Party → Type 0
IsRecord x p = (q : Party) × (x ≡ a_record q) × Same q p

pub accepted_record : (r : Reply) (q p : Party) → r ≡ accepted → Same q p → IsRecord (outcome_of r q) p
accepted_record r q p e h = (q, ap (λ (x : Reply). outcome_of x q) e, h)

pub record_accepted : (r : Reply) (q p : Party) → IsRecord (outcome_of r q) p → (r ≡ accepted) × Same q p
record_accepted accepted q p h = let e : a_record q ≡ a_record h.0 = h.1 in let z : h.0 ≡ q = cc in (refl, subst (λ (x : Party). Same x p) z h.2)
record_accepted (refused k n) q p h = absurd (let e : a_refusal k n ≡ a_record h.0 = h.1 in let z : ◌≡◌ {A = ℕ} 0 1 = cc in omega arith)

-- what reading a written field gives
pub field_read : (p : Party) (body : List ℕ) (next : ℕ) → read_field (tag_of p.option ++ body) next ≡ read_tagged (tagged p.option body) next
unfolding read_field
field_read p body next = ap (λ (t : Tagged). read_tagged t next) (tag_back p.option body)

-- no CR is dropped of its text, which so keeps every byte
pub kept_whole : (p : Party) → is_carried (content p) ≡ true → without_cr (written_field (content p)) ≡ written_field (content p)
unfolding written_field content
kept_whole p e = tag_less p.option (written_body (content p)) ∙ ap (◌++◌ (tag_of p.option)) (cr_kept (written_body (content p)) (carried_end (content p) e))

-- so a read meets its entry
pub kept_met : (p : Party) → is_carried (content p) ≡ true → (at : ℕ) → let x = without_cr (written_field (content p)) in tagged_as (tag_in options x) at (length x) ≡ a_field (entry_for at (content p))
unfolding written_field content
kept_met p e at =
    let f = written_field (content p) in
    ap (λ (x : List ℕ). tagged_as (tag_in options x) at (length x)) (kept_whole p e) ∙ ap (λ (t : Tagged). tagged_as t at (length f)) (tag_back p.option (written_body (content p)))

pub kept_sound : (p : Party) → Given p → is_carried (content p) ≡ true → Sound (kept p)
unfolding written_field content front_lined
kept_sound p g e =
    let o = p.option in
    let b = (reading_back p g).yes (carried_back (content p) e) in
    record {
      lined = tagged_lined o (written_body (content p));
      bounded = later_none (written_body (content p)) (carried_bounded (content p) e);
      gives = λ next. subst (λ (r : PageRead). Gives r (kept p)) (sym (ap (λ (t : List ℕ). read_field t next) (kept_whole p e) ∙ field_read p (written_body (content p)) next)) (accepted_record _ _ p b.accepts b.same);
    }
