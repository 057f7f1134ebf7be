-- A page of fields with CR LF for each LF reads as the page with LF. Assumes nothing.
use mathlib.Core.Path.{◌≡◌, refl, sym, ◌∙◌, ap, subst}
use mathlib.Core.Bool.{Bool, true, false, not, ◌||◌}
use mathlib.Core.List.{List, [], ◌∷◌, ◌++◌, append_assoc, map}
use Prim.Native.Nat.{ℕ, ◌*◌, ◌≤◌}
use native.Mathlib.Omega.{arith}
use lib.Dec.{leb, eqb}
use lib.ListN.{length, drop, length-append}
use borrow.Author.Tests.{not-true}
use Rattle.errors.specs.Refusals.{accepted, must}
use Rattle.errors.proofs.Replies.{must_held, then_first, then_second}
use Rattle.party.specs.declared.PartyOption.{PartyOption}
use Rattle.party.specs.declared.Party.{Party}
use Rattle.party.specs.declared.Layout.{Layout}
use Rattle.party.specs.declared.Layout.TheVariants.{BicOnly, TextOnly, ByLines}
use Rattle.party.specs.Party.{content}
use Rattle.party.specs.Limits.{limits_of}
use Rattle.party.proofs.Options.{by_option}
use Rattle.swift_utils.specs.Bytes.{all, among}
use Rattle.field_utils.specs.Lines.{starts, lines, without_cr}
use Rattle.field_utils.specs.Tags.{tag_of}
use Rattle.field_utils.proofs.Tests.{first_not, rest_not, both, both_left, both_right, either_left, either_right, Line}
use Rattle.reader.specs.Reading.{Reading, Found, giving, party_of}
use Rattle.reader.specs.Options.{account_reply, ascii, by_lines, found_by, read, body_most}
use Rattle.reader.proofs.Bodies.{body_passed}
use Rattle.writer.specs.Writing.{joined, written_body, written_field, field_most, pieces}
use Rattle.writer.specs.ReadBack.{ends_cr, earlier_cr}
use Rattle.writer.proofs.Relined.{All, lines_at, cr_kept, cr_front, cr_added, cr_line}
use Rattle.writer.proofs.Sufficient.{body_fits}
use Rattle.writer.proofs.Necessary.{letters_free}
use Rattle.writer.proofs.Back.{accepted_is}
use Rattle.writer.proofs.Theorems.{given_exact, reading_back, written_most}
use Rattle.page_reader.specs.Pages.{page_most, opens, is_end, ends_page, is_boundary, the_end, ReadOutcome, PageRead, outcome_of, read_field, read_at}
use Rattle.page_writer.specs.Adding.{any_line, any_cr, any_boundary, with_lf}
use Rattle.page_writer.specs.WholePage.{Field, kept, new, text_of, page_of, Gives, ReadsAs}
use Rattle.page_writer.specs.Delivered.{crlf, IsEndLine}
use Rattle.page_writer.proofs.Pieces.{pieces_of}
use Rattle.page_writer.proofs.Structure.{Lined, Sound, page_tail, whole, reads}
use Rattle.page_writer.proofs.Records.{joined_front, tag_line, tag_opens, new_gives, IsRecord, accepted_record, field_read, later_none, carried_back, carried_any, carried_earlier, carried_bounded}
use Rattle.page_writer.proofs.Invariant.{Fit, fields_of}

-- ---- a text with CR LF
crlf_append : (x y : List ℕ) → crlf (x ++ y) ≡ crlf x ++ crlf y
unfolding crlf
crlf_append [] y = refl
crlf_append (b ∷ x) y = go (eqb b 10) refl (crlf_append x y)
  where
    go : (t : Bool) → eqb b 10 ≡ t → crlf (x ++ y) ≡ crlf x ++ crlf y → crlf (b ∷ x ++ y) ≡ crlf (b ∷ x) ++ crlf y
    go true e ih = rw (e, crlf) (ap (λ (l : List ℕ). 13 ∷ 10 ∷ l) ih)
    go false e ih = rw (e, crlf) (ap (◌∷◌ b) ih)

crlf_line : (l : List ℕ) → Line l → crlf l ≡ l
unfolding crlf
crlf_line [] h = refl
crlf_line (b ∷ l) h = rw (first_not b l h, crlf) (ap (◌∷◌ b) (crlf_line l (rest_not b l h)))

crlf_at : (l y : List ℕ) → Line l → crlf (l ++ 10 ∷ y) ≡ (l ++ 13 ∷ []) ++ 10 ∷ crlf y
unfolding crlf
crlf_at l y h = crlf_append l (10 ∷ y) ∙ ap (λ (x : List ℕ). x ++ 13 ∷ 10 ∷ crlf y) (crlf_line l h) ∙ sym (append_assoc l (13 ∷ []) (10 ∷ crlf y))

crlf_length : (x : List ℕ) → length (crlf x) ≤ 2 * length x
unfolding crlf
crlf_length [] = omega arith
crlf_length (b ∷ x) = go (eqb b 10) refl (crlf_length x)
  where
    go : (t : Bool) → eqb b 10 ≡ t → length (crlf x) ≤ 2 * length x → length (crlf (b ∷ x)) ≤ 2 * length (b ∷ x)
    go true e h = rw (e, crlf) (omega arith)
    go false e h = rw (e, crlf) (omega arith)

crlf_ascii : (x : List ℕ) → all ascii x ≡ true → all ascii (crlf x) ≡ true
unfolding crlf
crlf_ascii [] h = refl
crlf_ascii (b ∷ x) h = go (eqb b 10) refl (crlf_ascii x (both_right (ascii b) (all ascii x) h))
  where
    go : (t : Bool) → eqb b 10 ≡ t → all ascii (crlf x) ≡ true → all ascii (crlf (b ∷ x)) ≡ true
    go true e k = rw (e, crlf) k
    go false e k = rw (e, crlf) (both (ascii b) (all ascii (crlf x)) (both_left (ascii b) (all ascii x) h) k)

-- ---- an accepted body reads the same with CR LF, where no line but the last ends in CR
joined_crlf : (l : List ℕ) (ls : List (List ℕ)) → All Line (l ∷ ls) → earlier_cr (l ∷ ls) ≡ false → lines (crlf (joined (l ∷ ls))) ≡ lines (joined (l ∷ ls))
unfolding joined earlier_cr
joined_crlf l [] h e = ap lines (crlf_line l h.0)
joined_crlf l (m ∷ ls) h e =
    let y = joined (m ∷ ls) in
    ap lines (crlf_at l y h.0) ∙ lines_at (l ++ 13 ∷ []) (crlf y) (cr_line l h.0)
    ∙ (λ i. cr_added l i ∷ joined_crlf m ls h.1 (either_right (ends_cr l) (earlier_cr (m ∷ ls)) e) i)
    ∙ sym (lines_at l y h.0 ∙ ap (λ (x : List ℕ). x ∷ lines y) (cr_kept l (either_left (ends_cr l) (earlier_cr (m ∷ ls)) e)))

lines_crlf : (x : List ℕ) → earlier_cr (pieces x) ≡ false → lines (crlf x) ≡ lines x
lines_crlf x e =
    let p = pieces_of x in
    subst (λ (y : List ℕ). lines (crlf y) ≡ lines y) (sym p.joins) (joined_crlf p.first p.later p.lines (ap earlier_cr (sym p.are) ∙ e))

found_crlf : (layout : Layout) (o : PartyOption) (x : List ℕ) → (found_by layout o x).reply ≡ accepted → earlier_cr (pieces x) ≡ false → found_by layout o (crlf x) ≡ found_by layout o x
found_crlf BicOnly o x r e = ap (found_by BicOnly o) (crlf_line x (letters_free 1 x r))
found_crlf TextOnly o x r e = ap (found_by TextOnly o) (crlf_line x (not-true _ (must_held (not (among x 10)) 1 0 (then_first _ (account_reply o x) r))))
found_crlf ByLines o x r e = ap (by_lines o) (lines_crlf x e)

read_crlf : (o : PartyOption) (x : List ℕ) → (read o x).reply ≡ accepted → earlier_cr (pieces x) ≡ false → length (crlf x) ≤ body_most → read o (crlf x) ≡ read o x
read_crlf o x r e n =
    let a = accepted_is o x r in
    let b : all ascii x ≡ true = must_held (all ascii x) 13 0 (then_second (must (leb (length x) body_most) 12 0) _ a.fits) in
    body_passed o (crlf x) (body_fits (crlf x) n (crlf_ascii x b)) ∙ ap (λ (f : Found). giving f.reply (party_of o f)) (found_crlf (limits_of o).layout o x a.good.reply e) ∙ sym (body_passed o x a.fits)

-- ---- lines with a CR
abbrev with_cr : List ℕ → List ℕ
with_cr l = l ++ 13 ∷ []

joined_cr : (l : List ℕ) (ls : List (List ℕ)) → All Line (l ∷ ls) → with_cr (crlf (joined (l ∷ ls))) ≡ joined (map with_cr (l ∷ ls))
unfolding joined
joined_cr l [] h = ap with_cr (crlf_line l h.0)
joined_cr l (m ∷ ls) h =
    let y = joined (m ∷ ls) in
    ap with_cr (crlf_at l y h.0) ∙ append_assoc (with_cr l) (10 ∷ crlf y) (13 ∷ []) ∙ ap (λ (x : List ℕ). with_cr l ++ 10 ∷ x) (joined_cr m ls h.1)

lines_cr : (ls : List (List ℕ)) → All Line ls → All Line (map with_cr ls)
lines_cr [] h = tt
lines_cr (l ∷ ls) h = (cr_line l h.0, lines_cr ls h.1)

boundary_cr : (l : List ℕ) → ends_cr l ≡ false → is_boundary true (with_cr l) ≡ is_boundary true l
unfolding starts ends_page
boundary_cr l e = (λ i. first l i || is_end (cr_added l i)) ∙ ap (λ (x : List ℕ). opens l || is_end x) (sym (cr_kept l e))
  where
    first : (l : List ℕ) → opens (with_cr l) ≡ opens l
    first [] = refl
    first (b ∷ l) = refl

any_boundary_lem : (ls : List (List ℕ)) → any_cr ls ≡ false → any_boundary (map with_cr ls) ≡ any_boundary ls
unfolding any_line
any_boundary_lem [] e = refl
any_boundary_lem (l ∷ ls) e = λ i. boundary_cr l (either_left (ends_cr l) (any_cr ls) e) i || any_boundary_lem ls (either_right (ends_cr l) (any_cr ls) e) i

-- ---- a field with CR LF, as one that is overwritten
abbrev sent : Party → Field
sent p = new (with_cr (drop 1 (crlf (written_field (content p)))))

module _ (p : Party) where
  abbrev o : PartyOption
  o = p.option

  abbrev body : List ℕ
  body = written_body (content p)

  tag_crlf : crlf (written_field (content p)) ≡ tag_of o ++ crlf body
  unfolding written_field content tag_of
  tag_crlf = crlf_append (tag_of o) body ∙ ap (λ (x : List ℕ). x ++ crlf body) (crlf_line (tag_of o) (by_option (λ (q : PartyOption). Line (tag_of q)) refl refl refl refl refl refl refl refl refl refl refl o))

  colon : (x : List ℕ) → 58 ∷ with_cr (drop 1 (tag_of o ++ x)) ≡ with_cr (tag_of o ++ x)
  unfolding tag_of
  colon x = by_option (λ (q : PartyOption). 58 ∷ with_cr (drop 1 (tag_of q ++ x)) ≡ with_cr (tag_of q ++ x)) refl refl refl refl refl refl refl refl refl refl refl o

  sent_text : text_of (sent p) ≡ with_cr (tag_of o ++ crlf body)
  sent_text = ap (λ (x : List ℕ). 58 ∷ with_cr (drop 1 x)) tag_crlf ∙ colon (crlf body)

  sent_lined : Lined (text_of (sent p))
  sent_lined =
      let q = pieces_of body in
      record {
        first = tag_of o ++ with_cr q.first;
        later = map with_cr q.later;
        joins = sent_text ∙ append_assoc (tag_of o) (crlf body) (13 ∷ [])
            ∙ ap (◌++◌ (tag_of o)) (ap (λ (x : List ℕ). with_cr (crlf x)) q.joins ∙ joined_cr q.first q.later q.lines)
            ∙ sym (joined_front (tag_of o) (with_cr q.first) (map with_cr q.later));
        lines = (tag_line o (with_cr q.first) (cr_line q.first q.lines.0), lines_cr q.later q.lines.1);
        opening = tag_opens o (with_cr q.first);
      }

  module _ (h : Fit p) where
    sent_sound : Sound (sent p)
    unfolding any_line sent_lined
    sent_sound = record {
      lined = sent_lined;
      bounded =
          let q = pieces_of body in
          let a : any_cr (q.first ∷ q.later) ≡ false = ap any_cr (sym q.are) ∙ carried_any (content p) h.carried in
          any_boundary_lem q.later (either_right (ends_cr q.first) (any_cr q.later) a) ∙ later_none body (carried_bounded (content p) h.carried);
      gives = new_gives _;
    }

    sent_read : read o (crlf body) ≡ read o body
    unfolding written_field content
    sent_read =
        let g = (given_exact p).yes h.given in
        let n : length body ≤ field_most = omega (arith, written_most p g, length-append (tag_of o) body) in
        read_crlf o body ((reading_back p g).yes (carried_back (content p) h.carried)).accepts (carried_earlier (content p) h.carried) (omega (arith, crlf_length body, n))

    sent_gives : (r : PageRead) → Gives r (sent p) → Gives r (kept p)
    unfolding ends_cr
    sent_gives r g =
        let b = (reading_back p ((given_exact p).yes h.given)).yes (carried_back (content p) h.carried) in
        let x : 58 ∷ without_cr (with_cr (drop 1 (crlf (written_field (content p))))) ≡ tag_of o ++ crlf body = sym (cr_front (58 ∷ []) _ refl) ∙ ap without_cr sent_text ∙ cr_added (tag_of o ++ crlf body) in
        let q : r.outcome ≡ outcome_of (read o body).reply (read o body).party =
        ap (λ (y : PageRead). y.outcome) (g ∙ ap (λ (t : List ℕ). read_field t r.next) x ∙ field_read p (crlf body) r.next) ∙ ap (λ (y : Reading). outcome_of y.reply y.party) sent_read in
        subst (λ (y : ReadOutcome). IsRecord y p) (sym q) (accepted_record _ _ p b.accepts b.same)

-- ---- a page of them
sent_fields : (ps : List Party) → crlf (fields_of ps) ≡ page_of (map sent ps) []
unfolding page_of crlf
sent_fields [] = refl
sent_fields (p ∷ ps) =
    let w = written_field (content p) in
    crlf_append (with_lf w) (fields_of ps)
    ∙ (λ i. (crlf_append w (10 ∷ []) ∙ sym (append_assoc (crlf w) (13 ∷ []) (10 ∷ [])) ∙ ap with_lf (ap with_cr (tag_crlf p) ∙ sym (sent_text p))) i ++ sent_fields ps i)

fields_sound : (ps : List Party) → All Fit ps → All Sound (map sent ps)
fields_sound [] h = tt
fields_sound (p ∷ ps) h = (sent_sound p h.0, fields_sound ps h.1)

as_kept : (page : List ℕ) (at : ℕ) (ps : List Party) → All Fit ps → ReadsAs page at (map sent ps) the_end → ReadsAs page at (map kept ps) the_end
unfolding ReadsAs
as_kept page at [] h r = r
as_kept page at (p ∷ ps) h r = (sent_gives p h.0 (read_at page at) r.0, as_kept page (read_at page at).next ps h.1 r.1)

pub delivered : (ps : List Party) → All Fit ps → (e : List ℕ) → IsEndLine e → length (crlf (fields_of ps) ++ e) ≤ page_most → ReadsAs (crlf (fields_of ps) ++ e) 0 (map kept ps) the_end
delivered ps h e d m =
    let q : crlf (fields_of ps) ++ e ≡ page_of (map sent ps) e = ap (λ (x : List ℕ). x ++ e) (sent_fields ps) ∙ sym (page_tail (map sent ps) e) in
    subst (λ (x : List ℕ). ReadsAs x 0 (map kept ps) the_end) (sym q)
    (as_kept _ 0 ps h (reads (whole e d) refl (map sent ps) (subst (λ (x : List ℕ). length x ≤ page_most) q m) (fields_sound ps h)))
