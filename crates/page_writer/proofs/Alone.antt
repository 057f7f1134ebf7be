-- A record that a reader can give is one that a page carries exactly when its field, alone on a page, reads back as it. Assumes nothing.
use mathlib.Core.Path.{◌≡◌, refl, sym, ◌∙◌, ap, subst}
use mathlib.Core.Bool.{Bool, true, false, false≢true}
use mathlib.Core.List.{List, [], ◌∷◌}
use Prim.Native.Nat.{ℕ, suc, ◌+◌, ◌≤◌, ◌<◌}
use native.Mathlib.Omega.{arith}
use lib.ListN.{length, length-append}
use Rattle.errors.specs.Refusals.{accepted}
use Rattle.party.specs.declared.PartyOption.{PartyOption}
use Rattle.party.specs.Limits.{limits_of}
use Rattle.party.specs.declared.Layout.{Layout}
use Rattle.party.specs.declared.Layout.TheVariants.{BicOnly, TextOnly, ByLines}
use Rattle.party.specs.declared.Party.{Party}
use Rattle.party.specs.Decides.{Decides}
use Rattle.party.specs.Party.{Content, content, Same}
use Rattle.field_utils.specs.Lines.{without_cr}
use Rattle.field_utils.specs.Tags.{tag_of}
use Rattle.field_utils.proofs.Places.{without_cr_short}
use Rattle.reader.specs.Options.{read, found_by}
use Rattle.writer.specs.Writing.{written_lines, joined, written_body, written_field, pieces}
use Rattle.writer.specs.Given.{Given}
use Rattle.writer.specs.ReadBack.{ends_cr}
use Rattle.writer.proofs.Relined.{weight, cr_kept, cr_shorter}
use Rattle.writer.proofs.Weights.{lines_weight}
use Rattle.writer.proofs.Sizes.{joined_length}
use Rattle.writer.proofs.Contents.{found_content}
use Rattle.writer.specs.Sender.{read_lines}
use Rattle.writer.proofs.Necessary.{light}
use Rattle.writer.proofs.Back.{accepted_is}
use Rattle.writer.proofs.Theorems.{reading_back, written_most}
use Rattle.page_reader.specs.Pages.{page_most, is_boundary, tagged, PageRead, read_tagged, read_field, read_at}
use Rattle.page_reader.proofs.Starts.{opens_read}
use Rattle.page_writer.specs.Adding.{any_line, any_boundary, later_boundary, is_carried, with_lf, end_line}
use Rattle.page_writer.specs.WholePage.{kept, Gives, page_of, ReadsAs, Alone}
use Rattle.page_writer.proofs.Pieces.{Pieces, pieces_of, up_to_boundary, none_cut}
use Rattle.page_writer.proofs.Structure.{opens_cut, lined_page, ending, tail_followed, reads}
use Rattle.page_writer.proofs.Records.{joined_front, front_lined, tagged_lined, tag_less, later_none, not_back, record_accepted, field_read, kept_sound}

-- ---- what is read of a text weighs no more than the text
read_weight : (layout : Layout) (x : List ℕ) → weight (read_lines layout x) ≤ suc (length x)
read_weight BicOnly x = omega arith
read_weight TextOnly x = omega arith
read_weight ByLines x = lines_weight x

-- ---- what a page reads of a body: it is cut before an opening or end line, and a CR at its end is left off
abbrev cut_body : List ℕ → List ℕ
cut_body body = without_cr (joined ((pieces_of body).first ∷ up_to_boundary (pieces_of body).later))

pub cut_weight : (ls : List (List ℕ)) → any_boundary ls ≡ true → weight (up_to_boundary ls) < weight ls
unfolding any_line
cut_weight [] e = absurd (false≢true e)
cut_weight (m ∷ ms) e = go (is_boundary true m) refl (cut_weight ms)
  where
    go : (t : Bool) → is_boundary true m ≡ t → (any_boundary ms ≡ true → weight (up_to_boundary ms) < weight ms) → weight (up_to_boundary (m ∷ ms)) < weight (m ∷ ms)
    go true q ih = rw (q, up_to_boundary) (omega arith)
    go false q ih = rw (q, up_to_boundary) (let k = ih (rw q at e) in omega arith)

module _ (body : List ℕ) where
  abbrev p : Pieces body
  p = pieces_of body

  -- it is the body but for a CR, where no later line is one
  cut_same : later_boundary (pieces body) ≡ false → cut_body body ≡ without_cr body
  cut_same m = ap without_cr (ap (λ (ls : List (List ℕ)). joined (p.first ∷ ls)) (none_cut p.later (later_none body m)) ∙ sym p.joins)

  -- it is shorter, where one is
  cut_shorter : later_boundary (pieces body) ≡ true → length (cut_body body) < length body
  unfolding later_boundary
  cut_shorter m =
      let cut = joined (p.first ∷ up_to_boundary p.later) in
      let k : any_boundary p.later ≡ true = ap later_boundary (sym p.are) ∙ m in
      omega (arith, without_cr_short cut, cut_weight p.later k, joined_length (p.first ∷ up_to_boundary p.later) (omega arith), joined_length (p.first ∷ p.later) (omega arith), ap length p.joins)

-- ---- a text shorter than a record's written body does not give the record: what is read of it weighs less than the written lines
short_not : (layout : Layout) (ls : List (List ℕ)) (x : List ℕ) → length x < length (joined ls) → weight ls ≤ weight (read_lines layout x) → ⊥
unfolding joined
short_not layout [] x k h = omega arith
short_not layout (l ∷ ls) x k h = omega (arith, k, h, joined_length (l ∷ ls) (omega arith), read_weight layout x)

-- ---- the field alone on a page
module _ (p : Party) (g : Given p) where
  abbrev o : PartyOption
  o = p.option

  abbrev body : List ℕ
  body = written_body (content p)

  -- what reading a body says of the record
  abbrev Read : List ℕ → Type 0
  Read b = ((read o b).reply ≡ accepted) × Same (read o b).party p

  pub alone_most : length (page_of (kept p ∷ []) end_line) ≤ page_most
  unfolding page_of
  alone_most =
      omega (arith, length-append (with_lf (written_field (content p))) end_line, length-append (written_field (content p)) (10 ∷ []), written_most p g)

  alone_cut : Alone p → Read (cut_body body)
  unfolding ReadsAs page_of written_field content front_lined
  alone_cut a =
      let d = tagged_lined o body in
      let x = pieces_of body in
      let q = lined_page (kept p) d [] end_line in
      let n = 0 + suc (length (joined (d.first ∷ up_to_boundary d.later))) in
      let r : read_at (page_of (kept p ∷ []) end_line) 0 ≡ read_tagged (tagged o (cut_body body)) n =
      ap (λ (t : List ℕ). read_at t 0) q
      ∙ opens_read (opens_cut d.first d.later end_line d.lines d.opening (tail_followed (ending [])) [] refl (subst (λ (t : List ℕ). length t ≤ page_most) q alone_most))
      ∙ ap (λ (t : List ℕ). read_field (without_cr t) n) (joined_front (tag_of o) x.first (up_to_boundary x.later))
      ∙ ap (λ (t : List ℕ). read_field t n) (tag_less o (joined (x.first ∷ up_to_boundary x.later)))
      ∙ field_read p (cut_body body) n in
      record_accepted (read o (cut_body body)).reply (read o (cut_body body)).party p (subst (λ (w : PageRead). Gives w (kept p)) r a.0)

  alone : is_carried (content p) ≡ true → Alone p
  alone e = reads (ending []) refl (kept p ∷ []) alone_most (kept_sound p g e, tt)

  -- a body that is cut does not read back
  cut_not : Alone p → length (cut_body body) < length body → ⊥
  unfolding written_body
  cut_not a k =
      let r = alone_cut a in
      let b = accepted_is o (cut_body body) r.0 in
      let same : found_content o (found_by (limits_of o).layout o (cut_body body)) ≡ content p = sym b.says ∙ r.1 in
      short_not (limits_of o).layout (written_lines (content p)) (cut_body body) k
      (subst (λ (s : Content). weight (written_lines s) ≤ weight (read_lines (limits_of o).layout (cut_body body))) same (light b.good))

  alone_not : is_carried (content p) ≡ false → Alone p → ⊥
  alone_not e a = go (later_boundary (pieces body)) (ends_cr body) refl refl
    where
      go : (t c : Bool) → later_boundary (pieces body) ≡ t → ends_cr body ≡ c → ⊥
      go true c m n = cut_not a (cut_shorter body m)
      go false true m n = cut_not a (omega (arith, ap length (cut_same body m), cr_shorter body n))
      go false false m n =
          let r : Read body = subst Read (cut_same body m ∙ cr_kept body n) (alone_cut a) in
          (reading_back p g).no (not_back (content p) e m n) (record { accepts = r.0; same = r.1 })

  -- 23 exactly when the field alone on a page does not read back as the record
  pub alone_exact : Decides (is_carried (content p)) (Alone p)
  alone_exact = record { yes = alone; no = alone_not }
