-- Where an accepted body gives a BIC, a line of the body as it came holds it. Assumes nothing.
use mathlib.Core.Path.{◌≡◌, refl, sym, ◌∙◌, ap, subst}
use mathlib.Core.Bool.{Bool, true, false, not, ◌&&◌, and-false, or-true, true≢false, false≢true}
use mathlib.Core.List.{List, [], ◌∷◌, ◌++◌, map, head-eq_of_cons-eq}
use mathlib.Core.Logic.{◌⊎◌, inl, inr, ⊎_elim}
use Prim.Native.Nat.{ℕ, zero, suc, ◌-◌, ◌≤◌}
use native.Mathlib.Omega.{arith}
use lib.Dec.{ltb, leb, eqb}
use lib.ListN.{length, get_or, take, drop}
use borrow.Author.Tests.{ltb-true, leb-true, leb-false, lt-leb, eq-eqb, eqb-true, ne_eqb, not-true}
use Rattle.errors.specs.Refusals.{accepted, must}
use Rattle.errors.proofs.Replies.{must_held, then_first, then_second}
use Rattle.party.specs.declared.PartyOption.{PartyOption}
use Rattle.party.specs.declared.PartyOption.TheVariants.{Field50C, Field50L}
use Rattle.party.specs.declared.Party.{Party}
use Rattle.party.specs.Limits.{limits_of}
use Rattle.party.specs.Text.{Used, used}
use Rattle.party.specs.Party.{Content, content}
use Rattle.party.proofs.Options.{by_option}
use Rattle.swift_utils.specs.Bytes.{all, letter, digit, alphanumeric}
use Rattle.swift_utils.specs.Checks.{bic_length, parse_bic}
use Rattle.field_utils.specs.Lines.{onto, starts, is_empty, lines}
use Rattle.field_utils.specs.Trim.{white, trimmed_start, keep, trimmed_end, trimmed}
use Rattle.field_utils.proofs.Tests.{both_left, both_right, both, first_not, rest_not, Line}
use Rattle.reader.specs.Reading.{Reading, Found}
use Rattle.reader.specs.Options.{found_by, read}
use Rattle.reader.specs.Detection.{first_line}
use Rattle.profile.specs.Profile.{is_same, holds_bic}
use Rattle.writer.specs.Writing.{head_lines, written_lines}
use Rattle.writer.specs.Given.{every, is_bic}
use Rattle.writer.proofs.Relined.{lines_rest}
use Rattle.writer.proofs.Contents.{used_of, found_content}
use Rattle.writer.proofs.Facts.{bic_passes}
use Rattle.writer.proofs.Witness.{where_yes}
use Rattle.writer.specs.Sender.{read_lines}
use Rattle.writer.proofs.Necessary.{letters_free}
use Rattle.writer.proofs.Back.{accepted_is, bic_least}
use Rattle.kept.specs.Kept.{bic_line}
use Rattle.kept.proofs.Exact.{bic_there}
use Rattle.yewdome.specs.Profile.{any_holds}
use Rattle.yewdome.proofs.ProfileLines.{some_bytes}

-- ---- a claim of some element of a list
abbrev pub Some : (List ℕ → Type 0) → List (List ℕ) → Type 0
Some P [] = ⊥
Some P (l ∷ ls) = P l ⊎ Some P ls

pub some_as : (P Q : List ℕ → Type 0) → ((l : List ℕ) → P l → Q l) → (ls : List (List ℕ)) → Some P ls → Some Q ls
some_as P Q f [] h = h
some_as P Q f (l ∷ ls) h = ⊎_elim (λ a. inl (f l a)) (λ a. inr (some_as P Q f ls a)) h

some_left : (P : List ℕ → Type 0) (ls ms : List (List ℕ)) → Some P ls → Some P (ls ++ ms)
some_left P [] ms h = absurd h
some_left P (l ∷ ls) ms h = ⊎_elim inl (λ a. inr (some_left P ls ms a)) h

some_right : (P : List ℕ → Type 0) (ls ms : List (List ℕ)) → Some P ms → Some P (ls ++ ms)
some_right P [] ms h = h
some_right P (l ∷ ls) ms h = inr (some_right P ls ms h)

pub some_holds : (p : Party) (ls : List (List ℕ)) → Some (λ l. holds_bic p l ≡ true) ls → any_holds p ls ≡ true
unfolding any_holds
some_holds p [] h = absurd h
some_holds p (l ∷ ls) h = ⊎_elim (λ e. rw e) (λ a. rw (some_holds p ls a) (or-true (holds_bic p l))) h

-- ---- a BIC: it is no numbered line, and trimming leaves it
same_refl : (l : List ℕ) → is_same l l ≡ true
unfolding is_same
same_refl [] = refl
same_refl (b ∷ l) = both (eqb b b) (is_same l l) (eq-eqb b b refl) (same_refl l)

alphanumeric_least : (b : ℕ) → alphanumeric b ≡ true → 48 ≤ b
unfolding letter digit alphanumeric
alphanumeric_least b e = go (leb 48 b) refl
  where
    go : (t : Bool) → leb 48 b ≡ t → 48 ≤ b
    go true f = leb-true 48 b f
    go false f = let k = leb-false 48 b f in absurd (false≢true (rw (lt-leb 65 b (omega arith), lt-leb 97 b (omega arith), f) at e))

white_most : (b : ℕ) → white b ≡ true → b ≤ 32
unfolding white
white_most b e = go (leb b 13) (eqb b 32) refl refl
  where
    go : (s t : Bool) → leb b 13 ≡ s → eqb b 32 ≡ t → b ≤ 32
    go true t f g = let k = leb-true b 13 f in omega arith
    go false true f g = let k = eqb-true b 32 g in omega arith
    go false false f g = absurd (false≢true (rw (f, g, and-false (leb 9 b)) at e))

alphanumeric_kept : (b : ℕ) → alphanumeric b ≡ true → white b ≡ false
alphanumeric_kept b e = go (white b) refl
  where
    go : (t : Bool) → white b ≡ t → t ≡ false
    go true f = absurd (omega (arith, white_most b f, alphanumeric_least b e))
    go false f = refl

all_split : (f : ℕ → Bool) (k : ℕ) (l : List ℕ) → all f (take k l) ≡ true → all f (drop k l) ≡ true → all f l ≡ true
all_split f zero l a b = b
all_split f (suc k) [] a b = refl
all_split f (suc k) (c ∷ l) a b = both (f c) (all f l) (both_left (f c) (all f (take k l)) a) (all_split f k l (both_right (f c) (all f (take k l)) a) b)

all_more : (f g : ℕ → Bool) → ((b : ℕ) → f b ≡ true → g b ≡ true) → (l : List ℕ) → all f l ≡ true → all g l ≡ true
all_more f g h [] e = refl
all_more f g h (b ∷ l) e = both (g b) (all g l) (h b (both_left (f b) (all f l) e)) (all_more f g h l (both_right (f b) (all f l) e))

-- nothing to trim
plain_end : (l : List ℕ) → all (λ (b : ℕ). not (white b)) l ≡ true → trimmed_end l ≡ l
unfolding trimmed_end keep
plain_end [] e = refl
plain_end (b ∷ l) e = rw (plain_end l (both_right (not (white b)) (all (λ (c : ℕ). not (white c)) l) e)) (go l)
  where
    go : (m : List ℕ) → keep b m ≡ b ∷ m
    go [] = rw (not-true (white b) (both_left (not (white b)) (all (λ (c : ℕ). not (white c)) l) e), keep)
    go (a ∷ m) = refl

plain_trimmed : (l : List ℕ) → all (λ (b : ℕ). not (white b)) l ≡ true → trimmed l ≡ l
unfolding trimmed trimmed_start
plain_trimmed [] e = plain_end [] e
plain_trimmed (b ∷ l) e = rw (not-true (white b) (both_left (not (white b)) (all (λ (c : ℕ). not (white c)) l) e), trimmed_start) (plain_end (b ∷ l) e)

module _ (x : List ℕ) (e : parse_bic 1 x ≡ accepted) where
  bic_all : all alphanumeric x ≡ true
  unfolding parse_bic alphanumeric
  bic_all =
      let later = then_second (must (bic_length (length x)) 9 1) _ e in
      let first : all letter (take 6 x) ≡ true = must_held _ 10 1 (then_first _ _ later) in
      let rest : all alphanumeric (drop 6 x) ≡ true = must_held _ 10 1 (then_second (must (all letter (take 6 x)) 10 1) _ later) in
      all_split alphanumeric 6 x (all_more letter alphanumeric (λ b h. rw h) (take 6 x) first) rest

  bic_trimmed : trimmed x ≡ x
  bic_trimmed = plain_trimmed x (all_more alphanumeric (λ (b : ℕ). not (white b)) (λ b h. rw (alphanumeric_kept b h)) x bic_all)

-- ---- among the lines that are written of a record is its BIC
bic_in_lem : (s : Content) (v : Used) → s.bic ≡ v ∷ [] → Some (λ w. v.bytes ≡ w) (written_lines s)
unfolding written_lines
bic_in_lem s v e =
    some_left (λ w. v.bytes ≡ w) (head_lines s.option s.present s.account ++ map (λ (u : Used). u.bytes) s.bic) _
    (some_right (λ w. v.bytes ≡ w) (head_lines s.option s.present s.account) (map (λ (u : Used). u.bytes) s.bic) (rw e (inl refl)))

-- ---- a text without LF, trimmed of a body, is a line of it, trimmed
white_start : (b : ℕ) (l : List ℕ) → white b ≡ true → trimmed (b ∷ l) ≡ trimmed l
unfolding trimmed trimmed_start
white_start b l e = rw (e, trimmed_start)

kept_start : (b : ℕ) (l : List ℕ) → white b ≡ false → trimmed (b ∷ l) ≡ keep b (trimmed_end l)
unfolding trimmed trimmed_start trimmed_end
kept_start b l e = rw (e, trimmed_start)

keep_line : (b : ℕ) (m : List ℕ) → Line (keep b m) → Line m
unfolding keep
keep_line b [] h = refl
keep_line b (a ∷ m) h = rest_not b (a ∷ m) h

-- after an LF there is nothing left
lf_end : (l : List ℕ) → starts 10 l ≡ true → Line (trimmed_end l) → trimmed_end l ≡ []
unfolding starts white trimmed_end keep
lf_end [] e h = absurd (false≢true e)
lf_end (b ∷ l) e h = go (trimmed_end l) h
  where
    q : b ≡ 10
    q = eqb-true b 10 e

    go : (m : List ℕ) → Line (keep b m) → keep b m ≡ []
    go [] k = rw q
    go (a ∷ m) k = absurd (true≢false (sym (eq-eqb b 10 q) ∙ first_not b (a ∷ m) k))

first_onto : (b : ℕ) (ls : List (List ℕ)) → first_line (onto b ls) ≡ b ∷ first_line ls
unfolding first_line onto
first_onto b [] = refl
first_onto b (l ∷ ls) = refl

keep_white : (b : ℕ) (m : List ℕ) → white b ≡ true → m ≡ [] → keep b m ≡ []
unfolding keep
keep_white b m e q = rw q (rw (e, keep))

-- the lines of a body: of none, and of one that begins with an LF, a CR before one, or another byte
lines_none : lines [] ≡ []
unfolding lines
lines_none = refl

lines_lf : (b : ℕ) (l : List ℕ) → eqb b 10 ≡ true → lines (b ∷ l) ≡ [] ∷ lines l
unfolding lines
lines_lf b l e = rw (e, lines)

lines_cr : (b : ℕ) (l : List ℕ) → eqb b 10 ≡ false → (eqb b 13 && starts 10 l) ≡ true → lines (b ∷ l) ≡ lines l
unfolding lines
lines_cr b l e f = rw (e, lines) (rw f)

lines_on : (b : ℕ) (l : List ℕ) → eqb b 10 ≡ false → (eqb b 13 && starts 10 l) ≡ false → lines (b ∷ l) ≡ onto b (lines l)
unfolding lines
lines_on b l e f = rw (e, lines) (rw f)

-- what is left of the first line's end is what is left of all, where that has no LF
end_first : (l : List ℕ) → Line (trimmed_end l) → trimmed_end (first_line (lines l)) ≡ trimmed_end l
unfolding starts white first_line trimmed_end
end_first [] h = ap (λ (ls : List (List ℕ)). trimmed_end (first_line ls)) lines_none
end_first (b ∷ l) h = go (eqb b 10) (eqb b 13 && starts 10 l) refl refl (end_first l (keep_line b (trimmed_end l) h))
  where
    go : (s t : Bool) → eqb b 10 ≡ s → (eqb b 13 && starts 10 l) ≡ t → trimmed_end (first_line (lines l)) ≡ trimmed_end l → trimmed_end (first_line (lines (b ∷ l))) ≡ trimmed_end (b ∷ l)
    go true t e f ih = ap (λ (ls : List (List ℕ)). trimmed_end (first_line ls)) (lines_lf b l e) ∙ sym (lf_end (b ∷ l) e h)
    go false true e f ih =
        let none = lf_end l (both_right (eqb b 13) (starts 10 l) f) (keep_line b (trimmed_end l) h) in
        ap (λ (ls : List (List ℕ)). trimmed_end (first_line ls)) (lines_cr b l e f) ∙ ih ∙ none
        ∙ sym (keep_white b (trimmed_end l) (ap white (eqb-true b 13 (both_left (eqb b 13) (starts 10 l) f))) none)
    go false false e f ih =
        ap (λ (ls : List (List ℕ)). trimmed_end (first_line ls)) (lines_on b l e f) ∙ ap trimmed_end (first_onto b (lines l)) ∙ ap (keep b) ih

-- so a line, trimmed, is all of it, trimmed
onto_some : (x : List ℕ) (b : ℕ) (ls : List (List ℕ)) → white b ≡ true → Some (λ l. trimmed l ≡ x) ls → Some (λ l. trimmed l ≡ x) (onto b ls)
unfolding onto
onto_some x b [] e h = absurd h
onto_some x b (l ∷ ls) e h = ⊎_elim (λ q. inl (white_start b l e ∙ q)) inr h

onto_first : (x : List ℕ) (b : ℕ) (ls : List (List ℕ)) → trimmed (b ∷ first_line ls) ≡ x → Some (λ l. trimmed l ≡ x) (onto b ls)
unfolding onto first_line
onto_first x b [] h = inl h
onto_first x b (l ∷ ls) h = inl h

not_white : (b c : ℕ) → white b ≡ false → white c ≡ true → eqb b c ≡ false
not_white b c e f = ne_eqb b c (λ q. true≢false (sym (ap white q ∙ f) ∙ e))

trimmed_none : trimmed [] ≡ []
unfolding trimmed trimmed_start trimmed_end
trimmed_none = refl

pub some_trimmed : (body : List ℕ) → Line (trimmed body) → is_empty (trimmed body) ≡ false → Some (λ l. trimmed l ≡ trimmed body) (lines body)
unfolding white
some_trimmed [] h n = absurd (true≢false (sym (ap is_empty trimmed_none) ∙ n))
some_trimmed (b ∷ l) h n = go (white b) (eqb b 10) (eqb b 13 && starts 10 l) refl refl refl (some_trimmed l)
  where
    later : white b ≡ true → (Line (trimmed l) → is_empty (trimmed l) ≡ false → Some (λ m. trimmed m ≡ trimmed l) (lines l)) → Some (λ m. trimmed m ≡ trimmed (b ∷ l)) (lines l)
    later w ih =
        let q = white_start b l w in
        subst (λ (x : List ℕ). Some (λ m. trimmed m ≡ x) (lines l)) (sym q) (ih (subst Line q h) (ap is_empty (sym q) ∙ n))

    go : (w s t : Bool) → white b ≡ w → eqb b 10 ≡ s → (eqb b 13 && starts 10 l) ≡ t
        → (Line (trimmed l) → is_empty (trimmed l) ≡ false → Some (λ m. trimmed m ≡ trimmed l) (lines l)) → Some (λ m. trimmed m ≡ trimmed (b ∷ l)) (lines (b ∷ l))
    go true true t w e f ih = subst (Some (λ m. trimmed m ≡ trimmed (b ∷ l))) (sym (lines_lf b l e)) (inr (later w ih))
    go true false true w e f ih = subst (Some (λ m. trimmed m ≡ trimmed (b ∷ l))) (sym (lines_cr b l e f)) (later w ih)
    go true false false w e f ih = subst (Some (λ m. trimmed m ≡ trimmed (b ∷ l))) (sym (lines_on b l e f)) (onto_some (trimmed (b ∷ l)) b (lines l) w (later w ih))
    go false s t w e f ih =
        let cr : eqb b 13 ≡ false = not_white b 13 w refl in
        subst (Some (λ m. trimmed m ≡ trimmed (b ∷ l))) (sym (lines_on b l (not_white b 10 w refl) (rw cr)))
        (onto_first (trimmed (b ∷ l)) b (lines l)
        (kept_start b (first_line (lines l)) w ∙ ap (keep b) (end_first l (keep_line b (trimmed_end l) (subst Line (kept_start b l w) h))) ∙ sym (kept_start b l w)))

-- ---- the BIC of a record that was read: what its lines have, a line of the body holds
module _ (o : PartyOption) (text : List ℕ) (e : (read o text).reply ≡ accepted) where
  abbrev p : Party
  p = (read o text).party

  abbrev f : Found
  f = found_by (limits_of o).layout o text

  says : content p ≡ found_content o f
  says = (accepted_is o text e).says

  option_is : p.option ≡ o
  unfolding content
  option_is = ap (λ (s : Content). s.option) says

  module _ (b : ltb 0 (limits_of p.option).bic_count ≡ true) where
    has : ltb 0 (limits_of o).bic_count ≡ true
    has = ap (λ (x : PartyOption). ltb 0 (limits_of x).bic_count) (sym option_is) ∙ b

    one : (found_content o f).bic ≡ used_of f.bic ∷ []
    one = where_yes (limits_of o).bic_count (used_of f.bic ∷ []) has

    bic_used : used p.bic ≡ used_of f.bic
    unfolding content
    bic_used = head-eq_of_cons-eq (sym (where_yes (limits_of p.option).bic_count (used p.bic ∷ []) b) ∙ ap (λ (s : Content). s.bic) says ∙ one)

    pub bic_accepted : parse_bic 1 f.bic ≡ accepted
    bic_accepted = bic_passes (used_of f.bic) (both_left (is_bic (used_of f.bic)) true (subst (λ (us : List Used). every is_bic us ≡ true) one (accepted_is o text e).good.facts.bic))

    -- a line that is it, trimmed, holds it
    pub holds_it : (l : List ℕ) → trimmed l ≡ f.bic → holds_bic p l ≡ true
    unfolding holds_bic
    holds_it l q =
        let s : is_same (trimmed l) (used p.bic).bytes ≡ is_same f.bic f.bic = λ i. is_same (q i) (bic_used i).bytes in
        both (ltb 0 (limits_of p.option).bic_count) (is_same (trimmed l) (used p.bic).bytes) b (s ∙ same_refl f.bic)

    -- so the line that `kept` has for the BIC's, by its number, is one that the profile has for it, by its text
    pub same_line : holds_bic p (get_or (lines text) (bic_line p.present - 1) []) ≡ true
    unfolding content
    same_line =
        let there : get_or (lines text) (bic_line p.present - 1) [] ≡ f.bic =
        ap (λ (t : Bool). get_or (lines text) (bic_line t - 1) []) (ap (λ (s : Content). s.present) says) ∙ bic_there o text e (λ z. omega (arith, z, ltb-true 0 (limits_of o).bic_count has)) in
        holds_it _ (ap trimmed there ∙ bic_trimmed f.bic bic_accepted)

    -- among the lines that were read there is one
    pub read_holds : Some (λ l. holds_bic p l ≡ true) (read_lines (limits_of o).layout text)
    read_holds =
        let ls = read_lines (limits_of o).layout text in
        let first = (accepted_is o text e).good.lines in
        some_as (λ l. f.bic ≡ l) (λ l. holds_bic p l ≡ true) (λ l r. holds_it l (ap trimmed (sym r) ∙ bic_trimmed f.bic bic_accepted)) ls
        (subst (Some (λ l. f.bic ≡ l)) (sym first.are) (some_left (λ l. f.bic ≡ l) (written_lines (found_content o f)) first.rest (bic_in_lem (found_content o f) (used_of f.bic) one)))

-- of a body that is one line, that line
abbrev Holds : Party → List (List ℕ) → Type 0
Holds p ls = Some (λ l. holds_bic p l ≡ true) ls

abbrev Lined : PartyOption → Type 0
Lined o = (text : List ℕ) (p : Party) → ltb 0 (limits_of o).bic_count ≡ true → (found_by (limits_of o).layout o text).reply ≡ accepted → Holds p (read_lines (limits_of o).layout text)
    → Holds p (lines text)

bic_only_lem : Lined Field50C
bic_only_lem text p b e h =
    let q : lines text ≡ text ∷ [] = lines_rest text (letters_free 1 text e) ∙ rw (some_bytes text (omega (arith, bic_least 1 text e))) in
    subst (Holds p) (sym q) h

lined : (o : PartyOption) → Lined o
lined =
    by_option Lined (λ t p b e h. h) (λ t p b e h. h) (λ t p b e h. h) (λ t p b e h. h) bic_only_lem (λ t p b e h. absurd (false≢true b)) (λ t p b e h. h) (λ t p b e h. h)
    (λ t p b e h. h) (λ t p b e h. h) (λ t p b e h. h)

-- a reading of a body: where its record has a BIC, a line of the body holds it
abbrev pub Held : List ℕ → Reading → Type 0
Held body r = r.reply ≡ accepted → ltb 0 (limits_of r.party.option).bic_count ≡ true → any_holds r.party (lines body) ≡ true

pub read_held : (body : List ℕ) (o : PartyOption) → Held body (read o body)
read_held body o e b =
    some_holds (read o body).party (lines body)
    (lined o body (read o body).party (has o body e b) (accepted_is o body e).good.reply (read_holds o body e b))

-- 50C of the trimmed body
pub tried_held : (body : List ℕ) → Held body (read Field50C (trimmed body))
tried_held body e b =
    let p = (read Field50C (trimmed body)).party in
    let x = bic_accepted Field50C (trimmed body) e b in
    some_holds p (lines body)
    (some_as (λ l. trimmed l ≡ trimmed body) (λ l. holds_bic p l ≡ true) (holds_it Field50C (trimmed body) e b) (lines body)
    (some_trimmed body (letters_free 1 (trimmed body) x) (some_bytes (trimmed body) (omega (arith, bic_least 1 (trimmed body) x)))))

-- 50L has none
pub none_held : (body text : List ℕ) → Held body (read Field50L text)
none_held body text e b = absurd (false≢true (has Field50L text e b))
