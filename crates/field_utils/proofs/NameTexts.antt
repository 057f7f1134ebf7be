-- Names tested and filled one line after the other. Assumes nothing.
use Rattle.std.proofs.Common.{◌≡◌, ℕ, zero, suc, ◌+◌, ◌<◌, ◌≤◌, List, [], ◌∷◌, ◌++◌, map, length, drop, set, sym, refl, ap, ◌∙◌, append-nil, add-zero, arith, length-append}
use mathlib.Core.List.{map-append, map-map}
use lib.ListN.{length-map}
use lib.Seq.{append_snoc}
use Rattle.errors.specs.Refusals.{accepted, refused}
use Rattle.party.specs.declared.PartyOption.{PartyOption}
use Rattle.party.specs.declared.Limits.{Limits}
use Rattle.party.specs.declared.Text.{Text}
use Rattle.party.specs.declared.Part.{Part}
use Rattle.party.specs.Limits.{limits_of}
use Rattle.party.specs.Text.{text_of, part_in, texts_in, four, four_texts}
use Rattle.party.specs.declared.Numbering.{Numbering}
use Rattle.field_utils.specs.Names.{parse_line, parse_lines, parse_count, read_names, dropped_prefix, kept, digit_of}
use Rattle.field_utils.specs.Code.{given_names}
use Rattle.field_utils.proofs.NameLines.{lines_refused, lines_passed, lines_none, read_counted}

-- one more of four, at its place; a fifth and later ones change none
module _ {A : Type 0} (none : A) where
  four_more : (xs : List A) (x : A) → length xs < 4 → set (four none xs) (length xs) x ≡ four none (xs ++ (x ∷ []))
  unfolding four
  four_more [] x h = refl
  four_more (a ∷ []) x h = refl
  four_more (a ∷ b ∷ []) x h = refl
  four_more (a ∷ b ∷ c ∷ []) x h = refl
  four_more (a ∷ b ∷ c ∷ d ∷ xs) x h = absurd (omega arith)

  four_past : (xs : List A) (x : A) → 4 ≤ length xs → four none xs ≡ four none (xs ++ (x ∷ []))
  unfolding four
  four_past [] x h = absurd (omega arith)
  four_past (a ∷ []) x h = absurd (omega arith)
  four_past (a ∷ b ∷ []) x h = absurd (omega arith)
  four_past (a ∷ b ∷ c ∷ []) x h = absurd (omega arith)
  four_past (a ∷ b ∷ c ∷ d ∷ xs) x h = refl

  -- the same of what is made of others
  module _ {B : Type 0} (f : B → A) (ls : List B) (l : B) {n : ℕ} (count : n ≡ length ls) where
    pub more_of : {w : List A} {x : A} → w ≡ four none (map f ls) → x ≡ f l → n < 4 → set w n x ≡ four none (map f (ls ++ (l ∷ [])))
    more_of e g h =
        rw (e, g, count, map-append f ls (l ∷ []), ← length-map ls f) (four_more (map f ls) (f l) (omega (arith, h, count, length-map ls f)))

    pub past_of : {w : List A} → w ≡ four none (map f ls) → 4 ≤ n → w ≡ four none (map f (ls ++ (l ∷ [])))
    past_of e h = e ∙ four_past (map f ls) (f l) (omega (arith, h, count, length-map ls f)) ∙ ap (four none) (sym (map-append f ls (l ∷ [])))

map_set : {A B : Type 0} (f : A → B) (l : List A) (i : ℕ) (a : A) → map f (set l i a) ≡ set (map f l) i (f a)
map_set f [] i a = refl
map_set f (b ∷ l) zero a = refl
map_set f (b ∷ l) (suc i) a = ap (◌∷◌ (f b)) (map_set f l i a)

-- the text that is kept of a line
abbrev text_from : ℕ → List ℕ → Text
text_from skip l = text_of (drop skip l)

-- after n lines of ls, of which later ones are left: what all say is what those left say, and the parts of the body and the digits are
-- filled
pub record Passed (body : List ℕ) (f : Numbering) (longest start skip : ℕ) (ls : List (List ℕ)) (n : ℕ) (parts : List Part) (digits : List ℕ) (later : List (List ℕ)) : Type 0 where
  pub says : parse_lines f longest (suc start) 1 ls ≡ parse_lines f longest (suc (start + n)) (suc n) later
  pub done : List (List ℕ)
  pub all : ls ≡ done ++ later
  pub count : n ≡ length done
  pub texts_are : texts_in body parts ≡ four (text_of []) (map (text_from skip) done)
  pub digits_are : digits ≡ four 0 (map (digit_of f) done)

pub no_parts : (body : List ℕ) → texts_in body (four (record { start = 0; len = 0 }) []) ≡ four_texts []
unfolding four
no_parts body = refl

pub passed_none : (body : List ℕ) (f : Numbering) (longest start skip : ℕ) (ls : List (List ℕ)) {parts : List Part} {digits : List ℕ} → texts_in body parts ≡ four_texts [] → digits ≡ four 0 []
    → Passed body f longest start skip ls 0 parts digits ls
passed_none body f longest start skip ls e g = record { says = rw add-zero; done = []; all = refl; count = refl; texts_are = e; digits_are = g }

-- one more line
module _ {body : List ℕ} {f : Numbering} {longest start skip n : ℕ} {ls t : List (List ℕ)} {l : List ℕ} {parts : List Part} {digits : List ℕ} (p : Passed body f longest start skip ls n parts digits (l ∷ t)) where
  pub passed_refused : {r m : ℕ} → parse_line f longest (start + (n + 1)) (n + 1) l ≡ refused r m → parse_lines f longest (suc start) 1 ls ≡ refused r m
  passed_refused e = p.says ∙ lines_refused f longest start n l t e

  module _ (e : parse_line f longest (start + (n + 1)) (n + 1) l ≡ accepted) where
    more : {w : List Part} {d : List ℕ} → texts_in body w ≡ four (text_of []) (map (text_from skip) (p.done ++ (l ∷ []))) → d ≡ four 0 (map (digit_of f) (p.done ++ (l ∷ [])))
        → Passed body f longest start skip ls (n + 1) w d t
    more k g =
        record {
          says = p.says ∙ lines_passed f longest start n l t e;
          done = p.done ++ (l ∷ []);
          all = p.all ∙ sym (append_snoc p.done l t);
          count = omega (arith, p.count, length-append p.done (l ∷ []));
          texts_are = k;
          digits_are = g;
        }

    pub passed_more : (x : Part) {d : ℕ} → n < 4 → part_in body x ≡ drop skip l → d ≡ digit_of f l → Passed body f longest start skip ls (n + 1) (set parts n x) (set digits n d) t
    passed_more x h k g =
        let text = ap text_of k in
        more (map_set (λ (q : Part). text_of (part_in body q)) parts n x ∙ more_of (text_of []) (text_from skip) p.done l p.count p.texts_are text h) (more_of 0 (digit_of f) p.done l p.count p.digits_are g h)

    pub passed_past : 4 ≤ n → Passed body f longest start skip ls (n + 1) parts digits t
    passed_past h = more (past_of (text_of []) (text_from skip) p.done l p.count p.texts_are h) (past_of 0 (digit_of f) p.done l p.count p.digits_are h)

-- all lines; m is what the code holds of the option
pub passed_all : (o : PartyOption) {body : List ℕ} {m : Limits} {start skip n : ℕ} {ls : List (List ℕ)} {parts : List Part} {digits : List ℕ} → m ≡ limits_of o → skip ≡ dropped_prefix m.numbering
    → Passed body m.numbering m.name_max start skip ls n parts digits [] → read_names o (suc start) ls ≡ given_names (parse_count m.max_names n) n (texts_in body parts) digits
passed_all o {body} {m} {start} {skip} {n} {ls} e k p =
    let all : p.done ≡ ls = sym (p.all ∙ append-nil p.done) in
    let texts : map (text_from skip) ls ≡ map text_of (map (kept m.numbering) ls) = ap (λ (j : ℕ). map (text_from j) ls) k ∙ sym (map-map text_of (kept m.numbering) ls) in
    read_counted o e (suc start) ls (p.says ∙ lines_none m.numbering m.name_max (suc (start + n)) (suc n)) (p.count ∙ ap length all)
    (p.texts_are ∙ ap (four (text_of [])) (ap (map (text_from skip)) all ∙ texts)) (p.digits_are ∙ ap (λ (d : List (List ℕ)). four 0 (map (digit_of m.numbering) d)) all)
