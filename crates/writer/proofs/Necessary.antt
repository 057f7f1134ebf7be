-- A record that an accepted body gives passes the test for 22, and its written lines are the body's first ones. Assumes nothing.
use mathlib.Core.Path.{◌≡◌, refl, sym, ◌∙◌, ap, subst}
use mathlib.Core.Bool.{Bool, true, false, not, ◌&&◌, and-false, true≢false}
use mathlib.Core.List.{List, [], ◌∷◌, ◌++◌, map, append-nil}
use Prim.Native.Nat.{ℕ, zero, suc, ◌≤◌, ◌<◌}
use native.Mathlib.Omega.{arith}
use lib.Dec.{eqb}
use lib.ListN.{length, take, drop, length-map, length-drop}
use borrow.Author.Tests.{eq-eqb, ne_eqb, not-true}
use Rattle.errors.specs.Refusals.{Reply, accepted, refused, must}
use Rattle.errors.proofs.Replies.{refused≢accepted, must_held, then_first, then_second}
use Rattle.party.specs.declared.PartyOption.{PartyOption}
use Rattle.party.specs.declared.PartyOption.TheVariants.{Field50NoOption, Field50A, Field50F, Field50K, Field50C, Field50L, Field50G, Field50H, Field59NoOption, Field59A, Field59F}
use Rattle.party.specs.Limits.{limits_of}
use Rattle.party.specs.Text.{Used}
use Rattle.party.specs.Party.{where_numbered, Content}
use Rattle.party.specs.declared.First.{First}
use Rattle.party.specs.declared.First.TheVariants.{NoAccount, Identified, Account, ShortAccount, SlashAccount, AnyAccount, WholeLine}
use Rattle.party.specs.declared.Layout.{Layout}
use Rattle.party.specs.declared.Layout.TheVariants.{BicOnly, TextOnly, ByLines}
use Rattle.party.proofs.Options.{by_option}
use Rattle.swift_utils.specs.Bytes.{all, among, letter, digit, alphanumeric}
use Rattle.swift_utils.specs.Checks.{bic_length, parse_bic}
use Rattle.field_utils.specs.Lines.{onto, starts, lines}
use Rattle.field_utils.specs.Names.{parse_name_and_address, kept, digit_of}
use Rattle.field_utils.proofs.Tests.{both_left, both_right, both, rest_not, none_more, first_not, Line}
use Rattle.reader.specs.Reading.{Found}
use Rattle.reader.specs.Options.{is_counted, Head, no_head, head_by, account_reply, with_names, with_bic, after_head, from_head, by_lines, bic_only, text_only, found_by, ascii}
use Rattle.reader.specs.Code.{passed_head}
use Rattle.reader.proofs.Bodies.{head_there, head_none}
use Rattle.reader.proofs.Readings.{rest_bic, rest_names}
use Rattle.writer.specs.Writing.{slash_of, name_lines, written_lines}
use Rattle.writer.specs.Given.{passes, every, is_line, text_reply, is_account, is_presence, is_bic, are_names, is_taken}
use Rattle.writer.proofs.NamePasses.{passing, NamesPass, names_held, names_pass_lem, again, again_same, kept_short, kept_lines}
use Rattle.writer.specs.Sender.{read_lines, Leads}
use Rattle.writer.proofs.Relined.{All, weight, lines_are}
use Rattle.writer.proofs.Contents.{used_of, Short, Fitting, found_content, line_is, lines_is}
use Rattle.writer.proofs.HeadPasses.{slash_by, extra_most, text_length_lem, There, None, first_there, first_none}
use Rattle.writer.proofs.Facts.{Facts, are_names_lem, small}
use Rattle.writer.proofs.Written.{bic_any}
use Rattle.writer.proofs.Witness.{bic_most_lem}
use Rattle.writer.proofs.Sizes.{weight_append}

-- ---- a test that every byte of a body passes is passed by every byte of its lines
module _ (f : ℕ → Bool) where
  onto_all : (b : ℕ) (ls : List (List ℕ)) → f b ≡ true → All (λ (l : List ℕ). all f l ≡ true) ls → All (λ (l : List ℕ). all f l ≡ true) (onto b ls)
  unfolding onto
  onto_all b [] e h = (both (f b) true e refl, tt)
  onto_all b (l ∷ ls) e h = (both (f b) (all f l) e h.0, h.1)

  pub lines_all : (s : List ℕ) → all f s ≡ true → All (λ (l : List ℕ). all f l ≡ true) (lines s)
  unfolding lines
  lines_all [] e = tt
  lines_all (b ∷ l) e = go (eqb b 10) (eqb b 13 && starts 10 l) refl refl (lines_all l (both_right (f b) (all f l) e))
    where
      go : (p q : Bool) → eqb b 10 ≡ p → (eqb b 13 && starts 10 l) ≡ q → All (λ (x : List ℕ). all f x ≡ true) (lines l) → All (λ (x : List ℕ). all f x ≡ true) (lines (b ∷ l))
      go true q a c h = rw (a, lines) (refl, h)
      go false true a c h = rw (a, lines) (rw c h)
      go false false a c h = rw (a, lines) (rw c (onto_all b (lines l) (both_left (f b) (all f l) e) h))

-- ---- the first line of an accepted body, and what follows it
pub record Heading (o : PartyOption) (l : List ℕ) (ls : List (List ℕ)) : Type 0 where
  pub there : There (limits_of o).first o l
  pub found : by_lines o (l ∷ ls) ≡ after_head o 2 (passed_head true there.text) ls

pub record Headless (o : PartyOption) (l : List ℕ) (ls : List (List ℕ)) : Type 0 where
  pub none : None (limits_of o).first o l
  pub found : by_lines o (l ∷ ls) ≡ after_head o 1 no_head (l ∷ ls)

module _ (o : PartyOption) (l : List ℕ) (ls : List (List ℕ)) (e : (by_lines o (l ∷ ls)).reply ≡ accepted) where
  abbrev h : Head
  h = head_by (limits_of o).first o l

  counted : is_counted o (length (l ∷ ls)) ≡ true
  counted = must_held _ 1 0 (then_first (must (is_counted o (length (l ∷ ls))) 1 0) _ e)

  from_head_lem : (from_head o h (l ∷ ls) ls).reply ≡ accepted
  from_head_lem = then_second (must (is_counted o (length (l ∷ ls))) 1 0) _ e

  pub heading : all ascii l ≡ true → h.present ≡ true → Heading o l ls
  heading a p =
      let r : h.reply ≡ accepted = then_first h.reply _ (rw (p, from_head) at from_head_lem) in
      let t = first_there (limits_of o).first o l a p r in
      record { there = t; found = head_there o l ls (sym t.head) counted refl refl refl }

  pub headless : h.present ≡ false → Headless o l ls
  headless p =
      let t = first_none (limits_of o).first o l p in
      record { none = t; found = head_none o l ls (sym t.head) counted refl refl refl }

-- ---- what is found is good: it fits a record, that passes the test, and its written lines, of which there are some, are the body's
pub record Good (f : Found) (s : Content) (ls : List (List ℕ)) : Type 0 where
  pub reply : f.reply ≡ accepted
  pub fits : Fitting f
  pub facts : Facts s
  pub some : 0 < length (written_lines s)
  pub lines : Leads s.option (written_lines s) ls

pub light : {f : Found} {s : Content} {ls : List (List ℕ)} → Good f s ls → weight (written_lines s) ≤ weight ls
light {s = s} {ls = ls} g = omega (arith, ap weight g.lines.are, weight_append (written_lines s) g.lines.rest)

-- all of the lines, or those up to the BIC
all_lines : (o : PartyOption) {ws ls : List (List ℕ)} → ls ≡ ws → Leads o ws ls
all_lines o {ws} e = record { rest = []; are = e ∙ sym (append-nil ws); all = λ z. refl }

to_bic : (o : PartyOption) {ws ls : List (List ℕ)} (rest : List (List ℕ)) → (limits_of o).max_names ≡ 0 → ls ≡ ws ++ rest → Leads o ws ls
to_bic o rest z e = record { rest = rest; are = e; all = λ n. absurd (n z) }

-- the parts
slash_line : (o : PartyOption) (x l : List ℕ) → l ≡ slash_by (limits_of o).first ++ x → Line l → Line x
slash_line o x l e h = go (limits_of o).first (subst Line e h)
  where
    go : (first : First) → Line (slash_by first ++ x) → Line x
    go NoAccount k = k
    go Identified k = rest_not 47 x k
    go Account k = rest_not 47 x k
    go ShortAccount k = rest_not 47 x k
    go SlashAccount k = rest_not 47 x k
    go AnyAccount k = rest_not 47 x k
    go WholeLine k = k

text_short : (o : PartyOption) (x : List ℕ) → text_reply (limits_of o).first o x ≡ accepted → Short x
text_short o x e = omega (arith, text_length_lem (limits_of o).first o x e, extra_most (limits_of o).first, (small o).longest)

account_there : (o : PartyOption) (x : List ℕ) → Line x → text_reply (limits_of o).first o x ≡ accepted → every (is_account o true) (used_of x ∷ []) ≡ true
account_there o x h e =
    both (is_account o true (used_of x)) true (both (is_line (used_of x)) (passes (text_reply (limits_of o).first o x)) (line_is x h) (passing _ e)) refl

account_none : (o : PartyOption) → every (is_account o false) (used_of [] ∷ []) ≡ true
account_none o = both (is_account o false (used_of [])) true (line_is [] refl) refl

bic_there : (n : ℕ) (b : List ℕ) → Line b → parse_bic n b ≡ accepted → every is_bic (used_of b ∷ []) ≡ true
bic_there n b h e = both (is_bic (used_of b)) true (both (is_line (used_of b)) (passes (parse_bic 1 b)) (line_is b h) (passing _ (bic_any n 1 b e))) refl

no_names : (o : PartyOption) → (limits_of o).max_names ≡ 0 → are_names o 0 [] [] ≡ true
no_names o z = are_names_lem o 0 [] [] (record { counted = refl; lines = refl; pass = λ n. absurd (true≢false (sym (eq-eqb (limits_of o).max_names 0 z) ∙ n)) })

module _ (o : PartyOption) (ls : List (List ℕ)) (h : All Line ls) (p : NamesPass o ls) where
  abbrev names : List (List ℕ)
  names = map (kept (limits_of o).numbering) ls

  abbrev digits : List ℕ
  digits = map (digit_of (limits_of o).numbering) ls

  -- the lines themselves
  written : again (limits_of o).numbering ls ≡ ls
  written = again_same (limits_of o).numbering (limits_of o).name_max 1 ls p.each

  names_there : are_names o (length names) (where_numbered (limits_of o).numbering digits) (map used_of names) ≡ true
  names_there =
      are_names_lem o (length names) (where_numbered (limits_of o).numbering digits) (map used_of names)
      (record {
        counted = length-map names used_of;
        lines = lines_is names (kept_lines (limits_of o).numbering ls h);
        pass = λ z. subst (NamesPass o) (sym written) p;
      })

  digits_fit : length digits ≡ length names
  digits_fit = length-map ls (digit_of (limits_of o).numbering) ∙ sym (length-map ls (kept (limits_of o).numbering))

  names_fit : All Short names
  names_fit = kept_short (limits_of o).numbering (limits_of o).name_max 1 ls (omega (arith, (small o).name)) p.each

  names_few : length names ≤ 4
  names_few = omega (arith, length-map ls (kept (limits_of o).numbering), p.most, (small o).names)

-- with a BIC
bic_of_lem : (o : PartyOption) (n : ℕ) (h : Head) (ls : List (List ℕ)) → (limits_of o).max_names ≡ 0 → (after_head o n h ls).reply ≡ accepted → (with_bic n h ls).reply ≡ accepted
bic_of_lem o n h ls z e = ap (λ (f : Found). f.reply) (sym (rest_bic o refl n h ls z)) ∙ e

names_of : (o : PartyOption) (n : ℕ) (h : Head) (ls : List (List ℕ)) → ((limits_of o).max_names ≡ 0 → ⊥) → (after_head o n h ls).reply ≡ accepted → NamesPass o ls
names_of o n h ls z e = names_held o n ls (ap (λ (f : Found). f.reply) (sym (rest_names o refl n h ls z)) ∙ e)

-- what is said where there is a BIC, and where there are names
abbrev with_one : PartyOption → Bool → List ℕ → List ℕ → Content
with_one o present x b = record { option = o; present = present; count = 0; account = used_of x ∷ []; bic = used_of b ∷ []; names = []; digits = [] }

abbrev with_some : PartyOption → Bool → List Used → List (List ℕ) → List ℕ → Content
with_some o present us ns ds = record {
  option = o;
  present = present;
  count = length ns;
  account = us;
  bic = [];
  names = map used_of ns;
  digits = where_numbered (limits_of o).numbering ds;
}

module _ (o : PartyOption) where
  slash_is : (x l : List ℕ) → slash_of o ≡ slash_by (limits_of o).first → l ≡ slash_by (limits_of o).first ++ x → slash_of o ++ x ≡ l
  slash_is x l s e = ap (λ (w : List ℕ). w ++ x) s ∙ sym e

  bic_heading : (z : (limits_of o).max_names ≡ 0) → is_presence o true ≡ true → slash_of o ≡ slash_by (limits_of o).first → (l : List ℕ) (ls : List (List ℕ)) (d : Heading o l ls)
      → All Line (l ∷ ls) → (by_lines o (l ∷ ls)).reply ≡ accepted → (b : List ℕ) (rest : List (List ℕ)) → ls ≡ b ∷ rest
      → Good (with_bic 2 (passed_head true d.there.text) (b ∷ rest)) (with_one o true d.there.text b) (l ∷ ls)
  unfolding written_lines name_lines
  bic_heading z i s l ls d h e b rest q =
      let x = d.there.text in
      let r : (with_bic 2 (passed_head true x) ls).reply ≡ accepted = bic_of_lem o 2 (passed_head true x) ls z (ap (λ (f : Found). f.reply) (sym d.found) ∙ e) in
      let a : parse_bic 2 b ≡ accepted = subst (λ (w : List (List ℕ)). (with_bic 2 (passed_head true x) w).reply ≡ accepted) q r in
      let k : All Line (b ∷ rest) = subst (All Line) q h.1 in
      record {
        reply = a;
        fits = record { account = text_short o x d.there.passes; bic = omega (arith, bic_most_lem 2 b a); names = tt; few = omega arith; digits = refl };
        facts = record {
          presence = i;
          account = account_there o x (slash_line o x l d.there.is h.0) d.there.passes;
          bic = bic_there 2 b k.0 a;
          names = no_names o z;
          free = refl;
        };
        some = omega arith;
        lines = to_bic o rest z (ap (λ (w : List ℕ). w ∷ ls) (sym (slash_is x l s d.there.is)) ∙ ap (◌∷◌ (slash_of o ++ x)) q);
      }

  bic_headless : (z : (limits_of o).max_names ≡ 0) → is_presence o false ≡ true → (l : List ℕ) (ls : List (List ℕ)) → All Line (l ∷ ls) → Headless o l ls → (by_lines o (l ∷ ls)).reply ≡ accepted
      → (is_taken (limits_of o).first [] ≡ false) → Good (with_bic 1 no_head (l ∷ ls)) (with_one o false [] l) (l ∷ ls)
  unfolding written_lines name_lines
  bic_headless z i l ls h d e t =
      let a : parse_bic 1 l ≡ accepted = bic_of_lem o 1 no_head (l ∷ ls) z (ap (λ (f : Found). f.reply) (sym d.found) ∙ e) in
      record {
        reply = a;
        fits = record { account = omega arith; bic = omega (arith, bic_most_lem 1 l a); names = tt; few = omega arith; digits = refl };
        facts = record { presence = i; account = account_none o; bic = bic_there 1 l h.0 a; names = no_names o z; free = t };
        some = omega arith;
        lines = to_bic o ls z refl;
      }

  names_heading : (z : (limits_of o).max_names ≡ 0 → ⊥) → is_presence o true ≡ true → slash_of o ≡ slash_by (limits_of o).first → (l : List ℕ) (ls : List (List ℕ)) (d : Heading o l ls)
      → All Line (l ∷ ls) → (by_lines o (l ∷ ls)).reply ≡ accepted
      → Good (with_names o 2 (passed_head true d.there.text) ls) (with_some o true (used_of d.there.text ∷ []) (map (kept (limits_of o).numbering) ls) (map (digit_of (limits_of o).numbering) ls)) (l ∷ ls)
  unfolding written_lines
  names_heading z i s l ls d h e =
      let x = d.there.text in
      let r : (after_head o 2 (passed_head true x) ls).reply ≡ accepted = ap (λ (f : Found). f.reply) (sym d.found) ∙ e in
      let p = names_of o 2 (passed_head true x) ls z r in
      record {
        reply = names_pass_lem o 2 ls p;
        fits = record { account = text_short o x d.there.passes; bic = omega arith; names = names_fit o ls h.1 p; few = names_few o ls h.1 p; digits = digits_fit o ls h.1 p };
        facts = record {
          presence = i;
          account = account_there o x (slash_line o x l d.there.is h.0) d.there.passes;
          bic = refl;
          names = names_there o ls h.1 p;
          free = refl;
        };
        some = omega arith;
        lines = all_lines o (ap (λ (w : List ℕ). w ∷ ls) (sym (slash_is x l s d.there.is)) ∙ ap (◌∷◌ (slash_of o ++ x)) (sym (written o ls h.1 p)));
      }

  names_headless : (z : (limits_of o).max_names ≡ 0 → ⊥) → is_presence o false ≡ true → (us : List Used) → every (is_account o false) us ≡ true → (l : List ℕ) (ls : List (List ℕ))
      → All Line (l ∷ ls) → Headless o l ls → (by_lines o (l ∷ ls)).reply ≡ accepted
      → (NamesPass o (l ∷ ls) → is_taken (limits_of o).first (map used_of (map (kept (limits_of o).numbering) (l ∷ ls))) ≡ false)
      → Good (with_names o 1 no_head (l ∷ ls)) (with_some o false us (map (kept (limits_of o).numbering) (l ∷ ls)) (map (digit_of (limits_of o).numbering) (l ∷ ls))) (l ∷ ls)
  unfolding written_lines
  names_headless z i us a l ls h d e t =
      let r : (after_head o 1 no_head (l ∷ ls)).reply ≡ accepted = ap (λ (f : Found). f.reply) (sym d.found) ∙ e in
      let p = names_of o 1 no_head (l ∷ ls) z r in
      record {
        reply = names_pass_lem o 1 (l ∷ ls) p;
        fits = record { account = omega arith; bic = omega arith; names = names_fit o (l ∷ ls) h p; few = names_few o (l ∷ ls) h p; digits = digits_fit o (l ∷ ls) h p };
        facts = record { presence = i; account = a; bic = refl; names = names_there o (l ∷ ls) h p; free = t p };
        some = omega (arith, ap length (written o (l ∷ ls) h p));
        lines = all_lines o (sym (written o (l ∷ ls) h p));
      }

-- ---- by the option
by_head : (o : PartyOption) (l : List ℕ) (ls : List (List ℕ)) → all ascii l ≡ true → (by_lines o (l ∷ ls)).reply ≡ accepted → {C : Type 0}
    → (Heading o l ls → C) → (Headless o l ls → C) → C
by_head o l ls a e {C} f g = go (head_by (limits_of o).first o l).present refl
  where
    go : (t : Bool) → (head_by (limits_of o).first o l).present ≡ t → C
    go true p = f (heading o l ls e a p)
    go false p = g (headless o l ls e p)

-- the second line is there
second : (o : PartyOption) (h : Head) (ls : List (List ℕ)) {C : Type 0} → (limits_of o).max_names ≡ 0 → (after_head o 2 h ls).reply ≡ accepted
    → ((b : List ℕ) (rest : List (List ℕ)) → ls ≡ b ∷ rest → C) → C
second o h [] z e f = absurd (refused≢accepted (bic_of_lem o 2 h [] z e))
second o h (b ∷ rest) z e f = f b rest refl

abbrev pub GoodIn : PartyOption → List (List ℕ) → Found → Type 0
GoodIn o ls f = Good f (found_content o f) ls

named_not : (o : PartyOption) (l : List ℕ) (ls : List (List ℕ)) → (limits_of o).first ≡ NoAccount → Heading o l ls → ⊥
named_not o l ls n d =
    let t : There NoAccount o l = subst (λ (w : First). There w o l) n d.there in
    true≢false (sym (ap (λ (h : Head). h.present) t.head))

-- a first name of 59 is short enough to be taken for an account
short_name : (l : List ℕ) (ls : List (List ℕ)) → NamesPass Field59NoOption (l ∷ ls) → length (drop 1 l) ≤ 34
short_name l ls p = omega (arith, p.each.0.long, length-drop 1 l)

module _ (l : List ℕ) (ls : List (List ℕ)) (h : All Line (l ∷ ls)) where
  bic_there_good : (o : PartyOption) (z : (limits_of o).max_names ≡ 0) → is_presence o true ≡ true → slash_of o ≡ slash_by (limits_of o).first
      → ((r : Reply) (x b : List ℕ) → found_content o (record { reply = r; present = true; account = x; bic = b; names = []; digits = [] }) ≡ with_one o true x b)
      → (by_lines o (l ∷ ls)).reply ≡ accepted → Heading o l ls → GoodIn o (l ∷ ls) (by_lines o (l ∷ ls))
  bic_there_good o z i s same e d =
      let x = d.there.text in
      let q : by_lines o (l ∷ ls) ≡ with_bic 2 (passed_head true x) ls = d.found ∙ rest_bic o refl 2 (passed_head true x) ls z in
      second o (passed_head true x) ls z (ap (λ (f : Found). f.reply) (sym d.found) ∙ e)
      (λ b rest r.
      subst (GoodIn o (l ∷ ls)) (sym (q ∙ ap (with_bic 2 (passed_head true x)) r))
      (subst (λ (w : Content). Good (with_bic 2 (passed_head true x) (b ∷ rest)) w (l ∷ ls)) (sym (same (parse_bic 2 b) x b)) (bic_heading o z i s l ls d h e b rest r)))

  bic_none_good : (o : PartyOption) (z : (limits_of o).max_names ≡ 0) → is_presence o false ≡ true → is_taken (limits_of o).first [] ≡ false
      → ((r : Reply) (b : List ℕ) → found_content o (record { reply = r; present = false; account = []; bic = b; names = []; digits = [] }) ≡ with_one o false [] b)
      → (by_lines o (l ∷ ls)).reply ≡ accepted → Headless o l ls → GoodIn o (l ∷ ls) (by_lines o (l ∷ ls))
  bic_none_good o z i t same e d =
      let q : by_lines o (l ∷ ls) ≡ with_bic 1 no_head (l ∷ ls) = d.found ∙ rest_bic o refl 1 no_head (l ∷ ls) z in
      subst (GoodIn o (l ∷ ls)) (sym q)
      (subst (λ (w : Content). Good (with_bic 1 no_head (l ∷ ls)) w (l ∷ ls)) (sym (same (parse_bic 1 l) l)) (bic_headless o z i l ls h d e t))

  names_there_good : (o : PartyOption) (z : (limits_of o).max_names ≡ 0 → ⊥) → is_presence o true ≡ true → slash_of o ≡ slash_by (limits_of o).first
      → ((r : Reply) (x : List ℕ) (ns : List (List ℕ)) (ds : List ℕ) → found_content o (record { reply = r; present = true; account = x; bic = []; names = ns; digits = ds }) ≡ with_some o true (used_of x ∷ []) ns ds)
      → (by_lines o (l ∷ ls)).reply ≡ accepted → Heading o l ls → GoodIn o (l ∷ ls) (by_lines o (l ∷ ls))
  names_there_good o z i s same e d =
      let x = d.there.text in
      let q : by_lines o (l ∷ ls) ≡ with_names o 2 (passed_head true x) ls = d.found ∙ rest_names o refl 2 (passed_head true x) ls z in
      subst (GoodIn o (l ∷ ls)) (sym q)
      (subst (λ (w : Content). Good (with_names o 2 (passed_head true x) ls) w (l ∷ ls)) (sym (same (parse_name_and_address o 2 ls) x (map (kept (limits_of o).numbering) ls) (map (digit_of (limits_of o).numbering) ls)))
      (names_heading o z i s l ls d h e))

  names_none_good : (o : PartyOption) (z : (limits_of o).max_names ≡ 0 → ⊥) → is_presence o false ≡ true → (us : List Used) → every (is_account o false) us ≡ true
      → ((r : Reply) (ns : List (List ℕ)) (ds : List ℕ) → found_content o (record { reply = r; present = false; account = []; bic = []; names = ns; digits = ds }) ≡ with_some o false us ns ds)
      → (None (limits_of o).first o l → NamesPass o (l ∷ ls) → is_taken (limits_of o).first (map used_of (map (kept (limits_of o).numbering) (l ∷ ls))) ≡ false)
      → (by_lines o (l ∷ ls)).reply ≡ accepted → Headless o l ls → GoodIn o (l ∷ ls) (by_lines o (l ∷ ls))
  names_none_good o z i us a same t e d =
      let q : by_lines o (l ∷ ls) ≡ with_names o 1 no_head (l ∷ ls) = d.found ∙ rest_names o refl 1 no_head (l ∷ ls) z in
      subst (GoodIn o (l ∷ ls)) (sym q)
      (subst (λ (w : Content). Good (with_names o 1 no_head (l ∷ ls)) w (l ∷ ls)) (sym (same (parse_name_and_address o 1 (l ∷ ls)) (map (kept (limits_of o).numbering) (l ∷ ls)) (map (digit_of (limits_of o).numbering) (l ∷ ls))))
      (names_headless o z i us a l ls h d e (t d.none)))

  -- the options whose bodies are lines
  abbrev Lined : Layout → PartyOption → Type 0
  Lined BicOnly o = Unit {0}
  Lined TextOnly o = Unit {0}
  Lined ByLines o = all ascii l ≡ true → (by_lines o (l ∷ ls)).reply ≡ accepted → GoodIn o (l ∷ ls) (by_lines o (l ∷ ls))

  pub lines_good : (o : PartyOption) → Lined (limits_of o).layout o
  lines_good =
      by_option (λ (o : PartyOption). Lined (limits_of o).layout o)
      (λ a e. by_head Field50NoOption l ls a e (λ d. absurd (named_not Field50NoOption l ls refl d)) (names_none_good Field50NoOption (λ z. omega arith) refl [] refl (λ r ns ds. refl) (λ n p. refl) e))
      (λ a e. by_head Field50A l ls a e (bic_there_good Field50A refl refl refl (λ r x b. refl) e) (bic_none_good Field50A refl refl refl (λ r b. refl) e))
      (λ a e. by_head Field50F l ls a e (names_there_good Field50F (λ z. omega arith) refl refl (λ r x ns ds. refl) e) (λ d. absurd d.none.free))
      (λ a e. by_head Field50K l ls a e (names_there_good Field50K (λ z. omega arith) refl refl (λ r x ns ds. refl) e) (names_none_good Field50K (λ z. omega arith) refl (used_of [] ∷ []) (account_none Field50K) (λ r ns ds. refl) (λ n p. n.free) e))
      tt tt (λ a e. by_head Field50G l ls a e (bic_there_good Field50G refl refl refl (λ r x b. refl) e) (λ d. absurd d.none.free))
      (λ a e. by_head Field50H l ls a e (names_there_good Field50H (λ z. omega arith) refl refl (λ r x ns ds. refl) e) (λ d. absurd d.none.free))
      (λ a e. by_head Field59NoOption l ls a e (names_there_good Field59NoOption (λ z. omega arith) refl refl (λ r x ns ds. refl) e) (names_none_good Field59NoOption (λ z. omega arith) refl (used_of [] ∷ []) (account_none Field59NoOption) (λ r ns ds. refl) (λ n p. n.free (short_name l ls p)) e))
      (λ a e. by_head Field59A l ls a e (bic_there_good Field59A refl refl refl (λ r x b. refl) e) (bic_none_good Field59A refl refl refl (λ r b. refl) e))
      (λ a e. by_head Field59F l ls a e (names_there_good Field59F (λ z. omega arith) refl refl (λ r x ns ds. refl) e) (names_none_good Field59F (λ z. omega arith) refl (used_of [] ∷ []) (account_none Field59F) (λ r ns ds. refl) (λ n p. refl) e))

-- ---- bodies that are a BIC, or a text
all_free : (f : ℕ → Bool) (x : List ℕ) → f 10 ≡ false → all f x ≡ true → Line x
all_free f [] h e = refl
all_free f (b ∷ x) h e =
    none_more b x (ne_eqb b 10 (λ q. true≢false (sym (both_left (f b) (all f x) e) ∙ ap f q ∙ h))) (all_free f x h (both_right (f b) (all f x) e))

pub letters_free : (n : ℕ) (x : List ℕ) → parse_bic n x ≡ accepted → Line x
unfolding parse_bic letter digit alphanumeric
letters_free n x e =
    let later = then_second (must (bic_length (length x)) 9 n) _ e in
    line_split 6 x (all_free letter (take 6 x) refl (must_held _ 10 n (then_first _ _ later)))
    (all_free alphanumeric (drop 6 x) refl (must_held _ 10 n (then_second (must (all letter (take 6 x)) 10 n) _ later)))
  where
    line_split : (k : ℕ) (l : List ℕ) → Line (take k l) → Line (drop k l) → Line l
    line_split zero l a b = b
    line_split (suc k) [] a b = refl
    line_split (suc k) (c ∷ l) a b = none_more c l (first_not c (take k l) a) (line_split k l (rest_not c (take k l) a) b)

-- so the test for an LF adds nothing
pub bic_line_lem : (n : ℕ) (x : List ℕ) → (not (among x 10) && passes (parse_bic n x)) ≡ passes (parse_bic n x)
bic_line_lem n x = go (parse_bic n x) refl
  where
    go : (r : Reply) → parse_bic n x ≡ r → (not (among x 10) && passes r) ≡ passes r
    go accepted e = rw (letters_free n x e)
    go (refused k m) e = and-false (not (among x 10))

bic_only_good : (body : List ℕ) → (bic_only body).reply ≡ accepted → GoodIn Field50C (body ∷ []) (bic_only body)
unfolding written_lines name_lines
bic_only_good body e =
    record {
      reply = e;
      fits = record { account = omega arith; bic = omega (arith, bic_most_lem 1 body e); names = tt; few = omega arith; digits = refl };
      facts = record { presence = refl; account = refl; bic = bic_there 1 body (letters_free 1 body e) e; names = no_names Field50C refl; free = refl };
      some = omega arith;
      lines = all_lines Field50C refl;
    }

text_only_good : (body : List ℕ) → (text_only Field50L body).reply ≡ accepted → GoodIn Field50L (body ∷ []) (text_only Field50L body)
unfolding written_lines name_lines
text_only_good body e =
    let line : Line body = not-true _ (must_held (not (among body 10)) 1 0 (then_first _ _ e)) in
    let a : account_reply Field50L body ≡ accepted = then_second (must (not (among body 10)) 1 0) _ e in
    record {
      reply = e;
      fits = record { account = text_short Field50L body a; bic = omega arith; names = tt; few = omega arith; digits = refl };
      facts = record { presence = refl; account = account_there Field50L body line a; bic = refl; names = no_names Field50L refl; free = refl };
      some = omega arith;
      lines = all_lines Field50L refl;
    }

-- ---- any body
abbrev Goal : Layout → PartyOption → List ℕ → Type 0
Goal layout o body = (found_by layout o body).reply ≡ accepted → GoodIn o (read_lines layout body) (found_by layout o body)

by_lines_good : (o : PartyOption) (ls : List (List ℕ))
    → ((l : List ℕ) (rest : List (List ℕ)) → All Line (l ∷ rest) → all ascii l ≡ true → (by_lines o (l ∷ rest)).reply ≡ accepted → GoodIn o (l ∷ rest) (by_lines o (l ∷ rest)))
    → All Line ls → All (λ (l : List ℕ). all ascii l ≡ true) ls → (by_lines o ls).reply ≡ accepted → GoodIn o ls (by_lines o ls)
by_lines_good o [] f h a e = absurd (refused≢accepted e)
by_lines_good o (l ∷ ls) f h a e = f l ls h a.0 e

pub found_good : (o : PartyOption) (body : List ℕ) → all ascii body ≡ true → Goal (limits_of o).layout o body
found_good Field50NoOption body a = by_lines_good Field50NoOption (lines body) (λ l ls h. lines_good l ls h Field50NoOption) (lines_are body) (lines_all ascii body a)
found_good Field50A body a = by_lines_good Field50A (lines body) (λ l ls h. lines_good l ls h Field50A) (lines_are body) (lines_all ascii body a)
found_good Field50F body a = by_lines_good Field50F (lines body) (λ l ls h. lines_good l ls h Field50F) (lines_are body) (lines_all ascii body a)
found_good Field50K body a = by_lines_good Field50K (lines body) (λ l ls h. lines_good l ls h Field50K) (lines_are body) (lines_all ascii body a)
found_good Field50C body a = bic_only_good body
found_good Field50L body a = text_only_good body
found_good Field50G body a = by_lines_good Field50G (lines body) (λ l ls h. lines_good l ls h Field50G) (lines_are body) (lines_all ascii body a)
found_good Field50H body a = by_lines_good Field50H (lines body) (λ l ls h. lines_good l ls h Field50H) (lines_are body) (lines_all ascii body a)
found_good Field59NoOption body a = by_lines_good Field59NoOption (lines body) (λ l ls h. lines_good l ls h Field59NoOption) (lines_are body) (lines_all ascii body a)
found_good Field59A body a = by_lines_good Field59A (lines body) (λ l ls h. lines_good l ls h Field59A) (lines_are body) (lines_all ascii body a)
found_good Field59F body a = by_lines_good Field59F (lines body) (λ l ls h. lines_good l ls h Field59F) (lines_are body) (lines_all ascii body a)
