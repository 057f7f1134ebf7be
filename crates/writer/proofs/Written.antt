-- The written lines of a record that passes the test for 22 are read as what it says. Assumes nothing.
use mathlib.Core.Path.{◌≡◌, refl, sym, ◌∙◌, ap, subst}
use mathlib.Core.Bool.{Bool, true, false, false≢true, true≢false}
use mathlib.Core.List.{List, [], ◌∷◌, ◌++◌, map, head-eq_of_cons-eq}
use Prim.Native.Nat.{ℕ, suc, ◌≤◌}
use native.Mathlib.Omega.{arith}
use lib.Dec.{leb, eqb}
use lib.ListN.{length, take, drop, get_or}
use borrow.Author.Tests.{le-leb, ne_eqb}
use Rattle.errors.specs.Refusals.{accepted, must}
use Rattle.errors.proofs.Replies.{must_held, then_first, then_second, must_passes, then_passes}
use Rattle.party.specs.declared.PartyOption.{PartyOption}
use Rattle.party.specs.declared.PartyOption.TheVariants.{Field50NoOption, Field50A, Field50F, Field50K, Field50C, Field50L, Field50G, Field50H, Field59NoOption, Field59A, Field59F}
use Rattle.party.specs.Limits.{limits_of}
use Rattle.party.specs.Text.{Used}
use Rattle.party.specs.Party.{Content}
use Rattle.party.specs.declared.Numbering.TheVariants.{Unnumbered}
use Rattle.party.specs.declared.First.TheVariants.{Identified, Account, ShortAccount}
use Rattle.party.specs.declared.Layout.{Layout}
use Rattle.party.specs.declared.Layout.TheVariants.{BicOnly, TextOnly, ByLines}
use Rattle.swift_utils.specs.Bytes.{all, among, between, letter, digit, alphanumeric}
use Rattle.swift_utils.specs.Checks.{bic_length, parse_bic}
use Rattle.field_utils.specs.Lines.{starts}
use Rattle.field_utils.specs.Identifier.{is_numbered}
use Rattle.field_utils.specs.Names.{digit_of}
use Rattle.field_utils.proofs.Tests.{both_left, both}
use Rattle.reader.specs.Reading.{Found}
use Rattle.reader.specs.Options.{is_counted, no_head, head_by, account_reply, by_lines, bic_only, text_only}
use Rattle.reader.specs.Code.{passed_head}
use Rattle.reader.proofs.Bodies.{head_there, head_none}
use Rattle.reader.proofs.LineCounts.{counts_open}
use Rattle.reader.proofs.Readings.{rest_bic, rest_names, text_line}
use Rattle.writer.specs.Writing.{number_of, name_lines, written_lines, joined}
use Rattle.writer.specs.Given.{every, is_account, is_bic, are_names, is_taken}
use Rattle.writer.proofs.Contents.{content_with, bytes_of, line_free}
use Rattle.writer.proofs.NamePasses.{NamesPass, names_pass_lem, written_length_lem, kept_written}
use Rattle.writer.proofs.HeadPasses.{slash_by, Heads, Free, head_made, none_made}
use Rattle.writer.proofs.Facts.{Facts, names_are, account_line, account_passes, bic_passes, small}

-- what is found in them
abbrev pub first_bytes : List Used → List ℕ
first_bytes [] = []
first_bytes (u ∷ us) = u.bytes

abbrev pub account_bytes : Bool → List Used → List ℕ
account_bytes true us = first_bytes us
account_bytes false us = []

abbrev pub found_of : Content → Found
found_of s = record {
  reply = accepted;
  present = s.present;
  account = account_bytes s.present s.account;
  bic = first_bytes s.bic;
  names = map bytes_of s.names;
  digits = map (digit_of (limits_of s.option).numbering) (name_lines (limits_of s.option).numbering s.digits s.names);
}

-- ---- BICs
pub bic_any : (m n : ℕ) (x : List ℕ) → parse_bic m x ≡ accepted → parse_bic n x ≡ accepted
unfolding parse_bic
bic_any m n x e =
    let later = then_second (must (bic_length (length x)) 9 m) _ e in
    then_passes _ _ (must_passes (bic_length (length x)) 9 n (must_held _ 9 m (then_first _ _ e)))
    (then_passes _ _ (must_passes (all letter (take 6 x)) 10 n (must_held _ 10 m (then_first _ _ later)))
    (must_passes (all alphanumeric (drop 6 x)) 10 n (must_held _ 10 m (then_second (must (all letter (take 6 x)) 10 m) _ later))))

letter_least : (b : ℕ) → letter b ≡ true → eqb b 47 ≡ false
unfolding letter
letter_least b e = ne_eqb b 47 (λ f. true≢false (sym e ∙ ap letter f))

bic_free : (n : ℕ) (x : List ℕ) → parse_bic n x ≡ accepted → starts 47 x ≡ false
unfolding parse_bic starts
bic_free n [] e = refl
bic_free n (b ∷ x) e =
    let later = then_second (must (bic_length (length (b ∷ x))) 9 n) _ e in
    letter_least b (both_left (letter b) (all letter (take 5 x)) (must_held _ 10 n (then_first _ _ later)))

-- ---- numbered lines
digit_least : (b : ℕ) → digit b ≡ true → eqb b 47 ≡ false
unfolding digit
digit_least b e = ne_eqb b 47 (λ f. true≢false (sym e ∙ ap digit f))

numbered_free : (l : List ℕ) → is_numbered l ≡ true → starts 47 l ≡ false
unfolding is_numbered starts
numbered_free [] e = refl
numbered_free (d ∷ []) e = absurd (false≢true e)
numbered_free (d ∷ s ∷ l) e = digit_least d (both_left (digit d) (eqb s 47) e)

-- ---- the first line and the others, with a BIC and with names
module _ (o : PartyOption) where
  abbrev Counted : ℕ → Type 0
  Counted n = is_counted o n ≡ true

  bic_there : (limits_of o).max_names ≡ 0 → (l x : List ℕ) (v : Used) → head_by (limits_of o).first o l ≡ passed_head true x → Counted 2 → is_bic v ≡ true
      → by_lines o (l ∷ v.bytes ∷ []) ≡ record { reply = accepted; present = true; account = x; bic = v.bytes; names = []; digits = [] }
  bic_there z l x v e c b =
      head_there o l (v.bytes ∷ []) (sym e) c refl refl refl ∙ rest_bic o refl 2 (passed_head true x) (v.bytes ∷ []) z
      ∙ rw (bic_any 1 2 v.bytes (bic_passes v b))

  bic_none : (limits_of o).max_names ≡ 0 → (v : Used) → head_by (limits_of o).first o v.bytes ≡ no_head → Counted 1 → is_bic v ≡ true
      → by_lines o (v.bytes ∷ []) ≡ record { reply = accepted; present = false; account = []; bic = v.bytes; names = []; digits = [] }
  bic_none z v e c b =
      head_none o v.bytes [] (sym e) c refl refl refl ∙ rest_bic o refl 1 no_head (v.bytes ∷ []) z ∙ rw (bic_passes v b)

  named : Bool → List ℕ → List ℕ → List Used → Found
  named present x ds us = record {
    reply = accepted;
    present = present;
    account = x;
    bic = [];
    names = map bytes_of us;
    digits = map (digit_of (limits_of o).numbering) (name_lines (limits_of o).numbering ds us);
  }

  names_there : ((limits_of o).max_names ≡ 0 → ⊥) → (l x ds : List ℕ) (us : List Used) → head_by (limits_of o).first o l ≡ passed_head true x → Counted (suc (length us))
      → NamesPass o (name_lines (limits_of o).numbering ds us) → by_lines o (l ∷ name_lines (limits_of o).numbering ds us) ≡ named true x ds us
  unfolding named
  names_there z l x ds us e c p =
      let ls = name_lines (limits_of o).numbering ds us in
      head_there o l ls (sym e) (rw (written_length_lem (limits_of o).numbering ds us) c) refl refl refl
      ∙ rest_names o refl 2 (passed_head true x) ls z
      ∙ rw (names_pass_lem o 2 ls p, kept_written (limits_of o).numbering ds us)

  names_none : ((limits_of o).max_names ≡ 0 → ⊥) → (ds : List ℕ) (u : Used) (us : List Used) → Counted (suc (length us))
      → ((l : List ℕ) (ls : List (List ℕ)) → name_lines (limits_of o).numbering ds (u ∷ us) ≡ l ∷ ls → head_by (limits_of o).first o l ≡ no_head)
      → NamesPass o (name_lines (limits_of o).numbering ds (u ∷ us)) → by_lines o (name_lines (limits_of o).numbering ds (u ∷ us)) ≡ named false [] ds (u ∷ us)
  unfolding named name_lines
  names_none z ds u us c e p =
      let l = number_of (limits_of o).numbering (get_or ds 0 0) ++ u.bytes in
      let ls = name_lines (limits_of o).numbering (drop 1 ds) us in
      head_none o l ls (sym (e l ls refl)) (rw (written_length_lem (limits_of o).numbering (drop 1 ds) us) c) refl refl refl
      ∙ rest_names o refl 1 no_head (l ∷ ls) z
      ∙ rw (names_pass_lem o 1 (l ∷ ls) p, kept_written (limits_of o).numbering ds (u ∷ us))

  -- with names, by the test of them
  module _ (z : (limits_of o).max_names ≡ 0 → ⊥) (count : ℕ) (ds : List ℕ) (us : List Used) (h : are_names o count ds us ≡ true) where
    abbrev written : List (List ℕ)
    written = name_lines (limits_of o).numbering ds us

    pass : NamesPass o written
    pass = (names_are o count ds us h).pass (ne_eqb _ _ z)

    few : (1 ≤ length us) × (length us ≤ 4)
    few =
        let n = written_length_lem (limits_of o).numbering ds us in
        (omega (arith, pass.least, n), omega (arith, pass.most, n, (small o).names))

    true_names : (l x : List ℕ) → head_by (limits_of o).first o l ≡ passed_head true x → ((n : ℕ) → 1 ≤ n → n ≤ 4 → Counted (suc n)) → by_lines o (l ∷ written) ≡ named true x ds us
    true_names l x e c = names_there z l x ds us e (c (length us) few.0 few.1) pass

  false_names : ((limits_of o).max_names ≡ 0 → ⊥) → (count : ℕ) (ds : List ℕ) (us : List Used) → are_names o count ds us ≡ true → ((n : ℕ) → 1 ≤ n → n ≤ 4 → Counted n)
      → ((l : List ℕ) (ls : List (List ℕ)) → name_lines (limits_of o).numbering ds us ≡ l ∷ ls → NamesPass o (l ∷ ls) → Free (limits_of o).first o l)
      → by_lines o (name_lines (limits_of o).numbering ds us) ≡ named false [] ds us
  unfolding name_lines
  false_names z count ds [] h c free = absurd (omega (arith, (few z count ds [] h).0))
  false_names z count ds (u ∷ us) h c free =
      let n = few z count ds (u ∷ us) h in
      names_none z ds u us (c (suc (length us)) n.0 n.1)
      (λ l ls e. none_made (limits_of o).first o l (free l ls e (subst (NamesPass o) e (pass z count ds (u ∷ us) h)))) (pass z count ds (u ∷ us) h)

within : (low high n : ℕ) → low ≤ n → n ≤ high → between low high n ≡ true
within low high n h k = both (leb low n) (leb n high) (le-leb low n h) (le-leb n high k)

-- a first name that is not taken for an account
untaken : (ds : List ℕ) (us : List Used) (l : List ℕ) (ls : List (List ℕ)) → is_taken Account us ≡ false → name_lines Unnumbered ds us ≡ l ∷ ls → starts 47 l ≡ false
unfolding name_lines
untaken ds [] l ls h e = absurd (omega (arith, ap length e))
untaken ds (u ∷ us) l ls h e = ap (starts 47) (sym (head-eq_of_cons-eq e)) ∙ h

untaken_short : (us : List Used) → is_taken ShortAccount us ≡ false → is_taken Account us ≡ false
untaken_short [] h = refl
untaken_short (u ∷ us) h = h

-- the reading of the lines of a record, by the layout of its option
abbrev pub Reads : Layout → PartyOption → Content → Type 0
Reads BicOnly o s = bic_only (joined (written_lines s)) ≡ found_of s
Reads TextOnly o s = text_only o (joined (written_lines s)) ≡ found_of s
Reads ByLines o s = by_lines o (written_lines s) ≡ found_of s

one : (f : Used → Bool) (u : Used) → every f (u ∷ []) ≡ true → f u ≡ true
one f u e = both_left (f u) true e

module _ (count : ℕ) (u v : Used) (us : List Used) (ds : List ℕ) where
  abbrev S : PartyOption → Bool → Content
  S o present = content_with o present count u v us ds

  abbrev Goal : PartyOption → Bool → Type 0
  Goal o present = Facts (S o present) → Reads (limits_of o).layout o (S o present)

  head_in : (o : PartyOption) → Heads (limits_of o).first → every (is_account o true) (u ∷ []) ≡ true → head_by (limits_of o).first o (slash_by (limits_of o).first ++ u.bytes) ≡ passed_head true u.bytes
  head_in o n h = head_made (limits_of o).first o u.bytes n (account_passes o u (one (is_account o true) u h))

  free_bic : every is_bic (v ∷ []) ≡ true → starts 47 v.bytes ≡ false
  free_bic h = bic_free 1 v.bytes (bic_passes v (one is_bic v h))

  text_found : every (is_account Field50L true) (u ∷ []) ≡ true → text_only Field50L u.bytes ≡ record { reply = accepted; present = true; account = u.bytes; bic = []; names = []; digits = [] }
  text_found h =
      let line : among u.bytes 10 ≡ false = line_free u (account_line Field50L true u (one (is_account Field50L true) u h)) in
      let passes : account_reply Field50L u.bytes ≡ accepted = account_passes Field50L u (one (is_account Field50L true) u h) in
      λ i. record { reply = (text_line Field50L u.bytes line ∙ passes) i; present = true; account = u.bytes; bic = []; names = []; digits = [] }

  pub written_found : (o : PartyOption) (present : Bool) → Goal o present
  unfolding written_lines name_lines named joined
  written_found Field50NoOption true h = absurd (false≢true h.presence)
  written_found Field50NoOption false h = false_names Field50NoOption (λ z. omega arith) count _ us h.names (λ n a b. within 1 4 n a b) (λ l ls e p. tt)
  written_found Field50A true h = bic_there Field50A refl _ u.bytes v (head_in Field50A tt h.account) refl (one is_bic v h.bic)
  written_found Field50A false h = bic_none Field50A refl v (none_made Identified Field50A v.bytes (free_bic h.bic)) refl (one is_bic v h.bic)
  written_found Field50F true h = true_names Field50F (λ z. omega arith) count _ us h.names _ u.bytes (head_in Field50F tt h.account) (λ n a b. counts_open Field50F refl (suc n) (omega arith) refl)
  written_found Field50F false h = absurd (false≢true h.presence)
  written_found Field50K true h = true_names Field50K (λ z. omega arith) count _ us h.names _ u.bytes (head_in Field50K tt h.account) (λ n a b. counts_open Field50K refl (suc n) (omega arith) refl)
  written_found Field50K false h = false_names Field50K (λ z. omega arith) count _ us h.names (λ n a b. counts_open Field50K refl n a refl) (λ l ls e p. untaken _ us l ls h.free e)
  written_found Field50C true h = absurd (false≢true h.presence)
  written_found Field50C false h = rw (bic_passes v (one is_bic v h.bic))
  written_found Field50L true h = text_found h.account
  written_found Field50L false h = absurd (false≢true h.presence)
  written_found Field50G true h = bic_there Field50G refl _ u.bytes v (head_in Field50G tt h.account) refl (one is_bic v h.bic)
  written_found Field50G false h = absurd (false≢true h.presence)
  written_found Field50H true h = true_names Field50H (λ z. omega arith) count _ us h.names _ u.bytes (head_in Field50H tt h.account) (λ n a b. counts_open Field50H refl (suc n) (omega arith) refl)
  written_found Field50H false h = absurd (false≢true h.presence)
  written_found Field59NoOption true h = true_names Field59NoOption (λ z. omega arith) count _ us h.names _ u.bytes (head_in Field59NoOption tt h.account) (λ n a b. counts_open Field59NoOption refl (suc n) (omega arith) refl)
  written_found Field59NoOption false h = false_names Field59NoOption (λ z. omega arith) count _ us h.names (λ n a b. counts_open Field59NoOption refl n a refl) (λ l ls e p k. untaken _ us l ls (untaken_short us h.free) e)
  written_found Field59A true h = bic_there Field59A refl _ u.bytes v (head_in Field59A tt h.account) refl (one is_bic v h.bic)
  written_found Field59A false h = bic_none Field59A refl v (none_made ShortAccount Field59A v.bytes (λ k. free_bic h.bic)) refl (one is_bic v h.bic)
  written_found Field59F true h = true_names Field59F (λ z. omega arith) count _ us h.names _ u.bytes (head_in Field59F tt h.account) (λ n a b. counts_open Field59F refl (suc n) (omega arith) refl)
  written_found Field59F false h = false_names Field59F (λ z. omega arith) count _ us h.names (λ n a b. counts_open Field59F refl n a refl) (λ l ls e p. numbered_free l (both_left _ _ p.each.0.number))
