-- The Rust writes of a record that a reader can give what ours writes with the digits 1, 2, 3, 4, with one LF more in 59F with an identifier.
-- Assumes nothing.
use mathlib.Core.Path.{◌≡◌, refl, sym, ◌∙◌, ap, subst}
use mathlib.Core.Bool.{Bool, true, false, ◌&&◌, ◌||◌, false≢true, true≢false, or-true}
use mathlib.Core.List.{List, [], ◌∷◌, ◌++◌, map, append_assoc, append-nil}
use Prim.Native.Nat.{ℕ, zero, suc, ◌+◌, ◌≤◌}
use native.Mathlib.Omega.{arith}
use lib.Dec.{ltb, eqb}
use lib.ListN.{length, take, drop, length-append, length-map, length-take}
use lib.Seq.{length-take-le}
use borrow.Author.Tests.{lt-ltb}
use Rattle.errors.specs.Refusals.{accepted}
use Rattle.party.specs.declared.PartyOption.{PartyOption}
use Rattle.party.specs.declared.PartyOption.TheVariants.{Field50NoOption, Field50A, Field50F, Field50K, Field50C, Field50L, Field50G, Field50H, Field59NoOption, Field59A, Field59F}
use Rattle.party.specs.declared.Party.{Party}
use Rattle.party.specs.Limits.{limits_of, place_of}
use Rattle.party.specs.Text.{four, Used, used}
use Rattle.party.specs.Party.{names_of, where_numbered, content, Content}
use Rattle.party.specs.declared.Numbering.{Numbering}
use Rattle.party.specs.declared.Numbering.TheVariants.{Unnumbered, Numbered, InTurn}
use Rattle.party.proofs.Options.{by_option}
use Rattle.swift_utils.specs.Bytes.{bytes, all, digit}
use Rattle.field_utils.specs.Tags.{tag_of}
use Rattle.field_utils.specs.Identifier.{is_numbered}
use Rattle.field_utils.specs.Names.{digit_of}
use Rattle.field_utils.proofs.Tests.{both_left, both_right, first_not, rest_not, Line}
use Rattle.reader.specs.Reading.{party_of}
use Rattle.writer.specs.Writing.{number_of, name_lines, written_lines, joined, written_body, written_field, identified59_f}
use Rattle.writer.specs.Given.{Given, is_account, is_presence, are_names, is_given}
use Rattle.writer.proofs.Contents.{content_with, bytes_of, content_party, line_free}
use Rattle.writer.proofs.NamePasses.{AllPass, written_length_lem, digits_back}
use Rattle.writer.proofs.Facts.{Facts, is_given_lem, names_are, are_names_lem, account_line, small}
use Rattle.writer.proofs.Written.{found_of}
use Rattle.writer.proofs.Witness.{found_content_back, fitting}
use Rattle.writer.proofs.Sufficient.{given_facts, sufficient}
use Rattle.writer.proofs.Theorems.{necessary}
use Rattle.swift_mt_message.specs.Std.{Str, join, digits}
use Rattle.swift_mt_message.specs.Field50 as rust50
use Rattle.swift_mt_message.specs.Field59 as rust59
use Rattle.swift_mt_message.specs.Structs.{to_swift_string}
use Rattle.swift_mt_message.specs.Equal.{one_to_four, record_of, renumbered_by, renumbered}
use Rattle.swift_mt_message.specs.Writing.{struct_of, struct_in, less_lf, less_empty, Agrees, Writes}
use Rattle.swift_mt_message.proofs.SwiftUtils.{rest}

-- ---- lines joined
join_is : (ls : List Str) → join ls ≡ joined ls
unfolding joined
join_is [] = refl
join_is (l ∷ []) = refl
join_is (l ∷ m ∷ ls) = ap (λ (x : Str). l ++ 10 ∷ x) (join_is (m ∷ ls))

-- names that are written as they are
names_whole : (f : Numbering) → ((d : ℕ) → number_of f d ≡ []) → (us : List Used) → map bytes_of us ≡ name_lines f [] us
unfolding name_lines
names_whole f e [] = refl
names_whole f e (u ∷ us) = rw (e 0) (ap (◌∷◌ u.bytes) (names_whole f e us))

-- 50F's, of which there are at most four
names_numbered : (us : List Used) → length us ≤ 4 → rust50.Field50F·numbered 0 (map bytes_of us) ≡ name_lines Numbered (take (length us) one_to_four) us
unfolding name_lines rust50.Field50F·numbered digits
names_numbered [] h = refl
names_numbered (a ∷ []) h = refl
names_numbered (a ∷ b ∷ []) h = refl
names_numbered (a ∷ b ∷ c ∷ []) h = refl
names_numbered (a ∷ b ∷ c ∷ d ∷ []) h = refl
names_numbered (a ∷ b ∷ c ∷ d ∷ e ∷ us) h = absurd (omega arith)

-- 59's and 59F's loop: a newline before each line, or before each but the first
all_parted : (f : ℕ → Bool) (i : ℕ) (l : Str) (ls : List Str) → ((k : ℕ) → i ≤ k → f k ≡ true) → rust59.written f i (l ∷ ls) ≡ 10 ∷ joined (l ∷ ls)
unfolding rust59.written joined
all_parted f i l [] h = rw (h i (omega arith), rust59.written) (ap (◌∷◌ 10) (append-nil l))
all_parted f i l (m ∷ ls) h =
    rw (h i (omega arith), rust59.written) (ap (λ (x : Str). 10 ∷ l ++ x) (all_parted f (i + 1) m ls (λ k g. h k (omega arith))))

then_parted : (f : ℕ → Bool) (l : Str) (ls : List Str) → f 0 ≡ false → ((k : ℕ) → 1 ≤ k → f k ≡ true) → rust59.written f 0 (l ∷ ls) ≡ joined (l ∷ ls)
unfolding rust59.written joined
then_parted f l [] z h = rw (z, rust59.written) (append-nil l)
then_parted f l (m ∷ ls) z h = rw (z, rust59.written) (ap (λ (x : Str). l ++ x) (all_parted f (0 + 1) m ls (λ k g. h k (omega arith))))

-- a line, and the empty line after it removed
empty_less : (x y : Str) → Line x → less_empty (x ++ 10 ∷ 10 ∷ y) ≡ x ++ 10 ∷ y
unfolding less_lf less_empty
empty_less [] y h = refl
empty_less (b ∷ x) y h = rw (first_not b x h, less_empty) (ap (◌∷◌ b) (empty_less x y (rest_not b x h)))

-- ---- how many names there are
module _ (o : PartyOption) (z : eqb (limits_of o).max_names 0 ≡ false) (count : ℕ) (ds : List ℕ) (us : List Used) (h : are_names o count ds us ≡ true) where
  few : length us ≤ 4
  few = omega (arith, ((names_are o count ds us h).pass z).most, written_length_lem (limits_of o).numbering ds us, (small o).names)

  some_names : 1 ≤ length us
  some_names = omega (arith, ((names_are o count ds us h).pass z).least, written_length_lem (limits_of o).numbering ds us)

-- ---- names that pass with their digits pass with 1, 2, 3, 4
digits_pass : (longest k : ℕ) (ds es : List ℕ) (us : List Used) → all digit es ≡ true → length us ≤ length es → AllPass Numbered longest k (name_lines Numbered ds us)
    → AllPass Numbered longest k (name_lines Numbered es us)
unfolding name_lines is_numbered
digits_pass longest k ds es [] a h p = tt
digits_pass longest k ds [] (u ∷ us) a h p = absurd (omega arith)
digits_pass longest k ds (e ∷ es) (u ∷ us) a h p = (
  record { number = rw (both_left (digit e) (all digit es) a); long = p.0.long; chars = p.0.chars },
  digits_pass longest (suc k) (drop 1 ds) es us (both_right (digit e) (all digit es) a) (omega arith) p.1,
)

module _ (count : ℕ) (ds : List ℕ) (us : List Used) where
  abbrev Passing : PartyOption → List ℕ → Type 0
  Passing o es = are_names o count (where_numbered (limits_of o).numbering es) us ≡ true

  pass_50F : Passing Field50F ds → Passing Field50F (take count one_to_four)
  unfolding digit
  pass_50F h =
      let es = take count one_to_four in
      let n = names_are Field50F count ds us h in
      let p = n.pass refl in
      let l : length es ≡ count = length-take-le count one_to_four (omega (arith, n.counted, few Field50F refl count ds us h)) in
      let w = written_length_lem Numbered ds us in
      let v = written_length_lem Numbered es us in
      are_names_lem Field50F count es us (record {
        counted = n.counted;
        lines = n.lines;
        pass = λ z. record {
          each = digits_pass 33 1 ds es us (both_left (all digit es) (all digit (drop count one_to_four)) (rest digit count one_to_four)) (omega (arith, n.counted)) p.each;
          least = omega (arith, p.least);
          most = omega (arith, p.most);
        };
      })

  passing : (o : PartyOption) → Passing o ds → Passing o (take count one_to_four)
  passing =
      by_option (λ o. Passing o ds → Passing o (take count one_to_four))
      (λ h. h) (λ h. h) pass_50F (λ h. h) (λ h. h) (λ h. h) (λ h. h) (λ h. h) (λ h. h) (λ h. h) (λ h. h)

-- ---- what a record says with those digits
set_digits : (n : ℕ) → take n (four 0 (take n one_to_four)) ≡ take n one_to_four
unfolding four
set_digits zero = refl
set_digits (suc zero) = refl
set_digits (suc (suc zero)) = refl
set_digits (suc (suc (suc zero))) = refl
set_digits (suc (suc (suc (suc n)))) = refl

module _ (p : Party) where
  abbrev with_digits : List ℕ → Content
  with_digits = content_with p.option p.present p.count (used p.account) (used p.bic) (names_of p.count p)

  says : content (renumbered p) ≡ with_digits (take p.count one_to_four)
  unfolding content
  says = go (limits_of p.option).numbering refl
    where
      go : (f : Numbering) → (limits_of p.option).numbering ≡ f → content (renumbered_by f p) ≡ with_digits (take p.count one_to_four)
      go Unnumbered e = rw (e, content)
      go Numbered e = ap with_digits (set_digits p.count)
      go InTurn e = rw (e, content)

-- the tests of the index
parted : (b : Bool) (k : ℕ) → 1 ≤ k → (ltb 0 k || b) ≡ true
parted b k h = rw (lt-ltb 0 k (omega arith))

parted_all : (k : ℕ) → (ltb 0 k || eqb k 0 && true) ≡ true
parted_all zero = refl
parted_all (suc k) = parted (eqb (suc k) 0 && true) (suc k) (omega arith)

-- ---- by the option, and by whether an account or identifier is there: it always is, it never is, or either
module _ (P : PartyOption → Bool → Type 0) (o : PartyOption) where
  always : eqb (limits_of o).account_min 0 ≡ false → P o true → (present : Bool) → is_presence o present ≡ true → P o present
  always z y true e = y
  always z y false e = absurd (false≢true (sym z ∙ e))

  never : ltb 0 (limits_of o).account_max ≡ false → P o false → (present : Bool) → is_presence o present ≡ true → P o present
  never z n true e = absurd (false≢true (sym z ∙ e))
  never z n false e = n

  either : P o true → P o false → (present : Bool) → is_presence o present ≡ true → P o present
  either y n true e = y
  either y n false e = n

module _ (count : ℕ) (u v : Used) where
  abbrev S : PartyOption → Bool → List Used → Content
  S o present us = content_with o present count u v us (take count one_to_four)

  abbrev Text : PartyOption → Bool → Type 0
  Text o present =
      (us : List Used) → Facts (S o present us) → to_swift_string o (struct_of o present u.bytes v.bytes (map bytes_of us)) ≡ written_field (S o present us)

  abbrev Agree : PartyOption → Bool → Type 0
  Agree o present =
      (us : List Used) → Facts (S o present us) → Agrees (S o present us) (to_swift_string o (struct_of o present u.bytes v.bytes (map bytes_of us)))

  -- names after other lines
  plain : (ls : List Str) (us : List Used) → join (ls ++ map bytes_of us) ≡ joined (ls ++ name_lines Unnumbered [] us)
  plain ls us = join_is (ls ++ map bytes_of us) ∙ ap (λ (ns : List Str). joined (ls ++ ns)) (names_whole Unnumbered (λ d. refl) us)

  text_59 : (present : Bool) → Text Field59NoOption present
  unfolding written_field written_body written_lines name_lines tag_of joined rust59.Field59NoOption·to_swift_string
  text_59 present [] h = absurd (omega (arith, some_names Field59NoOption refl count [] [] h.names))
  text_59 true (w ∷ us) h =
      ap (◌++◌ (bytes ":59:" ++ 47 ∷ u.bytes)) (all_parted _ 0 w.bytes (map bytes_of us) (λ k g. parted_all k) ∙ ap (λ (ls : List Str). 10 ∷ joined (w.bytes ∷ ls)) (names_whole Unnumbered (λ d. refl) us))
  text_59 false (w ∷ us) h =
      ap (◌++◌ (bytes ":59:")) (then_parted _ w.bytes (map bytes_of us) refl (λ k g. parted (eqb k 0 && false) k g) ∙ ap (λ (ls : List Str). joined (w.bytes ∷ ls)) (names_whole Unnumbered (λ d. refl) us))

  -- 59F: with an identifier the Rust's text has an empty line after it
  text_59F : Agree Field59F true
  unfolding written_field written_body written_lines name_lines tag_of joined identified59_f rust59.Field59F·to_swift_string
  text_59F [] h = absurd (omega (arith, some_names Field59F refl count [] [] h.names))
  text_59F (w ∷ us) h =
      let x = bytes ":59F:/" ++ u.bytes in
      let y = joined (w.bytes ∷ name_lines InTurn [] us) in
      let q : to_swift_string Field59F (struct_of Field59F true u.bytes v.bytes (map bytes_of (w ∷ us))) ≡ x ++ 10 ∷ 10 ∷ y =
      ap (λ (t : Str). bytes ":59F:/" ++ t) (append_assoc u.bytes (10 ∷ []) _)
      ∙ ap (λ (t : Str). x ++ 10 ∷ t)
      (all_parted _ 0 w.bytes (map bytes_of us) (λ k g. or-true (ltb 0 k)) ∙ ap (λ (ls : List Str). 10 ∷ joined (w.bytes ∷ ls)) (names_whole InTurn (λ d. refl) us)) in
      let line : Line x = line_free u (account_line Field59F true u (both_left (is_account Field59F true u) true h.account)) in
      record {
        equal = λ e. absurd (true≢false e);
        less = λ e. ap less_empty q ∙ empty_less x y line;
        longer = λ e. omega (arith, ap length q, length-append x (10 ∷ 10 ∷ y), length-append x (10 ∷ y));
      }

  bare_59F : Text Field59F false
  unfolding written_field written_body written_lines name_lines tag_of joined rust59.Field59F·to_swift_string
  bare_59F [] h = absurd (omega (arith, some_names Field59F refl count [] [] h.names))
  bare_59F (w ∷ us) h =
      ap (◌++◌ (bytes ":59F:")) (then_parted _ w.bytes (map bytes_of us) refl (λ k g. parted false k g) ∙ ap (λ (ls : List Str). joined (w.bytes ∷ ls)) (names_whole InTurn (λ d. refl) us))

  -- of all other records the texts are equal
  equals : (o : PartyOption) (present : Bool) → (eqb (place_of o) (place_of Field59F) && present) ≡ false → Text o present → Agree o present
  unfolding identified59_f
  equals o present z t us h = record { equal = λ e. t us h; less = λ e. absurd (false≢true (sym z ∙ e)); longer = λ e. absurd (false≢true (sym z ∙ e)) }

  other : (o : PartyOption) → eqb (place_of o) (place_of Field59F) ≡ false → ((present : Bool) → is_presence o present ≡ true → Text o present) → (present : Bool) → is_presence o present ≡ true → Agree o present
  other o z t present e = equals o present (rw z) (t present e)

  text_is : (o : PartyOption) (present : Bool) → is_presence o present ≡ true → Agree o present
  unfolding written_field written_body written_lines name_lines tag_of joined rust50.Field50NoOption·to_swift_string rust50.Field50A·to_swift_string rust50.Field50F·to_swift_string rust50.Field50K·to_swift_string rust50.Field50C·to_swift_string rust50.Field50L·to_swift_string rust50.Field50G·to_swift_string rust50.Field50H·to_swift_string rust59.Field59A·to_swift_string
  text_is =
      by_option (λ o. (present : Bool) → is_presence o present ≡ true → Agree o present)
      (other Field50NoOption refl (never Text Field50NoOption refl (λ us h. ap (◌++◌ (bytes ":50:")) (plain [] us))))
      (other Field50A refl (either Text Field50A (λ us h. refl) (λ us h. refl)))
      (other Field50F refl (always Text Field50F refl (λ us h.
      ap (◌++◌ (bytes ":50F:"))
      (join_is (u.bytes ∷ rust50.Field50F·numbered 0 (map bytes_of us))
      ∙ ap (λ (ls : List Str). joined (u.bytes ∷ ls)) (names_numbered us (few Field50F refl count _ us h.names))
      ∙ ap (λ (n : ℕ). joined (u.bytes ∷ name_lines Numbered (take n one_to_four) us)) (names_are Field50F count _ us h.names).counted))))
      (other Field50K refl (either Text Field50K (λ us h. ap (◌++◌ (bytes ":50K:")) (plain ((47 ∷ u.bytes) ∷ []) us)) (λ us h. ap (◌++◌ (bytes ":50K:")) (plain [] us))))
      (other Field50C refl (never Text Field50C refl (λ us h. refl)))
      (other Field50L refl (always Text Field50L refl (λ us h. refl)))
      (other Field50G refl (always Text Field50G refl (λ us h. refl)))
      (other Field50H refl (always Text Field50H refl (λ us h. ap (◌++◌ (bytes ":50H:")) (plain ((47 ∷ u.bytes) ∷ []) us))))
      (other Field59NoOption refl (λ present e. text_59 present))
      (other Field59A refl (either Text Field59A (λ us h. ap (λ (x : Str). bytes ":59A:/" ++ x) (append_assoc u.bytes (10 ∷ []) v.bytes)) (λ us h. refl)))
      (either Agree Field59F text_59F (equals Field59F false refl bare_59F))

  -- the struct's record says what that of what is found in the record's lines says
  abbrev Found : PartyOption → Bool → Type 0
  Found o present =
      (us : List Used) → Facts (S o present us) → content (record_of o (struct_of o present u.bytes v.bytes (map bytes_of us))) ≡ content (party_of o (found_of (S o present us)))

  found_50F : Found Field50F true
  found_50F us h =
      let ds = take count one_to_four in
      let n = names_are Field50F count ds us h.names in
      let d : take (length (map bytes_of us)) one_to_four ≡ map (digit_of Numbered) (name_lines Numbered ds us) =
      ap (λ (m : ℕ). take m one_to_four) (length-map us bytes_of ∙ n.counted)
      ∙ sym (digits_back Numbered 33 1 ds us (omega (arith, length-take count one_to_four, n.counted)) (n.pass refl).each) in
      λ i. content (party_of Field50F (record { reply = accepted; present = true; account = u.bytes; bic = []; names = map bytes_of us; digits = d i }))

  found_is : (o : PartyOption) (present : Bool) → is_presence o present ≡ true → Found o present
  unfolding content party_of
  found_is =
      by_option (λ o. (present : Bool) → is_presence o present ≡ true → Found o present)
      (never Found Field50NoOption refl (λ us h. refl)) (either Found Field50A (λ us h. refl) (λ us h. refl)) (always Found Field50F refl found_50F)
      (either Found Field50K (λ us h. refl) (λ us h. refl)) (never Found Field50C refl (λ us h. refl)) (always Found Field50L refl (λ us h. refl))
      (always Found Field50G refl (λ us h. refl)) (always Found Field50H refl (λ us h. refl)) (either Found Field59NoOption (λ us h. refl) (λ us h. refl))
      (either Found Field59A (λ us h. refl) (λ us h. refl)) (either Found Field59F (λ us h. refl) (λ us h. refl))

-- for every record that a reader can give
pub writes : (p : Party) → Given p → Writes p
writes p g =
    let h = given_facts p (necessary p g) in
    let o = p.option in
    let s = with_digits p (take p.count one_to_four) in
    let k : Facts s = record {
      presence = h.presence;
      account = h.account;
      bic = h.bic;
      names = passing p.count (take p.count p.digits) s.names o h.names;
      free = h.free;
    } in
    record {
      given = sufficient (renumbered p) (ap is_given (says p) ∙ is_given_lem s k);
      same =
          found_is p.count _ _ o p.present h.presence _ k
          ∙ content_party o (found_of s) (fitting o _ _ _ _ _ _ k)
          ∙ found_content_back o _ _ _ _ _ _ (omega (arith, length-take p.count one_to_four)) k
          ∙ sym (says p);
      text = subst (λ (s : Content). Agrees s (to_swift_string o (struct_in p))) (sym (says p)) (text_is _ _ _ o p.present h.presence _ k);
    }
