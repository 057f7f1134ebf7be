-- The theorem: for every ASCII body of at most 2,048 bytes, what the Rust writes of the value that it reads is what ours writes of our record,
-- but for 50F's digits and one LF of 59F. Assumes nothing.
use mathlib.Core.Path.{◌≡◌, refl, sym, ◌∙◌, ap, subst}
use mathlib.Core.Bool.{Bool, true, false, ◌&&◌}
use mathlib.Core.List.{List, [], ◌∷◌, ◌++◌, map}
use mathlib.Core.Option
use mathlib.Core.Option.{Option, none, some, some-injective}
use Prim.Native.Nat.{ℕ, suc, ◌+◌, ◌-◌, ◌≤◌, ◌<◌}
use native.Mathlib.Omega.{arith}
use lib.Dec.{ltb, leb, eqb}
use lib.ListN.{length, get_or, take, drop, replicate, length-drop, length-append, length-map}
use lib.Seq.{take-append_seam, length-take-le}
use borrow.Author.Tests.{leb-true, leb-false, ltb-true, ne_eqb}
use Rattle.errors.specs.Refusals.{Reply, accepted, refused, ◌then◌}
use Rattle.errors.proofs.Replies.{refused≢accepted}
use Rattle.party.specs.declared.PartyOption.{PartyOption}
use Rattle.party.specs.declared.PartyOption.TheVariants.{Field50NoOption, Field50A, Field50F, Field50K, Field50C, Field50L, Field50G, Field50H, Field59NoOption, Field59A, Field59F}
use Rattle.party.specs.declared.Party.{Party}
use Rattle.party.specs.Limits.{limits_of}
use Rattle.party.specs.Text.{text_most, padded, text_of, four_texts, Used, used}
use Rattle.party.specs.Party.{where_limit, content}
use Rattle.party.specs.declared.Numbering.{Numbering}
use Rattle.party.specs.declared.Numbering.TheVariants.{Unnumbered, Numbered, InTurn}
use Rattle.party.proofs.Options.{by_option}
use Rattle.party.proofs.Theorems.{used_text_lem}
use Rattle.field_utils.specs.Lines.{lines}
use Rattle.field_utils.specs.Names.{skip_of}
use Rattle.field_utils.proofs.Tests.{both_left}
use Rattle.reader.specs.Reading.{Reading, giving, party_of}
use Rattle.reader.specs.Options.{body_reply, found_by, read}
use Rattle.reader.specs.declared.choices.Choice.{Choice}
use Rattle.reader.specs.declared.choices.Choice.TheVariants.{Field50InstructingParty, Field50OrderingCustomerFGH, Field50OrderingCustomerAFK, Field50OrderingCustomerNCF, Field50Creditor, Field59, Field59Debtor}
use Rattle.reader.specs.Choices.{refusing, parse, options_of}
use Rattle.reader.proofs.Every.{every_parse, every_variant}
use Rattle.writer.specs.Writing.{number_of, name_lines}
use Rattle.writer.specs.Given.{Given, every, is_account, is_bic, are_names}
use Rattle.writer.proofs.Relined.{All}
use Rattle.writer.proofs.Contents.{bytes_of, four_all}
use Rattle.writer.proofs.NamePasses.{AllPass, written_length_lem}
use Rattle.writer.proofs.HeadPasses.{extra_of, text_length_lem}
use Rattle.writer.proofs.Facts.{Facts, names_are, account_passes, bic_passes, small}
use Rattle.writer.proofs.Witness.{bic_most_lem}
use Rattle.writer.proofs.Sufficient.{parts, given_facts}
use Rattle.writer.proofs.Theorems.{necessary}
use Rattle.swift_mt_message.specs.Std.{Str, Result, is_some}
use Rattle.swift_mt_message.specs.Field50 as rust50
use Rattle.swift_mt_message.specs.Field59 as rust59
use Rattle.swift_mt_message.specs.Structs.{Struct, to_swift_string}
use Rattle.swift_mt_message.specs.Enums.{Enum}
use Rattle.swift_mt_message.specs.Enums as enums
use Rattle.swift_mt_message.specs.Equal.{told, as_party, record_of, record_by, renumbered, renumber, illegal_account}
use Rattle.swift_mt_message.specs.Writing.{optional, struct_of, Agrees, ValueWritten, ReadsAndWrites}
use Rattle.swift_mt_message.proofs.Results.{by_test}
use Rattle.swift_mt_message.proofs.Choices.{is_H, reading, at_option, either, pick, differing, expected, detected, by_variant, parsed_by}
use Rattle.swift_mt_message.proofs.Writing.{writes}

-- ---- a text that holds fewer bytes than it can holds the whole of the list that it was made of
whole : (l : Str) → length (used (text_of l)).bytes < text_most → (used (text_of l)).bytes ≡ l
unfolding text_of padded
whole l h =
    by_test (leb (length l) text_most)
    (λ t. ap (λ (u : Used). u.bytes) (used_text_lem l (leb-true (length l) text_most t)))
    (λ t.
    let m = leb-false (length l) text_most t in
    absurd (omega (arith, h, ap length (take-append_seam (take text_most l) (replicate (text_most - length (take text_most l)) 0)), length-take-le text_most l (omega arith))))

-- ---- texts that pass the test for 22 are short
-- a text that the option has passes its test
first_text : (f : Used → Bool) (limit : ℕ) (u : Used) → ltb 0 limit ≡ true → every f (where_limit limit (u ∷ [])) ≡ true → f u ≡ true
first_text f limit u e h = both_left (f u) true (rw (e, where_limit) at h)

-- an account or identifier is, whatever its code
heads_most : (o : PartyOption) → ltb ((limits_of o).account_max + extra_of (limits_of o).first) text_most ≡ true
heads_most = by_option (λ o. ltb ((limits_of o).account_max + extra_of (limits_of o).first) text_most ≡ true) refl refl refl refl refl refl refl refl refl refl refl

skip_most : (f : Numbering) → skip_of f ≤ 2
skip_most Unnumbered = omega arith
skip_most Numbered = omega arith
skip_most InTurn = omega arith

names_most_lem : (f : Numbering) (longest k : ℕ) (ds : List ℕ) (us : List Used) → longest ≤ 35 → AllPass f longest k (name_lines f ds us)
    → All (λ (u : Used). length u.bytes < text_most) us
unfolding name_lines
names_most_lem f longest k ds [] h p = tt
names_most_lem f longest k ds (u ∷ us) h p =
    let number = number_of f (get_or ds 0 0) in
    (omega (arith, p.0.long, length-drop (skip_of f) (number ++ u.bytes), length-append number u.bytes, skip_most f), names_most_lem f longest (suc k) (drop 1 ds) us h p.1)

names_whole : (ns : List Str) → All (λ (u : Used). length u.bytes < text_most) (map used (map text_of ns)) → map bytes_of (map used (map text_of ns)) ≡ ns
names_whole [] h = refl
names_whole (n ∷ ns) h = λ i. whole n h.0 i ∷ names_whole ns h.1 i

-- ---- the struct that is made of a value's record is the value: part by part, where the option has the part
module _ (o : PartyOption) (a : Option Str) (b : Str) (ns : List Str) where
  abbrev p : Party
  p = as_party o a b ns

  abbrev text : Str
  text = (used (text_of (Option.get_or a []))).bytes

  abbrev texts : List Str
  texts = map bytes_of (map used (take (length ns) (four_texts ns)))

  record Back : Type 0 where
    account : ltb 0 (limits_of o).account_max ≡ true → is_some a ≡ true → text ≡ Option.get_or a []
    bic : ltb 0 (limits_of o).bic_count ≡ true → (used (text_of b)).bytes ≡ b
    names : ltb 0 (limits_of o).max_names ≡ true → texts ≡ ns

  back : Facts (parts p) → Back
  unfolding party_of
  back h = record {
    account = λ e s.
        let u = used (text_of (Option.get_or a [])) in
        let t = ap (λ (x : Bool). is_account o x u) (sym s) ∙ first_text (is_account o (is_some a)) (limits_of o).account_max u e h.account in
        whole (Option.get_or a []) (omega (arith, text_length_lem (limits_of o).first o u.bytes (account_passes o u t), ltb-true ((limits_of o).account_max + extra_of (limits_of o).first) text_most (heads_most o)));
    bic = λ e.
        let u = used (text_of b) in
        whole b (omega (arith, bic_most_lem 1 u.bytes (bic_passes u (first_text is_bic (limits_of o).bic_count u e h.bic))));
    names = λ e.
        let us = map used (take (length ns) (four_texts ns)) in
        let ds = (parts p).digits in
        let g : are_names o (length ns) ds us ≡ true = rw (e, where_limit) at h.names in
        let n = names_are o (length ns) ds us g in
        let p = n.pass (ne_eqb (limits_of o).max_names 0 (λ z. omega (arith, ltb-true 0 (limits_of o).max_names e))) in
        let f : take (length ns) (four_texts ns) ≡ map text_of ns =
        four_all (text_of []) (map text_of ns) (length ns) (length-map ns text_of) (omega (arith, n.counted, written_length_lem (limits_of o).numbering ds us, p.most, (small o).names)) in
        rw f (names_whole ns (rw f at (names_most_lem (limits_of o).numbering (limits_of o).name_max 1 ds us (small o).name p.each)));
  }

  -- so the Rust's text of the value is what ours writes of the record, which has the digits 1, 2, 3, 4, but for an LF
  text_by : (v : Struct o) → (Back → struct_of o (is_some a) text (used (text_of b)).bytes texts ≡ v) → Given p → Agrees (content (renumbered p)) (to_swift_string o v)
  unfolding party_of
  text_by v e g = subst (λ (w : Struct o). Agrees (content (renumbered p)) (to_swift_string o w)) (e (back (given_facts p (necessary p g)))) (writes p g).text

-- where there may be no account
maybe : (a : Option Str) → (is_some a ≡ true → (used (text_of (Option.get_or a []))).bytes ≡ Option.get_or a []) → optional (is_some a) (used (text_of (Option.get_or a []))).bytes ≡ a
maybe none f = refl
maybe (some a) f = ap some (f refl)

text_of_lem : (o : PartyOption) (v : Struct o) → Given (record_of o v) → Agrees (content (record_of o v)) (to_swift_string o v)
unfolding party_of
text_of_lem =
    by_option (λ o. (v : Struct o) → Given (record_of o v) → Agrees (content (record_of o v)) (to_swift_string o v))
    (λ v. text_by Field50NoOption none [] v.name_and_address v (λ h i. record { name_and_address = h.names refl i }))
    (λ v. text_by Field50A v.party_identifier v.bic [] v (λ h i. record { party_identifier = maybe v.party_identifier (h.account refl) i; bic = h.bic refl i }))
    (λ v. text_by Field50F (some v.party_identifier) [] v.name_and_address v (λ h i. record { party_identifier = h.account refl refl i; name_and_address = h.names refl i }))
    (λ v. text_by Field50K v.account [] v.name_and_address v (λ h i. record { account = maybe v.account (h.account refl) i; name_and_address = h.names refl i }))
    (λ v. text_by Field50C none v.bic [] v (λ h i. record { bic = h.bic refl i }))
    (λ v. text_by Field50L (some v.party_identifier) [] [] v (λ h i. record { party_identifier = h.account refl refl i }))
    (λ v. text_by Field50G (some v.account) v.bic [] v (λ h i. record { account = h.account refl refl i; bic = h.bic refl i }))
    (λ v. text_by Field50H (some v.account) [] v.name_and_address v (λ h i. record { account = h.account refl refl i; name_and_address = h.names refl i }))
    (λ v. text_by Field59NoOption v.account [] v.name_and_address v (λ h i. record { account = maybe v.account (h.account refl) i; name_and_address = h.names refl i }))
    (λ v. text_by Field59A v.account v.bic [] v (λ h i. record { account = maybe v.account (h.account refl) i; bic = h.bic refl i }))
    (λ v. text_by Field59F v.party_identifier [] v.name_and_address v (λ h i. record { party_identifier = maybe v.party_identifier (h.account refl) i; name_and_address = h.names refl i }))

-- and so is that of an enum's value, by its cases
text_in : (c : Choice) (v : Enum c) → Given (record_by c v) → Agrees (content (record_by c v)) (enums.to_swift_string c v)
unfolding rust50.Field50InstructingParty·to_swift_string rust50.Field50OrderingCustomerFGH·to_swift_string rust50.Field50OrderingCustomerAFK·to_swift_string rust50.Field50OrderingCustomerNCF·to_swift_string rust50.Field50Creditor·to_swift_string rust59.Field59·to_swift_string rust59.Field59Debtor·to_swift_string
text_in Field50InstructingParty (rust50.InstructingParty·C v) = text_of_lem Field50C v
text_in Field50InstructingParty (rust50.InstructingParty·L v) = text_of_lem Field50L v
text_in Field50OrderingCustomerFGH (rust50.FGH·F v) = text_of_lem Field50F v
text_in Field50OrderingCustomerFGH (rust50.FGH·G v) = text_of_lem Field50G v
text_in Field50OrderingCustomerFGH (rust50.FGH·H v) = text_of_lem Field50H v
text_in Field50OrderingCustomerAFK (rust50.AFK·A v) = text_of_lem Field50A v
text_in Field50OrderingCustomerAFK (rust50.AFK·F v) = text_of_lem Field50F v
text_in Field50OrderingCustomerAFK (rust50.AFK·K v) = text_of_lem Field50K v
text_in Field50OrderingCustomerNCF (rust50.NCF·NoOption v) = text_of_lem Field50NoOption v
text_in Field50OrderingCustomerNCF (rust50.NCF·C v) = text_of_lem Field50C v
text_in Field50OrderingCustomerNCF (rust50.NCF·F v) = text_of_lem Field50F v
text_in Field50Creditor (rust50.Creditor·A v) = text_of_lem Field50A v
text_in Field50Creditor (rust50.Creditor·K v) = text_of_lem Field50K v
text_in Field59 (rust59.Field59·A v) = text_of_lem Field59A v
text_in Field59 (rust59.Field59·F v) = text_of_lem Field59F v
text_in Field59 (rust59.Field59·NoOption v) = text_of_lem Field59NoOption v
text_in Field59Debtor (rust59.Debtor·A v) = text_of_lem Field59A v
text_in Field59Debtor (rust59.Debtor·NoOption v) = text_of_lem Field59NoOption v

-- ---- a reading that accepts has a record that a reader can give
abbrev Gives : Reading → Type 0
Gives r = r.reply ≡ accepted → Given r.party

giving_is : (r : Reply) (p : Party) → (giving r p).reply ≡ accepted → (giving r p).party ≡ p
giving_is accepted p e = refl
giving_is (refused k n) p e = absurd (refused≢accepted e)

option_gives : (o : PartyOption) (body : Str) → Gives (read o body)
unfolding read party_of
option_gives o body a =
    let f = found_by (limits_of o).layout o body in
    let e : (read o body).party.option ≡ o = ap (λ (p : Party). p.option) (giving_is (body_reply body then f.reply) (party_of o f) a) in
    record { body = body; accepts = ap (λ (x : PartyOption). (read x body).reply) e ∙ a; same = ap (λ (x : PartyOption). content (read x body).party) e }

-- ---- a reading of the Rust that is refused, or is ours
abbrev Near : Reading → Reading → Type 0
Near r s = r.reply ≡ accepted → r ≡ s

near_if : (t : Bool) (k n : ℕ) (r : Reading) → Near (elim t [ true ↦ refusing k n | false ↦ r ]) r
near_if true k n r a = absurd (refused≢accepted a)
near_if false k n r a = refl

-- ---- a value, its record and our reading
value : {A : Type 0} (party : A → Party) (text : A → Str) → ((v : A) → Given (party v) → Agrees (content (party v)) (text v))
    → (x : Result A) {r s : Reading} → told party x ≡ some (renumber r) → Near r s → Gives s → ValueWritten text x s
value party text is x {r} {s} e near g v h =
    let f : ◌≡◌ {A = Reading} (record { reply = accepted; party = party v }) (renumber r) = some-injective _ _ (ap (told party) (sym h) ∙ e) in
    let k = f ∙ ap renumber (near (sym (ap (λ (r : Reading). r.reply) f))) in
    let a = sym (ap (λ (r : Reading). r.reply) k) in
    let p = ap (λ (r : Reading). r.party) k in
    let w = (writes s.party (g a)).given in
    record { accepts = a; given = g a; renumbered_given = w; agrees = subst (λ (q : Party). Agrees (content q) (text v)) p (is v (subst Given (sym p) w)) }

module _ (body : Str) (q : body_reply body ≡ accepted) where
  near_option : (o : PartyOption) → Near (reading body o) (read o body)
  near_option o = near_if (is_H o && illegal_account (lines body)) 3 1 (read o body)

  near_choice : (c : Choice) → Near (expected body q c) (parse c body)
  near_choice c = near_if (differing body q c) 11 0 (parse c body)

  near_pick : (letter : ℕ) (r s : Reading) → Near r s → (os : List PartyOption) → Near (pick (reading body) letter r os) (pick (λ o. read o body) letter s os)
  near_pick letter r s h [] = h
  near_pick letter r s h (o ∷ os) = go (eqb letter (limits_of o).letter) (near_pick letter r s h os)
    where
      go : (t : Bool) → Near (pick (reading body) letter r os) (pick (λ o. read o body) letter s os)
          → Near (either (reading body) t o (pick (reading body) letter r os)) (either (λ o. read o body) t o (pick (λ o. read o body) letter s os))
      go true k = near_option o
      go false k = k

  refuses : (k : ℕ) → 1 ≤ k → Gives (refusing k 0)
  refuses k h a = absurd (refused≢accepted a)

  pub reads_and_writes : ReadsAndWrites body
  reads_and_writes = record {
    option = λ o. value (record_of o) (to_swift_string o) (text_of_lem o) _ (at_option o body q) (near_option o) (option_gives o body);
    detected = λ c. value (record_by c) (enums.to_swift_string c) (text_in c) _ (detected body q c) (near_choice c) (every_parse Gives option_gives refuses c body);
    by_letter = λ c letter e.
        value (record_by c) (enums.to_swift_string c) (text_in c) _ (by_variant body q letter c)
        (λ a. near_pick letter _ _ (near_choice c) (options_of c) a ∙ parsed_by body q letter e c) (every_variant Gives option_gives refuses c body letter);
  }
