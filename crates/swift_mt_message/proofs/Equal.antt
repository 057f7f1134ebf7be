-- The theorem: for every ASCII body of at most 2,048 bytes, what specs/Equal.antt claims. Assumes nothing.
use mathlib.Core.Path.{◌≡◌, refl, sym, ◌∙◌, ap}
use mathlib.Core.Bool.{Bool, true, false, false≢true}
use mathlib.Core.List.{List, [], ◌∷◌, map}
use mathlib.Core.Option.{some}
use Prim.Native.Nat.{ℕ}
use lib.Dec.{eqb}
use borrow.Author.Tests.{ne_eqb, eqb-false}
use Rattle.errors.specs.Refusals.{Reply, accepted, refused, ◌then◌}
use Rattle.party.specs.declared.PartyOption.{PartyOption}
use Rattle.party.specs.declared.PartyOption.TheVariants.{Field50F, Field50G, Field50H}
use Rattle.party.specs.declared.Party.{Party}
use Rattle.party.specs.Limits.{limits_of, place_of}
use Rattle.party.proofs.Options.{by_option, place_one}
use Rattle.swift_utils.specs.Bytes.{between, among}
use Rattle.field_utils.specs.Lines.{lines}
use Rattle.field_utils.proofs.Tests.{either_left, either_right}
use Rattle.reader.specs.Reading.{Reading, giving, party_of}
use Rattle.reader.specs.Options.{body_reply, found_by, read}
use Rattle.reader.specs.declared.choices.Choice.{Choice}
use Rattle.reader.specs.Choices.{tried_text, refusing, parse, letter_reply, options_of, pick_of, parse_with_variant}
use Rattle.reader.proofs.Trials.{by_choice}
use Rattle.reader.proofs.Every.{Each, parse_by, variant_by}
use Rattle.swift_mt_message.specs.Std.{Str}
use Rattle.swift_mt_message.specs.Equal.{renumbered_by, renumbered, renumber, rust_parse, rust_parse_with_variant, illegal_account, by_account, has50_f, FGH, Equal}
use Rattle.swift_mt_message.proofs.Accounts.{illegal, reads_on, differs}
use Rattle.swift_mt_message.proofs.Choices.{reading, at_option, not_H, expected, fgh_reads, detected, picks, by_variant, parsed_by}

-- every record but 50F's is as it was
pub renumbered_others : (p : Party) → (p.option ≡ Field50F → ⊥) → renumbered p ≡ p
renumbered_others p =
    by_option (λ o. (o ≡ Field50F → ⊥) → renumbered_by (limits_of o).numbering p ≡ p)
    (λ n. refl) (λ n. refl) (λ n. absurd (n refl)) (λ n. refl) (λ n. refl) (λ n. refl) (λ n. refl) (λ n. refl) (λ n. refl) (λ n. refl) (λ n. refl) p.option

-- and so is every reading but 50F's
abbrev Kept : Reading → Type 0
Kept r = renumber r ≡ r

giving_kept : (r : Reply) (p : Party) → renumbered p ≡ p → Kept (giving r p)
giving_kept accepted p e = ap (giving accepted) e
giving_kept (refused k n) p e = refl

read_kept : (o : PartyOption) → eqb (place_of Field50F) (place_of o) ≡ false → (body : Str) → Kept (read o body)
unfolding read party_of
read_kept o n body =
    let f = found_by (limits_of o).layout o body in
    giving_kept (body_reply body then f.reply) (party_of o f) (renumbered_others (party_of o f) (λ e. eqb-false _ _ n (ap place_of (sym e))))

each_kept : (os : List PartyOption) → among (map place_of os) (place_of Field50F) ≡ false → (body : Str) → Each (λ o. Kept (read o body)) os
each_kept [] h body = tt
each_kept (o ∷ os) h body =
    let first = eqb (place_of Field50F) (place_of o) in
    let later = among (map place_of os) (place_of Field50F) in
    (read_kept o (either_left first later h) body, each_kept os (either_right first later h) body)

-- and every choice's that has no 50F
module _ (c : Choice) (h : has50_f c ≡ false) (body : Str) where
  parse_kept : Kept (parse c body)
  parse_kept = parse_by Kept (λ k n. refl) c body (λ e. each_kept (options_of c) h (tried_text c body))

  variant_kept : (letter : ℕ) → Kept (parse_with_variant c body letter)
  variant_kept letter = variant_by Kept (λ k n. refl) c body letter (each_kept (options_of c) h body) parse_kept

  not_FGH : c ≡ FGH → ⊥
  not_FGH e = false≢true (sym h ∙ ap has50_f e)

module _ (body : Str) (q : body_reply body ≡ accepted) where
  -- no choice but FGH has 50H
  abbrev Same : Choice → Type 0
  Same c = (c ≡ FGH → ⊥)
      → (expected body q c ≡ parse c body) × ((letter : ℕ) → picks body q letter c (reading body) (expected body q c) ≡ picks body q letter c (λ o. read o body) (parse c body))

  same : (c : Choice) → Same c
  same = by_choice Same (λ n. (refl, λ k. refl)) (λ n. absurd (n refl)) (λ n. (refl, λ k. refl)) (λ n. (refl, λ k. refl)) (λ n. (refl, λ k. refl)) (λ n. (refl, λ k. refl)) (λ n. (refl, λ k. refl))

  -- FGH by a letter that none of its options has
  module _ (letter : ℕ) (e : letter_reply letter ≡ accepted) (h : between 70 72 letter ≡ false) where
    is_not : (c : ℕ) → between 70 72 c ≡ true → eqb letter c ≡ false
    is_not c t = ne_eqb letter c (λ e. false≢true (sym h ∙ ap (between 70 72) e ∙ t))

    detects : (f : PartyOption → Reading) (s : Reading) → picks body q letter FGH f s ≡ s
    detects f s = rw (is_not 70 refl, is_not 71 refl, is_not 72 refl)

    other : picks body q letter FGH (reading body) (expected body q FGH) ≡ by_account body (refusing 11 0) (parse_with_variant FGH body letter)
    other = detects (reading body) _ ∙ ap (by_account body (refusing 11 0)) (sym (detects (λ o. read o body) _) ∙ parsed_by body q letter e FGH)

  -- renumbered, a refusal is as it was
  by_account_lem : (k n : ℕ) (r : Reading) → renumber (by_account body (refusing k n) r) ≡ by_account body (refusing k n) (renumber r)
  by_account_lem k n r = go (illegal_account (lines body))
    where
      go : (t : Bool) → renumber (elim t [ true ↦ refusing k n | false ↦ r ]) ≡ elim t [ true ↦ refusing k n | false ↦ renumber r ]
      go true = refl
      go false = refl

  account_50H : renumber (by_account body (refusing 3 1) (read Field50H body)) ≡ by_account body (refusing 3 1) (read Field50H body)
  account_50H = by_account_lem 3 1 _ ∙ ap (by_account body (refusing 3 1)) (read_kept Field50H refl body)

  found : (c : Choice) → (c ≡ FGH → ⊥) → rust_parse c body ≡ some (renumber (parse c body))
  found c n = detected body q c ∙ ap some (ap renumber (same c n).0)

  found_by_lem : (c : Choice) → (c ≡ FGH → ⊥) → (letter : ℕ) → letter_reply letter ≡ accepted → rust_parse_with_variant c body letter ≡ some (renumber (parse_with_variant c body letter))
  found_by_lem c n letter e = by_variant body q letter c ∙ ap some (ap renumber ((same c n).1 letter ∙ parsed_by body q letter e c))

  pub equal : Equal body
  unfolding parse_with_variant pick_of
  equal = record {
    option = λ o h f. at_option o body q ∙ ap some (ap renumber (not_H o body h) ∙ read_kept o (ne_eqb _ _ (λ e. f (place_one o Field50F (sym e)))) body);
    at_50F = at_option Field50F body q;
    at_50H = at_option Field50H body q ∙ ap some account_50H;
    detected = λ c h. found c (not_FGH c h body) ∙ ap some (parse_kept c h body);
    by_letter = λ c h letter e. found_by_lem c (not_FGH c h body) letter e ∙ ap some (variant_kept c h body letter);
    detected_50F = found;
    by_letter_50F = found_by_lem;
    fgh = detected body q FGH ∙ ap some (by_account_lem 11 0 _);
    fgh_by_F = by_variant body q 70 FGH;
    fgh_by_G = by_variant body q 71 FGH ∙ ap some (read_kept Field50G refl body);
    fgh_by_H = by_variant body q 72 FGH ∙ ap some account_50H;
    fgh_by_other = λ letter e h. by_variant body q letter FGH ∙ ap some (ap renumber (other letter e h) ∙ by_account_lem 11 0 _);
    reads_on = λ e. reads_on body q (illegal (lines body) e);
    differs = λ e. differs body q (illegal (lines body) e);
    fgh_reads = fgh_reads body q;
  }
