-- Each option of field 59 reads as the Rust does. Assumes nothing.
use mathlib.Core.Path.{◌≡◌, refl, ◌∙◌, ap}
use mathlib.Core.Bool.{true, false}
use mathlib.Core.List.{List, [], ◌∷◌, map}
use mathlib.Core.Option.{Option, none, some}
use Prim.Native.Nat.{ℕ, suc}
use lib.Dec.{leb}
use lib.ListN.{length, drop}
use borrow.Author.Tests.{leb-true, leb-false}
use Rattle.errors.specs.Refusals.{accepted}
use Rattle.party.specs.declared.PartyOption.{PartyOption}
use Rattle.party.specs.declared.PartyOption.TheVariants.{Field59NoOption, Field59A, Field59F}
use Rattle.party.specs.Limits.{limits_of}
use Rattle.party.specs.declared.Numbering.TheVariants.{Unnumbered}
use Rattle.field_utils.specs.Lines.{starts}
use Rattle.field_utils.specs.Names.{parse_name_and_address, kept}
use Rattle.field_utils.proofs.Identifiers.{identifier_absent, identifier_given, starts_long}
use Rattle.reader.specs.Reading.{Reading, party_of}
use Rattle.reader.specs.Options.{no_head, head, identifier_head, account_reply, short_account_head, after_head, body_reply, read}
use Rattle.reader.proofs.Heads.{short_long, short_fits, account_none, account_some}
use Rattle.swift_mt_message.specs.Std.{Str, slash, Result, Ok, ◌and_then◌, slice_from, starts_with}
use Rattle.swift_mt_message.specs.FieldUtils.{name_line, rust_parse_name_and_address}
use Rattle.swift_mt_message.specs.Field50.{Field50K·line}
use Rattle.swift_mt_message.specs.Field59 as rust
use Rattle.swift_mt_message.specs.Structs.{Struct}
use Rattle.swift_mt_message.specs.Equal.{told, record_of, renumber, rust_read}
use Rattle.swift_mt_message.proofs.Results.{by_test, Is, ok, and_is, last_and}
use Rattle.swift_mt_message.proofs.Std.{started, from_is}
use Rattle.swift_mt_message.proofs.FieldUtils.{no_identifier, identifier}
use Rattle.swift_mt_message.proofs.Names.{named, line_50K, line_59F}
use Rattle.swift_mt_message.proofs.Bodies.{by_lines_lem, headed, short_is, first_bic, second_bic, bic_party, names_party}

-- an account of at most 34 bytes, or none: there are two ways to read on
module _ (o : PartyOption) (e : 34 ≡ (limits_of o).account_max) (l : Str) where
  none_there : starts slash l ≡ false → short_account_head o l ≡ no_head
  none_there s =
      by_test
      (leb (length (drop 1 l)) (limits_of o).account_max)
      (λ t. short_fits o refl l (leb-true _ _ t) ∙ account_none o l s)
      (λ t. short_long o refl l (leb-false _ _ t))

  short_there : starts slash l ≡ true → leb (length (drop 1 l)) 34 ≡ true → short_account_head o l ≡ head (drop 1 l) (account_reply o (drop 1 l))
  short_there s t = short_fits o refl l (rw (← e) (leb-true _ _ t)) ∙ account_some o l s

  long_there : leb (length (drop 1 l)) 34 ≡ false → short_account_head o l ≡ no_head
  long_there t = short_long o refl l (rw (← e) (leb-false _ _ t))

  by_account_lem : (x : Str → Result (Struct o)) (y : Result (Struct o)) {target : Reading}
      → (short_account_head o l ≡ head (drop 1 l) (account_reply o (drop 1 l)) → leb (length (drop 1 l)) 34 ≡ true → told (record_of o) (x (drop 1 l)) ≡ some target)
      → (short_account_head o l ≡ no_head → told (record_of o) y ≡ some target)
      → told (record_of o) (elim (starts_with l slash) [ true ↦ slice_from 1 l and_then λ a. elim (leb (length a) 34) [ true ↦ x a | false ↦ y ] | false ↦ y ]) ≡ some target
  by_account_lem x y f g =
      by_test
      (starts slash l)
      (λ s.
      rw (started l slash ∙ s, from_is 1 l (starts_long slash l s))
      (by_test (leb (length (drop 1 l)) 34) (λ t. rw (t, told) (f (short_there s t) t)) (λ t. rw (t, told) (g (long_there t)))))
      (λ s. rw (started l slash ∙ s) (g (none_there s)))

-- the names of 59, which parse_name_and_address reads
names_59 : (account : Option Str) (lines : List Str) (start : ℕ)
    → Is
    (rust.Field59NoOption·names lines account start)
    (parse_name_and_address Field59NoOption (suc start) (drop start lines))
    (record { account = account; name_and_address = map (kept Unnumbered) (drop start lines) })
unfolding rust.Field59NoOption·names rust_parse_name_and_address name_line Field50K·line
names_59 account lines start =
    last_and
    (λ names. Ok (record { account = account; name_and_address = names }))
    (named Field59NoOption refl (λ names. names) start (name_line start) (line_50K start) (drop start lines))
    (λ e. ok)

module _ (body : Str) (q : body_reply body ≡ accepted) where
  -- 59: account or none, then names
  pub at_59 : rust_read Field59NoOption body ≡ some (renumber (read Field59NoOption body))
  unfolding rust.Field59NoOption·parse party_of after_head
  at_59 =
      by_lines_lem Field59NoOption _ body q refl refl (λ l ls.
      by_account_lem Field59NoOption refl l _ _
      (λ e t. headed Field59NoOption refl refl l ls e (short_is (drop 1 l) t (names_59 (some (drop 1 l)) (l ∷ ls) 1)) (names_party Field59NoOption true (drop 1 l) ls))
      (λ e. headed Field59NoOption refl refl l ls e (names_59 none (l ∷ ls) 0) (names_party Field59NoOption false [] (l ∷ ls))))

  -- 59A: account or none, then BIC
  pub at_59A : rust_read Field59A body ≡ some (renumber (read Field59A body))
  unfolding rust.Field59A·parse rust.Field59A·bic party_of after_head
  at_59A =
      by_lines_lem Field59A _ body q refl refl (λ l ls.
      by_account_lem Field59A refl l _ _
      (λ e t.
      let d = head (drop 1 l) (account_reply Field59A (drop 1 l)) in
      headed Field59A refl refl l ls e
      (short_is (drop 1 l) t (second_bic (λ bic. record { account = some (drop 1 l); bic = bic }) d l ls))
      (bic_party Field59A 2 d ls))
      (λ e. headed Field59A refl refl l ls e (first_bic (λ bic. record { account = none; bic = bic }) no_head l ls) (bic_party Field59A 1 no_head (l ∷ ls))))

  -- 59F: identifier or none, then lines numbered in order
  pub at_59F : rust_read Field59F body ≡ some (renumber (read Field59F body))
  unfolding rust.Field59F·parse rust.Field59F·names party_of after_head
  at_59F =
      by_lines_lem Field59F _ body q refl refl (λ l ls.
      by_test (starts slash l)
      (λ s.
      headed Field59F refl refl l ls (ap identifier_head (identifier_given Field59F 1 l s))
      (and_is _ (identifier l s) (λ g.
      named Field59F refl (λ names. record { party_identifier = some (drop 1 l); name_and_address = names }) 1 (rust.Field59F·line 1) (line_59F 1) ls))
      (names_party Field59F true (drop 1 l) ls))
      (λ s.
      headed Field59F refl refl l ls (ap identifier_head (identifier_absent Field59F 1 l s))
      (and_is _ (no_identifier l s) (λ g.
      named Field59F refl (λ names. record { party_identifier = none; name_and_address = names }) 0 (rust.Field59F·line 0) (line_59F 0) (l ∷ ls)))
      (names_party Field59F false [] (l ∷ ls))))
