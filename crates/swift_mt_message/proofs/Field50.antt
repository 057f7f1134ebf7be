-- Each option of field 50 reads as the Rust does, but for the bytes of 50H's account and the digits of 50F. Assumes nothing.
use mathlib.Core.Path.{◌≡◌, refl, sym, ◌∙◌, ap}
use mathlib.Core.Bool.{Bool, true, false, not, ◌&&◌, ◌||◌, and-true, not-not}
use mathlib.Core.List.{[], ◌∷◌}
use mathlib.Core.Option.{none, some}
use Prim.Native.Nat.{ℕ}
use native.Mathlib.Omega.{arith}
use lib.Dec.{ltb, leb, eqb}
use lib.ListN.{length, drop}
use borrow.Author.Tests.{le-leb, lt-leb, leb-true, eqb-true, eqb-false}
use Rattle.errors.specs.Refusals.{Reply, accepted, must, ◌then◌}
use Rattle.errors.proofs.Replies.{must_held, then_assoc, then_accepted}
use Rattle.party.specs.declared.PartyOption.TheVariants.{Field50NoOption, Field50A, Field50F, Field50K, Field50C, Field50L, Field50G, Field50H}
use Rattle.party.specs.declared.Party.{Party}
use Rattle.party.specs.declared.Numbering.TheVariants.{Unnumbered}
use Rattle.swift_utils.specs.Bytes.{among, between, all, legal}
use Rattle.swift_utils.specs.Checks.{parse_swift_chars, parse_account}
use Rattle.field_utils.specs.Lines.{starts}
use Rattle.field_utils.specs.Identifier.{identifier_reply}
use Rattle.field_utils.specs.Names.{parse_name_and_address}
use Rattle.field_utils.proofs.Identifiers.{identifier_absent, identifier_given, starts_long}
use Rattle.reader.specs.Reading.{Reading, giving, party_of}
use Rattle.reader.specs.Options.{no_head, head, identifier_head, account_reply, slash_head, with_names, after_head, after, is_counted, by_lines, bic_only, text_only, body_reply, read}
use Rattle.reader.specs.Code.{reading_of}
use Rattle.reader.proofs.Bodies.{body_passed}
use Rattle.reader.proofs.Heads.{account_none, account_some}
use Rattle.reader.specs.Detection.{first_line}
use Rattle.reader.specs.Choices.{refusing}
use Rattle.swift_mt_message.specs.Std.{Str, slash, newline, Result, Ok, ◌and_then◌, err_if, rust_is_empty, slice_from, starts_with}
use Rattle.swift_mt_message.specs.Std as S
use Rattle.swift_mt_message.specs.SwiftUtils.{rust_parse_swift_chars}
use Rattle.swift_mt_message.specs.Field50 as rust
use Rattle.swift_mt_message.specs.Equal.{told, as_party, renumber, rust_read, illegal_account, by_account}
use Rattle.swift_mt_message.proofs.Results.{by_test, Is, ok, must_is, then_is, and_is, last_and, reply_is}
use Rattle.swift_mt_message.proofs.Std.{contained, started, at_least, up_to, counted, from_is}
use Rattle.swift_mt_message.proofs.SwiftUtils.{account_is, bics}
use Rattle.swift_mt_message.proofs.FieldUtils.{no_identifier, identifier}
use Rattle.swift_mt_message.proofs.Names.{loop, named, named_some, line_50, line_50F, line_50K, line_50H}
use Rattle.swift_mt_message.proofs.Bodies.{reads, on_lines, by_lines_lem, headed, first_bic, bic_after, second_bic, bic_party, names_party, kept_whole}

exactly : (n : ℕ) → eqb n 2 ≡ between 2 2 n
exactly n =
    by_test (eqb n 2)
    (λ e. let m = eqb-true n 2 e in rw (e, le-leb 2 n (omega arith), le-leb n 2 (omega arith)))
    (λ e. let m = eqb-false n 2 e in by_test (leb 2 n) (λ f. rw (e, f, lt-leb n 2 (omega (arith, leb-true 2 n f)))) (λ f. rw (e, f)))

two_lines : (n : ℕ) → ltb n 2 ≡ not (leb 2 n && true)
two_lines n = at_least n 2 ∙ ap not (sym (and-true (leb 2 n)))

-- 50G and 50H: a slash and an account
slashed : {A : Type 0} (l : Str) (rest : Str → Result A) {r : Reply} {w : A} → Is (rest (drop 1 l)) r w
    → Is
    (S.◌then◌ (err_if (not (starts_with l slash)) 2 1) (slice_from 1 l and_then λ a. S.◌then◌ (err_if (rust_is_empty a || ltb 34 (length a)) 2 1) (S.◌then◌ (rust_parse_swift_chars a 1) (rest a))))
    ((must (starts slash l) 2 1 then parse_account 1 34 1 (drop 1 l)) then r)
    w
slashed l rest {r} e =
    let a = drop 1 l in
    reply_is
    (then_is (must_is _ (starts slash l) 2 1 (ap not (started l slash))) (λ s. rw (from_is 1 l (starts_long slash l (must_held (starts slash l) 2 1 s))) (account_is 1 34 _ a (counted a 34) e)))
    (sym (then_assoc (must (starts slash l) 2 1) (parse_account 1 34 1 a) r))

-- 50H with the test of the account's bytes, and without it
tested : (a b c d : Bool) (names : Reply) (p : Party)
    → giving (must a 1 0 then ((must b 2 1 then (must c 2 1 then must d 3 1)) then names)) p
    ≡ elim (a && b && c && not d) as (λ x. Reading) [ true ↦ refusing 3 1 | false ↦ giving (must (a && true) 1 0 then ((must b 2 1 then must c 2 1) then names)) p ]
tested true true true true names p = refl
tested true true true false names p = refl
tested true true false d names p = refl
tested true false c d names p = refl
tested false b c d names p = refl

module _ (body : Str) (q : body_reply body ≡ accepted) where
  -- 50C: the whole body is a BIC
  pub at_50C : rust_read Field50C body ≡ some (renumber (read Field50C body))
  unfolding rust.Field50C·parse party_of
  at_50C =
      reads Field50C (bic_only body) (last_and (λ bic. Ok (record { bic = bic })) (bics body 1) (λ e. ok)) refl
      ∙ ap (λ (r : Reading). some (renumber r)) (sym (body_passed Field50C body q))

  -- 50L: a text without LF
  pub at_50L : rust_read Field50L body ≡ some (renumber (read Field50L body))
  unfolding rust.Field50L·parse party_of
  at_50L =
      reads Field50L (text_only Field50L body)
      (then_is
      (must_is _ (not (among body 10)) 1 0 (contained body newline ∙ sym (not-not (among body 10))))
      (λ e. reply_is (account_is 1 35 _ body (counted body 35) ok) (then_accepted (parse_account 1 35 1 body))))
      refl
      ∙ ap (λ (r : Reading). some (renumber r)) (sym (body_passed Field50L body q))

  -- 50: names alone
  pub at_50 : rust_read Field50NoOption body ≡ some (renumber (read Field50NoOption body))
  unfolding rust.Field50NoOption·parse party_of after_head parse_name_and_address
  at_50 =
      by_lines_lem Field50NoOption _ body q refl refl (λ l ls.
      reads Field50NoOption (by_lines Field50NoOption (l ∷ ls))
      (then_is (must_is _ (between 1 4 (length (l ∷ ls))) 1 0 (counted (l ∷ ls) 4)) (λ c.
      then_is (loop Unnumbered 35 0 (λ vars t. tt) rust.Field50NoOption·line line_50 tt 0 0 (l ∷ ls) refl) (λ g.
      reply_is ok (sym (ap (λ (t : Bool). must t 7 0) (must_held (between 1 4 (length (l ∷ ls))) 1 0 c))))))
      (ap (as_party Field50NoOption none []) (sym (kept_whole (l ∷ ls))) ∙ names_party Field50NoOption false [] (l ∷ ls)))

  -- 50A: identifier or none, then BIC
  pub at_50A : rust_read Field50A body ≡ some (renumber (read Field50A body))
  unfolding rust.Field50A·parse rust.Field50A·bic party_of after_head
  at_50A =
      by_lines_lem Field50A _ body q refl refl (λ l ls.
      by_test (starts slash l)
      (λ s.
      let d = head (drop 1 l) (identifier_reply 34 1 (drop 1 l)) in
      headed Field50A refl refl l ls (ap identifier_head (identifier_given Field50A 1 l s))
      (and_is _ (identifier l s) (λ g. second_bic (λ bic. record { party_identifier = some (drop 1 l); bic = bic }) d l ls))
      (bic_party Field50A 2 d ls))
      (λ s.
      headed Field50A refl refl l ls (ap identifier_head (identifier_absent Field50A 1 l s))
      (and_is _ (no_identifier l s) (λ g. first_bic (λ bic. record { party_identifier = none; bic = bic }) no_head l ls))
      (bic_party Field50A 1 no_head (l ∷ ls))))

  -- 50F: a first line, then numbered lines
  pub at_50F : rust_read Field50F body ≡ some (renumber (read Field50F body))
  unfolding rust.Field50F·parse party_of after_head
  at_50F =
      by_lines_lem Field50F _ body q refl refl (λ l ls.
      reads Field50F (by_lines Field50F (l ∷ ls))
      (then_is (must_is _ (is_counted Field50F (length (l ∷ ls))) 1 0 (two_lines (length (l ∷ ls)))) (λ c.
      account_is 1 35 _ l (counted l 35) (named Field50F refl (λ names. record { party_identifier = l; name_and_address = names }) 1 rust.Field50F·line line_50F ls)))
      refl)

  -- 50K: account or none, then names
  pub at_50K : rust_read Field50K body ≡ some (renumber (read Field50K body))
  unfolding rust.Field50K·parse rust.Field50K·names party_of after_head
  at_50K =
      by_lines_lem Field50K _ body q refl refl (λ l ls.
      by_test (starts slash l)
      (λ s.
      rw (started l slash ∙ s, told) (rw (from_is 1 l (starts_long slash l s))
      (headed Field50K refl refl l ls (account_some Field50K l s)
      (account_is 0 34 _ (drop 1 l) (up_to (length (drop 1 l)) 34)
      (named Field50K refl (λ names. record { account = some (drop 1 l); name_and_address = names }) 1 (rust.Field50K·line 1) (line_50K 1) ls))
      (names_party Field50K true (drop 1 l) ls))))
      (λ s.
      rw (started l slash ∙ s, told)
      (headed Field50K refl refl l ls (account_none Field50K l s)
      (named Field50K refl (λ names. record { account = none; name_and_address = names }) 0 (rust.Field50K·line 0) (line_50K 0) (l ∷ ls))
      (names_party Field50K false [] (l ∷ ls)))))

  -- 50G: an account, then BIC
  pub at_50G : rust_read Field50G body ≡ some (renumber (read Field50G body))
  unfolding rust.Field50G·parse party_of after_head
  at_50G =
      by_lines_lem Field50G _ body q refl refl (λ l ls.
      let d = slash_head l (account_reply Field50G (drop 1 l)) in
      reads Field50G (by_lines Field50G (l ∷ ls))
      (then_is (must_is _ (between 2 2 (length (l ∷ ls))) 1 0 (ap not (exactly (length (l ∷ ls))))) (λ c.
      let two = eqb-true (length (l ∷ ls)) 2 (exactly (length (l ∷ ls)) ∙ must_held (between 2 2 (length (l ∷ ls))) 1 0 c) in
      slashed l _ (bic_after (λ bic. record { account = drop 1 l; bic = bic }) d l ls (omega arith))))
      (bic_party Field50G 2 d ls))

  -- 50H: an account whose bytes the Rust tests, then names
  pub at_50H : rust_read Field50H body ≡ some (renumber (by_account body (refusing 3 1) (read Field50H body)))
  unfolding rust.Field50H·parse party_of after_head parse_account parse_swift_chars illegal_account first_line
  at_50H =
      on_lines Field50H _ body (λ ls. renumber (elim (illegal_account ls) [ true ↦ refusing 3 1 | false ↦ reading_of Field50H (by_lines Field50H ls) ])) refl (λ l ls.
      let d = head (drop 1 l) (must (starts slash l) 2 1 then parse_account 1 34 1 (drop 1 l)) in
      reads Field50H (after (must (leb 2 (length (l ∷ ls))) 1 0) (after d.reply (with_names Field50H 2 d ls)))
      (then_is (must_is _ (leb 2 (length (l ∷ ls))) 1 0 (at_least (length (l ∷ ls)) 2)) (λ c.
      let two = leb-true 2 (length (l ∷ ls)) (must_held (leb 2 (length (l ∷ ls))) 1 0 c) in
      slashed l _ (named_some Field50H refl (λ names. record { account = drop 1 l; name_and_address = names }) 1 rust.Field50H·line line_50H ls (omega arith))))
      (names_party Field50H true (drop 1 l) ls)
      ∙ ap (λ (r : Reading). some (renumber r)) (tested (leb 2 (length (l ∷ ls))) (starts slash l) (between 1 34 (length (drop 1 l))) (all legal (drop 1 l))
      (parse_name_and_address Field50H 2 ls) (party_of Field50H (with_names Field50H 2 d ls))))
      ∙ ap (λ (r : Reading). some (renumber (by_account body (refusing 3 1) r))) (sym (body_passed Field50H body q))
