-- From what the Rust gives for a body's lines to the reading that it must be. Assumes nothing.
use mathlib.Core.Path.{◌≡◌, refl, sym, ◌∙◌, ap}
use mathlib.Core.Bool.{Bool, true}
use mathlib.Core.List.{List, [], ◌∷◌, map}
use mathlib.Core.Option.{some}
use Prim.Native.Nat.{ℕ, ◌≤◌}
use native.Mathlib.Omega.{arith}
use lib.Dec.{leb, leb-zero}
use lib.ListN.{length}
use borrow.Author.Tests.{lt-leb}
use Rattle.errors.specs.Refusals.{Reply, accepted, refused, must, ◌then◌}
use Rattle.party.specs.declared.PartyOption.{PartyOption}
use Rattle.party.specs.declared.Party.{Party}
use Rattle.party.specs.Limits.{limits_of}
use Rattle.party.specs.Text.{text_of, four, four_texts}
use Rattle.party.specs.Party.{where_numbered}
use Rattle.party.specs.declared.Numbering.{Numbering}
use Rattle.party.specs.declared.Numbering.TheVariants.{Unnumbered, Numbered, InTurn}
use Rattle.swift_utils.specs.Checks.{parse_account}
use Rattle.field_utils.specs.Lines.{lines}
use Rattle.field_utils.specs.Names.{kept, digit_of}
use Rattle.reader.specs.Reading.{Reading, giving, Found, party_of}
use Rattle.reader.specs.Options.{Head, head_by, with_bic, from_head, after, is_counted, by_lines, found_by, body_reply, read}
use Rattle.reader.specs.Code.{nameless, reading_of}
use Rattle.reader.proofs.Bodies.{body_passed}
use Rattle.reader.proofs.LineCounts.{counts_open}
use Rattle.swift_mt_message.specs.Std.{Str, Result, Ok, ◌and_then◌, err_if, let_lines, at}
use Rattle.swift_mt_message.specs.Std as S
use Rattle.swift_mt_message.specs.SwiftUtils.{rust_parse_swift_chars, rust_parse_bic}
use Rattle.swift_mt_message.specs.Structs.{Struct}
use Rattle.swift_mt_message.specs.Equal.{told, record_of, renumbered, renumber}
use Rattle.swift_mt_message.proofs.Results.{Is, ok, err, result, then_is, last_and}
use Rattle.swift_mt_message.proofs.Lines.{collected}
use Rattle.swift_mt_message.proofs.SwiftUtils.{swift_chars, bics}

-- what is given by a reply and a value is the reading of what document 01 finds, renumbered, where these are its reply and its record
pub reads : (o : PartyOption) (f : Found) {x : Result (Struct o)} {w : Struct o} → Is x f.reply w → record_of o w ≡ renumbered (party_of o f)
    → told (record_of o) x ≡ some (renumber (reading_of o f))
reads o f {w = w} e p = ap (told (record_of o)) e.is ∙ go f.reply
  where
    go : (r : Reply) → told (record_of o) (result r w) ≡ some (renumber (giving r (party_of o f)))
    go accepted = ap (λ (v : Party). some (giving accepted v)) p
    go (refused k n) = refl

-- the Rust's statements on the lines of a body: where there is none, and where there are some
module _ (o : PartyOption) (rest : List Str → Result (Struct o)) (body : Str) where
  pub on_lines : (target : List Str → Reading) → told (record_of o) (rest []) ≡ some (target [])
      → ((l : Str) (ls : List Str) → told (record_of o) (rest (l ∷ ls)) ≡ some (target (l ∷ ls)))
      → told (record_of o) (let_lines body rest) ≡ some (target (lines body))
  on_lines target e f = ap (told (record_of o)) (collected body rest) ∙ go (lines body)
    where
      go : (ls : List Str) → told (record_of o) (rest ls) ≡ some (target ls)
      go [] = e
      go (l ∷ ls) = f l ls

  pub by_lines_lem : body_reply body ≡ accepted → found_by (limits_of o).layout o body ≡ by_lines o (lines body)
      → told (record_of o) (rest []) ≡ some (renumber (reading_of o (by_lines o [])))
      → ((l : Str) (ls : List Str) → told (record_of o) (rest (l ∷ ls)) ≡ some (renumber (reading_of o (by_lines o (l ∷ ls)))))
      → told (record_of o) (let_lines body rest) ≡ some (renumber (read o body))
  by_lines_lem q e f g =
      on_lines (λ ls. renumber (reading_of o (by_lines o ls))) f g
      ∙ ap (λ (r : Reading). some (renumber r)) (ap (reading_of o) (sym e) ∙ sym (body_passed o body q))

-- an option that counts only that there is a line: its first line and what follows
pub headed : (o : PartyOption) → (limits_of o).min_lines ≡ 1 → (limits_of o).max_lines ≡ 0 → (l : Str) (ls : List Str) {h : Head} → head_by (limits_of o).first o l ≡ h
    → {x : Result (Struct o)} {w : Struct o} → Is x (from_head o h (l ∷ ls) ls).reply w → record_of o w ≡ renumbered (party_of o (from_head o h (l ∷ ls) ls))
    → told (record_of o) x ≡ some (renumber (reading_of o (by_lines o (l ∷ ls))))
headed o one any l ls {h} e i p =
    let c : is_counted o (length (l ∷ ls)) ≡ true = counts_open o refl (length (l ∷ ls)) (omega arith) any in
    reads o (from_head o h (l ∷ ls) ls) i p ∙ (λ j. some (renumber (reading_of o (after (must (sym c j) 1 0) (from_head o (sym e j) (l ∷ ls) ls)))))

-- an account or identifier of 0 to 34 bytes whose length is known
pub short_is : {A : Type 0} (s : Str) {rest : Result A} {r : Reply} {w : A} → leb (length s) 34 ≡ true → Is rest r w
    → Is (S.◌then◌ (rust_parse_swift_chars s 1) rest) (parse_account 0 34 1 s then r) w
unfolding parse_account
short_is s e f = rw (leb-zero (length s), e) (then_is (swift_chars s 1) (λ g. f))

-- a BIC on the first line, or on the one after a head
module _ {A : Type 0} (make : Str → A) (h : Head) where
  pub first_bic : (l : Str) (ls : List Str)
      → Is (S.◌then◌ (err_if (leb (length (l ∷ ls)) 0) 8 0) (rust_parse_bic l 1 and_then λ bic. Ok (make bic))) (with_bic 1 h (l ∷ ls)).reply (make l)
  first_bic l ls = rw (lt-leb (length (l ∷ ls)) 0 (omega arith)) (last_and (λ bic. Ok (make bic)) (bics l 1) (λ e. ok))

  pub bic_after : (l : Str) (ls : List Str) → 1 ≤ length ls
      → Is (at (l ∷ ls) 1 and_then λ m. rust_parse_bic m 2 and_then λ bic. Ok (make bic)) (with_bic 2 h ls).reply (make (with_bic 2 h ls).bic)
  bic_after l [] k = absurd (omega arith)
  bic_after l (m ∷ ls) k = last_and (λ bic. Ok (make bic)) (bics m 2) (λ e. ok)

  pub second_bic : (l : Str) (ls : List Str)
      → Is
      (S.◌then◌ (err_if (leb (length (l ∷ ls)) 1) 8 0) (at (l ∷ ls) 1 and_then λ m. rust_parse_bic m 2 and_then λ bic. Ok (make bic)))
      (with_bic 2 h ls).reply
      (make (with_bic 2 h ls).bic)
  second_bic l [] = err
  second_bic l (m ∷ ls) = rw (lt-leb (length (l ∷ m ∷ ls)) 1 (omega arith)) (bic_after l (m ∷ ls) (omega arith))

-- the record with a BIC
pub bic_party : (o : PartyOption) (n : ℕ) (h : Head) (ls : List Str) → party_of o (nameless h (with_bic n h ls).bic) ≡ party_of o (with_bic n h ls)
unfolding party_of
bic_party o n h [] = refl
bic_party o n h (l ∷ ls) = refl

-- where no digit is kept there are four zeros, as without names
zeros : (ls : List Str) → four {A = ℕ} 0 [] ≡ four 0 (map (λ (l : Str). 0) ls)
unfolding four
zeros [] = refl
zeros (a ∷ []) = refl
zeros (a ∷ b ∷ []) = refl
zeros (a ∷ b ∷ c ∷ []) = refl
zeros (a ∷ b ∷ c ∷ d ∷ ls) = refl

where_kept : (f : Numbering) (ls : List Str) → four 0 (where_numbered f (map (digit_of f) ls)) ≡ four 0 (map (digit_of f) ls)
where_kept Unnumbered ls = zeros ls
where_kept Numbered ls = refl
where_kept InTurn ls = zeros ls

-- the record with names: with no digits, where the option keeps none
module _ (o : PartyOption) (present : Bool) (account : Str) (ls : List Str) where
  abbrev with_digits : List ℕ → Party
  with_digits ds = party_of o (record { reply = accepted; present = present; account = account; bic = []; names = map (kept (limits_of o).numbering) ls; digits = ds })

  pub names_party : let ds = map (digit_of (limits_of o).numbering) ls in with_digits (where_numbered (limits_of o).numbering ds) ≡ with_digits ds
  unfolding party_of
  names_party =
      let names = map (kept (limits_of o).numbering) ls in
      λ i. record {
        option = o;
        present = present;
        account = text_of account;
        bic = text_of [];
        count = length names;
        name_and_address = four_texts names;
        digits = where_kept (limits_of o).numbering ls i;
      }

-- a name that is kept whole
pub kept_whole : (ls : List Str) → map (kept Unnumbered) ls ≡ ls
kept_whole [] = refl
kept_whole (l ∷ ls) = ap (λ (t : List Str). l ∷ t) (kept_whole ls)
