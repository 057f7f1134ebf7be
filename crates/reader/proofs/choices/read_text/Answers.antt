-- `choices::read_text` meets its contract: only the choice of C and L tries other than the body. Assumes nothing.
use mathlib.Core.Path.{◌≡◌, refl, sym, ◌∙◌, ap}
use mathlib.Core.Bool.{Bool, true, false, ◌||◌, or-false}
use mathlib.Core.List.{List, [], ◌∷◌}
use Prim.Native.Nat.{ℕ}
use lib.Dec.{eqb}
use Rattle.party.specs.declared.PartyOption.TheVariants.{Field50C, Field50L}
use Rattle.reader.specs.declared.choices.Choice.{Choice}
use Rattle.reader.specs.declared.choices.Choice.TheVariants.{Field50OrderingCustomerFGH, Field50OrderingCustomerAFK, Field50OrderingCustomerNCF, Field50Creditor, Field59, Field59Debtor}
use Rattle.reader.specs.Choices.{tried_text, options_of, is_picked, read_text}
use Rattle.reader.proofs.Trials.{by_choice}
use Rattle.reader.proofs.choices.read_text.Goals as goal
use Rattle.reader.proofs.choices.read_text.Goals.{Joined-has_letter, then-has_letter, else-has_letter}

-- where both are the same
either : (t : Bool) (body : List ℕ) → ◌≡◌ {A = List ℕ} (elim t [ true ↦ body | false ↦ body ]) body
either true body = refl
either false body = refl

-- by whether the letter is that of C or L
text_by : (choice : Choice) (body : List ℕ) (letter : ℕ) {t : Bool} → is_picked letter (Field50C ∷ Field50L ∷ []) ≡ t
    → ◌≡◌ {A = List ℕ} (elim t [ true ↦ body | false ↦ tried_text choice body ]) (read_text choice body letter)
text_by choice body letter {t} e =
    by_choice (λ choice. ◌≡◌ {A = List ℕ} (elim t [ true ↦ body | false ↦ tried_text choice body ]) (read_text choice body letter)) (rw (e, read_text)) (others Field50OrderingCustomerFGH) (others Field50OrderingCustomerAFK) (others Field50OrderingCustomerNCF) (others Field50Creditor) (others Field59) (others Field59Debtor)
    choice
  where
    others : (c : Choice) → ◌≡◌ {A = List ℕ} (elim t [ true ↦ body | false ↦ body ]) (elim (is_picked letter (options_of c)) [ true ↦ body | false ↦ body ])
    others c = either t body ∙ sym (either (is_picked letter (options_of c)) body)

picked : (letter : ℕ) {t u : Bool} → eqb letter 67 ≡ t → eqb letter 76 ≡ u → is_picked letter (Field50C ∷ Field50L ∷ []) ≡ (t || u)
unfolding is_picked
picked letter {t} {u} e f = rw (e, f) (ap (λ (x : Bool). t || x) (or-false u))

-- whether one of the two letters was seen
seen : (c : Joined-has_letter) → c.if-has_letter.value ≡ is_picked c.args.letter (Field50C ∷ Field50L ∷ [])
seen c =
    let letter = c.args.letter in
    elim c.if-has_letter.branch [
      | then-has_letter w ↦ w.value-is ∙ w.if-has_letter.true ∙ sym (picked letter (sym c.has_letter.ensures ∙ w.if-has_letter.true) refl)
      | else-has_letter w ↦ w.value-is ∙ w.has_letter-else-has_letter.ensures ∙ sym (picked letter (sym c.has_letter.ensures ∙ w.if-has_letter.false) refl)
    ]

pub returns-then-has_letter-2 : goal.returns-then-has_letter-2
returns-then-has_letter-2 c =
    let a = c.args in
    text_by a.choice a.body.now a.letter (sym (seen (goal.at.returns-then-has_letter-2 c).Joined-has_letter) ∙ c.if-has_letter-2.true)

pub returns-else-has_letter-2 : goal.returns-else-has_letter-2
returns-else-has_letter-2 c =
    let a = c.args in
    c.tried_text.ensures
    ∙ text_by a.choice a.body.now a.letter (sym (seen (goal.at.returns-else-has_letter-2 c).Joined-has_letter) ∙ c.if-has_letter-2.false)
