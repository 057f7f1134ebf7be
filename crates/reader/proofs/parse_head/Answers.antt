-- `reader::parse_head` meets its contract, by what the first line is to the option. Assumes nothing.
use mathlib.Core.Path.{◌≡◌, refl, sym, ◌∙◌, ap, subst}
use mathlib.Core.Bool.{true}
use mathlib.Core.List.{List, [], ◌∷◌}
use Prim.Native.Nat.{ℕ}
use denote.Bor.{Bor}
use Rattle.std.specs.Prelude.{Option, None, Some, Ok}
use Rattle.std.specs.Option.{option_map}
use native.Mathlib.Omega.{arith}
use denote.Enum.Declared.{tag_of}
use types.Run.{OneOf, hit}
use Rattle.party.specs.declared.First.TheVariants.{NoAccount, Identified, Account, ShortAccount, SlashAccount, AnyAccount, WholeLine}
use Rattle.party.specs.contracts.First.{the_type}
use Rattle.party.specs.declared.First.{First}
use Rattle.party.specs.declared.PartyOption.{PartyOption}
use Rattle.party.specs.declared.Limits.{Limits}
use Rattle.party.specs.Limits.{limits_of}
use Rattle.field_utils.specs.Identifier.{told_identifier, parse_party_identifier}
use Rattle.reader.specs.Code.{IsHead, passed_head}
use Rattle.reader.specs.Options.{identifier_head, head_by}
use Rattle.reader.proofs.Heads.{by_first, identifier_text}
use Rattle.reader.proofs.parse_head.Goals as goal

-- the head of an identifier, or none
identified : (o : PartyOption) (l : List ℕ) (i : Option (Bor (List ℕ))) → told_identifier l (Ok i) ≡ parse_party_identifier o 1 l → IsHead l (Ok (option_map (λ x. 1) i)) (head_by Identified o l)
identified o l None e = ap identifier_head (sym e)
identified o l (Some x) e = ap identifier_head (sym e) ∙ ap (passed_head true) (identifier_text o 1 l e)

pub returns-in_ok-parse_party_identifier-in-Identified : goal.returns-in_ok-parse_party_identifier-in-Identified
returns-in_ok-parse_party_identifier-in-Identified c =
    let a = c.args in
    let i = c.in_ok-parse_party_identifier-in-Identified in
    let q : c.map.result ≡ option_map (λ x. 1) i.field-0 = grind arith in
    let first = ap (λ (m : Limits). m.first) (sym c.limits_of.ensures) ∙ c.in-Identified.is in
    subst (λ (r : Option ℕ). IsHead a.line.now (Ok r) (head_by (limits_of a.option).first a.option a.line.now)) (sym q)
    (subst (λ (f : First). IsHead a.line.now (Ok (option_map (λ x. 1) i.field-0)) (head_by f a.option a.line.now)) (sym first) (identified a.option a.line.now i.field-0 i.ensures))

-- the two that are left
left : (f : First) → (f ≡ NoAccount → ⊥) → (f ≡ Identified → ⊥) → (f ≡ SlashAccount → ⊥) → (f ≡ AnyAccount → ⊥) → (f ≡ WholeLine → ⊥) → OneOf (2 ∷ 3 ∷ []) (tag_of the_type f)
left NoAccount a b d e g = absurd (a refl)
left Identified a b d e g = absurd (b refl)
left Account a b d e g = hit (2 ∷ 3 ∷ []) 2 tt
left ShortAccount a b d e g = hit (2 ∷ 3 ∷ []) 3 tt
left SlashAccount a b d e g = absurd (d refl)
left AnyAccount a b d e g = absurd (e refl)
left WholeLine a b d e g = absurd (g refl)

pub returns-in_default : goal.returns-in_default
returns-in_default c =
    let a = c.args in
    let n = c.in_default in
    let first = ap (λ (m : Limits). m.first) c.limits_of.ensures in
    subst (IsHead a.line.now c.account_head.result)
    (by_first (limits_of a.option).first a.option a.line.now (subst (λ (f : First). OneOf (2 ∷ 3 ∷ []) (tag_of the_type f)) first (left _ n.not-NoAccount n.not-Identified n.not-SlashAccount n.not-AnyAccount n.not-WholeLine)))
    c.account_head.ensures
