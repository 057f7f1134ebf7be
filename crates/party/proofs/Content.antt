-- Two records are the same, or not, by their parts: first option, presence and count, then the texts and the digits that the option has.
-- Assumes nothing.
use Prim.Native.Nat.{ℕ}
use mathlib.Core.Path.{◌≡◌, ◌∙◌, sym, ap}
use mathlib.Core.List.{List, [], ◌∷◌}
use lib.ListN.{take}
use Rattle.party.specs.declared.Party.{Party}
use Rattle.party.specs.Limits.{limits_of}
use Rattle.party.specs.Text.{Used, used}
use Rattle.party.specs.Party.{where_limit, names_of, where_numbered, Content, content, Same}

pub record SameHead (p q : Party) : Type 0 where
  pub option : p.option ≡ q.option
  pub present : p.present ≡ q.present
  pub count : p.count ≡ q.count

-- the texts and the digits of the record q, by the option and the count of the record p
abbrev account_in : Party → Party → List Used
account_in p q = where_limit (limits_of p.option).account_max (used q.account ∷ [])

abbrev bic_in : Party → Party → List Used
bic_in p q = where_limit (limits_of p.option).bic_count (used q.bic ∷ [])

abbrev names_in : Party → Party → List Used
names_in p q = where_limit (limits_of p.option).max_names (names_of p.count q)

abbrev digits_in : Party → Party → List ℕ
digits_in p q = where_numbered (limits_of p.option).numbering (take p.count q.digits)

content_in : Party → Party → Content
content_in p q = record {
  option = p.option;
  present = p.present;
  count = p.count;
  account = account_in p q;
  bic = bic_in p q;
  names = names_in p q;
  digits = digits_in p q;
}

abbrev pub SameAccount : Party → Party → Type 0
SameAccount p q = account_in p p ≡ account_in p q

abbrev pub SameBic : Party → Party → Type 0
SameBic p q = bic_in p p ≡ bic_in p q

abbrev pub SameNames : Party → Party → Type 0
SameNames p q = names_in p p ≡ names_in p q

abbrev pub SameDigits : Party → Party → Type 0
SameDigits p q = digits_in p p ≡ digits_in p q

module _ {p q : Party} where
  pub head : Same p q → SameHead p q
  unfolding content
  head e = record {
    option = ap (λ (s : Content). s.option) e;
    present = ap (λ (s : Content). s.present) e;
    count = ap (λ (s : Content). s.count) e;
  }

  content_in_lem : SameHead p q → content q ≡ content_in p q
  unfolding content content_in
  content_in_lem h = rw (h.option, h.present, h.count)

  pub account : SameHead p q → Same p q → SameAccount p q
  unfolding content content_in
  account h e = ap (λ (s : Content). s.account) (e ∙ content_in_lem h)

  pub bic : SameHead p q → Same p q → SameBic p q
  unfolding content content_in
  bic h e = ap (λ (s : Content). s.bic) (e ∙ content_in_lem h)

  pub names : SameHead p q → Same p q → SameNames p q
  unfolding content content_in
  names h e = ap (λ (s : Content). s.names) (e ∙ content_in_lem h)

  pub digits : SameHead p q → Same p q → SameDigits p q
  unfolding content content_in
  digits h e = ap (λ (s : Content). s.digits) (e ∙ content_in_lem h)

  pub same : SameHead p q → SameAccount p q → SameBic p q → SameNames p q → SameDigits p q → Same p q
  unfolding content content_in
  same h a b n d =
      let parts : content p ≡ content_in p q = λ i. record {
        option = p.option;
        present = p.present;
        count = p.count;
        account = a i;
        bic = b i;
        names = n i;
        digits = d i;
      } in
      parts ∙ sym (content_in_lem h)
