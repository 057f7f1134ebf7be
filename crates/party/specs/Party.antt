-- The party record: the blank one, and when two are the same (document 01, 'Rust forms and their Rattle stand-ins').
use Rattle.std.specs.Prelude.{ℕ, ◌<◌, ◌^◌, ◌≡◌, Bool, true, false, List, [], ◌∷◌, map, ltb, length, get_or, take}
use Rattle.party.specs.declared.PartyOption.{PartyOption}
use Rattle.party.specs.declared.PartyOption.TheVariants.{Field50NoOption}
use Rattle.party.specs.declared.Numbering.{Numbering}
use Rattle.party.specs.declared.Numbering.TheVariants.{Unnumbered, Numbered, InTurn}
use Rattle.party.specs.declared.Text.{Text}
use Rattle.party.specs.declared.Party.{Party}
use Rattle.party.specs.declared.Parts.{Parts}
use Rattle.party.specs.Limits.{limits_of}
use Rattle.party.specs.Text.{text_of, part_in, texts_in, Used, used, IsText}

-- a record as Rattle has it: so are its texts, there are four names and four digits, and the count is a usize ('four texts by value')
pub record IsParty (p : Party) : Type 0 where
  pub account : IsText p.account
  pub bic : IsText p.bic
  pub fits : p.count < 2 ^ 64
  pub size : length p.name_and_address ≡ 4
  pub name : (i : ℕ) (none : Text) → i < 4 → IsText (get_or p.name_and_address i none)
  pub digits : length p.digits ≡ 4
  pub digit : (i : ℕ) → get_or p.digits i 0 < 256

-- the blank record, which stands beside a refusal and beside a page's end; document 01 leaves it to us
abbrev pub blank : Party
blank = record {
  option = Field50NoOption;
  present = false;
  account = text_of [];
  bic = text_of [];
  count = 0;
  name_and_address = text_of [] ∷ text_of [] ∷ text_of [] ∷ text_of [] ∷ [];
  digits = 0 ∷ 0 ∷ 0 ∷ 0 ∷ [];
}

-- the record of parts of a body, with each text its part
unfoldable pub party_in : List ℕ → Parts → Party
party_in body q = record {
  option = q.option;
  present = q.present;
  account = text_of (part_in body q.account);
  bic = text_of (part_in body q.bic);
  count = q.count;
  name_and_address = texts_in body q.name_and_address;
  digits = q.digits;
}

-- the texts if the option has such texts, that is, where its limit is not 0 ('texts that the option .. leaves out are unused')
abbrev pub where_limit : ℕ → List Used → List Used
where_limit limit texts = elim (ltb 0 limit) [ true ↦ texts | false ↦ [] ]

-- what the first names of a record hold, as many as a count says ('texts that .. the count leaves out are unused')
abbrev pub names_of : ℕ → Party → List Used
names_of count p = map used (take count p.name_and_address)

-- the digits of lines, where the option has them beside its texts, as 50F alone has (document 02, Seven)
abbrev pub where_numbered : Numbering → List ℕ → List ℕ
where_numbered Unnumbered digits = []
where_numbered Numbered digits = digits
where_numbered InTurn digits = []

-- what a record says: option, presence, count, the used texts and the used digits ('option, presence, counts and used bytes')
pub record Content : Type 0 where
  pub option : PartyOption
  pub present : Bool
  pub count : ℕ
  pub account : List Used
  pub bic : List Used
  pub names : List Used
  pub digits : List ℕ

-- what a record says: a text or digit that the option or the count leaves out is not in it
unfoldable pub content : Party → Content
content p = record {
  option = p.option;
  present = p.present;
  count = p.count;
  account = where_limit (limits_of p.option).account_max (used p.account ∷ []);
  bic = where_limit (limits_of p.option).bic_count (used p.bic ∷ []);
  names = where_limit (limits_of p.option).max_names (names_of p.count p);
  digits = where_numbered (limits_of p.option).numbering (take p.count p.digits);
}

-- two records are the same when they say the same ('records are the same when ..')
abbrev pub Same : Party → Party → Type 0
Same p q = content p ≡ content q
