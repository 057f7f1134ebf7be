-- What owning a text or a record says of it: it is a value of its Rattle type. Owning a struct gives machine values, with `.1 .1` what
-- owning each field says, in the fields' order; owning an array gives machine values, its length, and what owning each element says.
-- Assumes nothing.
use Prim.Native.Nat.{ℕ, zero, suc, ◌<◌}
use mathlib.Core.Path.{◌≡◌}
use mathlib.Core.List.{List, [], ◌∷◌}
use native.Mathlib.Omega.{arith}
use lib.ListN.{length, get_or}
use mir.Syntax.{w8}
use mir.Val.{Val}
use borrow.Author.Rules.{elem_Fits}
use denote.Array.{each}
use denote.Laws.{Is}
use denote.Shadow.{shadow}
use Rattle.party.specs.declared.Text.{Text}
use Rattle.party.specs.declared.Parts.{Parts}
use Rattle.party.specs.declared.Party.{Party}
use Rattle.party.specs.Text.{IsText}
use Rattle.party.specs.Party.{IsParty}
use Rattle.party.specs.contracts.Text.{the_field as text, the_row as text_row}
use Rattle.party.specs.contracts.Parts.{the_field as parts}
use Rattle.party.specs.contracts.Party.{the_field as party}

pub is_text_lem : (t : Text) (vs : List Val) → Is text.row (text.into t) vs → IsText t
is_text_lem t vs h = record {
  size = h.1.1.0.1.0.1;
  byte = λ i. (elem_Fits w8 w8 t.bytes h.1.1.0.0 i h.1.1.0.1.1 tt).fits;
  fits = h.1.1.1.0.1;
}

all_texts :
    (ts : List Text) (us : List Val) → shadow (each text_row.Denot text_row.own_val ts us) →
    (i : ℕ) (none : Text) → i < length ts → IsText (get_or ts i none)
all_texts [] us h i none l = absurd (omega arith)
all_texts (t ∷ ts) [] h i none l = absurd h
all_texts (t ∷ ts) (u ∷ us) h zero none l = is_text_lem t (u ∷ []) h.0
all_texts (t ∷ ts) (u ∷ us) h (suc i) none l = all_texts ts us h.1 i none (omega arith)

pub is_party : (p : Party) (vs : List Val) → Is party.row (party.into p) vs → IsParty p
is_party p vs h =
    let texts = h.1.1.1.1.1.1.1.0 in
    let bytes = h.1.1.1.1.1.1.1.1.0 in
    let four : length p.name_and_address ≡ 4 = texts.1.0.1 in
    record {
      account = is_text_lem p.account _ h.1.1.1.1.0;
      bic = is_text_lem p.bic _ h.1.1.1.1.1.0;
      fits = h.1.1.1.1.1.1.0.1;
      size = four;
      name = λ i none l. all_texts p.name_and_address texts.0 texts.1.1 i none (omega arith);
      digits = bytes.1.0.1;
      digit = λ i. (elem_Fits w8 w8 p.digits bytes.0 i bytes.1.1 tt).fits;
    }

-- parts of a body: of four names and four digits
pub record AreParts (q : Parts) : Type 0 where
  pub size : length q.name_and_address ≡ 4
  pub digits : length q.digits ≡ 4
  pub digit : (i : ℕ) → get_or q.digits i 0 < 256

pub are_parts : (q : Parts) (vs : List Val) → Is parts.row (parts.into q) vs → AreParts q
are_parts q vs h =
    let names = h.1.1.1.1.0 in
    let bytes = h.1.1.1.1.1.1.0 in
    record {
      size = names.1.0.1;
      digits = bytes.1.0.1;
      digit = λ i. (elem_Fits w8 w8 q.digits bytes.0 i bytes.1.1 tt).fits;
    }
