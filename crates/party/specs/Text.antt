-- A text by value: an array of 38 bytes and a length (document 01, 'Rust forms and their Rattle stand-ins').
use Rattle.std.specs.Prelude.{ℕ, ◌-◌, ◌<◌, ◌^◌, ◌≡◌, List, [], ◌∷◌, ◌++◌, map, length, get_or, take, drop, replicate}
use Rattle.party.specs.declared.Text.{Text}
use Rattle.party.specs.declared.Part.{Part}

-- at most 38 bytes ('each with its length, at most 38 bytes')
abbrev pub text_most : ℕ
text_most = 38

-- as many bytes: those of a list of at most as many, and zeros ('Readers zero unused bytes')
unfoldable pub padded : List ℕ → List ℕ
padded l = l ++ replicate (text_most - length l) 0

-- the text of a list's first bytes, as many as it holds
unfoldable pub text_of : List ℕ → Text
text_of l = record { bytes = padded (take text_most l); len = length (take text_most l) }

-- the bytes of a part of a body, those that the body has
abbrev pub part_in : List ℕ → Part → List ℕ
part_in body p = take p.len (drop p.start body)

-- the texts of parts of a body
abbrev pub texts_in : List ℕ → List Part → List Text
texts_in body ps = map (λ (p : Part). text_of (part_in body p)) ps

-- an array of four: the first of a list, then as many of one that stands for none
unfoldable pub four : {A : Type 0} → A → List A → List A
four none xs = take 4 (xs ++ (none ∷ none ∷ none ∷ none ∷ []))

-- four texts by value: those of a list, then empty ones
abbrev pub four_texts : List (List ℕ) → List Text
four_texts names = four (text_of []) (map text_of names)

-- what a text holds: its length, and the bytes that it uses ('used bytes agree')
pub record Used : Type 0 where
  pub len : ℕ
  pub bytes : List ℕ

-- what a text holds; where its length passes 38, all of its bytes
abbrev pub used : Text → Used
used t = record { len = t.len; bytes = take t.len t.bytes }

-- a text as Rattle has it: 38 bytes, and a length that is a usize ('a fixed byte array and a length per text')
pub record IsText (t : Text) : Type 0 where
  pub size : length t.bytes ≡ text_most
  pub byte : (i : ℕ) → get_or t.bytes i 0 < 256
  pub fits : t.len < 2 ^ 64
