-- A record as bytes, which document 01 leaves to us: the option's place in the table, the presence, the count, then six texts and four
-- digits.
use Rattle.std.specs.Prelude.{ℕ, ◌+◌, ◌*◌, min, Bool, true, false, ◌&&◌, List, [], ◌∷◌, ◌++◌, leb, eqb, length, get_or, take, drop}
use Rattle.party.specs.declared.Text.{Text}
use Rattle.party.specs.declared.Party.{Party}
use Rattle.party.specs.Limits.{place_of, option_at}
use Rattle.party.specs.Text.{text_most}
use Rattle.party.specs.Party.{blank}

-- ---- a record as bytes
-- a text takes a byte for its length and 38 bytes
abbrev pub text_size : ℕ
text_size = 1 + text_most

-- the digits stand after three bytes and six texts (document 02, Seven)
abbrev pub digits_at : ℕ
digits_at = 3 + 6 * text_size

-- and are four, so that a record takes 241 bytes in all
abbrev pub record_size : ℕ
record_size = digits_at + 4

-- a length or count; one above 255 is kept as 255, which is still more than a text or a record holds
abbrev pub byte_of : ℕ → ℕ
byte_of n = min n 255

-- yes is 1, no is 0
abbrev pub bit : Bool → ℕ
bit true = 1
bit false = 0

-- a text: its length, then its 38 bytes
abbrev pub encoded_text : Text → List ℕ
encoded_text t = byte_of t.len ∷ t.bytes

-- texts one after the other
unfoldable pub encoded_texts : List Text → List ℕ
encoded_texts [] = []
encoded_texts (t ∷ ts) = encoded_text t ++ encoded_texts ts

-- the six texts: the account or identifier, the BIC, the names
abbrev pub texts_of : Party → List Text
texts_of p = p.account ∷ p.bic ∷ p.name_and_address

-- the text with a number among the six, an empty one past them
abbrev pub nth_text : ℕ → Party → Text
nth_text n p = get_or (texts_of p) n (record { bytes = []; len = 0 })

-- the bytes of a record
unfoldable pub encoded : Party → List ℕ
encoded p = place_of p.option ∷ bit p.present ∷ byte_of p.count ∷ encoded_texts (texts_of p) ++ p.digits

-- a buffer with a record stored at its start, where it has as many bytes; the bytes after those stay, and so do all of a shorter one
unfoldable pub stored : Party → List ℕ → List ℕ
stored p buffer = elim (leb record_size (length buffer)) [ true ↦ encoded p ++ drop record_size buffer | false ↦ buffer ]

-- ---- bytes as a record
-- the text of such bytes: its length, then its 38 bytes
abbrev pub text_from : List ℕ → Text
text_from s = record { bytes = drop 1 s; len = get_or s 0 0 }

-- the text with a number among the six
unfoldable pub text_at : ℕ → List ℕ → Text
text_at n s = text_from (take text_size (drop (3 + text_size * n) s))

-- bytes that are as many as a record's, and the first is an option's place, 0 to 10
abbrev pub has_option : List ℕ → Bool
has_option s = leb record_size (length s) && leb (get_or s 0 0) 10

-- bytes that start with a record: as many, the option's place at most 10, the presence at most 1
unfoldable pub holds_record : List ℕ → Bool
holds_record s = leb record_size (length s) && leb (get_or s 0 0) 10 && leb (get_or s 1 0) 1

-- the record of such bytes
unfoldable pub party_from : List ℕ → Party
party_from s = record {
  option = option_at (get_or s 0 0);
  present = eqb (get_or s 1 0) 1;
  account = text_at 0 s;
  bic = text_at 1 s;
  count = get_or s 2 0;
  name_and_address = text_at 2 s ∷ text_at 3 s ∷ text_at 4 s ∷ text_at 5 s ∷ [];
  digits = take 4 (drop digits_at s);
}

-- the record at the start of bytes; where there is none, the blank one, which no reader gives
unfoldable pub decoded : List ℕ → Party
decoded s = elim (holds_record s) [ true ↦ party_from s | false ↦ blank ]

-- what bytes have at the places of a record, also where they are none by their first two; the blank one where they are fewer
unfoldable pub laid_out : List ℕ → Party
laid_out s = elim (leb record_size (length s)) [ true ↦ party_from s | false ↦ blank ]
