-- The eleven options' readers (document 01, field50.rs and field59.rs): what each checks, in its order, and what it finds.
use Rattle.std.specs.Prelude.{ℕ, Bool, true, false, not, ◌&&◌, ◌||◌, List, [], ◌∷◌, map, leb, eqb, length, drop}
use Rattle.errors.specs.Refusals.{Reply, accepted, refused, must, ◌then◌}
use Rattle.party.specs.declared.PartyOption.{PartyOption}
use Rattle.party.specs.Limits.{limits_of}
use Rattle.party.specs.declared.First.{First}
use Rattle.party.specs.declared.First.TheVariants.{NoAccount, Identified, Account, ShortAccount, SlashAccount, AnyAccount, WholeLine}
use Rattle.party.specs.declared.Layout.{Layout}
use Rattle.party.specs.declared.Layout.TheVariants.{BicOnly, TextOnly, ByLines}
use Rattle.swift_utils.specs.Bytes.{all, among}
use Rattle.swift_utils.specs.Checks.{parse_length, parse_account, parse_bic}
use Rattle.field_utils.specs.Lines.{lines, starts}
use Rattle.field_utils.specs.Identifier.{Identifier, absent, given, parse_party_identifier}
use Rattle.field_utils.specs.Names.{kept, digit_of, parse_name_and_address}
use Rattle.reader.specs.Reading.{Reading, giving, Found, party_of}

-- what is found of an account or identifier in the first line: whether it is there, its text, and what the checks say of it
pub record Head : Type 0 where
  pub present : Bool
  pub text : List ℕ
  pub reply : Reply

-- none is there
abbrev pub no_head : Head
no_head = record { present = false; text = []; reply = accepted }

-- one is there
abbrev pub head : List ℕ → Reply → Head
head text reply = record { present = true; text = text; reply = reply }

-- 50A, 59F: identifier or none
abbrev pub identifier_head : Identifier → Head
identifier_head absent = no_head
identifier_head (given text reply) = head text reply

-- the account's or identifier's length and bytes (2, then 3)
abbrev pub account_reply : PartyOption → List ℕ → Reply
account_reply o text = parse_account (limits_of o).account_min (limits_of o).account_max 1 text

-- its length alone
abbrev pub length_reply : PartyOption → List ℕ → Reply
length_reply o text = parse_length (limits_of o).account_min (limits_of o).account_max 1 text

-- a first line that must start with `/`, with what is said of the text after it
abbrev pub slash_head : List ℕ → Reply → Head
slash_head l reply = head (drop 1 l) (must (starts 47 l) 2 1 then reply)

-- 50K: a first line with `/` is an account of 0 to 34 legal bytes
unfoldable pub account_head : PartyOption → List ℕ → Head
account_head o l = elim (starts 47 l) [ true ↦ head (drop 1 l) (account_reply o (drop 1 l)) | false ↦ no_head ]

-- 59, 59A: account as 50K, but `/` with over 34 bytes is none: 59 takes the line for a name, 59A for the BIC
unfoldable pub short_account_head : PartyOption → List ℕ → Head
short_account_head o l = elim (leb (length (drop 1 l)) (limits_of o).account_max) [ true ↦ account_head o l | false ↦ no_head ]

-- what an option makes of the first line
abbrev pub head_by : First → PartyOption → List ℕ → Head
-- 50: a name
head_by NoAccount o l = no_head
head_by Identified o l = identifier_head (parse_party_identifier o 1 l)
head_by Account o l = account_head o l
head_by ShortAccount o l = short_account_head o l
-- 50G: `/` and 1 to 34 legal bytes
head_by SlashAccount o l = slash_head l (account_reply o (drop 1 l))
-- 50H: `/` and 1 to 34 bytes of any kind
head_by AnyAccount o l = slash_head l (length_reply o (drop 1 l))
-- 50F: first is 1 to 35 legal bytes
head_by WholeLine o l = head l (account_reply o l)

-- the lines after the head, the first of them body line n: names
abbrev pub with_names : PartyOption → ℕ → Head → List (List ℕ) → Found
with_names o n h ls = record {
  reply = parse_name_and_address o n ls;
  present = h.present;
  account = h.text;
  bic = [];
  names = map (kept (limits_of o).numbering) ls;
  digits = map (digit_of (limits_of o).numbering) ls;
}

-- or a BIC; later lines are ignored, and 8 where it is missing
abbrev pub with_bic : ℕ → Head → List (List ℕ) → Found
with_bic n h [] = record { reply = refused 8 0; present = h.present; account = h.text; bic = []; names = []; digits = [] }
with_bic n h (l ∷ ls) = record { reply = parse_bic n l; present = h.present; account = h.text; bic = l; names = []; digits = [] }

-- the one or the other, by whether the option has names
unfoldable pub after_head : PartyOption → ℕ → Head → List (List ℕ) → Found
after_head o n h ls = elim (eqb (limits_of o).max_names 0) [ true ↦ with_bic n h ls | false ↦ with_names o n h ls ]

-- a check before those of what is found
abbrev pub after : Reply → Found → Found
after r f = record { reply = r then f.reply; present = f.present; account = f.account; bic = f.bic; names = f.names; digits = f.digits }

-- the head and the lines after it
abbrev pub from_head : PartyOption → Head → List (List ℕ) → List (List ℕ) → Found
from_head o h all_lines later =
    elim h.present [ true ↦ after h.reply (after_head o 2 h later) | false ↦ after h.reply (after_head o 1 h all_lines) ]

-- as many lines as the option counts first: at least so many, and at most so many where the table has a most
abbrev pub is_counted : PartyOption → ℕ → Bool
is_counted o n = leb (limits_of o).min_lines n && (eqb (limits_of o).max_lines 0 || leb n (limits_of o).max_lines)

-- 1: a wrong line count at the start; then the first line and the others
abbrev pub by_lines : PartyOption → List (List ℕ) → Found
by_lines o [] = after (refused 1 0) (with_bic 1 no_head [])
by_lines o (l ∷ ls) =
    after (must (is_counted o (length (l ∷ ls))) 1 0) (from_head o (head_by (limits_of o).first o l) (l ∷ ls) ls)

-- 50C: the whole body is a BIC
abbrev pub bic_only : List ℕ → Found
bic_only body = record { reply = parse_bic 1 body; present = false; account = []; bic = body; names = []; digits = [] }

-- 50L: no LF (1), 1 to 35 bytes, legal
abbrev pub text_only : PartyOption → List ℕ → Found
text_only o body = record { reply = must (not (among body 10)) 1 0 then account_reply o body; present = true; account = body; bic = []; names = []; digits = [] }

-- what an option finds in a body
abbrev pub found_by : Layout → PartyOption → List ℕ → Found
found_by BicOnly o body = bic_only body
found_by TextOnly o body = text_only o body
found_by ByLines o body = by_lines o (lines body)

-- a byte of at most 127
abbrev pub ascii : ℕ → Bool
ascii b = leb b 127

-- at most 2,048 bytes
abbrev pub body_most : ℕ
body_most = 2048

-- 12 body over 2,048; 13 byte above 127
abbrev pub body_reply : List ℕ → Reply
body_reply body = must (leb (length body) body_most) 12 0 then must (all ascii body) 13 0

-- the option's own checks, after 12 and 13
abbrev pub read_own : PartyOption → List ℕ → Reading
read_own o body = let f = found_by (limits_of o).layout o body in giving f.reply (party_of o f)

-- an option's reader: 12, 13, then the option's own
unfoldable pub read : PartyOption → List ℕ → Reading
read o body =
    let f = found_by (limits_of o).layout o body in
    giving (body_reply body then f.reply) (party_of o f)
