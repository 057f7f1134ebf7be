-- Records that a reader can give, and 22 (document 01, 'From the state' and 'A whole page').
use Rattle.std.specs.Prelude.{ℕ, ◌≡◌, Bool, true, false, not, ◌&&◌, List, [], ◌∷◌, ltb, eqb, length}
use Rattle.errors.specs.Refusals.{Reply, accepted, refused, must, ◌then◌}
use Rattle.party.specs.declared.PartyOption.{PartyOption}
use Rattle.party.specs.declared.Party.{Party}
use Rattle.party.specs.Limits.{limits_of}
use Rattle.party.specs.Text.{Used}
use Rattle.party.specs.Party.{Content, Same}
use Rattle.party.specs.declared.First.{First}
use Rattle.party.specs.declared.First.TheVariants.{NoAccount, Identified, Account, ShortAccount, SlashAccount, AnyAccount, WholeLine}
use Rattle.swift_utils.specs.Bytes.{all, among}
use Rattle.swift_utils.specs.Checks.{parse_bic}
use Rattle.field_utils.specs.Lines.{starts}
use Rattle.field_utils.specs.Identifier.{identifier_reply}
use Rattle.field_utils.specs.Names.{parse_name_and_address}
use Rattle.reader.specs.Options.{account_reply, length_reply, ascii, read}
use Rattle.writer.specs.Writing.{name_lines}

-- a record that a reader can give: the same as one that an accepted body gives ('A whole page')
pub record Given (p : Party) : Type 0 where
  pub body : List ℕ
  pub accepts : (read p.option body).reply ≡ accepted
  pub same : Same (read p.option body).party p

-- the checks pass
abbrev pub passes : Reply → Bool
passes accepted = true
passes (refused k n) = false

-- a test passes at every text
abbrev pub every : (Used → Bool) → List Used → Bool
every f [] = true
every f (u ∷ us) = f u && every f us

-- a text has as many bytes as its length says, which is at most 38, and no LF
unfoldable pub is_line : Used → Bool
is_line u = eqb u.len (length u.bytes) && not (among u.bytes 10)

-- what the option's reader asks of an account or identifier; of 50H's bytes, that they are at most 127
abbrev pub text_reply : First → PartyOption → List ℕ → Reply
text_reply NoAccount o x = account_reply o x
text_reply Identified o x = identifier_reply (limits_of o).account_max 1 x
text_reply Account o x = account_reply o x
text_reply ShortAccount o x = account_reply o x
text_reply SlashAccount o x = account_reply o x
text_reply AnyAccount o x = length_reply o x then must (all ascii x) 13 0
text_reply WholeLine o x = account_reply o x

-- an account or identifier that is there passes; one that is not there is empty
abbrev pub is_account : PartyOption → Bool → Used → Bool
is_account o true u = is_line u && passes (text_reply (limits_of o).first o u.bytes)
is_account o false u = eqb u.len 0 && is_line u

-- there is one only where the option has one, and always in 50F, 50G, 50H and 50L, whose shortest has a byte
abbrev pub is_presence : PartyOption → Bool → Bool
is_presence o true = ltb 0 (limits_of o).account_max
is_presence o false = eqb (limits_of o).account_min 0

-- a BIC
abbrev pub is_bic : Used → Bool
is_bic u = is_line u && passes (parse_bic 1 u.bytes)

-- as many names as the count says, each a line; where the option has names, they pass as those, with their digits: a used digit that is
-- no digit does not (document 02, Seven)
unfoldable pub are_names : PartyOption → ℕ → List ℕ → List Used → Bool
are_names o count digits us =
    eqb (length us) count
    && every is_line us
    && elim (eqb (limits_of o).max_names 0) [ true ↦ true | false ↦ passes (parse_name_and_address o 1 (name_lines (limits_of o).numbering digits us)) ]

-- 50K and 59 without an account: a first name with `/` would be taken for one
abbrev pub is_taken : First → List Used → Bool
is_taken NoAccount us = false
is_taken Identified us = false
is_taken Account [] = false
is_taken Account (u ∷ us) = starts 47 u.bytes
is_taken ShortAccount [] = false
is_taken ShortAccount (u ∷ us) = starts 47 u.bytes
is_taken SlashAccount us = false
is_taken AnyAccount us = false
is_taken WholeLine us = false

-- the test for 22, of what a record says
unfoldable pub is_given : Content → Bool
is_given s =
    is_presence s.option s.present
    && every (is_account s.option s.present) s.account
    && every is_bic s.bic
    && are_names s.option s.count s.digits s.names
    && not (not s.present && is_taken (limits_of s.option).first s.names)
