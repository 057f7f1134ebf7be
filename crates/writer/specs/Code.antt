-- The working forms of the writer's private functions: the parts that they write and test.
use Rattle.std.specs.Prelude.{ℕ, zero, suc, ◌+◌, ◌-◌, ◌≤◌, min, ◌≡◌, Bool, true, false, not, ◌&&◌, List, [], ◌∷◌, ◌++◌, map, ltb, eqb, length, get_or, drop}
use Rattle.errors.specs.Refusals.{Reply}
use Rattle.party.specs.declared.PartyOption.{PartyOption}
use Rattle.party.specs.declared.Party.{Party}
use Rattle.party.specs.Limits.{limits_of}
use Rattle.party.specs.Text.{Used, used}
use Rattle.party.specs.Party.{where_limit, content}
use Rattle.party.specs.declared.Numbering.{Numbering}
use Rattle.swift_utils.specs.Bytes.{among}
use Rattle.field_utils.specs.Lines.{starts}
use Rattle.field_utils.specs.Names.{skip_of, dropped_prefix, parse_line, parse_count}
use Rattle.record_bytes.specs.RecordBytes.{nth_text}
use Rattle.writer.specs.Writing.{slash_of, number_of, name_lines, put}
use Rattle.writer.specs.Given.{passes, every, is_line, is_account, is_taken}

-- the length of a text, which is at most a bound
pub record Counted (bound : ℕ) (text : List ℕ) (n : ℕ) : Type 0 where
  pub is : n ≡ length text
  pub most : n ≤ bound

-- e is the buffer d with a text put at a place, and end is the place after the text
pub record Puts (d : List ℕ) (at : ℕ) (text : List ℕ) (e : List ℕ) (end : ℕ) : Type 0 where
  pub bytes : e ≡ put d at text
  pub ends : end ≡ at + length text

-- the LF before a line, which the first line has not
abbrev pub lead : Bool → List ℕ
lead true = 10 ∷ []
lead false = []

-- whether an LF stands before the i-th of the lines, by whether one stands before the first
abbrev pub follows : Bool → ℕ → Bool
follows first zero = first
follows first (suc i) = true

-- lines, each with its LF; whether the first of them has one is said
unfoldable pub led : Bool → List (List ℕ) → List ℕ
led later [] = []
led later (l ∷ ls) = (lead later ++ l) ++ led true ls

-- whether an account or identifier is written
abbrev pub has_head : PartyOption → Bool → Bool
has_head o present = present && ltb 0 (limits_of o).account_max

-- how many names are used
abbrev pub name_count : PartyOption → ℕ → ℕ
name_count o count = elim (ltb 0 (limits_of o).max_names) [ true ↦ min count 4 | false ↦ 0 ]

-- an account or identifier, where it is written
abbrev pub head_of : PartyOption → Bool → Used → List ℕ
head_of o true u = slash_of o ++ u.bytes
head_of o false u = []

-- a name's line as it is written, by the name's place from 0 on
abbrev pub name_on : Bool → ℕ → Party → List ℕ
name_on first i p = lead (follows first i) ++ (number_of (limits_of p.option).numbering (get_or p.digits i 0) ++ (used (nth_text (2 + i) p)).bytes)

-- a record's names as they are written
abbrev pub names_on : Bool → Party → List ℕ
names_on later p = led later (name_lines (limits_of p.option).numbering (content p).digits (content p).names)

-- its BIC and its names; an option has at most one of the two
abbrev pub rest_on : Bool → Party → List ℕ
rest_on later p = led later (map (λ (u : Used). u.bytes) (content p).bic ++ name_lines (limits_of p.option).numbering (content p).digits (content p).names)

-- whether a text without an LF passes
abbrev pub line_reply : Reply → List ℕ → Bool
line_reply r x = not (among x 10) && passes r

-- how many bytes of a name's text are its number: 59F's names are kept with it
abbrev pub number_in : Numbering → ℕ
number_in f = skip_of f - dropped_prefix f

-- whether a text with a digit passes as the k-th name
unfoldable pub is_name : Numbering → ℕ → ℕ → ℕ → Used → Bool
is_name f longest k digit u = is_line u && passes (parse_line f longest k k (number_of f digit ++ u.bytes))

-- whether texts with digits pass as the names from the k-th on
unfoldable pub all_names : Numbering → ℕ → ℕ → List ℕ → List Used → Bool
all_names f longest k digits [] = true
all_names f longest k digits (u ∷ us) = is_name f longest k (get_or digits 0 0) u && all_names f longest (suc k) (drop 1 digits) us

-- whether a record's names pass as those of its option
abbrev pub names_pass : Party → Bool
names_pass p = all_names (limits_of p.option).numbering (limits_of p.option).name_max 1 p.digits (content p).names

-- whether they are as many as the count says, and as many as the option may have
abbrev pub count_test : Party → Bool
count_test p =
    let n = length (content p).names in
    eqb n p.count && elim (eqb (limits_of p.option).max_names 0) [ true ↦ true | false ↦ passes (parse_count (limits_of p.option).max_names n) ]

-- whether an account or identifier, that is there or not, passes as the option's, where it has one
abbrev pub head_test : PartyOption → Bool → Party → Bool
head_test o present p = every (is_account o present) (where_limit (limits_of o).account_max (used p.account ∷ []))

-- and the names pass with it
abbrev pub texts_test : PartyOption → Bool → Party → Bool
texts_test o true p = head_test o true p && names_pass p
texts_test o false p = head_test o false p && not (is_taken (limits_of o).first (content p).names) && names_pass p

-- whether there is a first name, and it starts with `/`
abbrev pub slash_name : List Used → Bool
slash_name [] = false
slash_name (u ∷ us) = starts 47 u.bytes
