-- The network profile (document 02, Five): a body is read by letter or detected as before, then tested line by line as it came, untrimmed.
use Rattle.std.specs.Prelude.{ℕ, suc, Bool, true, false, not, ◌&&◌, ◌||◌, List, [], ◌∷◌, ltb, eqb}
use Rattle.errors.specs.Refusals.{Reply, accepted, must, ◌then◌}
use Rattle.party.specs.declared.PartyOption.{PartyOption}
use Rattle.party.specs.declared.Party.{Party}
use Rattle.party.specs.Limits.{limits_of}
use Rattle.party.specs.Text.{used}
use Rattle.swift_utils.specs.Bytes.{all, small, narrow}
use Rattle.field_utils.specs.Lines.{starts, is_empty, lines}
use Rattle.field_utils.specs.Trim.{trimmed}
use Rattle.reader.specs.Reading.{Reading, giving}
use Rattle.reader.specs.Options.{read}
use Rattle.reader.specs.declared.choices.Choice.{Choice}
use Rattle.reader.specs.Choices.{parse, parse_with_variant}

-- two lists have the same bytes
unfoldable pub is_same : List ℕ → List ℕ → Bool
is_same [] [] = true
is_same [] (b ∷ m) = false
is_same (a ∷ l) [] = false
is_same (a ∷ l) (b ∷ m) = eqb a b && is_same l m

-- a line holds the BIC of a record that has one: trimmed, it is the BIC
unfoldable pub holds_bic : Party → List ℕ → Bool
holds_bic p l = ltb 0 (limits_of p.option).bic_count && is_same (trimmed l) (used p.bic).bytes

-- only letters, digits, space and `/-?:().,'+`
abbrev pub is_narrow : List ℕ → Bool
is_narrow l = all narrow l

-- BIC letters are capitals: the line that holds the BIC has no small letter
abbrev pub is_capital : Bool → List ℕ → Bool
is_capital holds l = not holds || all (λ (b : ℕ). not (small b)) l

-- no line after the first starts with `:` or `-`
abbrev pub is_opening : ℕ → List ℕ → Bool
is_opening n l = eqb n 1 || not (starts 58 l || starts 45 l)

-- what the profile asks of line n, in the request's order, where it is said whether an earlier line holds the BIC, and whether this one
-- does: no line after the BIC is the third, no empty line the fourth
unfoldable pub is_inside : ℕ → Bool → Bool → List ℕ → Bool
is_inside n after holds l = is_narrow l && is_capital holds l && not after && not (is_empty l) && is_opening n l

-- 32 with the first line at fault: the lines from line n on, in their order
unfoldable pub lines_reply : Party → ℕ → Bool → List (List ℕ) → Reply
lines_reply p n after [] = accepted
lines_reply p n after (l ∷ ls) = must (is_inside n after (holds_bic p l) l) 32 n then lines_reply p (suc n) (after || holds_bic p l) ls

-- the test of a body as it came, that was read as a record; its lines are counted from 1
unfoldable pub profile_reply : Party → List ℕ → Reply
profile_reply p body = lines_reply p 1 false (lines body)

-- 32 when the ordinary reading accepts and a profile rule is broken; a refusal of the ordinary reading stands
unfoldable pub profiled : Reading → List ℕ → Reading
profiled r body = giving (r.reply then profile_reply r.party body) r.party

-- under the profile: an option's read ..
abbrev pub read_profiled : PartyOption → List ℕ → Reading
read_profiled o body = profiled (read o body) body

-- .. a choice, which detects ..
abbrev pub parse_profiled : Choice → List ℕ → Reading
parse_profiled choice body = profiled (parse choice body) body

-- .. and a choice by a letter
abbrev pub parse_with_variant_profiled : Choice → List ℕ → ℕ → Reading
parse_with_variant_profiled choice body letter = profiled (parse_with_variant choice body letter) body
