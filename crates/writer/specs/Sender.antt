-- What is written of a body that was read: the lines that came (document 02, Seven, 'as it came and writing must give it back'). The
-- theorems are `sender_lines` and `keeps_50F`, proofs/Sender.antt.
use Rattle.std.specs.Prelude.{ℕ, ◌≡◌, false, List, [], ◌∷◌, ◌++◌, map, drop, get_or}
use Rattle.party.specs.declared.PartyOption.{PartyOption}
use Rattle.party.specs.declared.PartyOption.TheVariants.{Field50F}
use Rattle.party.specs.declared.Layout.{Layout}
use Rattle.party.specs.declared.Layout.TheVariants.{BicOnly, TextOnly, ByLines}
use Rattle.party.specs.Limits.{limits_of}
use Rattle.party.specs.Party.{Content, content}
use Rattle.field_utils.specs.Lines.{lines as lines_of}
use Rattle.reader.specs.Options.{read}
use Rattle.writer.specs.Writing.{written_lines, written_body}
use Rattle.writer.specs.ReadBack.{earlier_cr}

-- the lines that an option reads; a body that is a BIC or a text is one
abbrev pub read_lines : Layout → List ℕ → List (List ℕ)
read_lines BicOnly body = body ∷ []
read_lines TextOnly body = body ∷ []
read_lines ByLines body = lines_of body

-- lines that are the first of others, and all of them where the option has names, since only what follows a BIC is ignored
pub record Leads (o : PartyOption) (ws ls : List (List ℕ)) : Type 0 where
  pub rest : List (List ℕ)
  pub are : ls ≡ ws ++ rest
  pub all : ((limits_of o).max_names ≡ 0 → ⊥) → rest ≡ []

-- what the record of a body says
abbrev pub content_of : PartyOption → List ℕ → Content
content_of o body = content (read o body).party

-- the lines that are written of the record of a body are those that were read, byte for byte and in their order
abbrev pub SenderLines : PartyOption → List ℕ → Type 0
SenderLines o body = Leads o (written_lines (content_of o body)) (read_lines (limits_of o).layout body)

-- 50F (document 02, Seven): all lines are written as they came; the record's digits are the first bytes of those after the first; and the
-- written body is read again as the very same record, unless a line before the last ends in CR
pub record Keeps50F (body : List ℕ) : Type 0 where
  pub lines : written_lines (content_of Field50F body) ≡ lines_of body
  pub digits : (content_of Field50F body).digits ≡ map (λ (l : List ℕ). get_or l 0 0) (drop 1 (lines_of body))
  pub again : earlier_cr (lines_of body) ≡ false → read Field50F (written_body (content_of Field50F body)) ≡ read Field50F body
