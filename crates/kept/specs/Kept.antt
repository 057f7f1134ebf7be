-- When the written body of a record is the very body that came, and by which causes it is not. Each cause is something that reading leaves
-- off (document 01, field_utils.rs, field50.rs, field59.rs, 'Choices'; on a page document 02, One); that there are no others is `kept_exact`,
-- proofs/Exact.antt.
use Rattle.std.specs.Prelude.{ℕ, Bool, true, false, not, ◌&&◌, ◌||◌, List, [], ◌∷◌, ltb, eqb, length, Result, Ok, Err}
use Rattle.errors.specs.Refusals.{Reply, accepted, refused, told_error}
use Rattle.errors.specs.declared.ParseError.{ParseError}
use Rattle.party.specs.declared.PartyOption.{PartyOption}
use Rattle.party.specs.Limits.{limits_of}
use Rattle.field_utils.specs.Lines.{starts, lines}
use Rattle.reader.specs.Reading.{Reading}
use Rattle.reader.specs.Options.{read}
use Rattle.reader.specs.declared.choices.Choice.{Choice}
use Rattle.reader.specs.Choices.{tried_text, parse, read_text, parse_with_variant}
use Rattle.writer.specs.Given.{passes}
use Rattle.kept.specs.declared.Causes.{Causes}

-- ---- the causes
-- a CR directly before an LF, which is dropped with it (field_utils.rs)
unfoldable pub has_cr_lf : List ℕ → Bool
has_cr_lf [] = false
has_cr_lf (b ∷ l) = (eqb b 13 && starts 10 l) || has_cr_lf l

-- a last LF, after which no line stands (field_utils.rs)
unfoldable pub ends_lf : List ℕ → Bool
ends_lf [] = false
ends_lf (b ∷ []) = eqb b 10
ends_lf (b ∷ a ∷ l) = ends_lf (a ∷ l)

-- the BIC's line: the first, or the second where an account or identifier is there (field50.rs, field59.rs)
abbrev pub bic_line : Bool → ℕ
bic_line true = 2
bic_line false = 1

-- a line after the BIC's, which is ignored (field50.rs, field59.rs)
abbrev pub is_after_bic : PartyOption → Bool → List ℕ → Bool
is_after_bic o present text = ltb 0 (limits_of o).bic_count && ltb (bic_line present) (length (lines text))

-- the causes in a text that an option read, with or without an account or identifier; whether blanks were trimmed before it was read, and
-- whether a CR was left off before the LF that closes it on a page, is said beside it
unfoldable pub causes_of : PartyOption → Bool → List ℕ → Bool → Bool → Causes
causes_of o present text blanks closing = record {
  inner_cr = has_cr_lf text;
  last_lf = ends_lf text;
  after_bic = is_after_bic o present text;
  blanks = blanks;
  closing_cr = closing;
}

-- none of them
abbrev pub no_causes : Causes
no_causes = record { inner_cr = false; last_lf = false; after_bic = false; blanks = false; closing_cr = false }

-- there is none
abbrev pub is_none : Causes → Bool
is_none c = not (c.inner_cr || c.last_lf || c.after_bic || c.blanks || c.closing_cr)

-- ---- a body
-- what is told of a body: the reading's reply and, where it accepts, the causes
pub record Kept : Type 0 where
  pub reply : Reply
  pub causes : Causes

-- a refusal has none
abbrev pub keeping : Reply → Causes → Kept
keeping accepted c = record { reply = accepted; causes = c }
keeping (refused k n) c = record { reply = refused k n; causes = no_causes }

-- of a reading of a text, which is the body that came or what trimming left of it ('trim bytes 9 to 13 and 32 at both ends')
unfoldable pub kept_of : Reading → List ℕ → List ℕ → Kept
kept_of r text body = keeping r.reply (causes_of r.party.option r.party.present text (ltb (length text) (length body)) false)

-- by an option ..
abbrev pub kept_read : PartyOption → List ℕ → Kept
kept_read o body = kept_of (read o body) body body

-- .. a choice, which detects ..
abbrev pub kept_parse : Choice → List ℕ → Kept
kept_parse choice body = kept_of (parse choice body) (tried_text choice body) body

-- .. and a choice by a letter
abbrev pub kept_parse_with_variant : Choice → List ℕ → ℕ → Kept
kept_parse_with_variant choice body letter = kept_of (parse_with_variant choice body letter) (read_text choice body letter) body

-- it is kept: the reading accepts it, and there is no cause
abbrev pub is_kept_by : Kept → Bool
is_kept_by k = passes k.reply && is_none k.causes

-- of an option and a body
abbrev pub is_kept : PartyOption → List ℕ → Bool
is_kept o body = is_kept_by (kept_read o body)

-- what the code's answer says
abbrev pub told_kept : Result Causes ParseError → Kept
told_kept (Ok c) = record { reply = accepted; causes = c }
told_kept (Err e) = record { reply = told_error e; causes = no_causes }
