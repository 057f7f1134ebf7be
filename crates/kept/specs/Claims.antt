-- What is claimed of a body that is read and of a field of a page: the written one is the one that came, byte for byte, exactly when it is
-- kept. The theorems are `kept_exact` and `field_exact`, proofs/Exact.antt and proofs/FieldExact.antt.
use Rattle.std.specs.Prelude.{ℕ, ◌≡◌, List}
use Rattle.errors.specs.Refusals.{accepted}
use Rattle.party.specs.declared.PartyOption.{PartyOption}
use Rattle.party.specs.declared.Party.{Party}
use Rattle.party.specs.Decides.{Decides}
use Rattle.party.specs.Party.{content}
use Rattle.reader.specs.Reading.{Reading}
use Rattle.reader.specs.Options.{read}
use Rattle.reader.specs.declared.choices.Choice.{Choice}
use Rattle.reader.specs.Choices.{parse, parse_with_variant}
use Rattle.writer.specs.Writing.{written_body, written_field}
use Rattle.page_reader.specs.Pages.{a_record, read_at}
use Rattle.kept.specs.Kept.{Kept, is_kept_by, kept_read, kept_parse, kept_parse_with_variant}
use Rattle.kept.specs.Fields.{came_at, is_kept_at}

-- a reading of a body, and what is told of it: where it accepts, the written body of its record is the body exactly when that is kept
abbrev pub IsExact : List ℕ → Reading → Kept → Type 0
IsExact body r k = r.reply ≡ accepted → Decides (is_kept_by k) (written_body (content r.party) ≡ body)

-- every reader: by an option, by a choice that detects, by a choice and a letter; the network profile changes no record of theirs
pub record KeptExact (body : List ℕ) : Type 0 where
  pub option : (o : PartyOption) → IsExact body (read o body) (kept_read o body)
  pub detected : (choice : Choice) → IsExact body (parse choice body) (kept_parse choice body)
  pub by_letter : (choice : Choice) (letter : ℕ) → IsExact body (parse_with_variant choice body letter) (kept_parse_with_variant choice body letter)

-- a field of a page, at a position where a read gives a record: the record's written field is the field as it came exactly when it is kept
abbrev pub FieldExact : List ℕ → ℕ → Type 0
FieldExact page at = (p : Party) → (read_at page at).outcome ≡ a_record p → Decides (is_kept_at page at) (written_field (content p) ≡ came_at page at)
