-- What members rely on under the network profile (document 02, Five). The contracts of `profile::read`, `profile::parse` and
-- `profile::parse_with_variant` are equations with `read_profiled`, `parse_profiled` and `parse_with_variant_profiled`, so that it speaks of what
-- runs. The theorems are `profile` in proofs/Profile.antt, which is `Profile body` of every body, and `exported_profile` in
-- proofs/ProfileCalls.antt, which is `ExportedProfile body bytes` of every body and lent record.
use Rattle.std.specs.Prelude.{ℕ, ◌+◌, ◌≡◌, Bool, true, false, ◌||◌, List, [], ◌∷◌, ltb, length}
use Rattle.errors.specs.Refusals.{accepted, refused}
use Rattle.party.specs.declared.PartyOption.{PartyOption}
use Rattle.party.specs.declared.Party.{Party}
use Rattle.party.specs.Limits.{limits_of, option_at}
use Rattle.party.specs.Party.{content}
use Rattle.field_utils.specs.Lines.{lines}
use Rattle.reader.specs.Reading.{Reading}
use Rattle.reader.specs.Options.{read}
use Rattle.reader.specs.declared.choices.Choice.{Choice}
use Rattle.reader.specs.Choices.{refusing, parse, parse_with_variant}
use Rattle.profile.specs.Profile.{holds_bic, read_profiled, parse_profiled, parse_with_variant_profiled}
use Rattle.writer.specs.Writing.{written_field}
use Rattle.page_writer.specs.IndexState.{IndexState}
use Rattle.page_writer.specs.Adding.{writable, record_space, has_free_entry, with_lf, position_after, add}
use Rattle.record_bytes.specs.RecordBytes.{decoded}
use Rattle.yewdome.specs.Interface.{Called, choice_at, profile_read, profile_parse, profile_parse_with_variant, page_add}

-- beside the ordinary reading, the one under the profile: it never changes a record, only refuses
pub record OnlyRefuses (ordinary under : Reading) : Type 0 where
  -- what it accepts, the ordinary reading accepts, with the same record
  pub same : under.reply ≡ accepted → ordinary ≡ under
  -- where the ordinary reading refuses, that refusal stands
  pub stands : {k n : ℕ} → ordinary.reply ≡ refused k n → under ≡ refusing k n
  -- and where it accepts, 32 is the only refusal
  pub number : {k n : ℕ} → ordinary.reply ≡ accepted → under.reply ≡ refused k n → k ≡ 32

-- a page accepts a record, space allowing: at any position to write at, with space for it, which is bytes and, where an index is kept, an
-- entry, the add answers the position after (document 02, Five and Six)
pub record PageAccepts (p : Party) : Type 0 where
  pub adds : (buffer : List ℕ) (at : ℕ) (b : IndexState) → writable buffer at ≡ true → record_space (length buffer) at (content p) ≡ true → has_free_entry b ≡ true
      → (add buffer at b (content p)).answer ≡ position_after (at + length (with_lf (written_field (content p))))

-- a line among these holds the BIC of a record
unfoldable pub any_holds : Party → List (List ℕ) → Bool
any_holds p [] = false
any_holds p (l ∷ ls) = holds_bic p l || any_holds p ls

-- what holds of a reading of a body, and of the one under the profile
pub record Promise (body : List ℕ) (ordinary under : Reading) : Type 0 where
  pub refuses : OnlyRefuses ordinary under
  pub accepts : under.reply ≡ accepted → PageAccepts under.party
  -- the BIC of a record that has one stands in a line of the body as it came, so that the rules for it never idle
  pub held : ordinary.reply ≡ accepted → ltb 0 (limits_of ordinary.party.option).bic_count ≡ true → any_holds ordinary.party (lines body) ≡ true

-- of every body: by an option, and by a choice, detected or by a letter
pub record Profile (body : List ℕ) : Type 0 where
  pub by_option : (o : PartyOption) → Promise body (read o body) (read_profiled o body)
  pub detected : (choice : Choice) → Promise body (parse choice body) (parse_profiled choice body)
  pub by_letter : (choice : Choice) (letter : ℕ) → Promise body (parse_with_variant choice body letter) (parse_with_variant_profiled choice body letter)

-- through the C interface, of a call under the profile whose number is 0: the bytes that it left load as the ordinary reading's record, and
-- are a record that adding accepts, space allowing
pub record CallPromise (ordinary : Reading) (c : Called) : Type 0 where
  pub loads : c.code ≡ 0 → decoded c.bytes ≡ ordinary.party
  pub adds : c.code ≡ 0 → (buffer : List ℕ) (at : ℕ) (b : IndexState) → writable buffer at ≡ true
      → record_space (length buffer) at (content ordinary.party) ≡ true → has_free_entry b ≡ true
      → (page_add c.bytes buffer at b).code ≡ at + length (with_lf (written_field (content ordinary.party)))

pub record ExportedProfile (body bytes : List ℕ) : Type 0 where
  pub by_option : (option : ℕ) → CallPromise (read (option_at option) body) (profile_read option body bytes)
  pub detected : (choice : ℕ) → CallPromise (parse (choice_at choice) body) (profile_parse choice body bytes)
  pub by_letter : (choice letter : ℕ) → CallPromise (parse_with_variant (choice_at choice) body letter) (profile_parse_with_variant choice body letter bytes)
