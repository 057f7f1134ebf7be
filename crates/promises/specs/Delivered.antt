-- Pages as the line delivers them (document 02, One): lines that end in CR LF, and an end line `-}`. Each is read by computation, and so are
-- the wrong programs that this rules out.
use Rattle.std.specs.Prelude.{◌≡◌, refl, true, false, List, [], ◌∷◌, ◌++◌, map, ℕ, replicate}
use Rattle.party.specs.declared.PartyOption.{PartyOption}
use Rattle.party.specs.declared.PartyOption.TheVariants.{Field50NoOption, Field50A, Field50K, Field50C, Field50L, Field50G, Field50H, Field59NoOption, Field59A, Field59F}
use Rattle.party.specs.Text.{padded, text_of, four}
use Rattle.swift_utils.specs.Bytes.{bytes, letter, digit, alphanumeric, signs, legal}
use Rattle.swift_utils.specs.Checks.{parse_swift_chars, parse_account, bic_length, parse_bic}
use Rattle.field_utils.specs.Lines.{upto, onto, starts, lines, without_cr}
use Rattle.field_utils.specs.Identifier.{is_numbered, second_slash, identifier_reply, parse_party_identifier}
use Rattle.field_utils.specs.Names.{parse_line, parse_lines, parse_name_and_address}
use Rattle.field_utils.specs.Tags.{tag_of}
use Rattle.reader.specs.Reading.{party_of}
use Rattle.reader.specs.Options.{account_head, short_account_head, after_head, read}
use Rattle.page_reader.specs.Pages.{line_at, is_end, ends_page, runs, begins, tag_in, ReadOutcome, a_record, the_end, a_refusal, PageRead, read_field, read_case, read_at}
use Rattle.page_writer.specs.Delivered.{crlf, IsEndLine}
use Rattle.promises.specs.Starred.{gives, gives50_f}
use Rattle.promises.specs.Pages.{reads, named, ends, refuses}

-- what so many reads from the start give
abbrev pub outcomes : ℕ → List ℕ → List ReadOutcome
outcomes n page = map (λ (r : PageRead). r.outcome) (reads n page 0)

-- the record of these texts, with an account or identifier, and without
abbrev pub with : PartyOption → List ℕ → List ℕ → List (List ℕ) → ReadOutcome
with o account bic names = a_record (gives o true account bic names).party

abbrev pub without : PartyOption → List ℕ → List (List ℕ) → ReadOutcome
without o bic names = a_record (gives o false [] bic names).party

-- a field of every option
abbrev pub eleven : List ℕ
eleven =
    bytes ":50:A\nB\n" ++ bytes ":50A:/1\nABCDEFGH\n" ++ bytes ":50F:X\n1/A\n2/B\n" ++ bytes ":50K:/1\nA\nB\n" ++ bytes ":50C:ABCDEFGH\n"
    ++ bytes ":50L:A\n" ++ bytes ":50G:/1\nABCDEFGH\n" ++ bytes ":50H:/1\nA\nB\n" ++ bytes ":59:/1\nA\n" ++ bytes ":59A:ABCDEFGH\n" ++ bytes ":59F:1/A\n2/B\n"

-- their records, and the end
abbrev pub eleven_records : List ReadOutcome
eleven_records =
    without Field50NoOption [] (bytes "A" ∷ bytes "B" ∷ []) ∷ with Field50A (bytes "1") (bytes "ABCDEFGH") [] ∷ a_record (gives50_f (bytes "X") (bytes "A" ∷ bytes "B" ∷ []) (bytes "12")).party
    ∷ with Field50K (bytes "1") [] (bytes "A" ∷ bytes "B" ∷ []) ∷ without Field50C (bytes "ABCDEFGH") [] ∷ with Field50L (bytes "A") [] []
    ∷ with Field50G (bytes "1") (bytes "ABCDEFGH") [] ∷ with Field50H (bytes "1") [] (bytes "A" ∷ bytes "B" ∷ []) ∷ with Field59NoOption (bytes "1") [] (bytes "A" ∷ [])
    ∷ without Field59A (bytes "ABCDEFGH") [] ∷ without Field59F [] (bytes "1/A" ∷ bytes "2/B" ∷ []) ∷ the_end ∷ []

-- a 50A whose body has so many bytes in a line after its BIC, and the CR LF that closes the field
abbrev pub long_body : ℕ → List ℕ
long_body n = bytes ":50A:ABCDEFGH\n" ++ replicate n 65 ++ bytes "\r\n-\n"

pub record Delivered : Type 0 where
  -- each LF, and only it, is CR LF in the twin
  pub text : crlf (bytes "A\n\nB\r\n") ≡ bytes "A\r\n\r\nB\r\r\n"
  -- a page of every option, with LF, and its twin with CR LF; the same with `-}`
  pub lf : outcomes 12 (eleven ++ bytes "-\n") ≡ eleven_records
  pub twin : outcomes 12 (crlf (eleven ++ bytes "-\n")) ≡ eleven_records
  pub brace : outcomes 12 (crlf (eleven ++ bytes "-}\n")) ≡ eleven_records
  -- a BIC at a field's end, and `-}` with LF alone
  pub bic : outcomes 2 (bytes ":50A:ABCDEFGH\r\n-}\n") ≡ without Field50A (bytes "ABCDEFGH") [] ∷ the_end ∷ []
  -- 2,048 bytes and a CR are read; of 2,049 it is 12
  pub longest : outcomes 1 (long_body 2039) ≡ without Field50A (bytes "ABCDEFGH") [] ∷ []
  pub longer : outcomes 1 (long_body 2040) ≡ a_refusal 12 0 ∷ []
  -- the part handed back has no CR at its end, and the next position is past the LF; after an end it is past the line
  pub part : reads 2 (bytes ":50K:A\r\n-}\r\n") 0 ≡ named (bytes "A") 8 ∷ ends 12 ∷ []
  -- an end line at the page's end without LF
  pub open_brace : reads 2 (bytes ":50K:A\n-}") 0 ≡ named (bytes "A") 7 ∷ ends 9 ∷ []

pub delivered : Delivered
unfolding crlf padded text_of letter digit alphanumeric signs legal parse_swift_chars parse_account bic_length parse_bic upto onto starts lines without_cr is_numbered second_slash identifier_reply parse_party_identifier parse_line parse_lines parse_name_and_address four party_of account_head short_account_head after_head read line_at is_end ends_page runs begins tag_in read_field read_case read_at tag_of
delivered = record { text = refl; lf = refl; twin = refl; brace = refl; bic = refl; longest = refl; longer = refl; part = refl; open_brace = refl }

-- the end lines that `delivered_page` speaks of: `-` and `-}`, each with LF, with CR LF, and at the page's end with neither
pub record EndLines : Type 0 where
  pub hyphen : IsEndLine (bytes "-\n")
  pub hyphen_cr : IsEndLine (bytes "-\r\n")
  pub hyphen_open : IsEndLine (bytes "-")
  pub brace : IsEndLine (bytes "-}\n")
  pub brace_cr : IsEndLine (bytes "-}\r\n")
  pub brace_open : IsEndLine (bytes "-}")

pub end_lines : EndLines
unfolding upto without_cr line_at is_end ends_page
end_lines = record {
  hyphen = record { ends = refl; whole = refl };
  hyphen_cr = record { ends = refl; whole = refl };
  hyphen_open = record { ends = refl; whole = refl };
  brace = record { ends = refl; whole = refl };
  brace_cr = record { ends = refl; whole = refl };
  brace_open = record { ends = refl; whole = refl };
}

-- wrong programs
pub record DeliveredRuledOut : Type 0 where
  -- a CR cut that no LF follows: at the page's length it stays, in a field and after `-`
  pub cr_without_lf_stays : read_at (bytes ":50K:A\r") 0 ≡ named (bytes "A\r") 7
  pub hyphen_cr_without_lf_is_16 : read_at (bytes "-\r") 0 ≡ refuses 16 2
  pub brace_cr_without_lf_is_16 : read_at (bytes "-}\r") 0 ≡ refuses 16 3
  -- two CRs cut
  pub one_of_two_crs_stays : read_at (bytes ":50K:A\r\r\n-\n") 0 ≡ named (bytes "A\r") 9
  pub hyphen_and_two_crs_is_16 : read_at (bytes "-\r\r\n") 0 ≡ refuses 16 4
  -- a CR cut in the middle of a body: within a line, and before an LF that does not close the field
  pub inner_cr_stays : read_at (bytes ":50K:A\rB\n-\n") 0 ≡ named (bytes "A\rB") 9
  pub inner_cr_lf_stays : (read_at (bytes ":50K:A\r\nB\n-\n") 0).body ≡ bytes "A\r\nB"
  -- `-}x`, `- }`, `}` and `--` taken for the end
  pub brace_x_is_16 : read_at (bytes "-}x\n") 0 ≡ refuses 16 4
  pub hyphen_space_brace_is_16 : read_at (bytes "- }\n") 0 ≡ refuses 16 4
  pub lone_brace_is_16 : read_at (bytes "}\n") 0 ≡ refuses 16 2
  pub two_hyphens_is_16 : read_at (bytes "--\n") 0 ≡ refuses 16 3

pub delivered_ruled_out : DeliveredRuledOut
unfolding padded text_of letter digit alphanumeric signs legal parse_swift_chars parse_account upto onto starts lines without_cr parse_line parse_lines parse_name_and_address four party_of account_head after_head read line_at is_end ends_page runs begins tag_in read_field read_case read_at tag_of
delivered_ruled_out = record {
  cr_without_lf_stays = refl;
  hyphen_cr_without_lf_is_16 = refl;
  brace_cr_without_lf_is_16 = refl;
  one_of_two_crs_stays = refl;
  hyphen_and_two_crs_is_16 = refl;
  inner_cr_stays = refl;
  inner_cr_lf_stays = refl;
  brace_x_is_16 = refl;
  hyphen_space_brace_is_16 = refl;
  lone_brace_is_16 = refl;
  two_hyphens_is_16 = refl;
}
