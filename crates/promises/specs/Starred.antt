-- The starred bodies of document 01 ('Bodies at the edges'), as one list with one theorem over the definitions that the contracts cite.
use Rattle.std.specs.Prelude.{◌≡◌, refl, Bool, true, false, List, [], ◌∷◌, ℕ, drop}
use Rattle.errors.specs.Refusals.{Reply, accepted, refused}
use Rattle.party.specs.declared.PartyOption.{PartyOption}
use Rattle.party.specs.declared.PartyOption.TheVariants.{Field50NoOption, Field50A, Field50F, Field50K, Field50C, Field50G, Field50H, Field59F}
use Rattle.party.specs.Text.{padded, text_of, four}
use Rattle.party.specs.Party.{content}
use Rattle.swift_utils.specs.Bytes.{bytes, letter, digit, alphanumeric, signs, legal}
use Rattle.swift_utils.specs.Checks.{parse_swift_chars, parse_account, bic_length, parse_bic}
use Rattle.field_utils.specs.Lines.{upto, onto, starts, lines, without_cr}
use Rattle.field_utils.specs.Trim.{white, trimmed_start, keep, trimmed_end, trimmed}
use Rattle.field_utils.specs.Identifier.{is_numbered, second_slash, identifier_reply, parse_party_identifier}
use Rattle.field_utils.specs.Names.{parse_line, parse_lines, parse_name_and_address}
use Rattle.field_utils.specs.Tags.{tag_of}
use Rattle.reader.specs.Reading.{Reading, party_of}
use Rattle.reader.specs.Options.{account_head, short_account_head, after_head, read}
use Rattle.reader.specs.declared.choices.Choice.TheVariants.{Field50OrderingCustomerAFK, Field50OrderingCustomerNCF}
use Rattle.reader.specs.Detection.{any_numbered, first_line, last_line, bic_like}
use Rattle.reader.specs.Choices.{refusing, first_that, parse}
use Rattle.writer.specs.Writing.{name_lines, written_lines, joined, written_body, written_field, pieces}
use Rattle.writer.specs.Given.{is_line, are_names, is_given}
use Rattle.writer.specs.ReadBack.{ends_cr, last_empty}
use Rattle.page_reader.specs.Pages.{is_end, ends_page}
use Rattle.page_writer.specs.Adding.{any_line, later_boundary, is_carried, asked, Tally, record_reply}

-- what the definitions give, and what document 01 says of it: a reading, a written field, or the refusal of a page
pub data Case : Type 0 where
  reads : Reading → Reading → Case
  writes : List ℕ → List ℕ → Case
  files : Reply → Reply → Case

-- what is written of the record that a reading gives
abbrev pub field_of : Reading → List ℕ
field_of r = written_field (content r.party)

-- a page up to a position, of whose entries none is used
abbrev pub at_position : ℕ → Tally
at_position n = record { position = n; entries = 0 }

-- what an empty page of 100 bytes answers to the record that a reading gives
abbrev pub filing_of : Reading → Reply
filing_of r = record_reply 100 false (at_position 0) (content r.party)

-- accepted, with the record of these texts and digits
abbrev gives_with : List ℕ → PartyOption → Bool → List ℕ → List ℕ → List (List ℕ) → Reading
gives_with digits o present account bic names = record {
  reply = accepted;
  party = party_of o (record { reply = accepted; present = present; account = account; bic = bic; names = names; digits = digits });
}

-- of an option without digits, and of 50F
abbrev pub gives : PartyOption → Bool → List ℕ → List ℕ → List (List ℕ) → Reading
gives = gives_with []

abbrev pub gives50_f : List ℕ → List (List ℕ) → List ℕ → Reading
gives50_f account names digits = gives_with digits Field50F true account [] names

abbrev pub starred : List Case
starred =
    -- 50K `a⏎⏎`: lines `a` and empty; writes `:50K:a⏎`; page 23
    reads (read Field50K (bytes "a\n\n")) (gives Field50K false [] [] (bytes "a" ∷ [] ∷ []))
    ∷ writes (field_of (read Field50K (bytes "a\n\n"))) (bytes ":50K:a\n")
    ∷ files (filing_of (read Field50K (bytes "a\n\n"))) (refused 23 0)
    -- 59F `/1⏎1/A`: writes `:59F:/1⏎1/A` and reads back (document 02, Six), and a page takes it; with an empty line it would be 5, line 2
    ∷ reads (read Field59F (bytes "/1\n1/A")) (gives Field59F true (bytes "1") [] (bytes "1/A" ∷ []))
    ∷ writes (field_of (read Field59F (bytes "/1\n1/A"))) (bytes ":59F:/1\n1/A")
    ∷ reads (read Field59F (drop 5 (field_of (read Field59F (bytes "/1\n1/A"))))) (read Field59F (bytes "/1\n1/A"))
    ∷ files (filing_of (read Field59F (bytes "/1\n1/A"))) accepted
    ∷ reads (read Field59F (bytes "/1\n\n1/A")) (refusing 5 2)
    -- 50F `X⏎7/A⏎7/B`: its digits are kept; writes its two sevens (document 02, Seven), reads back, and a page takes it
    ∷ reads (read Field50F (bytes "X\n7/A\n7/B")) (gives50_f (bytes "X") (bytes "A" ∷ bytes "B" ∷ []) (bytes "77"))
    ∷ writes (field_of (read Field50F (bytes "X\n7/A\n7/B"))) (bytes ":50F:X\n7/A\n7/B")
    ∷ reads (read Field50F (drop 5 (field_of (read Field50F (bytes "X\n7/A\n7/B"))))) (read Field50F (bytes "X\n7/A\n7/B"))
    ∷ files (filing_of (read Field50F (bytes "X\n7/A\n7/B"))) accepted
    -- 59F `2/A`: 6, line 1
    ∷ reads (read Field59F (bytes "2/A")) (refusing 6 1)
    -- AFK detected, `JOHNDOES⏎STREETAB`: 50A, BIC JOHNDOES
    ∷ reads (parse Field50OrderingCustomerAFK (bytes "JOHNDOES\nSTREETAB")) (gives Field50A false [] (bytes "JOHNDOES") [])
    -- 50A `/⏎ABCDEFGH`: empty identifier; with `//`: 2, line 1
    ∷ reads (read Field50A (bytes "/\nABCDEFGH")) (gives Field50A true [] (bytes "ABCDEFGH") [])
    ∷ reads (read Field50A (bytes "//\nABCDEFGH")) (refusing 2 1)
    -- 50H `/~⏎A` accepted; 50G `/~⏎ABCDEFGH`: 3, line 1
    ∷ reads (read Field50H (bytes "/~\nA")) (gives Field50H true (bytes "~") [] (bytes "A" ∷ []))
    ∷ reads (read Field50G (bytes "/~\nABCDEFGH")) (refusing 3 1)
    -- NCF detected, `ABCDEFGH⏎`: 50, one line; without LF: 50C
    ∷ reads (parse Field50OrderingCustomerNCF (bytes "ABCDEFGH\n")) (gives Field50NoOption false [] [] (bytes "ABCDEFGH" ∷ []))
    ∷ reads (parse Field50OrderingCustomerNCF (bytes "ABCDEFGH")) (gives Field50C false [] (bytes "ABCDEFGH") [])
    ∷ []

-- a case is as document 01 says
abbrev pub Holds : Case → Type 0
Holds (reads r s) = r ≡ s
Holds (writes w s) = w ≡ s
Holds (files r s) = r ≡ s

-- each case of a list is
abbrev pub Hold : List Case → Type 0
Hold [] = Unit {0}
Hold (c ∷ cs) = Holds c × Hold cs

pub starred_hold : Hold starred
unfolding padded text_of letter digit alphanumeric signs legal parse_swift_chars parse_account bic_length parse_bic upto onto starts lines white trimmed_start keep trimmed_end trimmed is_numbered second_slash identifier_reply parse_party_identifier parse_line parse_lines parse_name_and_address four party_of account_head short_account_head after_head read any_numbered first_line last_line bic_like first_that content name_lines written_lines joined written_body written_field is_line are_names is_given pieces ends_cr last_empty without_cr is_end ends_page is_carried asked record_reply parse any_line later_boundary tag_of
starred_hold = (refl, (refl, (refl, (refl, (refl, (refl, (refl, (refl, (refl, (refl, (refl, (refl, (refl, (refl, (refl, (refl, (refl, (refl, (refl, (refl, tt))))))))))))))))))))
