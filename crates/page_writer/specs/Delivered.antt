-- A closed page as the line delivers it (document 02, One): CR LF for each LF, and an end line of either kind. proofs/Theorems.antt has
-- `delivered_page`, of an empty `b : IndexState`, `ps : List Party` and `buffer e : List ℕ`: `DeliveredPage b ps buffer e`.
use Rattle.std.specs.Prelude.{ℕ, ◌≤◌, ◌≡◌, true, false, List, [], ◌∷◌, ◌++◌, map, eqb, length}
use Rattle.party.specs.declared.Party.{Party}
use Rattle.field_utils.specs.Lines.{upto}
use Rattle.page_reader.specs.Pages.{page_most, ends_at, past, the_end}
use Rattle.page_writer.specs.IndexState.{IndexState}
use Rattle.page_writer.specs.WholePage.{kept, page_of, ReadsAs}
use Rattle.page_writer.specs.Demand3.{accepted_adds}

-- a text with CR LF for each LF
unfoldable pub crlf : List ℕ → List ℕ
crlf [] = []
crlf (b ∷ s) = elim (eqb b 10) [ true ↦ 13 ∷ 10 ∷ crlf s | false ↦ b ∷ crlf s ]

-- a rest that is an end line and no more
pub record IsEndLine (e : List ℕ) : Type 0 where
  pub ends : ends_at e ≡ true
  pub whole : past e (upto 10 e) ≡ length e

-- the fields of the accepted adds with CR LF, and an end line
abbrev pub sent_page : IndexState → List Party → List ℕ → List ℕ → List ℕ
sent_page b ps buffer e = crlf (page_of (map kept (accepted_adds b ps buffer)) []) ++ e

-- within 32,768 bytes, reading it gives the records of the accepted adds and no others, in number and order, each the same record, and then
-- the end
abbrev pub DeliveredPage : IndexState → List Party → List ℕ → List ℕ → Type 0
DeliveredPage b ps buffer e = IsEndLine e → length (sent_page b ps buffer e) ≤ page_most → ReadsAs (sent_page b ps buffer e) 0 (map kept (accepted_adds b ps buffer)) the_end
