-- When a written body, read by itself, is read back. 23 (page_writer/specs/Adding.antt) has its tests of written lines from here
-- (document 01, 23).
use Rattle.std.specs.Prelude.{ℕ, ◌≡◌, Bool, true, false, not, ◌&&◌, ◌||◌, List, [], ◌∷◌, eqb}
use Rattle.errors.specs.Refusals.{accepted}
use Rattle.party.specs.declared.Party.{Party}
use Rattle.party.specs.Party.{Content, content, Same}
use Rattle.field_utils.specs.Lines.{is_empty}
use Rattle.reader.specs.Options.{read}
use Rattle.writer.specs.Writing.{written_body, pieces}

-- a line ends in CR
unfoldable pub ends_cr : List ℕ → Bool
ends_cr [] = false
ends_cr (b ∷ []) = eqb b 13
ends_cr (b ∷ a ∷ l) = ends_cr (a ∷ l)

-- its last written line is empty
unfoldable pub last_empty : List (List ℕ) → Bool
last_empty [] = true
last_empty (l ∷ []) = is_empty l
last_empty (l ∷ m ∷ ls) = last_empty (m ∷ ls)

-- an earlier one ends in CR
unfoldable pub earlier_cr : List (List ℕ) → Bool
earlier_cr [] = false
earlier_cr (l ∷ []) = false
earlier_cr (l ∷ m ∷ ls) = ends_cr l || earlier_cr (m ∷ ls)

-- neither of the two
unfoldable pub is_read_back : Content → Bool
is_read_back s = not (last_empty (pieces (written_body s))) && not (earlier_cr (pieces (written_body s)))

-- its written body is read as the same record
pub record ReadsBack (p : Party) : Type 0 where
  pub accepts : (read p.option (written_body (content p))).reply ≡ accepted
  pub same : Same (read p.option (written_body (content p))).party p
