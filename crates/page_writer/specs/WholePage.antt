-- A whole page: the run of a list of adds, the model beside it, and reading it (document 01, 'A whole page (demand 3)').
use Rattle.std.specs.Prelude.{ℕ, ◌≡◌, Bool, true, false, List, [], ◌∷◌, ◌++◌, length, take, drop}
use Rattle.errors.specs.Refusals.{Reply, accepted, refused}
use Rattle.party.specs.declared.Party.{Party}
use Rattle.party.specs.Party.{content, Same}
use Rattle.writer.specs.Writing.{written_field, pieces}
use Rattle.page_reader.specs.Pages.{opens, less_cr, ends_page, ReadOutcome, a_record, the_end, PageRead, bodiless, read_field, read_at}
use Rattle.page_writer.specs.IndexState.{IndexState}
use Rattle.page_writer.specs.Adding.{any_line, with_lf, end_line, Filed, position_after, refusal, Call, Tally, tallied, record_reply, add, add_index, close}
use Rattle.page_writer.specs.Fold.{Step}

-- the state of a run: the buffer as the last call left it, the last position that a call gave, and the index, if one is kept, as the last
-- call left it
pub record OpenPage : Type 0 where
  pub buffer : List ℕ
  pub position : ℕ
  pub index : IndexState

-- a refused call gives no position
abbrev pub last_given : Filed → ℕ → ℕ
last_given (position_after n) at = n
last_given (refusal k n) at = at

-- an add, as a step
abbrev pub add_step : OpenPage → Party → Step OpenPage Filed
add_step s p =
    let c = add s.buffer s.position s.index (content p) in
    let b = add_index s.buffer s.position s.index (content p) in
    record { state = record { buffer = c.buffer; position = last_given c.answer s.position; index = b }; answer = c.answer }

-- the closing of an open page, in its buffer and at its position
abbrev pub closing_of : OpenPage → Call
closing_of s = close s.buffer s.position

-- the closed page: the bytes before the position that closing gave
abbrev pub closed_page : OpenPage → ℕ → List ℕ
closed_page s to = take to (closing_of s).buffer

-- whether an add was accepted
abbrev pub is_accepted : Filed → Bool
is_accepted (position_after n) = true
is_accepted (refusal k n) = false

-- beside the run: a list, and a position, with the entries that are used
pub record Model : Type 0 where
  pub list : List Party
  pub tally : Tally

-- a refusal moves neither; any other add puts its record last in the list, and answers the position past its written field and LF
abbrev pub model_by : Reply → Model → Party → Step Model Filed
model_by accepted m p =
    let t = tallied m.tally (content p) in
    record { state = record { list = m.list ++ p ∷ []; tally = t }; answer = position_after t.position }
model_by (refused k n) m p = record { state = m; answer = refusal k n }

-- from the records, the buffer's length and whether an index is kept alone
abbrev pub model_step : ℕ → Bool → Model → Party → Step Model Filed
model_step len indexed m p = model_by (record_reply len indexed m.tally (content p)) m p

-- a field of a page: a record's, as it was added, or new bytes between the opening colon and the closing LF
pub data Field : Type 0 where
  kept : Party → Field
  new : List ℕ → Field

-- a field's text: tag and body, or a colon and the new bytes
abbrev pub text_of : Field → List ℕ
text_of (kept p) = written_field (content p)
text_of (new bytes) = 58 ∷ bytes

-- fields, each with its LF, and a tail: nothing on an open page, the end on a closed one, or the end and more
unfoldable pub page_of : List Field → List ℕ → List ℕ
page_of [] tail = tail
page_of (f ∷ fs) tail = with_lf (text_of f) ++ page_of fs tail

-- what document 01 says of new bytes, with the next position: a field of a colon and them, without one CR before the LF that closes it
abbrev pub read_new : List ℕ → ℕ → PageRead
read_new bytes next = read_field (58 ∷ less_cr true bytes) next

-- a read gives a record the same as the field's; of new bytes, what document 01 says of them
abbrev pub Gives : PageRead → Field → Type 0
Gives r (kept p) = (q : Party) × (r.outcome ≡ a_record q) × Same q p
Gives r (new bytes) = r ≡ read_new bytes r.next

-- each read at the next position that the last gave: read k answers field k, and the one after them `last`, with the page's length
unfoldable pub ReadsAs : List ℕ → ℕ → List Field → ReadOutcome → Type 0
ReadsAs page at [] last = read_at page at ≡ bodiless last (length page)
ReadsAs page at (f ∷ fs) last = Gives (read_at page at) f × ReadsAs page (read_at page at).next fs last

-- a field alone on a page: its written field, LF, `-`, LF; it reads back as the record
abbrev pub Alone : Party → Type 0
Alone p = ReadsAs (page_of (kept p ∷ []) end_line) 0 (kept p ∷ []) the_end

-- new bytes that a field may be overwritten with: of their lines after the first none starts with a colon, and none would be an end line
pub record MayOverwrite (bytes : List ℕ) : Type 0 where
  pub opening : any_line opens (drop 1 (pieces bytes)) ≡ false
  pub ending : any_line (ends_page true) (drop 1 (pieces bytes)) ≡ false

-- the fields of a list in their order, each kept or overwritten
unfoldable pub Overwrites : List Party → List Field → Type 0
Overwrites [] [] = Unit {0}
Overwrites [] (f ∷ fs) = ⊥
Overwrites (p ∷ ps) [] = ⊥
Overwrites (p ∷ ps) (kept q ∷ fs) = (q ≡ p) × Overwrites ps fs
Overwrites (p ∷ ps) (new bytes ∷ fs) = MayOverwrite bytes × Overwrites ps fs
