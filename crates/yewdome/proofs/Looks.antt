-- What looking a field up answers in numbers. Assumes nothing.
use Prim.Native.Nat.{ℕ, ◌+◌, ◌-◌, ◌≤◌}
use mathlib.Core.Path.{◌≡◌, refl, sym, ap, ◌∙◌, subst}
use mathlib.Core.List.{List}
use native.Mathlib.Omega.{arith}
use lib.Dec.{leb}
use lib.ListN.{length}
use Rattle.std.specs.Prelude.{Option, Some, Result, Ok, Err}
use Rattle.std.specs.Result.{result_and}
use Rattle.errors.specs.declared.ParseError.{ParseError}
use Rattle.errors.specs.Refusals.{Reply, accepted, refused, must, ◌then◌, refusal_of}
use Rattle.record_bytes.specs.RecordBytes.{record_size}
use Rattle.reader.specs.Reading.{room_reply}
use Rattle.page_reader.specs.declared.index.FieldRead.{FieldRead}
use Rattle.page_reader.specs.Pages.{page_most, PageRead, read_at, lent_by, Kind, kind_of, Outline, outline, refusal_given, told_kind}
use Rattle.page_reader.specs.Reads.{Read}
use Rattle.page_reader.specs.Index.{Looked, found, not_found, field_at, is_there, has_entry, entry_of, look_up, looked_by, look_lent, look_bytes, look_outline, told_body, told_looked}
use Rattle.page_reader.proofs.Moves.{next_most}
use Rattle.page_reader.proofs.Entries.{found_here, refusal_of_lem}
use Rattle.yewdome.specs.Interface.{packed, Called, code_of, read_call, page_read, looked_into, page_look_up}
use Rattle.yewdome.specs.Code.{Named, IsMove, move_code}
use Rattle.yewdome.proofs.LineBounds.{must_line, must_then}
use Rattle.yewdome.proofs.Pages.{kind_code, kind_within, reply_of, page_line, onward_from}

-- a lookup that gives a read gives its number and bytes
pub look_read : (page index : List ℕ) (k : ℕ) (into : List ℕ) (r : Read) → look_up page index k ≡ found r → page_look_up page index k into ≡ page_read page r.at into
look_read page index k into r e = go (room_reply (length into))
  where
    go : (t : Reply) → looked_into (looked_by t (look_up page index k)) into ≡ read_call (lent_by t (read_at page r.at) r.at) r.at into
    go accepted = ap (λ (x : Looked). looked_into x into) e ∙ ap (λ (x : PageRead). read_call x r.at into) (found_here page index k e)
    go (refused i n) =
        let z : 0 ≡ r.at - r.at = omega arith in
        ap {B = Called} (λ (moved : ℕ). record { code = packed (code_of (refused i n)) moved; bytes = into }) z

-- its bytes
look_bytes_lem : (x : Looked) (bytes : List ℕ) → look_bytes x bytes ≡ (looked_into x bytes).bytes
look_bytes_lem (found r) bytes = refl
look_bytes_lem (not_found k n) bytes = refl

-- what a lookup's number and line are within, and where its read leads
abbrev pub Bounded : Looked → Type 0
Bounded (found r) = Named (reply_of r.gave.outcome) × (r.at ≤ r.gave.next) × (r.gave.next ≤ r.at + page_most)
Bounded (not_found k n) = Named (refused k n)

-- what the code says of a field's body, as what a read gave
module _ (f : FieldRead (Unit {0})) where
  abbrev pub said : Kind
  said = told_kind (result_and {U = Option (Unit {0})} f.outcome (Ok (Some tt)))

  said_as : said ≡ told_body f.outcome
  said_as = go f.outcome
    where
      go : (c : Result (Unit {0}) ParseError) → told_kind (result_and {U = Option (Unit {0})} c (Ok (Some tt))) ≡ told_body c
      go (Ok t) = refl
      go (Err e) = refl

  -- its field is found: what it says, with how far the read moved
  told_field : (x : Looked) (bytes : List ℕ) → Bounded x → told_looked (Ok f) ≡ look_outline x
      → (f.at ≤ f.next) × IsMove said (f.next - f.at) × (move_code said (f.next - f.at) ≡ (looked_into x bytes).code)
  told_field (found r) bytes b h =
      let a : r.at ≡ f.at = cc in
      let o : outline r.gave ≡ record { kind = told_body f.outcome; next = f.next } = cc in
      let k : outline r.gave ≡ record { kind = said; next = f.next } = o ∙ (λ i. record { kind = sym said_as i; next = f.next }) in
      let m = kind_within r.gave.outcome (r.gave.next - r.at) b.0 (omega (arith, b.2)) in (
        omega (arith, a, ap (λ (y : Outline). y.next) o, b.1),
        subst (λ (y : Outline). IsMove y.kind (y.next - f.at)) k (subst (λ (n : ℕ). IsMove (kind_of r.gave.outcome) (r.gave.next - n)) a m),
        (λ i. move_code (sym k i).kind ((sym k i).next - sym a i)) ∙ kind_code r.gave.outcome (r.gave.next - r.at),
      )
  told_field (not_found k n) bytes b h = absurd cc

-- and where no field is found
told_none : (e : ParseError) (x : Looked) (bytes : List ℕ) → Bounded x → told_looked {T = Unit {0}} (Err e) ≡ look_outline x
    → IsMove (refusal_given e) 0 × (move_code (refusal_given e) 0 ≡ (looked_into x bytes).code)
told_none e (found r) bytes b h = absurd cc
told_none e (not_found k n) bytes b h =
    let a : (refusal_of e).number ≡ k = cc in
    let l : (refusal_of e).line ≡ n = cc in
    (((omega (arith, a, b.0), omega (arith, l, b.1)), omega arith), λ i. packed (code_of (refused (a i) (l i))) 0)

module _ (page index : List ℕ) (k : ℕ) where
  bounded : Bounded (look_up page index k)
  bounded = go (look_up page index k) refl
    where
      go : (x : Looked) → look_up page index k ≡ x → Bounded x
      go (found r) e =
          let g = found_here page index k e in
          subst (λ (y : PageRead). Named (reply_of y.outcome) × (r.at ≤ y.next) × (y.next ≤ r.at + page_most)) (sym g) (page_line page r.at, onward_from page r.at, next_most page r.at)
      go (not_found i n) e =
          let x = entry_of index k in
          let last = must (is_there (field_at page x.position) x) 21 0 in
          refusal_of_lem Named page index k e
          (must_then (leb (length page) page_most) 18 0 (must (has_entry index k) 31 0 then last) (omega arith) (omega arith)
          (must_then (has_entry index k) 31 0 last (omega arith) (omega arith) (must_line (is_there (field_at page x.position) x) 21 0 (omega arith) (omega arith))))

  -- into lent bytes
  module _ (bytes : List ℕ) where
    abbrev lent : Looked
    lent = look_lent page index k bytes

    lent_bounded : Bounded lent
    lent_bounded = go (room_reply (length bytes)) (must_line (leb record_size (length bytes)) 42 0 (omega arith) (omega arith))
      where
        go : (t : Reply) → Named t → Bounded (looked_by t (look_up page index k))
        go accepted h = bounded
        go (refused i n) h = h

    -- the answer of the code and what it stored
    pub field_told : (f : FieldRead (Unit {0})) → told_looked (Ok f) ≡ look_outline lent
        → (f.at ≤ f.next) × IsMove (said f) (f.next - f.at) × (move_code (said f) (f.next - f.at) ≡ (looked_into lent bytes).code)
    field_told f = told_field f lent bytes lent_bounded

    pub none_told : (e : ParseError) → told_looked {T = Unit {0}} (Err e) ≡ look_outline lent → IsMove (refusal_given e) 0 × (move_code (refusal_given e) 0 ≡ (looked_into lent bytes).code)
    none_told e = told_none e lent bytes lent_bounded

    pub looks : {out : List ℕ} {code : ℕ} → out ≡ look_bytes lent bytes → code ≡ (looked_into lent bytes).code → (record { code = code; bytes = out }) ≡ page_look_up page index k bytes
    looks o q = let z = o ∙ look_bytes_lem lent bytes in λ i. record { code = q i; bytes = z i }
