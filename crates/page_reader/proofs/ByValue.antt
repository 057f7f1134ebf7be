-- A read or a lookup by value comes from one in lent bytes. Assumes nothing.
use Prim.Native.Nat.{ℕ, ◌≤◌}
use mathlib.Core.Path.{◌≡◌, refl, sym, ◌∙◌, ap, subst}
use mathlib.Core.List.{List}
use Rattle.std.specs.Prelude.{Option, Some, None, Result, Ok, Err}
use Rattle.errors.specs.declared.ParseError.{ParseError}
use lib.ListN.{length}
use Rattle.errors.specs.Refusals.{Reply, accepted, refused}
use Rattle.party.specs.declared.Party.{Party}
use Rattle.record_bytes.specs.RecordBytes.{record_size, decoded}
use Rattle.reader.specs.Options.{read}
use Rattle.reader.proofs.Loading.{Loads, Whole, read_back, stored_loads}
use Rattle.page_reader.specs.declared.PageRead.{PageRead as ReadAt}
use Rattle.page_reader.specs.declared.index.FieldRead.{FieldRead}
use Rattle.page_reader.specs.Pages.{ReadOutcome, a_record, the_end, a_refusal, PageRead, outcome_of, read_at, read_lent, read_bytes, party_beside, kind_of, Outline, outline, Kind, told_kind, told_read, told_party}
use Rattle.page_reader.specs.Reads.{Read}
use Rattle.page_reader.specs.Index.{Looked, found, not_found, look_up, look_lent, party_looked, found_at, look_outline, told_looked, told_body, told_found, party_or_blank}
use Rattle.page_reader.proofs.Cases.{Tells, lent_whole}
use Rattle.page_reader.proofs.Entries.{Looks, look_whole, found_here}
use Rattle.page_reader.proofs.Moves.{every_read}

-- the record of a read loads as it was stored
abbrev OutcomeLoads : ReadOutcome → Type 0
OutcomeLoads (a_record p) = Loads p
OutcomeLoads the_end = Unit {0}
OutcomeLoads (a_refusal k n) = Unit {0}

whole_loads : (r : Reply) (p : Party) → Whole r p → OutcomeLoads (outcome_of r p)
whole_loads accepted p h = h
whole_loads (refused k n) p h = tt

read_loads : (page : List ℕ) (at : ℕ) → OutcomeLoads (read_at page at).outcome
read_loads = every_read OutcomeLoads (λ o body. whole_loads (read o body).reply (read o body).party (read_back o body)) (λ k h. tt) tt

same_outline : {a b : ℕ} {x y : Outline} → found_at a x ≡ found_at b y → x ≡ y
same_outline h = cc

-- an answer by value has the record that the bytes hold
abbrev pub held : List ℕ → Result (Option (Unit {0})) ParseError → Result (Option Party) ParseError
held e (Ok (Some t)) = Ok (Some (decoded e))
held e (Ok None) = Ok None
held e (Err x) = Err x

abbrev pub held_body : List ℕ → Result (Unit {0}) ParseError → Result Party ParseError
held_body e (Ok t) = Ok (decoded e)
held_body e (Err x) = Err x

abbrev pub held_found : List ℕ → Result (FieldRead (Unit {0})) ParseError → Result (FieldRead Party) ParseError
held_found e (Ok f) = Ok (record { outcome = held_body e f.outcome; at = f.at; next = f.next })
held_found e (Err x) = Err x

held_told : (e : List ℕ) (w : Result (Option (Unit {0})) ParseError) → told_kind (held e w) ≡ told_kind w
held_told e (Ok (Some t)) = refl
held_told e (Ok None) = refl
held_told e (Err x) = refl

body_told : (e : List ℕ) (w : Result (Unit {0}) ParseError) → told_body (held_body e w) ≡ told_body w
body_told e (Ok t) = refl
body_told e (Err x) = refl

found_told : (e : List ℕ) (w : Result (FieldRead (Unit {0})) ParseError) → told_looked (held_found e w) ≡ told_looked w
found_told e (Ok f) = ap (λ (k : Kind). found_at f.at (record { kind = k; next = f.next })) (body_told e f.outcome)
found_told e (Err x) = refl

-- bytes that are as many as a record's hold the record beside the outcome
module _ (d e : List ℕ) (size : record_size ≤ length d) where
  beside : (o : ReadOutcome) (w : Result (Option (Unit {0})) ParseError) → OutcomeLoads o → told_kind w ≡ kind_of o → e ≡ read_bytes o d → told_party (held e w) ≡ party_beside o
  beside (a_record p) (Ok (Some t)) l h b = ap decoded b ∙ stored_loads p d l size
  beside (a_record p) (Ok None) l h b = cc
  beside (a_record p) (Err x) l h b = cc
  beside the_end (Ok (Some t)) l h b = cc
  beside the_end (Ok None) l h b = refl
  beside the_end (Err x) l h b = refl
  beside (a_refusal k n) (Ok (Some t)) l h b = cc
  beside (a_refusal k n) (Ok None) l h b = refl
  beside (a_refusal k n) (Err x) l h b = refl

  -- a read
  pub read_value : (page : List ℕ) (at : ℕ) (r : ReadAt (Unit {0})) (w : Result (Option Party) ParseError) → Tells r (read_lent page at d) d e → w ≡ held e r.outcome
      → (told_read (record { outcome = w; next = r.next }) ≡ outline (read_at page at)) × (told_party w ≡ party_beside (read_at page at).outcome)
  read_value page at r w t q =
      let x = read_at page at in
      let h = subst (λ (y : PageRead). Tells r y d e) (lent_whole page at d size) t in (
        ap {B = Outline} (λ (k : Kind). record { kind = k; next = r.next }) (ap told_kind q ∙ held_told e r.outcome) ∙ h.0,
        ap told_party q ∙ beside x.outcome r.outcome (read_loads page at) (ap (λ (y : Outline). y.kind) h.0) h.1,
      )

  -- a lookup
  body_beside : (o : ReadOutcome) (w : Result (Unit {0}) ParseError) → OutcomeLoads o → told_body w ≡ kind_of o → e ≡ read_bytes o d → party_or_blank (held_body e w) ≡ party_beside o
  body_beside o (Ok t) l h b = beside o (Ok (Some t)) l h b
  body_beside o (Err x) l h b = beside o (Err x) l h b

  looked : (x : Looked) (w : Result (FieldRead (Unit {0})) ParseError) → ((r : Read) → x ≡ found r → OutcomeLoads r.gave.outcome) → Looks w x d e → told_found (held_found e w) ≡ party_looked x
  looked (found r) (Ok f) l t = body_beside r.gave.outcome f.outcome (l r refl) (ap (λ (y : Outline). y.kind) (same_outline t.0)) t.1
  looked (found r) (Err x) l t = cc t.0
  looked (not_found k n) (Ok f) l t = cc t.0
  looked (not_found k n) (Err x) l t = refl

  pub look_value : (page index : List ℕ) (k : ℕ) (w : Result (FieldRead (Unit {0})) ParseError) (v : Result (FieldRead Party) ParseError) → let x = look_up page index k in Looks w (look_lent page index k d) d e → v ≡ held_found e w
      → (told_looked v ≡ look_outline x) × (told_found v ≡ party_looked x)
  look_value page index k w v t q =
      let x = look_up page index k in
      let h = subst (λ (y : Looked). Looks w y d e) (look_whole page index k d size) t in (
        ap told_looked q ∙ found_told e w ∙ h.0,
        ap told_found q ∙ looked x w (λ r f. subst (λ (y : PageRead). OutcomeLoads y.outcome) (sym (found_here page index k f)) (read_loads page r.at)) h,
      )
