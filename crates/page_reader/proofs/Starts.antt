-- A read where a line starts after other bytes. Assumes nothing.
use mathlib.Core.Path.{◌≡◌, refl, ◌∙◌, ap}
use mathlib.Core.Bool.{Bool, true, ◌||◌, or-true}
use mathlib.Core.List.{List, [], ◌∷◌, ◌++◌}
use Prim.Native.Nat.{ℕ, ◌+◌, ◌-◌, ◌≤◌, ◌<◌}
use native.Mathlib.Omega.{arith}
use lib.Dec.{ltb, leb, eqb}
use lib.ListN.{length, take, drop, length-append, get_or-append}
use lib.Seq.{drop-append_seam}
use borrow.Author.Tests.{le-leb, lt-ltb}
use Rattle.field_utils.specs.Lines.{upto, without_cr}
use Rattle.party.specs.Limits.{options}
use Rattle.page_reader.specs.declared.ReadCase.{ReadCase}
use Rattle.page_reader.specs.declared.ReadCase.TheVariants.{AtLength, Opening, Ending}
use Rattle.page_reader.specs.Pages.{page_most, line_at, opens, less_cr, ends_at, runs, past, tag_in, the_end, a_refusal, bodiless, read_field, starts_line, readable, text_in, read_case, read_at}
use Rattle.page_reader.specs.Index.{no_field, tagged_as, met_by, field_at}
use Rattle.page_reader.proofs.Cases.{case_length, case_opening, case_ending, by_case}

pub starts_prefix : (pre s : List ℕ) → starts_line (pre ++ s) (length pre) ≡ starts_line pre (length pre)
starts_prefix [] s = refl
starts_prefix (b ∷ q) s = ap (λ (c : ℕ). eqb c 10) (get_or-append (b ∷ q) s 0 (length q) (omega arith))

-- a field that opens at a position, by its text as read and the next position
pub record Opens (page : List ℕ) (at : ℕ) (text : List ℕ) (next : ℕ) : Type 0 where
  pub to : ℕ
  pub case : read_case page at ≡ Opening to
  pub reads : text_in page at to ≡ text
  pub leads : past page to ≡ next

-- what a read at a position meets, by its case
met_by_lem : (page : List ℕ) (at : ℕ) {x : ReadCase} → read_case page at ≡ x → field_at page at ≡ met_by x page at
unfolding field_at
met_by_lem page at e = ap (λ (y : ReadCase). met_by y page at) e

module _ {page : List ℕ} {at : ℕ} {text : List ℕ} {next : ℕ} (o : Opens page at text next) where
  pub opens_read : read_at page at ≡ read_field text next
  opens_read = by_case page at o.case ∙ (λ i. read_field (o.reads i) (o.leads i))

  pub opens_met : field_at page at ≡ tagged_as (tag_in options text) at (length text)
  opens_met = met_by_lem page at o.case ∙ ap (λ (x : List ℕ). tagged_as (tag_in options x) at (length x)) o.reads

module _ (pre s : List ℕ) (a : starts_line pre (length pre) ≡ true) (m : length (pre ++ s) ≤ page_most) where
  abbrev at : ℕ
  at = length pre

  readable_at : readable (pre ++ s) at ≡ true
  readable_at =
      let b : leb at (length (pre ++ s)) ≡ true = le-leb at (length (pre ++ s)) (omega (arith, length-append pre s)) in
      let c : (eqb at (length (pre ++ s)) || starts_line (pre ++ s) at) ≡ true = rw (starts_prefix pre s, a) (or-true (eqb at (length (pre ++ s)))) in
      rw (b, c)

  -- the rest from there on
  rest : drop at (pre ++ s) ≡ s
  rest = drop-append_seam pre s

  length_case : length s ≡ 0 → read_case (pre ++ s) at ≡ AtLength
  length_case e = case_length (pre ++ s) at m readable_at (omega (arith, e, length-append pre s))

  pub read_length : length s ≡ 0 → read_at (pre ++ s) at ≡ bodiless (a_refusal 17 0) at
  read_length e = by_case (pre ++ s) at (length_case e)

  pub meets_length : length s ≡ 0 → field_at (pre ++ s) at ≡ no_field
  meets_length e = met_by_lem (pre ++ s) at (length_case e)

  module _ (k : 0 < length s) where
    inside : at < length (pre ++ s)
    inside = omega (arith, k, length-append pre s)

    -- a field that an LF closes
    pub opening : opens (line_at s) ≡ true → runs s < length s → Opens (pre ++ s) at (without_cr (take (runs s) s)) (past (pre ++ s) (at + runs s))
    opening o w =
        let n : at + runs s - at ≡ runs s = omega arith in
        let lf : ltb (at + runs s) (length (pre ++ s)) ≡ true = lt-ltb (at + runs s) (length (pre ++ s)) (let k = length-append pre s in omega arith) in
        record {
          to = at + runs s;
          case = case_opening (pre ++ s) at m readable_at inside (ap (λ (x : List ℕ). opens (line_at x)) rest ∙ o) ∙ ap (λ (x : List ℕ). Opening (at + runs x)) rest;
          reads = ap (λ (x : List ℕ). less_cr (ltb (at + runs s) (length (pre ++ s))) (take (at + runs s - at) x)) rest
              ∙ ap (λ (t : Bool). less_cr t (take (at + runs s - at) s)) lf ∙ ap (λ (x : ℕ). without_cr (take x s)) n;
          leads = refl;
        }

    ending_case : ends_at s ≡ true → read_case (pre ++ s) at ≡ Ending (at + upto 10 s)
    ending_case e = case_ending (pre ++ s) at m readable_at inside (ap ends_at rest ∙ e) ∙ ap (λ (x : List ℕ). Ending (at + upto 10 x)) rest

    pub read_ending : ends_at s ≡ true → read_at (pre ++ s) at ≡ bodiless the_end (past (pre ++ s) (at + upto 10 s))
    read_ending e = by_case (pre ++ s) at (ending_case e)

    pub meets_ending : ends_at s ≡ true → field_at (pre ++ s) at ≡ no_field
    meets_ending e = met_by_lem (pre ++ s) at (ending_case e)
