-- What a record that passes the test for 22 has, part by part. Assumes nothing.
use mathlib.Core.Path.{◌≡◌, refl, sym, ◌∙◌}
use mathlib.Core.Bool.{Bool, true, false, not, ◌&&◌}
use mathlib.Core.List.{List, [], ◌∷◌}
use Prim.Native.Nat.{ℕ, ◌≤◌}
use lib.Dec.{leb, eqb}
use lib.ListN.{length}
use borrow.Author.Tests.{eqb-true, eq-eqb, leb-true, not-true}
use Rattle.errors.specs.Refusals.{accepted}
use Rattle.party.specs.declared.PartyOption.{PartyOption}
use Rattle.party.specs.Limits.{limits_of}
use Rattle.party.specs.Text.{Used}
use Rattle.party.specs.Party.{Content}
use Rattle.party.proofs.Options.{by_option}
use Rattle.swift_utils.specs.Checks.{parse_bic}
use Rattle.field_utils.specs.Names.{parse_name_and_address}
use Rattle.field_utils.proofs.Tests.{both_left, both_right, both, is_not}
use Rattle.writer.specs.Writing.{name_lines}
use Rattle.writer.specs.Given.{passes, every, is_line, text_reply, is_account, is_presence, is_bic, are_names, is_taken, is_given}
use Rattle.writer.proofs.NamePasses.{passed, passing, NamesPass, names_held, names_pass_lem}

-- the parts of the test
pub record Facts (s : Content) : Type 0 where
  pub presence : is_presence s.option s.present ≡ true
  pub account : every (is_account s.option s.present) s.account ≡ true
  pub bic : every is_bic s.bic ≡ true
  pub names : are_names s.option s.count s.digits s.names ≡ true
  pub free : (not s.present && is_taken (limits_of s.option).first s.names) ≡ false

module _ (s : Content) where
  abbrev pres : Bool
  pres = is_presence s.option s.present

  abbrev acc : Bool
  acc = every (is_account s.option s.present) s.account

  abbrev bics : Bool
  bics = every is_bic s.bic

  abbrev nams : Bool
  nams = are_names s.option s.count s.digits s.names

  abbrev taken : Bool
  taken = not s.present && is_taken (limits_of s.option).first s.names

  pub facts : is_given s ≡ true → Facts s
  unfolding is_given
  facts e =
      let e4 = both_left (((pres && acc) && bics) && nams) (not taken) e in
      let e3 = both_left ((pres && acc) && bics) nams e4 in
      let e2 = both_left (pres && acc) bics e3 in
      record {
        presence = both_left pres acc e2;
        account = both_right pres acc e2;
        bic = both_right (pres && acc) bics e3;
        names = both_right ((pres && acc) && bics) nams e4;
        free = not-true taken (both_right (((pres && acc) && bics) && nams) (not taken) e);
      }

  pub is_given_lem : Facts s → is_given s ≡ true
  unfolding is_given
  is_given_lem h =
      both (((pres && acc) && bics) && nams) (not taken)
      (both ((pres && acc) && bics) nams (both (pres && acc) bics (both pres acc h.presence h.account) h.bic) h.names)
      (is_not taken h.free)

-- the names
pub record NamesAre (o : PartyOption) (count : ℕ) (ds : List ℕ) (us : List Used) : Type 0 where
  pub counted : length us ≡ count
  pub lines : every is_line us ≡ true
  pub pass : eqb (limits_of o).max_names 0 ≡ false → NamesPass o (name_lines (limits_of o).numbering ds us)

module _ (o : PartyOption) (count : ℕ) (ds : List ℕ) (us : List Used) where
  abbrev named : Bool
  named = elim (eqb (limits_of o).max_names 0) [ true ↦ true | false ↦ passes (parse_name_and_address o 1 (name_lines (limits_of o).numbering ds us)) ]

  pub names_are : are_names o count ds us ≡ true → NamesAre o count ds us
  unfolding are_names
  names_are e =
      let first = both_left (eqb (length us) count && every is_line us) named e in
      record {
        counted = eqb-true _ _ (both_left (eqb (length us) count) (every is_line us) first);
        lines = both_right (eqb (length us) count) (every is_line us) first;
        pass = λ z.
            let n : named ≡ passes (parse_name_and_address o 1 (name_lines (limits_of o).numbering ds us)) = rw (z, named) in
            names_held o 1 _ (passed _ (sym n ∙ both_right (eqb (length us) count && every is_line us) named e));
      }

  pub are_names_lem : NamesAre o count ds us → are_names o count ds us ≡ true
  unfolding are_names
  are_names_lem h =
      both (eqb (length us) count && every is_line us) named (both (eqb (length us) count) (every is_line us) (eq-eqb _ _ h.counted) h.lines)
      (go (eqb (limits_of o).max_names 0) refl)
    where
      go : (t : Bool) → eqb (limits_of o).max_names 0 ≡ t → named ≡ true
      go true z = rw (z, named)
      go false z = let n : named ≡ passes (parse_name_and_address o 1 (name_lines (limits_of o).numbering ds us)) = rw (z, named) in n ∙ passing _ (names_pass_lem o 1 _ (h.pass z))

-- an account or identifier, and a BIC
pub account_line : (o : PartyOption) (present : Bool) (u : Used) → is_account o present u ≡ true → is_line u ≡ true
account_line o true u e = both_left (is_line u) (passes (text_reply (limits_of o).first o u.bytes)) e
account_line o false u e = both_right (eqb u.len 0) (is_line u) e

pub account_lines : (o : PartyOption) (present : Bool) (us : List Used) → every (is_account o present) us ≡ true → every is_line us ≡ true
account_lines o present [] e = refl
account_lines o present (u ∷ us) e =
    both (is_line u) (every is_line us) (account_line o present u (both_left (is_account o present u) (every (is_account o present) us) e))
    (account_lines o present us (both_right (is_account o present u) (every (is_account o present) us) e))

pub account_passes : (o : PartyOption) (u : Used) → is_account o true u ≡ true → text_reply (limits_of o).first o u.bytes ≡ accepted
account_passes o u e = passed _ (both_right (is_line u) (passes (text_reply (limits_of o).first o u.bytes)) e)

pub bic_passes : (u : Used) → is_bic u ≡ true → parse_bic 1 u.bytes ≡ accepted
bic_passes u e = passed _ (both_right (is_line u) (passes (parse_bic 1 u.bytes)) e)

pub bic_lines : (us : List Used) → every is_bic us ≡ true → every is_line us ≡ true
bic_lines [] e = refl
bic_lines (u ∷ us) e =
    both (is_line u) (every is_line us) (both_left (is_line u) (passes (parse_bic 1 u.bytes)) (both_left (is_bic u) (every is_bic us) e))
    (bic_lines us (both_right (is_bic u) (every is_bic us) e))

-- the limits of all options
pub record Small (o : PartyOption) : Type 0 where
  pub longest : (limits_of o).account_max ≤ 35
  pub names : (limits_of o).max_names ≤ 4
  pub name : (limits_of o).name_max ≤ 35

small_is : (o : PartyOption) → (leb (limits_of o).account_max 35 && leb (limits_of o).max_names 4 && leb (limits_of o).name_max 35) ≡ true
small_is =
    by_option (λ (o : PartyOption). (leb (limits_of o).account_max 35 && leb (limits_of o).max_names 4 && leb (limits_of o).name_max 35) ≡ true) refl refl refl
    refl refl refl refl refl refl refl refl

pub small : (o : PartyOption) → Small o
small o =
    let first = both_left (leb (limits_of o).account_max 35 && leb (limits_of o).max_names 4) (leb (limits_of o).name_max 35) (small_is o) in
    record {
      longest = leb-true _ _ (both_left (leb (limits_of o).account_max 35) (leb (limits_of o).max_names 4) first);
      names = leb-true _ _ (both_right (leb (limits_of o).account_max 35) (leb (limits_of o).max_names 4) first);
      name = leb-true _ _ (both_right (leb (limits_of o).account_max 35 && leb (limits_of o).max_names 4) (leb (limits_of o).name_max 35) (small_is o));
    }
