-- `reader::read_names` meets its contract: names that pass are those of the record. Assumes nothing.
use mathlib.Core.Path.{◌≡◌, refl, sym, ◌∙◌, ap}
use mathlib.Core.List.{List, []}
use Prim.Native.Nat.{ℕ, suc}
use lib.ListN.{drop}
use Rattle.party.specs.declared.Party.{Party}
use Rattle.party.specs.Text.{text_of, texts_in}
use Rattle.party.specs.Party.{party_in}
use Rattle.field_utils.specs.Lines.{lines}
use Rattle.field_utils.specs.Names.{parse_name_and_address, NamesRead, read_names}
use Rattle.reader.specs.Reading.{party_of}
use Rattle.reader.specs.Options.{Head, with_names}
use Rattle.reader.specs.Code.{lines_before, head_at}
use Rattle.reader.proofs.Readings.{refusing, accepting, names_reply, party_named}
use Rattle.reader.proofs.Into.{exits}
use Rattle.reader.proofs.read_names.Goals as goal
use Rattle.reader.proofs.read_names.Goals.{After-parse_name_and_address}

-- the lines that are read as names, and what is said of them
module _ (p : After-parse_name_and_address) where
  abbrev names : List (List ℕ)
  names = lines (drop p.args.later.lines.at p.args.later.lines.text.now)

  abbrev head : Head
  head = head_at p.args.later.lines.text.now p.args.later.account

  abbrev before : ℕ
  before = lines_before p.args.later.account

  -- what the names give, by the lines that precede them
  given : {w : NamesRead} → w ≡ read_names p.args.option (suc p.start_idx.result) names → w ≡ read_names p.args.option (suc before) names
  given e = e ∙ ap (λ (k : ℕ). read_names p.args.option (suc k) names) p.start_idx.ensures

  says : {w : NamesRead} → w ≡ read_names p.args.option (suc p.start_idx.result) names → parse_name_and_address p.args.option (suc before) names ≡ w.reply
  says e = sym (names_reply p.args.option (suc before) names) ∙ sym (ap (λ (w : NamesRead). w.reply) (given e))

pub returns-in_err-count : goal.returns-in_err-count
returns-in_err-count c =
    let a = c.args in
    let at = (goal.at.returns-in_err-count c).After-parse_name_and_address in
    rw (exits c.from_residual.ensures.1)
    (refusing a.option (with_names a.option (suc (before at)) (head at) (names at)) a.later.lines.text.now c.in_err-count.field-0.0 (says at c.in_err-count.ensures.result_value))

pub returns : goal.returns
unfolding party_in party_of
returns c =
    let a = c.args in
    let at = (goal.at.returns c).After-parse_name_and_address in
    let n = c.in_ok-count.field-0 in
    let p = c.nameless_parts.result in
    let passed = says at c.in_ok-count.ensures.result_value in
    let bare = c.nameless_parts.ensures a.later.lines.text.now in
    let same : ◌≡◌ {A = Party} (party_in a.later.lines.text.now (record { account = p.account; bic = p.bic; name_and_address = n.parts; count = n.count; digits = n.digits; option = p.option; present = p.present }))
    (record { option = a.option; present = (head at).present; account = text_of (head at).text; bic = text_of []; count = n.count; name_and_address = texts_in a.later.lines.text.now n.parts; digits = n.digits }) =
    λ i. record {
      option = (bare i).option;
      present = (bare i).present;
      account = (bare i).account;
      bic = (bare i).bic;
      count = n.count;
      name_and_address = texts_in a.later.lines.text.now n.parts;
      digits = n.digits;
    } in
    accepting a.option (with_names a.option (suc (before at)) (head at) (names at)) a.later.lines.text.now _ passed
    (same ∙ party_named a.option (suc (before at)) (head at) (names at) passed refl refl (given at c.in_ok-count.ensures.result_value))
