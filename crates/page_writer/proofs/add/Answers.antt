-- `page_writer::add` meets its contract: a record's bytes are added as the record. Assumes nothing.
use mathlib.Core.Path.{◌∙◌, ap}
use mathlib.Core.List.{List}
use Prim.Native.Nat.{ℕ}
use Rattle.party.specs.Party.{content}
use Rattle.party.proofs.Values.{is_party}
use Rattle.record_bytes.specs.RecordBytes.{decoded}
use Rattle.page_writer.specs.IndexState.{no_index}
use Rattle.page_writer.specs.Adding.{add as add_to}
use Rattle.page_writer.proofs.Addings.{add_encoded}
use Rattle.page_writer.proofs.add.Goals as goal

pub returns : goal.returns
returns c =
    let a = c.args in
    c.add_record.ensures
    ∙ ap (λ (s : List ℕ). add_to a.buf.now a.at no_index (content (decoded s))) c.encoded.ensures
    ∙ add_encoded a.p (is_party a.p _ c.well_formed.0) a.buf.now a.at no_index
