-- `page_writer::add_indexed` meets its contract: a record's bytes are added as the record. Assumes nothing.
use mathlib.Core.Path.{◌∙◌, ap}
use mathlib.Core.List.{List}
use Prim.Native.Nat.{ℕ}
use Rattle.party.specs.Party.{content}
use Rattle.party.proofs.Values.{is_party}
use Rattle.record_bytes.specs.RecordBytes.{decoded}
use Rattle.page_writer.specs.IndexState.{an_index}
use Rattle.page_writer.specs.Adding.{add as add_to, add_index}
use Rattle.page_writer.proofs.Addings.{add_encoded, index_encoded}
use Rattle.page_writer.proofs.add_indexed.Goals as goal

pub returns : goal.returns
returns c =
    let a = c.args in
    let buffer = a.buf.now in
    let b = an_index a.index.now in
    let is = is_party a.p _ c.well_formed.0 in record {
      buf_after = c.add_indexed_record.ensures.buf_after
          ∙ ap (λ (s : List ℕ). add_to buffer a.at b (content (decoded s))) c.encoded.ensures
          ∙ add_encoded a.p is buffer a.at b;
      index = c.add_indexed_record.ensures.index
          ∙ ap (λ (s : List ℕ). add_index buffer a.at b (content (decoded s))) c.encoded.ensures
          ∙ index_encoded a.p is buffer a.at b;
    }
