-- `record_bytes::put_parts` meets its contract. The loop's invariant: the first texts stand from 3 on.
-- Assumes nothing.
use Prim.Native.Nat.{◌*◌}
use mathlib.Core.Path.{◌≡◌}
use lib.Seq.{paste}
use Rattle.party.specs.Party.{party_in}
use Rattle.record_bytes.specs.RecordBytes.{encoded_texts, texts_of, text_size}
use Rattle.record_bytes.proofs.put_parts.Given as goal

abbrev pub invariant-loop-n : goal.invariant-loop-n
invariant-loop-n l = l.record ≡ paste l.initial.record 3 (encoded_texts (texts_of (party_in l.body l.parts))) (text_size * l.n)
