-- `record_bytes::option_of` meets its contract, by the test of the bytes. Assumes nothing.
use mathlib.Core.Path.{sym, ◌∙◌, ap}
use Rattle.party.specs.declared.Party.{Party}
use Rattle.record_bytes.specs.RecordBytes.{party_from}
use Rattle.record_bytes.proofs.option_of.Goals as goal

pub returns-in-Some : goal.returns-in-Some
unfolding party_from
returns-in-Some c = c.option_at.ensures ∙ sym (ap (λ (p : Party). p.option) c.in-Some.ensures)

pub returns-in-None : goal.returns-in-None
returns-in-None c = sym (ap (λ (p : Party). p.option) c.in-None.ensures)
