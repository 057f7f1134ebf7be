-- What a lent record says, for the contracts of its methods.
use Rattle.std.specs.Prelude.{Bool}
use Rattle.party.specs.declared.Party.{Party}
use Rattle.record_bytes.specs.RecordBytes.{laid_out}
use Rattle.writer.specs.declared.Lent.{Lent}
use Rattle.writer.specs.Code.{has_head}

-- the record that the bytes have at its places
abbrev pub lent_party : Lent → Party
lent_party l = laid_out l.bytes.now

-- whether an account or identifier is written of it
abbrev pub lent_head : Lent → Bool
lent_head l = has_head (lent_party l).option (lent_party l).present
