-- The two records compute to the same.
use Rattle.std.proofs.Common.{refl}
use Rattle.party.specs.Text.{padded, text_of}
use Rattle.party.proofs.blank.Goals as goal

pub returns : goal.returns
unfolding padded text_of
returns c = refl
