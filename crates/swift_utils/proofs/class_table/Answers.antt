-- `swift_utils::class_table` meets its contract: the table lists `classes_of` at each of its 256 entries, which antt computes. Assumes nothing.
use mathlib.Core.Path.{refl}
use Rattle.swift_utils.specs.Bytes.{letter, small, digit, alphanumeric, signs, legal, narrow_signs, narrow}
use Rattle.swift_utils.specs.Classes.{bits_of, classes_of, class_table}
use Rattle.swift_utils.proofs.class_table.Goals as goal

pub returns : goal.returns
unfolding letter small digit alphanumeric signs legal narrow_signs narrow bits_of classes_of class_table
returns c = refl
