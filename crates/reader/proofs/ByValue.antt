-- A choice's reading is whole: its record loads, or it is the blank one beside a refusal. Assumes nothing.
use Prim.Native.Nat.{ℕ}
use mathlib.Core.Path.{refl}
use mathlib.Core.List.{List}
use Rattle.reader.specs.declared.choices.Choice.{Choice}
use Rattle.reader.specs.Choices.{parse, parse_with_variant}
use Rattle.reader.proofs.Every.{every_parse, every_variant}
use Rattle.reader.proofs.Loading.{Back, read_back}

pub parse_back : (choice : Choice) (body : List ℕ) → Back (parse choice body)
parse_back = every_parse Back read_back (λ k h. refl)

pub variant_back : (choice : Choice) (body : List ℕ) (letter : ℕ) → Back (parse_with_variant choice body letter)
variant_back = every_variant Back read_back (λ k h. refl)
