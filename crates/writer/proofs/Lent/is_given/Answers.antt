-- `writer::Lent::is_given` meets its contract: each test is a part of the record's. Assumes nothing.
use mathlib.Core.Path.{◌≡◌, refl, ◌∙◌}
use mathlib.Core.Bool.{Bool, ◌&&◌}
use mathlib.Core.List.{List}
use Prim.Native.Nat.{ℕ}
use Rattle.std.proofs.Common.{rules}
use Rattle.party.specs.Party.{content}
use Rattle.record_bytes.specs.RecordBytes.{laid_out}
use Rattle.record_bytes.proofs.Laws.{laid_names}
use Rattle.writer.specs.Given.{is_presence, is_given}
use Rattle.writer.specs.Code.{count_test, texts_test}
use Rattle.writer.proofs.Records.{bic_test, given_in_order}
use Rattle.writer.proofs.Lent.is_given.Goals as goal

-- the tests in the order of the code
module _ (s : List ℕ) where
  abbrev tests : Bool
  tests = let p = laid_out s in is_presence p.option p.present && bic_test p.option p && count_test p && texts_test p.option p.present p

  ordered : tests ≡ is_given (content (laid_out s))
  ordered = given_in_order (laid_out s).option (laid_out s) (laid_names s) refl refl refl refl refl

pub returns-then-is_counted : goal.returns-then-is_counted
returns-then-is_counted c =
    let all : c.are_texts.result ≡ tests c.args.self.now.bytes.now = search rules in
    all ∙ ordered c.args.self.now.bytes.now

pub returns-else-is_counted : goal.returns-else-is_counted
returns-else-is_counted c =
    let all : c.if-is_bic.value ≡ tests c.args.self.now.bytes.now = search rules in
    all ∙ ordered c.args.self.now.bytes.now
