-- `NameLine::parse_number` meets its contract: what passes the test of its digit has one. Assumes nothing.
use Rattle.std.proofs.Common.{sym, arith}
use Rattle.party.specs.declared.Numbering.TheVariants.{Numbered}
use Rattle.field_utils.proofs.NameLines.{number_room}
use Rattle.field_utils.proofs.NameLine.parse_number.Goals as goal

pub parse_turn-requires : goal.parse_turn-requires
parse_turn-requires c =
    let a = c.args.self.now in
    omega (arith, number_room Numbered a.line a.turn a.text.now (sym c.in_ok-parse_digit-in-InTurn.ensures))
