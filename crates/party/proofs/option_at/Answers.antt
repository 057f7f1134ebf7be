-- No option stands past the last.
use Rattle.std.proofs.Common.{rules, sym}
use lib.ListN.{get_or-eq_default}
use Rattle.party.specs.declared.PartyOption.TheVariants.{Field50NoOption}
use Rattle.party.specs.Limits.{options, option_at}
use Rattle.party.proofs.option_at.Goals as goal

pub returns-in-Some : goal.returns-in-Some
unfolding option_at
returns-in-Some c = search rules

pub returns-in-None : goal.returns-in-None
unfolding option_at
returns-in-None c = sym (get_or-eq_default options Field50NoOption c.in-None.ensures.lookup.3)
