use Rattle.logic.proofs.Totals.{rounds_unique}
use Rattle.logic.proofs.rounds_are_never_two_numbers.Goals as goal

pub returns : goal.returns
returns c = rounds_unique
