use Rattle.logic.proofs.Totals.{rounds_one}
use Rattle.logic.proofs.rounds_are_one_number.Goals as goal

pub returns : goal.returns
returns c = rounds_one
