use Rattle.logic.proofs.Totals.{rounds_few}
use Rattle.logic.proofs.rounds_are_few.Goals as goal

pub returns : goal.returns
returns c = rounds_few
