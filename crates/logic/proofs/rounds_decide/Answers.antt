use Rattle.logic.proofs.Deciding.{rounds_decide}
use Rattle.logic.proofs.rounds_decide.Goals as goal

pub returns : goal.returns
returns c = rounds_decide
