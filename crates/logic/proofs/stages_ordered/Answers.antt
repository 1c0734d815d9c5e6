use Rattle.logic.proofs.Stages.{stages_ordered}
use Rattle.logic.proofs.stages_ordered.Goals as goal

pub returns : goal.returns
returns c = stages_ordered
