use Rattle.logic.proofs.Totals.{stages_settle}
use Rattle.logic.proofs.stages_settle.Goals as goal

pub returns : goal.returns
returns c = stages_settle
