use Rattle.logic.proofs.Stages.{still_means}
use Rattle.logic.proofs.still_stage_means.Goals as goal

pub returns : goal.returns
returns c = still_means
