use Rattle.model.proofs.GivingBack.{gives_back}
use Rattle.model.proofs.laws.gives_back.Goals as goal

pub returns : goal.returns
returns c = gives_back
