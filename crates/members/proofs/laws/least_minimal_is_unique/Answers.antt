use Rattle.members.proofs.Minima.{least_minimal_unique}
use Rattle.members.proofs.laws.least_minimal_is_unique.Goals as goal

pub returns : goal.returns
returns c = least_minimal_unique
