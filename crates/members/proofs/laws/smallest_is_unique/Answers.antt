use Rattle.members.proofs.Firsts.{smallest_unique}
use Rattle.members.proofs.laws.smallest_is_unique.Goals as goal

pub returns : goal.returns
returns c = smallest_unique
