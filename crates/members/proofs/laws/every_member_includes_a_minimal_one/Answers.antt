use Rattle.members.proofs.Minima.{minimal_reached}
use Rattle.members.proofs.laws.every_member_includes_a_minimal_one.Goals as goal

pub returns : goal.returns
returns c = minimal_reached
