use Rattle.logic.proofs.Grows.{existential_grows}
use Rattle.logic.proofs.existential_part_grows.Goals as goal

pub returns : goal.returns
returns c = existential_grows
