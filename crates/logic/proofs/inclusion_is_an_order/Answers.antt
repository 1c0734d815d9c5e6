use Rattle.logic.proofs.Inclusion.{inclusion_order}
use Rattle.logic.proofs.inclusion_is_an_order.Goals as goal

pub returns : goal.returns
returns c = inclusion_order
