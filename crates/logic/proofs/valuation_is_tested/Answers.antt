use Rattle.logic.proofs.Inclusion.{valuation_tested}
use Rattle.logic.proofs.valuation_is_tested.Goals as goal

pub returns : goal.returns
returns c = valuation_tested
