use Rattle.logic.proofs.Minimal.{listed_minimal}
use Rattle.logic.proofs.listed_includes_minimal.Goals as goal

pub returns : goal.returns
returns c = listed_minimal
