use Rattle.logic.proofs.Deciding.{holds_or_not}
use Rattle.logic.proofs.holds_or_not.Goals as goal

pub returns : goal.returns
returns c = holds_or_not
