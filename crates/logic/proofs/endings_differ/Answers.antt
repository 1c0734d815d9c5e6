use Rattle.logic.proofs.Endings.{endings_differ}
use Rattle.logic.proofs.endings_differ.Goals as goal

pub returns : goal.returns
returns c = endings_differ
