use Rattle.logic.proofs.Display.{display_rounds}
use Rattle.logic.proofs.display_rounds.Goals as goal

pub returns : goal.returns
returns c = display_rounds
