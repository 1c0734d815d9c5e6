use Rattle.logic.proofs.Display.{display_lists}
use Rattle.logic.proofs.display_lists.Goals as goal

pub returns : goal.returns
returns c = display_lists
