use Rattle.model.proofs.Sheets.{names_look_up}
use Rattle.model.proofs.laws.names_look_up.Goals as goal

pub returns : goal.returns
returns c = names_look_up
