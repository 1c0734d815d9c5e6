use Rattle.model.proofs.Sheets.{sheets_are_walks}
use Rattle.model.proofs.laws.sheets_are_walks.Goals as goal

pub returns : goal.returns
returns c = sheets_are_walks
