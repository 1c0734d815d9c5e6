use Rattle.model.proofs.Sheets.{one_reading}
use Rattle.model.proofs.laws.one_reading.Goals as goal

pub returns : goal.returns
returns c = one_reading
