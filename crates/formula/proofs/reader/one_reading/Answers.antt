use Rattle.formula.proofs.SheetLaws.{one_reading}
use Rattle.formula.proofs.reader.one_reading.Goals as goal

pub returns : goal.returns
returns c = one_reading
