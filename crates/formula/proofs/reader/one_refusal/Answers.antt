use Rattle.formula.proofs.SheetLaws.{one_refusal}
use Rattle.formula.proofs.reader.one_refusal.Goals as goal

pub returns : goal.returns
returns c = one_refusal
