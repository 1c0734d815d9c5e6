use Rattle.model.proofs.Sheets.{one_refusal}
use Rattle.model.proofs.laws.one_refusal.Goals as goal

pub returns : goal.returns
returns c = one_refusal
