use Rattle.model.proofs.Sheets.{never_both}
use Rattle.model.proofs.laws.never_both.Goals as goal

pub returns : goal.returns
returns c = never_both
