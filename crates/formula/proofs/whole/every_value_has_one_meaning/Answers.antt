use Rattle.formula.proofs.WholeLaws.{meanings}
use Rattle.formula.proofs.whole.every_value_has_one_meaning.Goals as goal

pub returns : goal.returns
returns c = meanings
