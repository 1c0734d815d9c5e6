use Rattle.formula.proofs.WholeLaws.{read_whole}
use Rattle.formula.proofs.whole.read_is_whole.Goals as goal

pub returns : goal.returns
returns c = read_whole
