use Rattle.formula.proofs.SheetLaws.{agree}
use Rattle.formula.proofs.reader.grammar_and_rules_agree.Goals as goal

pub returns : goal.returns
returns c = agree
