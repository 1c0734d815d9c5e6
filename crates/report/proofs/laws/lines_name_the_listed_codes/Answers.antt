use Rattle.report.proofs.Apart.{lines_name}
use Rattle.report.proofs.laws.lines_name_the_listed_codes.Goals as goal

pub returns : goal.returns
returns c = lines_name
