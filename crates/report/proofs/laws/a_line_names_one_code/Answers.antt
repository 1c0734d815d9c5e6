use Rattle.report.proofs.Apart.{lines_apart}
use Rattle.report.proofs.laws.a_line_names_one_code.Goals as goal

pub returns : goal.returns
returns c = lines_apart
