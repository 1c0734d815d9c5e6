use Rattle.report.proofs.Uniqueness.{one_report}
use Rattle.report.proofs.laws.a_text_has_one_report.Goals as goal

pub returns : goal.returns
returns c = one_report
