use Rattle.report.proofs.Laying.{lays_then}
use Rattle.report.proofs.printer.Printer.put_count.Goals as goal

pub returns : goal.returns
returns c = lays_then c.put_bytes.ensures c.put_number.ensures
