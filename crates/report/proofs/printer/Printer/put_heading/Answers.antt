use Rattle.report.proofs.Laying.{lays_then}
use Rattle.report.proofs.printer.Printer.put_heading.Goals as goal

pub returns : goal.returns
returns c = lays_then c.put_count.ensures (lays_then c.put_count-2.ensures (lays_then c.put_count-3.ensures c.put.ensures))
