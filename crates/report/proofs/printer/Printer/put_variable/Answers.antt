use Rattle.report.proofs.Laying.{lays_then, lays_same}
use Rattle.report.proofs.printer.Printer.put_variable.Goals as goal

pub returns : goal.returns
returns c = lays_then (lays_same c.as_bytes.ensures c.put_bytes.ensures) (lays_then c.put_bytes-2.ensures (lays_then c.put_actions.ensures c.put.ensures))
