use Rattle.std.proofs.Common.{sym}
use Rattle.std.proofs.lemmas.List.{take_more}
use Rattle.report.proofs.Laying.{lays_then, lays_same}
use Rattle.report.proofs.printer.Printer.put_bytes.Goals as goal

pub loop-byte-preserved : goal.loop-byte-preserved
loop-byte-preserved c =
    let xs = c.args.bytes.now in
    lays_same (sym (take_more xs c.loop-byte.byte-index 0 c.loop-byte-test.true)) (lays_then c.loop-byte.invariant c.put.ensures)
