use Rattle.std.proofs.Common.{take}
use Rattle.report.specs.Printers.{Lays}
use Rattle.report.proofs.printer.Printer.put_bytes.Given as goal

abbrev pub invariant-loop-byte : goal.invariant-loop-byte
invariant-loop-byte l = Lays l.initial.self (take l.byte-index l.bytes) l.self
