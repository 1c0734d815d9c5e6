use Rattle.std.proofs.Common.{◌≡◌, map}
use Rattle.words.specs.Words.{name_bytes}
use Rattle.report.specs.Lines.{spaced, gap, none, given_texts}
use Rattle.report.specs.Printers.{Lays}
use Rattle.report.proofs.printer.Printer.put_variables.Given as goal

abbrev pub invariant-loop-y : goal.invariant-loop-y
invariant-loop-y l =
    let texts = given_texts (map name_bytes l.actions) (map name_bytes l.names.variables.now) l.code l.y in
    Lays l.initial.self (spaced texts) l.self × (l.gap ≡ gap (none texts))
