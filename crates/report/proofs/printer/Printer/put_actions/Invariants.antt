use Rattle.std.proofs.Common.{◌≡◌, ◌+◌, map}
use Rattle.logic.specs.Codes.{bit}
use Rattle.words.specs.Words.{name_bytes}
use Rattle.report.specs.Lines.{spaced, gap, none, passing}
use Rattle.report.specs.Printers.{Lays}
use Rattle.report.proofs.printer.Printer.put_actions.Given as goal

abbrev pub invariant-loop-a : goal.invariant-loop-a
invariant-loop-a l =
    let ws = passing (λ a. bit l.code (l.position + a)) (map name_bytes l.actions) l.a in
    Lays l.initial.self (spaced ws) l.self × (l.gap ≡ gap (none ws))
