use Rattle.std.proofs.Common.{◌≡◌, ◌≢◌, map, length, sym, ◌∙◌, arith}
use Rattle.std.proofs.lemmas.List.{length-map}
use Rattle.std.proofs.lemmas.Bool.{eqb-true, eqb-false}
use Rattle.words.specs.Words.{name_bytes}
use Rattle.report.specs.Lines.{line}
use Rattle.report.specs.Printers.{Lays}
use Rattle.report.proofs.Laying.{lays_then, lays_same, lays_to}
use Rattle.report.proofs.Spacing.{line_some, line_none}
use Rattle.report.proofs.printer.Printer.put_line.Goals as goal
use Rattle.report.proofs.printer.Printer.put_line.Goals.{then-is_empty, else-is_empty}

pub returns : goal.returns
returns c =
    let names = map name_bytes c.args.names.now.actions.now in
    let variables = c.args.names.now.variables.now in
    let vs = map name_bytes variables in
    let long : length vs ≡ length variables = length-map variables name_bytes in
    let code = c.args.code in
    let text : Lays c.args.self.now (line names vs code) c.if-is_empty.self =
    elim c.if-is_empty.branch [
      | then-is_empty w ↦ lays_to w.self-is (lays_same (line_none names vs code (long ∙ eqb-true (length variables) 0 (sym w.if-is_empty.ensures))) w.put.ensures)
      | else-is_empty w ↦ lays_to w.self-is (lays_same (line_some names vs code (length variables) long (let far : length variables ≢ 0 = eqb-false (length variables) 0 (sym w.if-is_empty.ensures) in omega arith)) w.put_variables.ensures)
    ] in
    lays_then text c.put-2.ensures
