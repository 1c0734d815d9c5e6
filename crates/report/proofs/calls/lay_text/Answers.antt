use Rattle.std.proofs.Common.{length}
use Rattle.report.proofs.Sheeting.{read_report}
use Rattle.report.proofs.calls.lay_text.Goals as goal

pub returns-in-Ok : goal.returns-in-Ok
returns-in-Ok c =
    let h = c.in-Ok.ensures in
    read_report c.args.text.now _ (length c.args.store.now) h.content h.end c.args.printer.now c.lay.new.printer h.sheet h.rest (c.lay.ensures h.content h.sheet.admissible h.holds)
