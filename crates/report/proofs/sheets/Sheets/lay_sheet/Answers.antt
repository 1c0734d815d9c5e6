use Rattle.std.proofs.Common.{length, drop, Ok, Err}
use Rattle.std.proofs.lemmas.Result.{err_from_is_err_and}
use Rattle.report.specs.declared.faults.SheetFault.TheVariants.{Reading, Evaluation}
use Rattle.report.proofs.Judging.{within, actions_some, variables_few, sheet_over, evaluates_sheet, told_sheet, refused_sheet, misread, laid_err}
use Rattle.report.proofs.Laying.{lays_none}
use Rattle.report.proofs.sheets.Sheets.lay_sheet.Goals as goal

pub returns-in_err-next-clause-laid : goal.returns-in_err-next-clause-laid
returns-in_err-next-clause-laid c d a keeps =
    let t = c.args.self.now.text.now in
    let size = length c.args.store.now in
    let p = err_from_is_err_and c.from_residual.result c.from_residual.ensures.1 in
    let e = c.in_err-next.field-0.0 in
    laid_err t size d c.args.from p.0 (Reading e) p.1 p.2 (misread t size c.args.from c.args.self.now.model.now d a keeps e c.in_err-next.ensures) (lays_none c.args.printer.now)

pub lay_over_full-requires : goal.lay_over_full-requires
lay_over_full-requires c =
    let m = c.args.self.now.model.now in
    let v = c.read_sheet.new.formula in
    let k = c.requires.kept in
    let h = c.in_ok-next.ensures in
    let text = drop c.args.from c.args.self.now.text.now in
    record {
      small = within m v k.content k.admissible k.keeps text h.content h.end h.sheet h.kept;
      some = actions_some m v k.content k.admissible k.keeps text h.content h.end h.sheet h.kept;
      few = variables_few m v k.content k.admissible k.keeps text h.content h.end h.sheet h.kept;
    }

pub returns-in_err-lay_over_full-clause-laid : goal.returns-in_err-lay_over_full-clause-laid
returns-in_err-lay_over_full-clause-laid c d a keeps =
    let t = c.args.self.now.text.now in
    let size = length c.args.store.now in
    let m = c.args.self.now.model.now in
    let v = c.read_sheet.new.formula in
    let from = c.args.from in
    let h = c.in_ok-next.ensures in
    let p = err_from_is_err_and c.from_residual-in_err-lay_over_full.result c.from_residual-in_err-lay_over_full.ensures.1 in
    let e = c.in_err-lay_over_full.field-0.0 in
    let k = evaluates_sheet m v d a keeps (drop from t) h.content h.end h.sheet h.kept size c.args.printer.now (Err e) c.lay_over_full.new.printer c.in_err-lay_over_full.ensures in
    laid_err t size d from p.0 (Evaluation e) p.1 p.2
    (refused_sheet t size d from h.content h.end c.in_ok-next.next (sheet_over m v d a keeps (drop from t) h.content h.end h.sheet h.kept) h.behind c.args.printer.now e c.lay_over_full.new.printer k) k.1

pub returns-clause-laid : goal.returns-clause-laid
returns-clause-laid c d a keeps =
    let t = c.args.self.now.text.now in
    let size = length c.args.store.now in
    let m = c.args.self.now.model.now in
    let v = c.read_sheet.new.formula in
    let from = c.args.from in
    let h = c.in_ok-next.ensures in
    told_sheet t size d from h.content h.end c.in_ok-next.next (sheet_over m v d a keeps (drop from t) h.content h.end h.sheet h.kept) h.behind c.args.printer.now c.lay_over_full.new.printer
    (evaluates_sheet m v d a keeps (drop from t) h.content h.end h.sheet h.kept size c.args.printer.now (Ok tt) c.lay_over_full.new.printer c.in_ok-lay_over_full.ensures)
