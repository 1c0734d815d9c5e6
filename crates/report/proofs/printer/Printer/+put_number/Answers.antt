use Rattle.std.proofs.Common.{◌^◌, ◌<◌, sym, arith}
use Rattle.std.proofs.lemmas.Fmt.{decimal_digit, decimal_step}
use Rattle.report.proofs.Laying.{lays_then, lays_same}
use Rattle.report.proofs.printer.Printer.+put_number.Goals as goal

pub returns-then-n-lt10 : goal.returns-then-n-lt10
returns-then-n-lt10 t c = lays_same (sym (decimal_digit c.args.n c.if-n-lt10.true)) c.put.ensures

pub returns : goal.returns
returns t c =
    let n = c.args.n in
    let small : n < 2 ^ 64 = omega arith in
    lays_same (sym (decimal_step n c.if-n-lt10.false small)) (lays_then c.put_number.ensures c.put-2.ensures)
