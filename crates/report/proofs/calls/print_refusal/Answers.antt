use Rattle.std.proofs.Common.{rules, ap, arith}
use Rattle.report.specs.Answers.{report_number}
use Rattle.report.specs.Texts.{refusal}
use Rattle.report.proofs.Fitting.{put_at_front, prints}
use Rattle.report.proofs.Laying.{lays_same}
use Rattle.report.proofs.calls.print_refusal.Goals as goal

pub returns : goal.returns
returns c =
    let bytes = refusal (report_number c.args.fault) 0 in
    let lays = lays_same (ap (λ n. refusal n 0) c.number.ensures) c.put_refusal.ensures in
    prints bytes c.args.out.now c.count.result c.min.result _
    (put_at_front bytes c.args.out.now _ c.new-printer.result c.put_refusal.new.self c.count.result c.new-printer.ensures.count c.new-printer.ensures.output lays c.count.ensures (search rules) (omega arith))
    (omega arith) c.min.ensures
