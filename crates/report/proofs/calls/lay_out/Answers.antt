use Rattle.std.proofs.Common.{rules, arith}
use Rattle.report.proofs.Fitting.{put_at_front}
use Rattle.report.proofs.calls.lay_out.Goals as goal

pub returns : goal.returns
returns c =
    let h = c.lay_text.ensures in
    record {
      bytes = h.bytes;
      holds = h.holds;
      put = put_at_front h.bytes c.args.out.now _ c.new-printer.result c.lay_text.new.printer c.count.result c.new-printer.ensures.count c.new-printer.ensures.output h.lays c.count.ensures (search rules) (omega arith);
    }
