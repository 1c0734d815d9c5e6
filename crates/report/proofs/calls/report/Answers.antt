use Rattle.std.proofs.Common.{◌≡◌, ℕ, ◌≤◌, length, ap, subst, arith}
use Rattle.report.specs.Reports.{ReportOf}
use Rattle.report.proofs.Fitting.{put_whole}
use Rattle.report.proofs.Uniqueness.{one_report}
use Rattle.report.proofs.calls.report.Goals as goal

pub returns : goal.returns
returns c =
    let text = c.args.text.now in
    let out = c.args.out.now in
    let h = c.lay_out-count.ensures in
    let k = c.lay_out.ensures in
    let P : ℕ → Type 0 = λ size. ReportOf text size k.bytes in
    let report = subst P c.lay_out-count.auto.store k.holds in
    let same : h.bytes ≡ k.bytes = one_report text (length c.args.store.now) h.bytes k.bytes h.holds report in
    let low : length k.bytes ≤ length out = omega (arith, ap length same, h.put.count) in
    let whole = put_whole k.bytes out c.lay_out.result c.lay_out.new.out k.put low (omega arith) in
    record { bytes = k.bytes; report = report; count = whole.0; fits = omega (arith, whole.0); output = whole.1 }
