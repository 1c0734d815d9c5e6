use Rattle.std.proofs.Common.{◌≡◌, [], Ok, Err, refl, arith}
use Rattle.std.proofs.lemmas.Result.{err_from_is_err_and}
use Rattle.model.specs.Content.{labels}
use Rattle.model.specs.Rules.{with_labels}
use Rattle.model.proofs.Looks.{count_reads}
use Rattle.model.proofs.LabelLoop.{labels_none, labels_more, labels_fail, labels_all}
use Rattle.model.proofs.Rows.{rows_none}
use Rattle.model.proofs.labels.read_labels.Goals as goal

pub returns-in_err-count-clause-reads : goal.returns-in_err-count-clause-reads
returns-in_err-count-clause-reads c =
    let p = err_from_is_err_and c.from_residual.result c.from_residual.ensures.1 in
    rw (p.1, p.2) (λ d ss ps. count_reads (with_labels d []) c.args.reader.now c.count.new.self labels _ _ refl refl (Err c.in_err-count.field-0.0) c.in_err-count.ensures.counts)

pub loop-init : goal.loop-init
loop-init c =
    let h = c.in_ok-count.ensures in
    labels_none _ _ c.in_ok-count.count c.args.reader.now c.count.new.self _ (rows_none _ refl) h.same (λ d. count_reads d c.args.reader.now c.count.new.self labels _ _ refl refl (Ok c.in_ok-count.count) h.counts)

pub returns-in_err-label-clause-reads : goal.returns-in_err-label-clause-reads
returns-in_err-label-clause-reads c =
    let p = err_from_is_err_and c.from_residual-in_err-label.result c.from_residual-in_err-label.ensures.1 in
    rw (p.1, p.2) (labels_fail _ _ c.in_ok-count.count c.args.reader.now c.loop.counter c.loop.rows c.loop.reader c.loop.invariant c.loop-test.true _ _ c.read_label.new.reader c.in_err-label.ensures.reads)

pub loop-preserved : goal.loop-preserved
loop-preserved c =
    let x = c.in_ok-label.ensures in
    let l = c.in_ok-label.label in
    labels_more _ _ c.in_ok-count.count c.args.reader.now c.loop.counter c.loop.rows c.loop.reader c.loop.invariant c.loop-test.true l.state l.property _ x.range.0 x.range.1 refl c.read_label.new.reader x.same x.reads

pub returns-clause-reads : goal.returns-clause-reads
returns-clause-reads c =
    let all : c.loop.counter ≡ c.in_ok-count.count = omega (arith, c.loop-test.false, c.loop.auto.counter-end) in
    labels_all _ _ c.in_ok-count.count c.args.reader.now c.loop.counter c.loop.rows c.loop.reader c.loop.invariant all
