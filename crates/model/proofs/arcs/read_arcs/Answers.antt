use Rattle.std.proofs.Common.{◌≡◌, [], Ok, Err, refl, arith}
use Rattle.std.proofs.lemmas.Result.{err_from_is_err_and}
use Rattle.model.specs.Content.{arcs}
use Rattle.model.specs.Rules.{with_arcs}
use Rattle.model.proofs.Looks.{count_reads}
use Rattle.model.proofs.ArcLoop.{arcs_none, arcs_more, arcs_fail, arcs_all}
use Rattle.model.proofs.arcs.read_arcs.Goals as goal

pub returns-in_err-count-clause-reads : goal.returns-in_err-count-clause-reads
returns-in_err-count-clause-reads c =
    let p = err_from_is_err_and c.from_residual.result c.from_residual.ensures.1 in
    rw (p.1, p.2) (λ d ss acts. count_reads (with_arcs d []) c.args.reader.now c.count.new.self arcs _ _ refl refl (Err c.in_err-count.field-0.0) c.in_err-count.ensures.counts)

pub loop-i-init : goal.loop-i-init
loop-i-init c =
    let h = c.in_ok-count.ensures in
    arcs_none _ _ c.in_ok-count.count c.args.reader.now c.count.new.self h.range.1 h.same (λ d. count_reads d c.args.reader.now c.count.new.self arcs _ _ refl refl (Ok c.in_ok-count.count) h.counts)

pub returns-in_err-arcs-clause-reads : goal.returns-in_err-arcs-clause-reads
returns-in_err-arcs-clause-reads c =
    let p = err_from_is_err_and c.from_residual-in_err-arcs.result c.from_residual-in_err-arcs.ensures.1 in
    rw (p.1, p.2) (arcs_fail _ _ c.in_ok-count.count c.args.reader.now c.loop-i.i c.loop-i.arcs c.loop-i.reader c.loop-i.invariant c.loop-i-test.true _ _ c.read_arc.new.reader c.in_err-arcs.ensures.reads)

pub loop-i-preserved : goal.loop-i-preserved
loop-i-preserved c =
    let x = c.in_ok-arcs.ensures in
    arcs_more _ _ c.in_ok-count.count c.args.reader.now c.loop-i.i c.loop-i.arcs c.loop-i.reader c.loop-i.invariant c.loop-i-test.true c.in_ok-arcs.field-0 c.read_arc.new.reader x.same x.reads

pub returns-clause-reads : goal.returns-clause-reads
returns-clause-reads c =
    let all : c.loop-i.i ≡ c.in_ok-count.count = omega (arith, c.loop-i-test.false, c.loop-i.auto.i-end) in
    arcs_all _ _ c.in_ok-count.count c.args.reader.now c.loop-i.i c.loop-i.arcs c.loop-i.reader c.loop-i.invariant all
