use Rattle.std.proofs.Common.{[], Ok, Err, arith}
use Rattle.std.proofs.lemmas.Result.{err_from_is_err_and}
use Rattle.model.specs.Content.{names}
use Rattle.model.specs.Rules.{with_names}
use Rattle.model.proofs.Looks.{count_reads}
use Rattle.model.proofs.NameLoop.{names_none, names_fail, names_more}
use Rattle.model.proofs.names.read_names.Goals as goal

pub returns-in_err-count-clause-reads : goal.returns-in_err-count-clause-reads
returns-in_err-count-clause-reads g c =
    let p = err_from_is_err_and c.from_residual.result c.from_residual.ensures.1 in
    rw (p.1, p.2) (λ d. count_reads (with_names c.args.kind d []) c.args.reader.now c.count.new.self (names c.args.kind) c.fewest.result c.most.result c.fewest.ensures c.most.ensures (Err c.in_err-count.field-0.0) c.in_err-count.ensures.counts)

pub loop-init : goal.loop-init
loop-init g c =
    let h = c.in_ok-count.ensures in
    names_none c.args.kind g.row.N c.requires.room c.in_ok-count.count c.args.reader.now c.count.new.self c.blank-list.result c.blank-list.ensures.names c.blank-list.ensures.count (omega (arith, h.range.1, c.most.ensures)) h.same
    (λ d. count_reads d c.args.reader.now c.count.new.self (names c.args.kind) c.fewest.result c.most.result c.fewest.ensures c.most.ensures (Ok c.in_ok-count.count) h.counts)

pub returns-in_err-name-clause-reads : goal.returns-in_err-name-clause-reads
returns-in_err-name-clause-reads g c =
    let p = err_from_is_err_and c.from_residual-in_err-name.result c.from_residual-in_err-name.ensures.1 in
    rw (p.1, p.2) (names_fail c.args.kind g.row.N c.requires.room c.in_ok-count.count c.args.reader.now c.loop.counter c.loop.list c.loop.reader c.loop.invariant c.loop-test.true c.as_slice.result.now c.as_slice.ensures _ _ c.read_name.new.reader c.in_err-name.ensures.reads)

pub loop-preserved : goal.loop-preserved
loop-preserved g c =
    let x = c.in_ok-name.ensures in
    names_more c.args.kind g.row.N c.requires.room c.in_ok-count.count c.args.reader.now c.loop.counter c.loop.list c.loop.reader c.loop.invariant c.loop-test.true c.as_slice.result.now c.as_slice.ensures c.in_ok-name.name x.kept c.push.new.self c.push.ensures.names c.push.ensures.count c.read_name.new.reader x.same x.reads
