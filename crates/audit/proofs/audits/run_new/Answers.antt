use Rattle.audit.proofs.Auditing.{law, asked}
use Rattle.audit.proofs.audits.run_new.Goals as goal

pub returns-clause-law : goal.returns-clause-law
returns-clause-law g c =
    let b = c.open-bench.result in
    let opened = c.open-bench.ensures in
    law g.S.Store.frame g.S.Store.sets b c.run-count.new.bench c.args.calls.now c.run-count.new.answers c.run-count.result opened.blank c.run-count.ensures.ran c.args.model.now c.args.store opened.model opened.store (g.S.Store.sound b.store)

pub returns-clause-holds : goal.returns-clause-holds
returns-clause-holds g c =
    let b = c.open-bench.result in
    let opened = c.open-bench.ensures in
    asked g.S.Store.frame g.S.Store.sets b c.run-count.new.bench c.args.calls.now c.run-count.new.answers c.run-count.result opened.blank c.run-count.ensures.ran c.args.model.now c.args.store opened.model opened.store c.args.state c.args.code c.holds-holds.result c.holds-holds.ensures
