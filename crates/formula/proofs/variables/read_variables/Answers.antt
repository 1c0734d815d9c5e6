use Rattle.std.proofs.Common.{◌≡◌, ◌+◌, ◌<◌, set, ◌∙◌, arith}
use Rattle.std.proofs.lemmas.Result.{err_from_is_err_and}
use Rattle.std.proofs.lemmas.Bool.{cond-true, lt-ltb}
use Rattle.formula.proofs.NameWalks.{names_fail, names_more}
use Rattle.formula.proofs.variables.read_variables.Goals as goal

pub returns-in_err-name-clause-reads : goal.returns-in_err-name-clause-reads
returns-in_err-name-clause-reads c =
    let p = err_from_is_err_and c.from_residual-in_err-name.result c.from_residual-in_err-name.ensures.1 in
    rw (p.1, p.2)
    (names_fail c.args.vocabulary.now c.args.reader.now c.in_ok-count.count c.loop.counter c.loop.variables c.loop.reader c.loop.invariant c.loop-test.true c.as_slice.result.now c.as_slice.ensures _ _ c.read_name.new.reader c.in_err-name.ensures.reads)

pub loop-preserved : goal.loop-preserved
loop-preserved c =
    let x = c.loop.variables in
    let few = c.loop.invariant.few in
    let room : x.count < 4 = omega (arith, few, c.loop.invariant.given, c.loop-test.true) in
    let more : c.push.new.self ≡ record { names = set x.names x.count c.in_ok-name.name; count = x.count + 1 } =
    λ i. record { names = c.push.ensures.names i; count = (c.push.ensures.count ∙ cond-true _ _ _ (lt-ltb x.count 4 room)) i } in
    rw more (names_more c.args.vocabulary.now c.args.reader.now c.in_ok-count.count c.loop.counter c.loop.variables c.loop.reader c.loop.invariant c.loop-test.true c.as_slice.result.now c.as_slice.ensures c.in_ok-name.name c.read_name.new.reader c.in_ok-name.ensures.range c.in_ok-name.ensures.same c.in_ok-name.ensures.reads)
