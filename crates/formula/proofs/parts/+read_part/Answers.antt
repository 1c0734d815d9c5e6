use Rattle.std.proofs.Common.{◌≡◌, suc, ◌+◌, ◌-◌, subst, arith}
use Rattle.std.proofs.lemmas.Result.{err_from_is_err_and}
use Rattle.words.specs.Words.{listed}
use Rattle.formula.proofs.PartWalks.{SoFar, so_far_more, so_far_fails}
use Rattle.formula.proofs.parts.+read_part.Goals as goal

pub returns-in_err-read_part-clause-reads : goal.returns-in_err-read_part-clause-reads
returns-in_err-read_part-clause-reads t c =
    let p = err_from_is_err_and c.from_residual-in_err-read_part.result c.from_residual-in_err-read_part.ensures.1 in
    let v = c.args.names.vocabulary.now in
    let names = listed c.args.names.variables.now in
    let left = c.parts-end.result - (c.loop.counter + 1) in
    let down : c.parts-end.result - c.loop.counter ≡ suc left = omega arith in
    let far = subst (λ k. SoFar v names c.args.reader.now c.args.depth c.args.arena.now k c.loop.arena c.loop.reader) down c.loop.invariant in
    rw (p.1, p.2)
    (so_far_fails v names c.args.reader.now c.args.depth c.args.arena.now left c.loop.arena c.loop.reader far _ _ c.read_part.new.reader c.in_err-read_part.ensures.reads)

pub loop-preserved : goal.loop-preserved
loop-preserved t c =
    let v = c.args.names.vocabulary.now in
    let names = listed c.args.names.variables.now in
    let left = c.parts-end.result - (c.loop.counter + 1) in
    let down : c.parts-end.result - c.loop.counter ≡ suc left = omega arith in
    let far = subst (λ k. SoFar v names c.args.reader.now c.args.depth c.args.arena.now k c.loop.arena c.loop.reader) down c.loop.invariant in
    so_far_more v names c.args.reader.now c.args.depth c.args.arena.now left c.loop.arena c.loop.reader far c.read_part.new.arena c.read_part.new.reader c.in_ok-read_part.ensures.same c.in_ok-read_part.ensures.front c.in_ok-read_part.ensures.reads

pub returns-clause-reads : goal.returns-clause-reads
returns-clause-reads t c =
    let v = c.args.names.vocabulary.now in
    let names = listed c.args.names.variables.now in
    let none : c.parts-end.result - c.loop.counter ≡ 0 = omega arith in
    let far = subst (λ k. SoFar v names c.args.reader.now c.args.depth c.args.arena.now k c.loop.arena c.loop.reader) none c.loop.invariant in
    far.walked
