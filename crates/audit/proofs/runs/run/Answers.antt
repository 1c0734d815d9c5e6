use Rattle.std.proofs.Common.{rules, ◌≡◌, ◌<◌, length, take, refl, subst, arith}
use Rattle.std.proofs.lemmas.List.{get_or-take, length-take-le}
use Rattle.bench.specs.declared.call.Call.{Call}
use Rattle.bench.specs.Matching.{ByLedger, Left}
use Rattle.audit.specs.Runs.{a_call}
use Rattle.audit.specs.Running.{Ran}
use Rattle.audit.proofs.Running.{ran_none, ran_more, behind_more}
use Rattle.audit.proofs.runs.run.Goals as goal

pub loop-i-init : goal.loop-i-init
loop-i-init g c = (ran_none g.S.Store.frame g.S.Store.sets c.args.bench.now c.args.calls.now c.args.answers.now, refl)

pub loop-i-preserved : goal.loop-i-preserved
loop-i-preserved g c =
    let frame = g.S.Store.frame in
    let sets = g.S.Store.sets in
    let i = c.loop-i.i in
    let n = c.min-made.result in
    let d = c.loop-i.bench in
    let f = c.answer.new.bench in
    let cs = c.args.calls.now in
    let got = c.loop-i.answers in
    let said = c.answer.result in
    let made : length (take n cs) ≡ n = length-take-le n cs (omega arith) in
    let low : i < n = omega arith in
    let room : i < length got = omega arith in
    let at = get_or-take n cs i a_call low in
    let P : Call → Type 0 = λ x. ByLedger frame sets d x said in
    let Q : Call → Type 0 = λ x. Left frame sets d f x in (
      ran_more frame sets c.args.bench.now cs d f got i said room c.loop-i.invariant.0 (subst P at (search rules)) (subst Q at (search rules)),
      behind_more got c.args.answers.now i said c.loop-i.invariant.1,
    )

pub returns-clause-ran : goal.returns-clause-ran
returns-clause-ran g c =
    let n = c.min-made.result in
    let cs = c.args.calls.now in
    let made : length (take n cs) ≡ n = length-take-le n cs (omega arith) in
    let end : c.loop-i.i ≡ n = omega arith in
    subst (Ran g.S.Store.frame g.S.Store.sets c.args.bench.now c.loop-i.bench cs c.loop-i.answers) end c.loop-i.invariant.0
