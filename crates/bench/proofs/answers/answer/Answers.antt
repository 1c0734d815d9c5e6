use Rattle.std.proofs.Common.{rules, ◌≡◌}
use Rattle.bench.specs.declared.call.Answer.TheVariants as answer
use Rattle.bench.specs.Ledger.{rounds_as, next_as, least_as}
use Rattle.bench.proofs.Answered.{answered_from}
use Rattle.bench.proofs.answers.answer.Goals as goal

pub returns-in-Judge-clause-says : goal.returns-in-Judge-clause-says
returns-in-Judge-clause-says g c e h =
    let told : c.map.result ≡ rounds_as c.judge.result = answered_from answer.Rounds c.judge.result c.map.result (search rules) in
    rw (told, c.in-Judge.is) (c.judge.ensures.says e)

pub returns-in-Next-clause-says : goal.returns-in-Next-clause-says
returns-in-Next-clause-says g c e h =
    let told : c.map-in-Next.result ≡ next_as c.next.result = answered_from answer.Next c.next.result c.map-in-Next.result (search rules) in
    rw (told, c.in-Next.is) (c.next.ensures e h)

pub returns-in-Least-clause-says : goal.returns-in-Least-clause-says
returns-in-Least-clause-says g c e h =
    let told : c.map-in-Least.result ≡ least_as c.least.result = answered_from answer.Least c.least.result c.map-in-Least.result (search rules) in
    rw (told, c.in-Least.is) (c.least.ensures e h)
