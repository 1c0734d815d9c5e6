use Rattle.std.proofs.Common.{rules, ◌≡◌}
use Rattle.bench.specs.declared.call.Call.TheVariants as call
use Rattle.bench.specs.declared.fault.Fault.TheVariants.{TooFewSets}
use Rattle.bench.specs.Ledger.{count_as}
use Rattle.bench.proofs.Asking.{found, told, told_from, count_passed}
use Rattle.bench.proofs.bench.Bench.count.Goals as goal

pub returns : goal.returns
returns g c e h =
    let b = c.args.self.now in
    let set = c.in_ok-set.set in
    let said = c.count.result in
    let passed : c.map_err.result ≡ told TooFewSets said = told_from TooFewSets said c.map_err.result (search rules) in
    rw passed
    (found g.S.Store.frame g.S.Store.sets b e h c.args.state set c.in_ok-set.ensures (call.Count c.args.state) (count_as (told TooFewSets said))
    (λ a k state is. count_passed g.S.Store.frame g.S.Store.sets b a k c.args.state set state is (g.S.Store.coded b.store set) said c.count.ensures))
