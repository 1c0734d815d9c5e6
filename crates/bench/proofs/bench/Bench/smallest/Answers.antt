use Rattle.std.proofs.Common.{rules, ◌≡◌}
use Rattle.bench.specs.declared.call.Call.TheVariants as call
use Rattle.bench.specs.declared.fault.Fault.TheVariants.{TooFewSets}
use Rattle.bench.specs.Ledger.{smallest_as}
use Rattle.bench.proofs.Asking.{found, told, told_from, smallest_passed}
use Rattle.bench.proofs.bench.Bench.smallest.Goals as goal

pub returns : goal.returns
returns g c e h =
    let b = c.args.self.now in
    let set = c.in_ok-set.set in
    let said = c.smallest.result in
    let passed : c.map_err.result ≡ told TooFewSets said = told_from TooFewSets said c.map_err.result (search rules) in
    rw passed
    (found g.S.Store.frame g.S.Store.sets b e h c.args.state set c.in_ok-set.ensures (call.Smallest c.args.state) (smallest_as (told TooFewSets said))
    (λ a k state is. smallest_passed g.S.Store.frame g.S.Store.sets b a k c.args.state set state is said c.smallest.ensures))
