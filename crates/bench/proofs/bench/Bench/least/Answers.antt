use Rattle.std.proofs.Common.{rules, ◌≡◌}
use Rattle.bench.specs.declared.call.Call.TheVariants as call
use Rattle.bench.specs.declared.fault.Fault.TheVariants.{PlaceTooHigh}
use Rattle.bench.specs.Ledger.{least_as}
use Rattle.bench.proofs.Asking.{found, told, told_from, least_passed}
use Rattle.bench.proofs.bench.Bench.least.Goals as goal

pub returns : goal.returns
returns g c e h =
    let b = c.args.self.now in
    let set = c.in_ok-set.set in
    let said = c.least.result in
    let passed : c.map_err.result ≡ told PlaceTooHigh said = told_from PlaceTooHigh said c.map_err.result (search rules) in
    rw passed
    (found g.S.Store.frame g.S.Store.sets b e h c.args.state set c.in_ok-set.ensures (call.Least c.args.state c.args.from) (least_as (told PlaceTooHigh said))
    (λ a k state is. least_passed g.S.Store.frame g.S.Store.sets b a k c.args.state set state is c.args.from said c.least.ensures))
