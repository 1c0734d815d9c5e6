use Rattle.std.proofs.Common.{rules, ◌≡◌, sym, ◌∙◌}
use Rattle.bench.specs.declared.call.Call.TheVariants as call
use Rattle.bench.specs.declared.fault.Fault.TheVariants.{TooFewSets}
use Rattle.bench.specs.Ledger.{holds_as}
use Rattle.bench.proofs.Asking.{found, told, told_from, holds_passed}
use Rattle.bench.proofs.bench.Bench.holds.Goals as goal

pub returns : goal.returns
returns g c e h =
    let b = c.args.self.now in
    let set = c.in_ok-set.set in
    let said = c.has.result in
    let passed : c.map_err.result ≡ told TooFewSets said = told_from TooFewSets said c.map_err.result (search rules) in
    rw passed
    (found g.S.Store.frame g.S.Store.sets b e h c.args.state set c.in_ok-set.ensures (call.Holds c.args.state c.args.code) (holds_as (told TooFewSets said))
    (λ a k state is.
    let inside = sym (c.in_universe.ensures a k) ∙ c.if-not-in_universe.false in
    holds_passed g.S.Store.frame g.S.Store.sets b a k c.args.state set state is c.args.code inside ((g.S.Store.sound b.store).valuations c.args.code inside).small said c.has.ensures))
