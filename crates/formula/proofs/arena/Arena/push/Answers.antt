use Rattle.std.proofs.Common.{◌<◌, length, sym, ap, ◌∙◌, arith}
use Rattle.std.proofs.lemmas.List.{length-take-le}
use Rattle.formula.specs.declared.Node.TheVariants.{True}
use Rattle.formula.proofs.Padding.{padded_long, padded_push}
use Rattle.formula.proofs.arena.Arena.push.Goals as goal

pub invariant_of-self : goal.invariant_of-self
invariant_of-self c =
    let fields = c.self.inside in
    let long = padded_long 64 True fields.nodes fields.used c.self.invariant.1 c.self.invariant.0 in
    let many = length-take-le fields.used fields.nodes (omega (arith, long, c.self.invariant.0)) in
    let room : fields.used < 64 = omega (arith, sym many ∙ ap length c.self.view_is, c.requires) in
    (omega arith, padded_push 64 True fields.nodes fields.used c.self.invariant.1 c.args.node room)
