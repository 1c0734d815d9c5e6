use Rattle.std.proofs.Common.{◌*◌, ◌/◌, ◌<◌, ap, arith}
use Rattle.full.specs.Bytes.{width}
use Rattle.full.specs.Stores.{shape_bits}
use Rattle.full.proofs.Widths.{set_fits}
use Rattle.full.proofs.layout.Layout.start_of.Goals as goal

pub overflow_mul-result : goal.overflow_mul-result
overflow_mul-result c =
    let w = width (shape_bits c.args.self.now.shape) in
    let inside : c.args.i < c.args.len / w = omega arith in
    let h = set_fits c.args.i w c.args.len inside in
    let e = ap (λ t. c.args.i * t) c.width.ensures.value in
    omega arith

pub returns-then-i-sets_in : goal.returns-then-i-sets_in
returns-then-i-sets_in c =
    let w = width (shape_bits c.args.self.now.shape) in
    let inside : c.args.i < c.args.len / w = omega arith in
    let h = set_fits c.args.i w c.args.len inside in
    let e = ap (λ t. c.args.i * t) c.width.ensures.value in
    (inside, e, omega arith)
