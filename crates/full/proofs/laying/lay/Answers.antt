use Rattle.std.proofs.Common.{◌≡◌, length, replicate, ◌∙◌, arith}
use lib.Seq.{length-take-le}
use Rattle.logic.specs.Codes.{valuation}
use Rattle.store.specs.Shapes.{shape_actions, shape_variables}
use Rattle.full.proofs.Splicing.{spliced}
use Rattle.full.proofs.Valuations.{laid_all, laid_more}
use Rattle.full.proofs.laying.lay.Goals as goal

pub loop-x-preserved : goal.loop-x-preserved
loop-x-preserved c =
    let s = c.args.layout.now.shape in
    laid_more (valuation (shape_actions s) (shape_variables s)) c.loop-x.byte-items c.loop-x.x c.valuation_byte.result (omega arith) c.loop-x.invariant c.valuation_byte.ensures

pub returns : goal.returns
returns c =
    let s = c.args.layout.now.shape in
    let w = c.width.result in
    let items = c.loop-x.byte-items in
    let long : length items ≡ w = c.loop-x.auto.byte-items ∙ length-take-le w (replicate 512 0) (omega arith) in
    laid_all (shape_actions s) (shape_variables s) 512 _ items (long ∙ c.width.ensures.value) (spliced (replicate 512 0) items 0 w long (omega arith))
    (λ x m x< m<. c.loop-x.invariant x m (omega arith) m<)
