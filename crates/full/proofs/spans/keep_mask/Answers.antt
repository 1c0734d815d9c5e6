use Rattle.std.proofs.Common.{get_or, ap, ◌∙◌, arith}
use Rattle.logic.specs.Codes.{bit}
use Rattle.full.proofs.BitLaws.{and_bit}
use Rattle.full.proofs.spans.keep_mask.Goals as goal

pub returns : goal.returns
returns c = λ x m x< m<. ap (λ v. bit v m) (c.loop-byte.invariant.0 x (omega arith)) ∙ and_bit (get_or c.args.span.now x 0) c.args.mask m
