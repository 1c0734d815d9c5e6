use Rattle.std.proofs.Common.{◌*◌, ◌/◌, ◌%◌, ◌^◌, ◌&&◌, get_or, ap, ◌∙◌, arith}
use Rattle.logic.specs.Codes.{bit}
use Rattle.full.proofs.BitLaws.{and_bit, full_byte}
use Rattle.full.proofs.spans.keep_bytes.Goals as goal

pub returns : goal.returns
returns c = λ x m x< m<.
    let old = get_or c.args.span.now x 0 in
    let t = x / 2 ^ c.args.k % 2 in
    ap (λ v. bit v m) (c.loop-x.invariant.0 x (omega arith)) ∙ and_bit old (t * 255) m ∙ ap (λ v. bit old m && v) (full_byte t m (omega arith) m<)
