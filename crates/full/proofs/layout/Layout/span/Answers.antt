use Rattle.std.proofs.Common.{◌+◌, ◌-◌, ap, ◌∙◌, arith}
use borrow.Rule.Slice.PartMut.{mid_len}
use Rattle.full.specs.Bytes.{bit_from}
use Rattle.full.proofs.Members.{part_bits}
use Rattle.full.proofs.layout.Layout.span.Goals as goal

pub returns : goal.returns
returns c =
    let bytes = c.args.cells.now in
    let at = c.in_ok-at.at in
    let w = c.width.result in
    let found = c.in_ok-at.ensures in
    let wide = c.width.ensures.value in
    record {
      inside = found.0;
      long = mid_len at (at + w) bytes (omega (arith, found.2)) ∙ omega arith;
      bits = λ x h. part_bits at (at + w - at) bytes x (omega arith) ∙ ap (λ a. bit_from bytes a x) found.1;
    }
