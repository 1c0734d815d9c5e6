use Rattle.std.proofs.Common.{sym, ◌∙◌, arith}
use Rattle.full.specs.Stores.{full_frame, shape_bits}
use Rattle.full.proofs.Comparing.{shown_bits}
use Rattle.full.proofs.Widths.{code_within}
use Rattle.store.proofs.Refusals.{set_and_code_none, answers_ok}
use Rattle.full.proofs.layout.Layout.has.Goals as goal

pub test_bit-requires : goal.test_bit-requires
test_bit-requires c =
    let shown = c.in_ok-span.ensures in
    omega (arith, shown.long, code_within (shape_bits c.args.self.now.shape) c.args.c (omega arith))

pub returns : goal.returns
returns c =
    let s = c.args.self.now.shape in
    let bytes = c.args.cells.now in
    let shown = c.in_ok-span.ensures in
    answers_ok _ _ _ (set_and_code_none (full_frame s bytes) c.args.i c.args.c shown.inside (omega arith))
    (c.test_bit.ensures ∙ sym (shown_bits s bytes c.args.i c.in_ok-span.span.now c.args.c shown (omega arith)))
