use Rattle.std.proofs.Common.{◌≡◌, ℕ, ◌+◌, ◌-◌, ◌/◌, ◌<◌, length, take, drop, ap, ◌∙◌, arith}
use borrow.Rule.Slice.PartMut.{mid_len}
use Rattle.logic.specs.Codes.{valuation}
use Rattle.store.specs.Shapes.{shape_actions, shape_variables}
use Rattle.full.specs.Bytes.{width, bit_from}
use Rattle.full.specs.Stores.{shape_bits, full_frame, full_sets}
use Rattle.store.proofs.Refusals.{one_set_none}
use Rattle.full.proofs.Members.{altered_part, set_bits, part_bits, no_code, none_beyond}
use Rattle.full.proofs.Splicing.{spliced}
use Rattle.full.proofs.Valuations.{no_valuation}
use Rattle.full.proofs.universe.Universe.merge.Goals as goal

pub returns : goal.returns
returns g c =
    let u = c.args.self.now in
    let s = u.layout.shape in
    let n = shape_bits s in
    let old = c.args.cells.now in
    let i = c.args.i in
    let at = c.in_ok-at.at in
    let w = c.width-width.result in
    let part = c.merge.new.span in
    let found = c.in_ok-at.ensures in
    let wide : w ≡ width n = c.width-width.ensures.value in
    let long : length part ≡ at + w - at = c.merge.auto.span ∙ mid_len at (at + w) old (omega (arith, found.2)) in
    let before = take (at + w - at) (drop at old) in
    let was : (x : ℕ) → x / 8 < width n → bit_from before 0 x ≡ bit_from old at x = λ x h. part_bits at (at + w - at) old x (omega arith) in
    let whole = valuation (shape_actions s) (shape_variables s) in
    altered_part s old _ before part i at _ _ (λ x. g.op.bits (full_sets s old i x) (whole x)) (one_set_none (full_frame s old) i found.0) found (omega arith)
    (spliced old part at (at + w - at) long (omega (arith, found.2))) was c.merge.ensures
    (λ x x<. ap (λ t. g.op.bits t (bit_from u.bytes 0 x)) (set_bits s old before i at x found was x<) ∙ ap (g.op.bits (full_sets s old i x)) (u.laid x))
    (λ x ge. none_beyond g.op.bits _ _ c.requires.1.1.1 (no_code n old i x ge) (no_valuation (shape_actions s) (shape_variables s) x ge))
