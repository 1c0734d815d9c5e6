use Rattle.std.proofs.Common.{◌≡◌, ℕ, ◌+◌, ◌-◌, ◌/◌, ◌<◌, ◌&&◌, length, take, drop, ap, ◌∙◌, arith}
use borrow.Rule.Slice.PartMut.{mid_len}
use Rattle.std.proofs.lemmas.Bool.{and_left}
use Rattle.logic.specs.Codes.{bit}
use Rattle.full.specs.Bytes.{width, bit_from}
use Rattle.full.specs.Stores.{shape_bits, full_frame, full_sets}
use Rattle.store.proofs.Refusals.{set_and_bit_none}
use Rattle.full.proofs.Members.{altered_part, set_bits, part_bits, no_code}
use Rattle.full.proofs.Splicing.{spliced}
use Rattle.full.proofs.layout.Layout.pick_set.Goals as goal

pub returns : goal.returns
returns c =
    let s = c.args.self.now.shape in
    let n = shape_bits s in
    let old = c.args.cells.now in
    let i = c.args.i in
    let b = c.args.b in
    let at = c.in_ok-at.at in
    let w = c.width-width.result in
    let part = c.pick.new.span in
    let found = c.in_ok-at.ensures in
    let small : b < n = omega (arith, c.args.self.now.counted) in
    let wide : w ≡ width n = c.width-width.ensures.value in
    let long : length part ≡ at + w - at = c.pick.auto.span ∙ mid_len at (at + w) old (omega (arith, found.2)) in
    let before = take (at + w - at) (drop at old) in
    let was : (x : ℕ) → x / 8 < width n → bit_from before 0 x ≡ bit_from old at x = λ x h. part_bits at (at + w - at) old x (omega arith) in
    altered_part s old _ before part i at _ _ (λ x. full_sets s old i x && bit x b) (set_and_bit_none (full_frame s old) i b found.0 small) found (omega arith)
    (spliced old part at (at + w - at) long (omega (arith, found.2))) was c.pick.ensures
    (λ x x<. ap (λ t. t && bit x b) (set_bits s old before i at x found was x<))
    (λ x ge. and_left _ _ (no_code n old i x ge))
