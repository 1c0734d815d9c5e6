use Rattle.std.proofs.Common.{◌≡◌, ◌-◌, ◌*◌, ◌+◌, ◌/◌, ◌%◌, ◌^◌, ◌&&◌, ap, ◌∙◌, arith}
use Rattle.logic.specs.Codes.{bit}
use Rattle.full.specs.Bytes.{bit_from}
use Rattle.full.specs.Stores.{shape_bits}
use Rattle.full.proofs.Merging.{recoded}
use Rattle.full.proofs.Widths.{width_within, width_whole}
use Rattle.full.proofs.layout.Layout.pick.Goals as goal

pub pick-requires : goal.pick-requires
pick-requires c =
    let n = shape_bits c.args.self.now.shape in
    record {
      few = omega (arith, width_within n (omega (arith, c.args.self.now.most, c.args.self.now.counted)), c.requires.whole);
      small = omega (arith, c.args.self.now.most, c.args.self.now.counted);
      whole = λ h. ap (λ t. t % 2 ^ (c.args.b - 2)) c.requires.whole ∙ width_whole n c.args.b (omega arith) h;
    }

pub returns : goal.returns
returns c =
    let s = c.args.self.now in
    let b = c.args.b in
    let old = c.args.span.now in
    let all = recoded ◌&&◌ (shape_bits s.shape) old c.pick.new.span _ s.mask (λ x m. bit (8 * x + m) b) c.requires.whole s.masked c.pick.ensures c.mend.ensures in
    record {
      codes = λ e e<. all.codes e e< ∙ ap (λ t. bit_from old 0 e && bit t b) (let whole : 8 * (e / 8) + e % 8 ≡ e = omega arith in whole);
      spare = all.spare;
    }
