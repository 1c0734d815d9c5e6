use Rattle.std.proofs.Common.{◌≡◌, arith}
use Rattle.full.proofs.BitLaws.{mask_0, mask_1, mask_2}
use Rattle.full.proofs.spans.low_mask.Goals as goal

pub returns-in-0 : goal.returns-in-0
returns-in-0 c = λ m h. let e : c.args.b ≡ 0 = omega arith in rw e (mask_0 m h)

pub returns-in-1 : goal.returns-in-1
returns-in-1 c = λ m h. let e : c.args.b ≡ 1 = omega arith in rw e (mask_1 m h)

pub returns-in_default : goal.returns-in_default
returns-in_default c = λ m h. let e : c.args.b ≡ 2 = omega arith in rw e (mask_2 m h)
