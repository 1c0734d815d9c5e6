use Rattle.std.proofs.Common.{◌≡◌, arith}
use Rattle.full.proofs.BitLaws.{low_codes_0, low_codes_1, low_codes_2, low_codes_all}
use Rattle.full.proofs.layout.code_mask.Goals as goal

pub returns-in-0 : goal.returns-in-0
returns-in-0 c = λ m h. let e : c.args.bits ≡ 0 = omega arith in rw e (low_codes_0 m h)

pub returns-in-1 : goal.returns-in-1
returns-in-1 c = λ m h. let e : c.args.bits ≡ 1 = omega arith in rw e (low_codes_1 m h)

pub returns-in-2 : goal.returns-in-2
returns-in-2 c = λ m h. let e : c.args.bits ≡ 2 = omega arith in rw e (low_codes_2 m h)

pub returns-in_default : goal.returns-in_default
returns-in_default c = λ m h. low_codes_all c.args.bits m (omega arith) h
