use Rattle.std.proofs.Common.{arith}
use Rattle.members.proofs.Bits.{and_decides, includes_decides}
use Rattle.members.proofs.inclusion.includes.Goals as goal

pub returns : goal.returns
returns c = record {
  bits = and_decides 64 c.args.c c.args.d (omega arith);
  codes = λ actions variables small. includes_decides actions variables c.args.c c.args.d small;
}
