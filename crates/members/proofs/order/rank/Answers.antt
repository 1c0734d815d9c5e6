use Rattle.std.proofs.Common.{sym, ap, arith}
use Rattle.members.proofs.Ordering.{ones_counted}
use Rattle.members.proofs.order.rank.Goals as goal

pub returns : goal.returns
returns c = ap (λ k. (k, c.args.c)) (sym (ones_counted c.args.c (omega arith)))
