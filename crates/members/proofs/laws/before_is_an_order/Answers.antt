use Rattle.members.proofs.Ordering.{before_orders}
use Rattle.members.proofs.laws.before_is_an_order.Goals as goal

pub returns : goal.returns
returns c = before_orders
