use Rattle.members.proofs.Bits.{includes_by_bits}
use Rattle.members.proofs.laws.inclusion_is_by_bits.Goals as goal

pub returns : goal.returns
returns c = includes_by_bits
