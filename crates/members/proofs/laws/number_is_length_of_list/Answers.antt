use Rattle.members.proofs.Counting.{number_says}
use Rattle.members.proofs.laws.number_is_length_of_list.Goals as goal

pub returns : goal.returns
returns c = number_says
