use Rattle.members.proofs.Listing.{listed_lists}
use Rattle.members.proofs.laws.listed_is_list_of_members.Goals as goal

pub returns : goal.returns
returns c = listed_lists
