use Rattle.members.proofs.Listing.{lists_unique}
use Rattle.members.proofs.laws.list_of_members_is_unique.Goals as goal

pub returns : goal.returns
returns c = lists_unique
