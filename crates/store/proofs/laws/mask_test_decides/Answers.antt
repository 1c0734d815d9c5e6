use Rattle.store.proofs.Covering.{covers_decides}
use Rattle.store.proofs.laws.mask_test_decides.Goals as goal

pub returns : goal.returns
returns c = covers_decides
