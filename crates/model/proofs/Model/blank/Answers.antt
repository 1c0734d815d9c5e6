use Rattle.std.proofs.Common.{refl}
use Rattle.model.specs.Values.{label_rows}
use Rattle.model.proofs.Model.blank.Goals as goal

pub returns : goal.returns
unfolding label_rows
returns c = refl
