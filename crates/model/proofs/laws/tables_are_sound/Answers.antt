use Rattle.model.proofs.GivingBack.{tables_are_sound}
use Rattle.model.proofs.laws.tables_are_sound.Goals as goal

pub returns : goal.returns
returns c = tables_are_sound
