use Rattle.std.proofs.Common.{refl}
use Rattle.full.proofs.universe.Universe.fill.Given as goal

abbrev pub ghost-merge : goal.ghost-merge
ghost-merge a = record { bytes = λ _ b. b; bits = λ _ q. q; bitwise = λ _ _ _. refl }
