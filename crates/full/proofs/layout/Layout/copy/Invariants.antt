use Rattle.std.proofs.Common.{refl}
use Rattle.full.proofs.layout.Layout.copy.Given as goal

abbrev pub ghost-merge_sets : goal.ghost-merge_sets
ghost-merge_sets a = record { bytes = λ _ b. b; bits = λ _ q. q; bitwise = λ _ _ _. refl }
