use Rattle.std.proofs.Common.{false}
use Rattle.full.proofs.BitLaws.{bit_none_of}
use Rattle.full.proofs.universe.Universe.clear.Given as goal

abbrev pub ghost-merge : goal.ghost-merge
ghost-merge a = record { bytes = λ _ _. 0; bits = λ _ _. false; bitwise = λ _ _ m. bit_none_of m }
