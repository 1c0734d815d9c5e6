use Rattle.std.proofs.Common.{not, ◌&&◌, bit_and, bit_xor}
use Rattle.full.proofs.BitLaws.{without_bit}
use Rattle.full.proofs.universe.Universe.flip.Given as goal

abbrev pub ghost-merge : goal.ghost-merge
ghost-merge a = record { bytes = λ a b. bit_xor b (bit_and b a); bits = λ p q. q && not p; bitwise = without_bit }
