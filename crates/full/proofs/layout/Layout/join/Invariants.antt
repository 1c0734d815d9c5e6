use Rattle.std.proofs.Common.{◌||◌, bit_or}
use Rattle.full.proofs.BitLaws.{or_bit}
use Rattle.full.proofs.layout.Layout.join.Given as goal

abbrev pub ghost-merge_sets : goal.ghost-merge_sets
ghost-merge_sets a = record { bytes = bit_or; bits = ◌||◌; bitwise = or_bit }
