use Rattle.std.proofs.Common.{◌&&◌, bit_and}
use Rattle.full.proofs.BitLaws.{and_bit}
use Rattle.full.proofs.layout.Layout.meet.Given as goal

abbrev pub ghost-merge_sets : goal.ghost-merge_sets
ghost-merge_sets a = record { bytes = bit_and; bits = ◌&&◌; bitwise = and_bit }
