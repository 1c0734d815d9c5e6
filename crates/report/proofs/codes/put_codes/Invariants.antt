use Rattle.std.proofs.Common.{map}
use Rattle.std.specs.List.{flat_map}
use Rattle.words.specs.Words.{name_bytes}
use Rattle.report.specs.Printers.{Lays}
use Rattle.report.specs.Texts.{code_line}
use Rattle.report.proofs.codes.put_codes.Given as goal

abbrev pub invariant-loop-c : goal.invariant-loop-c
invariant-loop-c g l =
    (goal.iterator-loop-c g).can_next l.c-iterator
    × (goal.iterator-loop-c g).is_finite l.c-iterator
    × Lays l.initial.printer (flat_map (code_line (map name_bytes l.names.actions.now) (map name_bytes l.names.variables.now)) l.yielded) l.printer
