use Rattle.std.proofs.Common.{map}
use Rattle.words.specs.Words.{name_bytes}
use Rattle.model.proofs.ArcLoop.{ArcsSoFar}
use Rattle.model.proofs.arcs.read_arcs.Given as goal

abbrev pub invariant-loop-i : goal.invariant-loop-i
invariant-loop-i l = ArcsSoFar (map name_bytes l.states) (map name_bytes l.actions) l.count l.i l.arcs l.fn.reader l.reader
