use Rattle.std.proofs.Common.{map}
use Rattle.words.specs.Words.{name_bytes}
use Rattle.model.proofs.LabelLoop.{LabelsSoFar}
use Rattle.model.proofs.labels.read_labels.Given as goal

abbrev pub invariant-loop : goal.invariant-loop
invariant-loop l = LabelsSoFar (map name_bytes l.states) (map name_bytes l.properties) l.count l.counter l.rows l.fn.reader l.reader
