use Rattle.model.proofs.NameLoop.{NamesSoFar}
use Rattle.model.proofs.names.read_names.Given as goal

abbrev pub invariant-loop : goal.invariant-loop
invariant-loop g l = NamesSoFar l.kind g.row.N l.count l.counter l.list l.fn.reader l.reader
