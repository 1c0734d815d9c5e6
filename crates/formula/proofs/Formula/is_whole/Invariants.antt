use Rattle.formula.proofs.WholeLoops.{Due}
use Rattle.formula.proofs.Formula.is_whole.Given as goal

abbrev pub invariant-loop-node : goal.invariant-loop-node
invariant-loop-node l = Due l.self l.due l.node-index
