use Rattle.formula.proofs.NameWalks.{NamesSoFar}
use Rattle.formula.proofs.variables.read_variables.Given as goal

abbrev pub invariant-loop : goal.invariant-loop
invariant-loop l = NamesSoFar l.vocabulary l.fn.reader l.count l.counter l.variables l.reader
