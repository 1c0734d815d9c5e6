use Rattle.full.proofs.universe.Universe.merge.Given as goal

abbrev pub ghost-merge : goal.ghost-merge
ghost-merge g a = g.op
