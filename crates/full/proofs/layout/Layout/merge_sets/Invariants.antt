use Rattle.full.proofs.layout.Layout.merge_sets.Given as goal

abbrev pub ghost-merge : goal.ghost-merge
ghost-merge g a = g.op
