use Rattle.store.proofs.Covering.{Narrowed}
use Rattle.store.proofs.fixed.pick_each.Given as goal

abbrev pub invariant-loop-b : goal.invariant-loop-b
invariant-loop-b g l =
    let s = g.S.Store in
    Narrowed (s.frame l.initial.s) (s.frame l.s) (s.sets l.initial.s) (s.sets l.s) l.i l.b l.mask
