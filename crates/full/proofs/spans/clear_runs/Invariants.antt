use Rattle.std.proofs.Common.{◌*◌}
use Rattle.full.proofs.Runs.{Kept}
use Rattle.full.proofs.spans.clear_runs.Given as goal

abbrev pub invariant-loop-q : goal.invariant-loop-q
invariant-loop-q l = Kept l.initial.span l.span l.run (l.q * (2 * l.run))
