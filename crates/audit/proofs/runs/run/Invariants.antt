use Rattle.std.proofs.Common.{◌≡◌, drop}
use Rattle.audit.specs.Running.{Ran}
use Rattle.audit.proofs.runs.run.Given as goal

abbrev pub invariant-loop-i : goal.invariant-loop-i
invariant-loop-i g l =
    Ran g.S.Store.frame g.S.Store.sets l.initial.bench l.bench l.calls l.answers l.i
    × (drop l.i l.answers ≡ drop l.i l.initial.answers)
