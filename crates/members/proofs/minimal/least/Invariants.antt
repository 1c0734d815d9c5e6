use Rattle.std.proofs.Common.{ℕ, ◌<◌, ◌≤◌}
use Rattle.members.specs.Listed.{ListsFrom}
use Rattle.members.specs.Minimal.{Minimal}
use Rattle.members.proofs.minimal.least.Given as goal

-- what is left are the members from a code on, and below it there is none that includes no other
abbrev pub invariant-loop-c : goal.invariant-loop-c
invariant-loop-c g l =
    let f = g.S.Store.frame l.store in
    let m = g.S.Store.sets l.store l.i in
    (goal.iterator-loop-c g).can_next l.c-iterator
    × (goal.iterator-loop-c g).is_finite l.c-iterator
    × (at : ℕ)
    × (l.from ≤ at)
    × ListsFrom m at l.c-iterator
    × ((d : ℕ) → l.from ≤ d → d < at → Minimal f.actions f.variables m d → ⊥)
