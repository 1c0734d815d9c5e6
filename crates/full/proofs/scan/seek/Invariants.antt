use Rattle.std.proofs.Common.{◌≡◌, ◌-◌, ◌*◌, ◌≤◌, length, drop}
use Rattle.full.proofs.Scanning.{Unset}
use Rattle.full.proofs.scan.seek.Given as goal

abbrev pub invariant-loop-word : goal.invariant-loop-word
invariant-loop-word l =
    let x = length l.span - length l.rest in
    (length l.rest ≤ length l.span) × (l.first ≤ x) × (l.rest ≡ drop x l.span) × Unset l.span (8 * l.first) x

abbrev pub decreases-loop-word : goal.decreases-loop-word
decreases-loop-word l = length l.rest
