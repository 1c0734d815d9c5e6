use Rattle.std.proofs.Common.{◌≡◌, ℕ, ◌≤◌, ◌<◌, slice_index}
use Rattle.full.proofs.spans.merge.Given as goal

abbrev pub invariant-loop-x : goal.invariant-loop-x
invariant-loop-x g l =
    ((k : ℕ) → k < l.x → goal.F-post g l.by (slice_index l.initial.span k) (slice_index l.source k) (slice_index l.span k))
    × ((k : ℕ) → l.x ≤ k → slice_index l.span k ≡ slice_index l.initial.span k)
