use Rattle.std.proofs.Common.{◌≡◌, ℕ, ◌*◌, ◌/◌, ◌%◌, ◌^◌, ◌≤◌, ◌<◌, slice_index, bit_and}
use Rattle.full.proofs.spans.keep_bytes.Given as goal

abbrev pub invariant-loop-x : goal.invariant-loop-x
invariant-loop-x l =
    ((k : ℕ) → k < l.x → slice_index l.span k ≡ bit_and (slice_index l.initial.span k) (k / 2 ^ l.k % 2 * 255))
    × ((k : ℕ) → l.x ≤ k → slice_index l.span k ≡ slice_index l.initial.span k)
