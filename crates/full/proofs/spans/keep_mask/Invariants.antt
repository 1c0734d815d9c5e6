use Rattle.std.proofs.Common.{◌≡◌, ℕ, ◌≤◌, ◌<◌, slice_index, bit_and}
use Rattle.full.proofs.spans.keep_mask.Given as goal

abbrev pub invariant-loop-byte : goal.invariant-loop-byte
invariant-loop-byte l =
    ((k : ℕ) → k < l.byte-index → slice_index l.span k ≡ bit_and (slice_index l.initial.span k) l.mask)
    × ((k : ℕ) → l.byte-index ≤ k → slice_index l.span k ≡ slice_index l.initial.span k)
