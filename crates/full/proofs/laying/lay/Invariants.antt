use Rattle.std.proofs.Common.{◌≡◌, ℕ, ◌+◌, ◌*◌, ◌<◌, slice_index}
use Rattle.logic.specs.Codes.{bit, valuation}
use Rattle.store.specs.Shapes.{shape_actions, shape_variables}
use Rattle.full.proofs.laying.lay.Given as goal

abbrev pub invariant-loop-x : goal.invariant-loop-x
invariant-loop-x l = (k m : ℕ) → k < l.x → m < 8 → bit (slice_index l.byte-items k) m ≡ valuation (shape_actions l.layout.shape) (shape_variables l.layout.shape) (8 * k + m)
