-- The full store as its contracts speak of it.
--
--   shape_of     the shape that it was opened with
--   bytes_of     the caller's bytes as they are now
--   frame_of     what never changes of it
--   sets_of      whether the set j has the code c
--   Rewrites     a call that alters the set i rewrites its codes in the bytes, unless it is refused, and nothing else
--
-- Assumes nothing.
use Rattle.std.specs.Prelude.{ℕ, Bool, List, is_ok, Result}
use Rattle.store.specs.Frames.{Frame}
use Rattle.store.specs.declared.fault.Fault.{Fault}
use Rattle.store.specs.declared.shape.Shape.{Shape}
use Rattle.full.specs.Bytes.{Rewritten}
use Rattle.full.specs.Stores.{shape_bits, full_frame, full_sets}
use Rattle.full.specs.declared.full.Full.{Full}

abbrev pub shape_of : Full → Shape
shape_of s = s.universe.layout.shape

abbrev pub bytes_of : Full → List ℕ
bytes_of s = s.cells.now

abbrev pub frame_of : Full → Frame
frame_of s = full_frame (shape_of s) (bytes_of s)

abbrev pub sets_of : Full → ℕ → ℕ → Bool
sets_of s = full_sets (shape_of s) (bytes_of s)

abbrev pub Rewrites : Full → Full → Result (Unit {0}) Fault → ℕ → (ℕ → Bool) → Type 0
Rewrites s t r i S = Rewritten (shape_bits (shape_of s)) (bytes_of s) (bytes_of t) (is_ok r) i S
