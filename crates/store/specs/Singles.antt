-- The single store: one valuation is its universe, and one byte says of each set whether it has that valuation.
--
--   code_held        the one valuation: the code, or where that is no valuation the code of all actions for each variable,
--                    so that every value of the type has a universe
--   marked           whether the byte of set j says that the set has it
--   single_frame     the store's frame, single_sets its sets
--   single_sets
--   Opened           what opening answers: the store over these bytes as they are, or a refusal exactly if the code is no
--                    valuation
--   SingleAlters     what a call does to the sets
--   Writes           what a call does to the bytes: unless it is refused the byte of set i is 1 or 0 as `on` says, and
--                    every other byte is as it was
--
-- Assumes nothing.
use Rattle.std.specs.Prelude.{◌≡◌, ℕ, ◌-◌, ◌*◌, ◌^◌, Bool, cond, ◌&&◌, List, length, is_ok, Ok, Err, Option, Result, ◌==◌, nat_lt, slice_index, slice_set}
use Rattle.logic.specs.Codes.{valuation, Valuation}
use Rattle.store.specs.declared.fault.Fault.{Fault}
use Rattle.store.specs.declared.fault.Fault.TheVariants.{NoValuation}
use Rattle.store.specs.declared.shape.Shape.{Shape}
use Rattle.store.specs.declared.single.Single.{Single}
use Rattle.store.specs.Shapes.{shape_actions, shape_variables}
use Rattle.store.specs.Calls.{Alters}
use Rattle.store.specs.Frames.{Frame}

abbrev pub code_held : Shape → ℕ → ℕ
code_held s code = cond (valuation (shape_actions s) (shape_variables s) code) code (2 ^ (shape_actions s * shape_variables s) - 1)

abbrev pub marked : List ℕ → ℕ → Bool
marked cells j = nat_lt 0 (slice_index cells j)

abbrev pub single_frame : Single → Frame
single_frame s = record {
  actions = shape_actions s.shape;
  variables = shape_variables s.shape;
  count = length s.cells.now;
  universe = λ c. (c == code_held s.shape s.code);
}

abbrev pub single_sets : Single → ℕ → ℕ → Bool
single_sets s j c = c == code_held s.shape s.code && marked s.cells.now j

abbrev pub Opened : Shape → ℕ → List ℕ → Result Single Fault → Type 0
Opened shape code cells (Ok s) =
    Valuation (shape_actions shape) (shape_variables shape) code
    × (s.shape ≡ shape)
    × (code_held shape s.code ≡ code)
    × (s.cells.now ≡ cells)
Opened shape code cells (Err e) = (Valuation (shape_actions shape) (shape_variables shape) code → ⊥) × (e ≡ NoValuation)

abbrev pub SingleAlters : Single → Single → Result (Unit {0}) Fault → Option Fault → ℕ → (ℕ → Bool) → Type 0
SingleAlters s t = Alters (single_frame s) (single_frame t) (single_sets s) (single_sets t)

abbrev pub Writes : Single → Single → Result (Unit {0}) Fault → ℕ → Bool → Type 0
Writes s t r i on = t.cells.now ≡ cond (is_ok r) (slice_set s.cells.now i (cond on 1 0)) s.cells.now
