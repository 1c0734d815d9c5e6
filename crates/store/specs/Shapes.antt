-- Shapes: how many actions and variables the codes of a store are made of.
--
--   IsShape             so many actions and variables are a shape
--   shape_actions       the actions of a `Shape`, shape_variables its variables: its numbers read into the limits,
--   shape_variables     so that every value of the type is some shape
--   Made                what `Shape::new` answers: the shape with these numbers, or a refusal exactly if there is none
--
-- Assumes nothing.
use Rattle.std.specs.Prelude.{◌≡◌, ℕ, ◌*◌, ◌/◌, ◌≤◌, min, max, Ok, Err, Result}
use Rattle.std.proofs.Common.{div-mul-le_self, mul_comm, arith}
use Rattle.std.proofs.lemmas.Nat.{mul-le}
use Rattle.store.specs.declared.fault.Fault.{Fault}
use Rattle.store.specs.declared.fault.Fault.TheVariants.{NoShape}
use Rattle.store.specs.declared.shape.Shape.{Shape}

pub record IsShape (actions variables : ℕ) : Type 0 where
  pub some_action : 1 ≤ actions
  pub actions_most : actions ≤ 12
  pub variables_most : variables ≤ 4
  pub bits_most : actions * variables ≤ 12

abbrev pub shape_actions : Shape → ℕ
shape_actions s = max 1 (min s.actions 12)

abbrev pub shape_variables : Shape → ℕ
shape_variables s = min (min s.variables 4) (12 / shape_actions s)

abbrev pub Made : ℕ → ℕ → Result Shape Fault → Type 0
Made actions variables (Ok s) = IsShape actions variables × (shape_actions s ≡ actions) × (shape_variables s ≡ variables)
Made actions variables (Err e) = (IsShape actions variables → ⊥) × (e ≡ NoShape)

pub shape_limits : (s : Shape) → IsShape (shape_actions s) (shape_variables s)
shape_limits s =
    let a = shape_actions s in
    let k = shape_variables s in
    let within : k * a ≤ 12 / a * a = mul-le k a (12 / a) a (omega arith) (omega arith) in
    record {
      some_action = omega arith;
      actions_most = omega arith;
      variables_most = omega arith;
      bits_most = omega (arith, div-mul-le_self 12 a, mul_comm a k);
    }
