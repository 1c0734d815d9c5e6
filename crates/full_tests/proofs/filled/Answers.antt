use Rattle.std.proofs.Common.{◌≡◌, ℕ, Bool, List, sym, subst, rules}
use Rattle.logic.specs.Codes.{valuation}
use Rattle.store.specs.Shapes.{shape_actions, shape_variables}
use Rattle.store.specs.declared.shape.Shape.{Shape}
use Rattle.full.specs.Bytes.{Rewritten}
use Rattle.full.specs.Stores.{shape_bits}
use Rattle.full_tests.proofs.filled.Goals as goal

abbrev Filled : Shape → List ℕ → List ℕ → Bool → ℕ → Type 0
Filled s old new done i = Rewritten (shape_bits s) old new done i (valuation (shape_actions s) (shape_variables s))

moved : (s t : Shape) (old old' new new' : List ℕ) (done : Bool) (i : ℕ) → s ≡ t → old ≡ old' → new' ≡ new → Filled s old new done i → Filled t old' new' done i
moved s t old old' new new' done i p q r have =
    let P : Shape → Type 0 = λ z. Filled z old new done i in
    let Q : List ℕ → Type 0 = λ z. Filled t z new done i in
    let R : List ℕ → Type 0 = λ z. Filled t old' z done i in
    subst R (sym r) (subst Q q (subst P p have))

pub returns : goal.returns
returns c =
    moved c.open-full.result.universe.layout.shape c.args.shape _ _ _ _ _ c.args.i c.open-full.ensures.shape c.open-full.ensures.bytes (search rules) c.fill.ensures.bytes
