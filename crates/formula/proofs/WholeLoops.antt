-- The look over the nodes of a value: one formula to begin with is due exactly if so many are due from an index on.
use Rattle.std.proofs.Common.{◌≡◌, ℕ, suc, ◌+◌, ◌-◌, ◌<◌, ◌≤◌, eqb, List, [], ◌∷◌, length, get_or, take, drop, Decides, sym, subst, arith}
use Rattle.std.proofs.lemmas.List.{drop_more, drop_all}
use Rattle.std.proofs.lemmas.Bool.{eqb-true, eq-eqb}
use Rattle.formula.specs.declared.Node.{Node}
use Rattle.formula.specs.declared.Node.TheVariants.{True, Property, Not, Or, And, One, Two}
use Rattle.formula.specs.declared.Formula.{Formula}
use Rattle.formula.specs.Nodes.{arity}
use Rattle.formula.specs.Wholes.{NodeIn, SomeWhole}
use Rattle.formula.proofs.Trees.{Trees, trees_down, trees_up, trees_none, trees_over, trees_ended, trees_one, one_tree}

abbrev pub counted_nodes : Formula → List Node
counted_nodes v = take v.node_count v.nodes

abbrev pub TreesIn : Formula → ℕ → List Node → Type 0
TreesIn v k ns = Trees v.actions v.variables.count v.properties k ns

pub record Due (v : Formula) (due i : ℕ) : Type 0 where
  pub few : due ≤ i + 1
  pub to : TreesIn v 1 (counted_nodes v) → TreesIn v due (drop i (counted_nodes v))
  pub back : TreesIn v due (drop i (counted_nodes v)) → TreesIn v 1 (counted_nodes v)

pub whole_tree : (v : Formula) → SomeWhole v → TreesIn v 1 (counted_nodes v)
whole_tree v w = trees_one v.actions v.variables.count v.properties w.0 (counted_nodes v) w.1.nodes w.1.range

module _ (v : Formula) (many : v.node_count ≤ 64) (due i : ℕ) (d : Due v due i) where
  module _ (lt : i < length (counted_nodes v)) where
    turn : drop i (counted_nodes v) ≡ get_or (counted_nodes v) i True ∷ drop (i + 1) (counted_nodes v)
    turn = drop_more (counted_nodes v) i True lt

    -- nothing is due, and a node stands there
    pub due_none : due ≡ 0 → SomeWhole v → ⊥
    due_none none w =
        trees_over v.actions v.variables.count v.properties (get_or (counted_nodes v) i True) (drop (i + 1) (counted_nodes v))
        (subst (λ ns. TreesIn v 0 ns) turn (subst (λ k. TreesIn v k (drop i (counted_nodes v))) none (d.to (whole_tree v w))))

    module _ (some : due ≡ 0 → ⊥) where
      down : due ≡ suc (due - 1)
      down = omega arith

      opened : TreesIn v due (drop i (counted_nodes v)) → TreesIn v (suc (due - 1)) (get_or (counted_nodes v) i True ∷ drop (i + 1) (counted_nodes v))
      opened t = subst (λ ns. TreesIn v (suc (due - 1)) ns) turn (subst (λ k. TreesIn v k (drop i (counted_nodes v))) down t)

      pub due_outside : (NodeIn v.actions v.variables.count v.properties (get_or (counted_nodes v) i True) → ⊥) → SomeWhole v → ⊥
      due_outside out w =
          out (trees_down v.actions v.variables.count v.properties (due - 1) (get_or (counted_nodes v) i True) (drop (i + 1) (counted_nodes v)) (opened (d.to (whole_tree v w)))).here

      pub due_more : NodeIn v.actions v.variables.count v.properties (get_or (counted_nodes v) i True) → (k : ℕ) → k ≡ arity (get_or (counted_nodes v) i True) → k ≤ 2 → Due v (due - 1 + k) (i + 1)
      due_more inside k is two = record {
        few = omega (arith, d.few);
        to = λ t. subst (λ j. TreesIn v (due - 1 + j) (drop (i + 1) (counted_nodes v))) (sym is) (trees_down v.actions v.variables.count v.properties (due - 1) (get_or (counted_nodes v) i True) (drop (i + 1) (counted_nodes v)) (opened (d.to t))).parts;
        back = λ t. d.back (subst (λ j. TreesIn v j (drop i (counted_nodes v))) (sym down) (subst (λ ns. TreesIn v (suc (due - 1)) ns) (sym turn) (trees_up v.actions v.variables.count v.properties (due - 1) (get_or (counted_nodes v) i True) (drop (i + 1) (counted_nodes v)) (record { here = inside; parts = subst (λ j. TreesIn v (due - 1 + j) (drop (i + 1) (counted_nodes v))) is t }))));
      }

  module _ (all : length (counted_nodes v) ≤ i) where
    nothing : drop i (counted_nodes v) ≡ []
    nothing = drop_all i (counted_nodes v) all

    pub due_last : Decides (eqb due 0) (SomeWhole v)
    due_last = (
      λ e. (let t = d.back (subst (λ ns. TreesIn v due ns) (sym nothing) (subst (λ k. TreesIn v k []) (sym (eqb-true due 0 e)) (trees_none v.actions v.variables.count v.properties))) in let f = one_tree v.actions v.variables.count v.properties (counted_nodes v) t in (f.0, record { many = many; nodes = f.1; range = f.2 })),
      λ w. eq-eqb due 0 (trees_ended v.actions v.variables.count v.properties due (subst (λ ns. TreesIn v due ns) nothing (d.to (whole_tree v w)))),
    )

pub arity_two : (n : Node) → arity n ≤ 2
arity_two True = omega arith
arity_two (Property p) = omega arith
arity_two Not = omega arith
arity_two Or = omega arith
arity_two And = omega arith
arity_two (One w α) = omega arith
arity_two (Two w α) = omega arith
