-- Nodes that are those of so many formulas, one behind the other.
use Rattle.std.proofs.Common.{◌≡◌, ℕ, suc, ◌+◌, ◌<◌, List, [], ◌∷◌, ◌++◌, length, sym, refl, ap, ◌∙◌, subst, arith, length-append}
use Rattle.std.proofs.lemmas.List.{append_assoc, append-nil}
use Rattle.logic.specs.Formulas as logic
use Rattle.formula.specs.declared.Node.{Node}
use Rattle.formula.specs.declared.Node.TheVariants.{True, Property, Not, Or, And, One, Two}
use Rattle.formula.specs.Nodes.{one_word, two_word, alpha_of, arity, flat}
use Rattle.formula.specs.Wholes.{AlphaIn, NodeIn, InRange, one_back, two_back, alpha_back}
use Rattle.formula.proofs.Flats.{alpha_there}
use Rattle.formula.proofs.GrammarSplits.{one_round_trip, two_round_trip}

abbrev flats : List logic.Formula → List Node
flats [] = []
flats (f ∷ fs) = flat f ++ flats fs

-- a list that begins with a node, and one with another
same_cons : (n m : Node) (ns ms : List Node) → ◌≡◌ {A = List Node} (n ∷ ns) (m ∷ ms) → (n ≡ m) × (ns ≡ ms)
same_cons n m ns ms h = (cc, cc)

never : (A : Type 0) (n : Node) (ns : List Node) → ◌≡◌ {A = List Node} (n ∷ ns) [] → A
never A n ns h = let z : ◌≡◌ {A = ℕ} 0 1 = cc in absurd (omega arith)

module _ (actions variables properties : ℕ) where
  abbrev AllIn : List logic.Formula → Type 0
  AllIn [] = Unit {0}
  AllIn (f ∷ fs) = InRange actions variables properties f × AllIn fs

  pub record Trees (k : ℕ) (ns : List Node) : Type 0 where
    formulas : List logic.Formula
    many : length formulas ≡ k
    nodes : ns ≡ flats formulas
    range : AllIn formulas

  pub record Parts (k : ℕ) (n : Node) (ns : List Node) : Type 0 where
    pub here : NodeIn actions variables properties n
    pub parts : Trees (k + arity n) ns

  -- the first node of a formula leaves its parts
  first_of : (f : logic.Formula) (fs : List logic.Formula) (n : Node) (ns : List Node) → n ∷ ns ≡ flat f ++ flats fs → InRange actions variables properties f → AllIn fs → (k : ℕ) → length fs ≡ k → Parts k n ns
  first_of logic.truth fs n ns is inside rest k many =
      let e = same_cons n True ns (flats fs) is in
      subst (λ m. Parts k m ns) (sym e.0) (record { here = tt; parts = record { formulas = fs; many = omega arith; nodes = e.1; range = rest } })
  first_of (logic.property i) fs n ns is inside rest k many =
      let e = same_cons n (Property i) ns (flats fs) is in
      subst (λ m. Parts k m ns) (sym e.0) (record { here = inside; parts = record { formulas = fs; many = omega arith; nodes = e.1; range = rest } })
  first_of (logic.neg f) fs n ns is inside rest k many =
      let e = same_cons n Not ns (flat f ++ flats fs) is in
      subst (λ m. Parts k m ns) (sym e.0) (record { here = tt; parts = record { formulas = f ∷ fs; many = omega arith; nodes = e.1; range = (inside, rest) } })
  first_of (logic.or f g) fs n ns is inside rest k many =
      let e = same_cons n Or ns ((flat f ++ flat g) ++ flats fs) is in
      subst (λ m. Parts k m ns) (sym e.0) (record { here = tt; parts = record { formulas = f ∷ g ∷ fs; many = omega arith; nodes = e.1 ∙ append_assoc (flat f) (flat g) (flats fs); range = (inside.0, (inside.1, rest)) } })
  first_of (logic.and f g) fs n ns is inside rest k many =
      let e = same_cons n And ns ((flat f ++ flat g) ++ flats fs) is in
      subst (λ m. Parts k m ns) (sym e.0) (record { here = tt; parts = record { formulas = f ∷ g ∷ fs; many = omega arith; nodes = e.1 ∙ append_assoc (flat f) (flat g) (flats fs); range = (inside.0, (inside.1, rest)) } })
  first_of (logic.one w α f) fs n ns is inside rest k many =
      let e = same_cons n (One (one_word w) (alpha_of α)) ns (flat f ++ flats fs) is in
      subst (λ m. Parts k m ns) (sym e.0) (record { here = inside.0; parts = record { formulas = f ∷ fs; many = omega arith; nodes = e.1; range = (inside.1, rest) } })
  first_of (logic.two w α f g) fs n ns is inside rest k many =
      let e = same_cons n (Two (two_word w) (alpha_of α)) ns ((flat f ++ flat g) ++ flats fs) is in
      subst (λ m. Parts k m ns) (sym e.0) (record { here = inside.0; parts = record { formulas = f ∷ g ∷ fs; many = omega arith; nodes = e.1 ∙ append_assoc (flat f) (flat g) (flats fs); range = (inside.1, (inside.2, rest)) } })

  by_first : (k : ℕ) (n : Node) (ns : List Node) (fs : List logic.Formula) → length fs ≡ suc k → n ∷ ns ≡ flats fs → AllIn fs → Parts k n ns
  by_first k n ns [] many is rest = absurd (omega arith)
  by_first k n ns (f ∷ fs) many is rest = first_of f fs n ns is rest.0 rest.1 k (omega arith)

  -- Prefix order, from the front: where k + 1 formulas stand, the first node is that of the first formula, and behind it stand
  -- that node's parts and then the other k formulas; and the other way round.
  pub trees_down : (k : ℕ) (n : Node) (ns : List Node) → Trees (suc k) (n ∷ ns) → Parts k n ns
  trees_down k n ns t = by_first k n ns t.formulas t.many t.nodes t.range

  -- a node and its parts make a formula
  up_one : (k : ℕ) (n : Node) (make : logic.Formula → logic.Formula) → ((f : logic.Formula) → n ∷ flat f ≡ flat (make f)) → ((f : logic.Formula) → InRange actions variables properties f → InRange actions variables properties (make f)) → (ns : List Node) (fs : List logic.Formula) → length fs ≡ k + 1 → ns ≡ flats fs → AllIn fs → Trees (suc k) (n ∷ ns)
  up_one k n make is inside ns [] many nodes rest = absurd (omega arith)
  up_one k n make is inside ns (f ∷ fs) many nodes rest = record {
    formulas = make f ∷ fs;
    many = omega arith;
    nodes = ap (λ xs. n ∷ xs) nodes ∙ ap (λ xs. xs ++ flats fs) (is f);
    range = (inside f rest.0, rest.1);
  }

  up_two : (k : ℕ) (n : Node) (make : logic.Formula → logic.Formula → logic.Formula) → ((f g : logic.Formula) → n ∷ (flat f ++ flat g) ≡ flat (make f g)) → ((f g : logic.Formula) → InRange actions variables properties f → InRange actions variables properties g → InRange actions variables properties (make f g)) → (ns : List Node) (fs : List logic.Formula) → length fs ≡ k + 2 → ns ≡ flats fs → AllIn fs → Trees (suc k) (n ∷ ns)
  up_two k n make is inside ns [] many nodes rest = absurd (omega arith)
  up_two k n make is inside ns (f ∷ []) many nodes rest = absurd (omega arith)
  up_two k n make is inside ns (f ∷ (g ∷ fs)) many nodes rest = record {
    formulas = make f g ∷ fs;
    many = omega arith;
    nodes = ap (λ xs. n ∷ xs) (nodes ∙ sym (append_assoc (flat f) (flat g) (flats fs))) ∙ ap (λ xs. xs ++ flats fs) (is f g);
    range = (inside f g rest.0 rest.1.0, rest.1.1);
  }

  trees_by : (k : ℕ) (n : Node) (ns : List Node) → NodeIn actions variables properties n → (fs : List logic.Formula) → length fs ≡ k + arity n → ns ≡ flats fs → AllIn fs → Trees (suc k) (n ∷ ns)
  trees_by k True ns here fs many nodes rest = record { formulas = logic.truth ∷ fs; many = omega arith; nodes = ap (λ xs. True ∷ xs) nodes; range = (tt, rest) }
  trees_by k (Property i) ns here fs many nodes rest = record { formulas = logic.property i ∷ fs; many = omega arith; nodes = ap (λ xs. Property i ∷ xs) nodes; range = (here, rest) }
  trees_by k Not ns here fs many nodes rest = up_one k Not logic.neg (λ f. refl) (λ f h. h) ns fs many nodes rest
  trees_by k Or ns here fs many nodes rest = up_two k Or logic.or (λ f g. refl) (λ f g h i. (h, i)) ns fs many nodes rest
  trees_by k And ns here fs many nodes rest = up_two k And logic.and (λ f g. refl) (λ f g h i. (h, i)) ns fs many nodes rest
  trees_by k (One w α) ns here fs many nodes rest =
      let inside : AlphaIn actions variables (alpha_of (alpha_back α)) = subst (AlphaIn actions variables) (sym (alpha_there α)) here in
      up_one k (One w α) (logic.one (one_back w) (alpha_back α)) (λ f. sym (ap (λ v. One v (alpha_of (alpha_back α)) ∷ flat f) (one_round_trip w) ∙ ap (λ β. One w β ∷ flat f) (alpha_there α))) (λ f h. (inside, h)) ns fs many nodes rest
  trees_by k (Two w α) ns here fs many nodes rest =
      let inside : AlphaIn actions variables (alpha_of (alpha_back α)) = subst (AlphaIn actions variables) (sym (alpha_there α)) here in
      up_two k (Two w α) (logic.two (two_back w) (alpha_back α)) (λ f g. sym (ap (λ v. Two v (alpha_of (alpha_back α)) ∷ (flat f ++ flat g)) (two_round_trip w) ∙ ap (λ β. Two w β ∷ (flat f ++ flat g)) (alpha_there α))) (λ f g h i. (inside, h, i)) ns fs many nodes rest

  pub trees_up : (k : ℕ) (n : Node) (ns : List Node) → Parts k n ns → Trees (suc k) (n ∷ ns)
  trees_up k n ns p = trees_by k n ns p.here p.parts.formulas p.parts.many p.parts.nodes p.parts.range

  pub trees_none : Trees 0 []
  trees_none = record { formulas = []; many = refl; nodes = refl; range = tt }

  no_more : (ns : List Node) (n : Node) (fs : List logic.Formula) → length fs ≡ 0 → n ∷ ns ≡ flats fs → ⊥
  no_more ns n [] many is = never ⊥ n ns is
  no_more ns n (f ∷ fs) many is = omega arith

  pub trees_over : (n : Node) (ns : List Node) → Trees 0 (n ∷ ns) → ⊥
  trees_over n ns t = no_more ns n t.formulas t.many t.nodes

  some_nodes : (f : logic.Formula) → 0 < length (flat f)
  some_nodes logic.truth = omega arith
  some_nodes (logic.property i) = omega arith
  some_nodes (logic.neg f) = omega arith
  some_nodes (logic.or f g) = omega arith
  some_nodes (logic.and f g) = omega arith
  some_nodes (logic.one w α f) = omega arith
  some_nodes (logic.two w α f g) = omega arith

  ends : (k : ℕ) (fs : List logic.Formula) → length fs ≡ k → [] ≡ flats fs → k ≡ 0
  ends k [] many is = sym many
  ends k (f ∷ fs) many is = absurd (omega (arith, ap length is, length-append (flat f) (flats fs), some_nodes f))

  pub trees_ended : (k : ℕ) → Trees k [] → k ≡ 0
  trees_ended k t = ends k t.formulas t.many t.nodes

  -- one formula
  pub trees_one : (f : logic.Formula) (ns : List Node) → ns ≡ flat f → InRange actions variables properties f → Trees 1 ns
  trees_one f ns is inside = record { formulas = f ∷ []; many = refl; nodes = is ∙ sym (append-nil (flat f)); range = (inside, tt) }

  the_one : (ns : List Node) (fs : List logic.Formula) → length fs ≡ 1 → ns ≡ flats fs → AllIn fs → (f : logic.Formula) × (ns ≡ flat f) × InRange actions variables properties f
  the_one ns [] many is rest = absurd (omega arith)
  the_one ns (f ∷ []) many is rest = (f, is ∙ append-nil (flat f), rest.0)
  the_one ns (f ∷ (g ∷ fs)) many is rest = absurd (omega arith)

  pub one_tree : (ns : List Node) → Trees 1 ns → (f : logic.Formula) × (ns ≡ flat f) × InRange actions variables properties f
  one_tree ns t = the_one ns t.formulas t.many t.nodes t.range
