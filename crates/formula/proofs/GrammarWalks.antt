-- A formula that stands in the text is walked over by the rules.
use Rattle.std.proofs.Common.{◌≡◌, ℕ, ◌+◌, ◌<◌, ◌≤◌, List, [], ◌∷◌, ◌++◌, length, Some, codes, sym, refl, ap, ◌∙◌, subst, arith, length-append}
use Rattle.std.proofs.lemmas.List.{append_assoc, length_push}
use Rattle.logic.specs.Formulas as logic
use Rattle.words.specs.Words.{lookup}
use Rattle.words.specs.Walks.{Walks}
use Rattle.words.proofs.Walks.{walks_then}
use Rattle.formula.specs.declared.OnePart.{OnePart}
use Rattle.formula.specs.declared.OnePart.TheVariants.{Ex, Eg, Ef, Ax, Ag, Af, Exw, Egw, Efw, Axw, Agw, Afw}
use Rattle.formula.specs.declared.TwoParts.{TwoParts}
use Rattle.formula.specs.declared.TwoParts.TheVariants.{Eu, Au, Euw, Auw}
use Rattle.formula.specs.declared.Node.{Node}
use Rattle.formula.specs.declared.Node.TheVariants as nodes
use Rattle.formula.specs.declared.heads.Temporal.{Temporal}
use Rattle.formula.specs.declared.heads.Temporal.TheVariants as temporal
use Rattle.formula.specs.declared.heads.Head.{Head}
use Rattle.formula.specs.declared.heads.Head.TheVariants as heads
use Rattle.formula.specs.Nodes.{one_word, two_word, alpha_of, flat}
use Rattle.formula.specs.Heads.{spelled_one, spelled_two, either, property_head_of, head_of}
use Rattle.formula.specs.Braces.{inside, closed, Stands}
use Rattle.formula.specs.Rules.{alpha_word_of, node_of, temporal_parts, below, put, begun, in_braces, formula_rules}
use Rattle.formula.specs.Reading.{due_parts, due_alpha}
use Rattle.formula.specs.Grammar.{Names, AlphaAt, Spells}
use Rattle.formula.proofs.BraceWalks.{set_walks}
use Rattle.formula.proofs.NodeWalks.{head_goes, alpha_variable, alpha_opens, braces_walk}

pub length_flat : (f : logic.Formula) → length (flat f) ≡ logic.nodes f
length_flat logic.truth = refl
length_flat (logic.property i) = refl
length_flat (logic.neg f) = omega (arith, length_flat f)
length_flat (logic.or f g) = omega (arith, length-append (flat f) (flat g), length_flat f, length_flat g)
length_flat (logic.and f g) = omega (arith, length-append (flat f) (flat g), length_flat f, length_flat g)
length_flat (logic.one w α f) = omega (arith, length_flat f)
length_flat (logic.two w α f g) = omega (arith, length-append (flat f) (flat g), length_flat f, length_flat g)

-- each temporal word is read as itself
head_one : (properties : List (List ℕ)) (w : OnePart) → head_of (spelled_one w) properties ≡ Some (heads.Temporal (temporal.One w))
head_one properties Ex = refl
head_one properties Eg = refl
head_one properties Ef = refl
head_one properties Ax = refl
head_one properties Ag = refl
head_one properties Af = refl
head_one properties Exw = refl
head_one properties Egw = refl
head_one properties Efw = refl
head_one properties Axw = refl
head_one properties Agw = refl
head_one properties Afw = refl

head_two : (properties : List (List ℕ)) (w : TwoParts) → head_of (spelled_two w) properties ≡ Some (heads.Temporal (temporal.Two w))
head_two properties Eu = refl
head_two properties Au = refl
head_two properties Euw = refl
head_two properties Auw = refl

head_property : (properties : List (List ℕ)) (w : List ℕ) (i : ℕ) → Names properties w i → head_of w properties ≡ Some (heads.Plain (nodes.Property i))
head_property properties w i h = ap (λ o. either o (property_head_of (lookup w properties))) h.free ∙ ap property_head_of h.named

module _ (text : List ℕ) (actions properties variables : List (List ℕ)) where
  alpha_walks : (α : logic.Alpha) (t : Temporal) (ds : List ℕ) (before : List Node) (p q : ℕ) → AlphaAt text actions properties variables α p q → Walks (formula_rules actions properties) text (due_alpha t ds variables before) p (put (node_of t (alpha_of α)) ds variables before) q
  alpha_walks (logic.variable y) t ds before p q s =
      let first = s.1 in
      alpha_variable actions properties variables text before p first.start q (first.word, first.clean) t ds y (sym (ap (λ w. alpha_word_of w variables) first.bytes ∙ s.2))
  alpha_walks (logic.written c) t ds before p q s =
      let first = s.1 in
      walks_then (formula_rules actions properties) text (due_alpha t ds variables before) p (in_braces t ds variables before (inside 0)) s.0 (in_braces t ds variables before (closed c)) q
      (alpha_opens actions properties variables text before p first.start s.0 (first.word, first.clean) t ds (sym (ap (λ w. alpha_word_of w variables) first.bytes)))
      (braces_walk actions properties variables text before t ds (inside 0) s.0 (closed c) q (set_walks text actions c s.0 q s.2))

  -- the first word of a formula
  head_stands : (w : List ℕ) (d : ℕ) (ds : List ℕ) (before : List Node) (p q : ℕ) (h : Head) → Stands text p w q → head_of w properties ≡ Some h → d ≤ 12 → length before < 64 → Walks (formula_rules actions properties) text (due_parts (d ∷ ds) variables before) p (begun h d ds variables before) q
  head_stands w d ds before p q h s is flat few =
      head_goes actions properties variables text before p s.start q (s.word, s.clean) d ds h (sym (ap (λ v. head_of v properties) s.bytes ∙ is)) flat few

  module _ (d : ℕ) (ds : List ℕ) (before : List Node) (p : ℕ) (node : Node) where
    -- a node and its one part, or its two
    one_part : (xs : List Node) (m q : ℕ)
        → Walks (formula_rules actions properties) text (due_parts (d ∷ ds) variables before) p (due_parts ((d + 1) ∷ ds) variables (before ++ node ∷ [])) m
        → Walks (formula_rules actions properties) text (due_parts ((d + 1) ∷ ds) variables (before ++ node ∷ [])) m (due_parts ds variables ((before ++ node ∷ []) ++ xs)) q
        → Walks (formula_rules actions properties) text (due_parts (d ∷ ds) variables before) p (due_parts ds variables (before ++ (node ∷ xs))) q
    one_part xs m q first part =
        subst (λ ns. Walks (formula_rules actions properties) text (due_parts (d ∷ ds) variables before) p (due_parts ds variables ns) q) (append_assoc before (node ∷ []) xs)
        (walks_then (formula_rules actions properties) text (due_parts (d ∷ ds) variables before) p (due_parts ((d + 1) ∷ ds) variables (before ++ node ∷ [])) m (due_parts ds variables ((before ++ node ∷ []) ++ xs)) q first part)

    two_parts : (xs ys : List Node) (m n q : ℕ)
        → Walks (formula_rules actions properties) text (due_parts (d ∷ ds) variables before) p (due_parts ((d + 1) ∷ (d + 1) ∷ ds) variables (before ++ node ∷ [])) m
        → Walks (formula_rules actions properties) text (due_parts ((d + 1) ∷ (d + 1) ∷ ds) variables (before ++ node ∷ [])) m (due_parts ((d + 1) ∷ ds) variables ((before ++ node ∷ []) ++ xs)) n
        → Walks (formula_rules actions properties) text (due_parts ((d + 1) ∷ ds) variables ((before ++ node ∷ []) ++ xs)) n (due_parts ds variables (((before ++ node ∷ []) ++ xs) ++ ys)) q
        → Walks (formula_rules actions properties) text (due_parts (d ∷ ds) variables before) p (due_parts ds variables (before ++ (node ∷ (xs ++ ys)))) q
    two_parts xs ys m n q first left right =
        subst (λ ns. Walks (formula_rules actions properties) text (due_parts (d ∷ ds) variables before) p (due_parts ds variables ns) q) (append_assoc (before ++ node ∷ []) xs ys ∙ append_assoc before (node ∷ []) (xs ++ ys))
        (walks_then (formula_rules actions properties) text (due_parts (d ∷ ds) variables before) p (due_parts ((d + 1) ∷ (d + 1) ∷ ds) variables (before ++ node ∷ [])) m (due_parts ds variables (((before ++ node ∷ []) ++ xs) ++ ys)) q first
        (walks_then (formula_rules actions properties) text (due_parts ((d + 1) ∷ (d + 1) ∷ ds) variables (before ++ node ∷ [])) m (due_parts ((d + 1) ∷ ds) variables ((before ++ node ∷ []) ++ xs)) n (due_parts ds variables (((before ++ node ∷ []) ++ xs) ++ ys)) q left right))

  temporal_stands : (w : List ℕ) (t : Temporal) (α : logic.Alpha) (d : ℕ) (ds : List ℕ) (before : List Node) (p m q : ℕ) → Stands text p w m → head_of w properties ≡ Some (heads.Temporal t) → AlphaAt text actions properties variables α m q → d ≤ 12 → length before < 64 → Walks (formula_rules actions properties) text (due_parts (d ∷ ds) variables before) p (put (node_of t (alpha_of α)) (below (temporal_parts t) d ds) variables before) q
  temporal_stands w t α d ds before p m q s is over flat few =
      walks_then (formula_rules actions properties) text (due_parts (d ∷ ds) variables before) p (due_alpha t (below (temporal_parts t) d ds) variables before) m (put (node_of t (alpha_of α)) (below (temporal_parts t) d ds) variables before) q
      (head_stands w d ds before p m (heads.Temporal t) s is flat few) (alpha_walks α t (below (temporal_parts t) d ds) before m q over)

  pub formula_walks : (f : logic.Formula) (d : ℕ) (ds : List ℕ) (before : List Node) (p q : ℕ) → Spells text actions properties variables f p q → d + logic.depth f ≤ 13 → length before + logic.nodes f ≤ 64 → Walks (formula_rules actions properties) text (due_parts (d ∷ ds) variables before) p (due_parts ds variables (before ++ flat f)) q
  formula_walks logic.truth d ds before p q s deep many = head_stands (codes "true") d ds before p q (heads.Plain nodes.True) s refl (omega arith) (omega arith)
  formula_walks (logic.property i) d ds before p q s deep many =
      head_stands s.0 d ds before p q (heads.Plain (nodes.Property i)) s.1 (head_property properties s.0 i s.2) (omega arith) (omega arith)
  formula_walks (logic.neg f) d ds before p q s deep many =
      let more = length_push before nodes.Not in
      one_part d ds before p nodes.Not (flat f) s.0 q
      (head_stands (codes "not") d ds before p s.0 (heads.Plain nodes.Not) s.1 refl (omega arith) (omega arith))
      (formula_walks f (d + 1) ds (before ++ nodes.Not ∷ []) s.0 q s.2 (omega arith) (omega arith))
  formula_walks (logic.or f g) d ds before p q s deep many =
      let more = length_push before nodes.Or in
      let more2 = length-append (before ++ nodes.Or ∷ []) (flat f) in
      let long = length_flat f in
      two_parts d ds before p nodes.Or (flat f) (flat g) s.0 s.2.0 q
      (head_stands (codes "or") d ds before p s.0 (heads.Plain nodes.Or) s.1 refl (omega arith) (omega arith))
      (formula_walks f (d + 1) ((d + 1) ∷ ds) (before ++ nodes.Or ∷ []) s.0 s.2.0 s.2.1 (omega arith) (omega arith))
      (formula_walks g (d + 1) ds ((before ++ nodes.Or ∷ []) ++ flat f) s.2.0 q s.2.2 (omega arith) (omega arith))
  formula_walks (logic.and f g) d ds before p q s deep many =
      let more = length_push before nodes.And in
      let more2 = length-append (before ++ nodes.And ∷ []) (flat f) in
      let long = length_flat f in
      two_parts d ds before p nodes.And (flat f) (flat g) s.0 s.2.0 q
      (head_stands (codes "and") d ds before p s.0 (heads.Plain nodes.And) s.1 refl (omega arith) (omega arith))
      (formula_walks f (d + 1) ((d + 1) ∷ ds) (before ++ nodes.And ∷ []) s.0 s.2.0 s.2.1 (omega arith) (omega arith))
      (formula_walks g (d + 1) ds ((before ++ nodes.And ∷ []) ++ flat f) s.2.0 q s.2.2 (omega arith) (omega arith))
  formula_walks (logic.one w α f) d ds before p q s deep many =
      let node = nodes.One (one_word w) (alpha_of α) in
      let more = length_push before node in
      one_part d ds before p node (flat f) s.2.0 q
      (temporal_stands (spelled_one (one_word w)) (temporal.One (one_word w)) α d ds before p s.0 s.2.0 s.1 (head_one properties (one_word w)) s.2.1 (omega arith) (omega arith))
      (formula_walks f (d + 1) ds (before ++ node ∷ []) s.2.0 q s.2.2 (omega arith) (omega arith))
  formula_walks (logic.two w α f g) d ds before p q s deep many =
      let node = nodes.Two (two_word w) (alpha_of α) in
      let more = length_push before node in
      let more2 = length-append (before ++ node ∷ []) (flat f) in
      let long = length_flat f in
      two_parts d ds before p node (flat f) (flat g) s.2.0 s.2.2.0 q
      (temporal_stands (spelled_two (two_word w)) (temporal.Two (two_word w)) α d ds before p s.0 s.2.0 s.1 (head_two properties (two_word w)) s.2.1 (omega arith) (omega arith))
      (formula_walks f (d + 1) ((d + 1) ∷ ds) (before ++ node ∷ []) s.2.0 s.2.2.0 s.2.2.1 (omega arith) (omega arith))
      (formula_walks g (d + 1) ds ((before ++ node ∷ []) ++ flat f) s.2.2.0 q s.2.2.2 (omega arith) (omega arith))
